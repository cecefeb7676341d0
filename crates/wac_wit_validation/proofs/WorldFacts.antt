-- Where interfaces and worlds stand, and what is marked of imports and exports.
use Rattle.std.proofs.Common.{◌≡◌, ◌≢◌, ◌⊎◌, ◌==◌, ◌↔◌, inl, inr, [], ◌∷◌, true, false, not, Bool, IsTrue, IfOk, IfSome, IsNone, IsSome, cond, is_some, None, Option, Result, Ok, Err, ℕ, ◌+◌}
use Rattle.std.proofs.Common.{◌<◌, ◌≤◌, arith, List, Contains, Some, length, refl, sym, ap, subst, ◌∙◌}
use Rattle.std.specs.Prelude.{String, slice_get, option_map, string_bytes}
use Rattle.std.specs.Bool.{then_some}
use Rattle.std.specs.Borrow.{Bor}
use Rattle.std.specs.Map.{lookup, lookup_key}
use Rattle.std.specs.Option.{option_copied}
use Rattle.std.proofs.lemmas.Slice.Eq.{bytes_eq-Decides}
use Rattle.std.specs.Str.{bytes_eq}
use Rattle.std.specs.declared.alloc.Global.{Global}
use Rattle.wac_component.proofs.Among.{Contains-cases, Contains-first}
use Rattle.wac_component.specs.Content.{named}
use Rattle.wac_wit_validation_types.proofs.NameFacts.{key_found, key_of_full, named_at}
use Rattle.std.proofs.lemmas.Bool.{eqb-true}
use Rattle.std.proofs.lemmas.List.{length-map}
use Rattle.std.proofs.lemmas.Option.{same_Some, slice_get-get_or}
use Rattle.std.proofs.Math.Nat.{eq-or-lt_of_le}
use Rattle.wac_model.specs.Text.{Text}
use Rattle.wac_component.specs.Collection.{Collection, WorldContent}
use Rattle.wac_component.specs.Id.{Id}
use Rattle.wac_component.specs.Tree.{item_tree}
use Rattle.wac_component.specs.declared.items.ItemKind.{ItemKind}
use Rattle.wac_component.specs.declared.items.ItemKind.TheVariants.{Instance}
use Rattle.wac_component.specs.declared.worlds.ExternKind.{ExternKind}
use Rattle.wac_component.specs.declared.worlds.ExternKind.TheVariants.{Import, Export}
use Rattle.wac_wit_syntax.specs.declared.tree.Extern.TheVariants as extern
use Rattle.wac_wit_syntax.specs.declared.tree.ExternItem.{ExternItem}
use Rattle.wac_wit_syntax.specs.declared.tree.IncludeItem.{IncludeItem}
use Rattle.wac_wit_syntax.specs.declared.tree.InterfaceDecl.{InterfaceDecl}
use Rattle.wac_wit_syntax.specs.declared.tree.InterfaceItem.{InterfaceItem}
use Rattle.wac_wit_syntax.specs.declared.tree.Path.{Path}
use Rattle.wac_wit_syntax.specs.declared.tree.Rename.{Rename}
use Rattle.wac_wit_syntax.specs.declared.tree.UseItem.{UseItem}
use Rattle.wac_wit_syntax.specs.declared.tree.WorldDecl.{WorldDecl}
use Rattle.wac_wit_validation.specs.Validated.{IsWorldNamed, KeepsFound}
use Rattle.wac_wit_validation_types.specs.Placed.{HasWorld, LeadsToInterface, PlacedInterface, PlacedWorld, package_text, placed_identifier}
use Rattle.wac_wit_syntax.specs.declared.tree.TopItem.TheVariants as top
use Rattle.wac_wit_validation_types.specs.Exports.{HasItem}
use Rattle.wac_wit_validation.specs.Checking.{IsSettingAt, IsValidated, Knows}
use Rattle.wac_wit_scopes.specs.Scopes.{scope_syntax}
use Rattle.wac_wit_validation_types.specs.Denoted.{Setting, uses_in}
use Rattle.wac_wit_validation_types.specs.Interfaces.{IsInterfaceTree}
use Rattle.wac_wit_scopes.specs.WitSources.{HasInterface, IsScopeOf, ScopeSyntax, WitSources, ident_text, package_id, version_text}
use Rattle.wac_wit_validation.specs.WorldChecking.{AreInterfacesThere, AreItemsOf, AreLayersOf, AreMarksOf, AreSideOf, AreWorldSides, IsFoundAs, IsIndexedScope, IsInterfaceAt, IsLayerOf}
use Rattle.wac_wit_validation.specs.WorldChecking.{IsMarkOf, IsPlacedAt, IsTextAt, IsValidatedWorld, IsWorldAt, KnowsWorlds, StaysAs, UsesTypes}
use Rattle.wac_wit_validation_types.specs.Worlds.{HasExternInterface, HasExternOf, SaysExtern, SaysInclude, SaysInterface, UsesInterface, by_include, extern_interface, extern_item, imported}
use Rattle.wac_wit_validation_types.specs.Worlds.{itself, used_by_import}
use Rattle.wac_wit_validation.specs.declared.marks.ExternMark.{ExternMark}
use Rattle.wac_wit_validation.specs.declared.marks.ExternMark.TheVariants.{Found, Unmarked, Written}
use Rattle.wac_wit_validation_names.specs.declared.layers.Layer.{Layer}
use Rattle.wac_wit_validation.specs.declared.marks.ExternMarks.{ExternMarks}
use Rattle.wac_wit_validation.specs.declared.marks.WorldMarks.{WorldMarks}
use Rattle.wac_wit_scopes.specs.declared.scopes.ScopeItems.{ScopeItems}
use Rattle.wac_wit_validation_names.specs.declared.places.FoundInterface.{FoundInterface}
use Rattle.wac_wit_validation.specs.declared.validator.FoundWorld.{FoundWorld}
use Rattle.wac_wit_validation_names.specs.declared.places.ItemPlace.{ItemPlace}
use Rattle.wac_wit_validation.specs.declared.validator.Validator.{Validator}
use Rattle.wac_wit_validation.specs.declared.validator.WorldText.{WorldText}
use Rattle.wac_wit_scopes.proofs.PathFacts.{contains_at}
use Rattle.wac_wit_validation.proofs.FoundFacts.{found_kept, knows_kept}

-- ---- what is told of results, and items under names

pub IfOk-map : {A E : Type 0} (r : Result A E) (P Q : A → Type 0) → IfOk r P → ((x : A) → P x → Q x) → IfOk r Q
IfOk-map (Ok x) P Q told f = f x told
IfOk-map (Err e) P Q told f = tt

-- what a list has that isn't empty
pub some_item : {A : Type 0} (xs : List A) → false ≡ (length xs == 0) → (x : A) × Contains xs x
some_item [] h = absurd (cc)
some_item (x ∷ xs) h = (x, Contains-first x xs)

pub no_item : {A B : Type 0} (xs : List A) (x : A) → true ≡ (length xs == 0) → Contains xs x → B
no_item [] x h among = absurd (omega (arith, among.1))
no_item (y ∷ xs) x h among = let none : length (y ∷ xs) ≡ 0 = eqb-true (length (y ∷ xs)) 0 (sym h) in absurd (omega (arith, none, among.1))

-- the item that `get_full` answers stands under the name
pub full_named : {V : Type 0} (n m : Text) (es : List (String Global × V)) (r : Option (ℕ × Bor (String Global) × Bor V)) (i : ℕ) (k : Bor (String Global)) (v : Bor V) → m ≡ n
    → option_map (λ (p : ℕ × Bor (String Global) × Bor V). p.1.now) r ≡ lookup_key (λ q. bytes_eq m (string_bytes q)) es → r ≡ Some (i, k, v) → slice_get es i ≡ Some (k.now, v.now) → slice_get (named (λ w. w) es) i ≡ Some (n, v.now)
full_named {V} n m es r i k v same key is at = subst (λ (t : Text). slice_get (named (λ w. w) es) i ≡ Some (t, v.now)) (key_found n m es k.now same (key_of_full r i k v _ key is)) (named_at es i k.now v.now at)

-- ---- places

-- at one place one interface is written
pub IsPlacedAt-one : (v : Validator) (place : ItemPlace) (i j : PlacedInterface) → IsPlacedAt v place i → IsPlacedAt v place j → i ≡ j
IsPlacedAt-one v place i j a b = λ k. record { scope = (a.is ∙ ap scope_syntax scope ∙ sym b.is) k; decl = decl k }
  where
    scope : a.scope ≡ b.scope
    scope = same_Some _ _ (sym a.at_scope ∙ b.at_scope)

    same_interface : (x y : InterfaceDecl) → Some (top.Interface x) ≡ Some (top.Interface y) → x ≡ y
    same_interface x y e = cc

    decl : i.decl ≡ j.decl
    decl = same_interface i.decl j.decl (sym a.at_item ∙ ap (λ (w : ScopeItems). slice_get w.items.now place.item) scope ∙ b.at_item)

-- the interface of an entry that was taken in
pub IsPlacedAt-valid : (of : WitSources) (v : Validator) (f : FoundInterface) (h : IsValidated of v f) → IsPlacedAt v f.place (record { scope = scope_syntax h.scope; decl = h.decl })
IsPlacedAt-valid of v f h = record { scope = h.scope; at_scope = h.at_scope; at_item = h.at_item; is = refl }

module _ (of : WitSources) (v : Validator) (f : FoundInterface) (i : PlacedInterface) (found : IsFoundAs of v f i) where
  pub valid_is : ◌≡◌ {A = PlacedInterface} (record { scope = scope_syntax found.valid.scope; decl = found.valid.decl }) i
  valid_is = IsPlacedAt-one v f.place _ i (IsPlacedAt-valid of v f found.valid) found.at

  pub tree_found : IsInterfaceTree of i.scope i.decl.items.items (item_tree v.types.now (Instance f.id))
  tree_found = subst (λ (k : PlacedInterface). IsInterfaceTree of k.scope k.decl.items.items (item_tree v.types.now (Instance f.id))) valid_is found.valid.tree

  pub has_found : Knows of v → HasInterface of i.scope (ident_text i.decl.name) i.decl
  has_found knows = subst (λ (k : PlacedInterface). HasInterface of k.scope (ident_text k.decl.name) k.decl) valid_is
      (record { scope = (knows.scopes f.place.scope found.valid.scope found.valid.at_scope).is_scope; item = contains_at found.valid.scope.items.now f.place.item (top.Interface found.valid.decl) found.valid.at_item; there = found.valid.there; named = refl })

-- a scope that is looked at is that of the setting
pub setting_at : (of : WitSources) (v : Validator) (scope : ℕ) (s : Setting) → IsIndexedScope v scope s.sources s.scope → IsSettingAt v scope s
setting_at of v scope s h = record { knows = h.knows.interfaces; at = λ x at. h.is ∙ ap scope_syntax (same_Some _ _ (sym h.at ∙ at)) }

-- the scope of an interface that was found
pub scope_placed : (of : WitSources) (v : Validator) (place : ItemPlace) (i : PlacedInterface) → KnowsWorlds of v → IsPlacedAt v place i → IsIndexedScope v place.scope of i.scope
scope_placed of v place i knows at = record { knows = knows; items = at.scope; at = at.at_scope; is = at.is }

-- the scope of a world that is written at a place
pub scope_of_world : (of : WitSources) (v : Validator) (place : ItemPlace) (w : PlacedWorld) → KnowsWorlds of v → IsWorldAt of v place w → IsIndexedScope v place.scope of w.scope
scope_of_world of v place w knows at = record { knows = knows; items = at.scope; at = at.at_scope; is = at.is }

-- the scope is one of what is read
pub scope_of : (of : WitSources) (v : Validator) (scope : ℕ) (w : ScopeSyntax) → IsIndexedScope v scope of w → IsScopeOf of w
scope_of of v scope w h = subst (IsScopeOf of) (sym h.is) (h.knows.interfaces.scopes scope h.items h.at).is_scope

-- ---- what a world says

pub own_interface : (of : WitSources) (w : PlacedWorld) (k : ExternKind) (i : PlacedInterface) → SaysInterface of k w i → HasExternInterface of k w i
own_interface of w k i says = record { renames = []; inside = w; brings = itself; says = says }

pub said_interface : (of : WitSources) (w : PlacedWorld) (k : ExternKind) (p : Path) (i : PlacedInterface) → SaysExtern of w k (extern.Path p) → LeadsToInterface of w.scope p i → HasExternInterface of k w i
said_interface of w Import p i says leads = own_interface of w Import i (imported p says leads)
said_interface of w Export p i says leads = own_interface of w Export i (record { path = p; says = says; leads = leads })

-- what a world has that comes in comes in too
pub included_interface : (of : WitSources) (w x : PlacedWorld) (k : ExternKind) (j : IncludeItem) (i : PlacedInterface) → SaysInclude of w x j → HasExternInterface of k x i → HasExternInterface of k w i
included_interface of w x k j i says h = record { renames = j.renames.items ∷ h.renames; inside = h.inside; brings = by_include j says h.brings; says = h.says }

-- what imported interfaces use is imported
pub used_interface : (of : WitSources) (w : PlacedWorld) (v i : PlacedInterface) → HasExternInterface of Import w v → UsesInterface of v.scope (uses_in v.decl.items.items) i → HasExternInterface of Import w i
used_interface of w v i h uses = record { renames = h.renames; inside = h.inside; brings = h.brings; says = used_by_import h.says uses }

-- ---- marks

module _ (of : WitSources) (v : Validator) (w : PlacedWorld) (k : ExternKind) (es : List (Text × ItemKind)) where
  -- one mark more
  pub AreMarksOf-marked : (a b : ExternMarks) (n : ℕ) (m : ExternMark) → length b.marks.items ≡ length a.marks.items
      → ((j : ℕ) (x : ExternMark) → slice_get b.marks.items j ≡ Some x → (slice_get a.marks.items j ≡ Some x) ⊎ ((j ≡ n) × (x ≡ m))) → IsMarkOf of v w k es n m → AreMarksOf of v w k es a → AreMarksOf of v w k es b
  AreMarksOf-marked a b n m even marked here old = record {
    even = even ∙ old.even;
    each = λ j x at. elim (marked j x at) [ inl before ↦ old.each j x before | inr is ↦ rw (is.0, is.1) here ];
  }

  pub IsMarkOf-found : (n : ℕ) (f : FoundInterface) (i : PlacedInterface) → IsInterfaceAt of v es n f i → HasExternInterface of k w i → IsMarkOf of v w k es n (Found f)
  IsMarkOf-found n f i is has = (i, is, has)

  pub IsMarkOf-written : (n : ℕ) (name : Text) (item : ItemKind) → slice_get es n ≡ Some (name, item) → HasExternOf of k w name (item_tree v.types.now item) → IsMarkOf of v w k es n Written
  IsMarkOf-written n name item at has e there = subst (λ (d : Text × ItemKind). HasExternOf of k w d.0 (item_tree v.types.now d.1)) (same_Some _ _ (sym at ∙ there)) has

  -- what is marked is imported or exported
  pub extern_marked : (n : ℕ) (x : ExternMark) (e : Text × ItemKind) → x ≢ Unmarked → IsMarkOf of v w k es n x → slice_get es n ≡ Some e → HasExternOf of k w e.0 (item_tree v.types.now e.1)
  extern_marked n Unmarked e is here at = absurd (is refl)
  extern_marked n Written e is here at = here e at
  extern_marked n (Found f) e is here at = subst (λ (d : Text × ItemKind). HasExternOf of k w d.0 (item_tree v.types.now d.1)) (same_Some _ _ (sym here.1.at ∙ at)) (extern_interface here.0 here.2 (tree_found of v f here.0 here.1.found))

-- ---- interfaces that others have too

-- items whose names are identifiers have others, up to an index
abbrev pub FoundItemsBelow : List (Text × ItemKind) → List (Text × ItemKind) → ℕ → Type 0
FoundItemsBelow es others n = (j : ℕ) (e : Text × ItemKind) → j < n → slice_get others j ≡ Some e → (i : PlacedInterface) → e.0 ≡ placed_identifier i → HasItem es e.0

pub FoundItemsBelow-more : (es others : List (Text × ItemKind)) (n : ℕ) (d : Text × ItemKind) → slice_get others n ≡ Some d → ((i : PlacedInterface) → d.0 ≡ placed_identifier i → HasItem es d.0) → FoundItemsBelow es others n → FoundItemsBelow es others (n + 1)
FoundItemsBelow-more es others n d at here below j e within there = elim (eq-or-lt_of_le {n = j} {m = n} (omega (arith, within))) [
  | inl is ↦ subst (λ (x : Text × ItemKind). (i : PlacedInterface) → x.0 ≡ placed_identifier i → HasItem es x.0) (same_Some _ _ (sym at ∙ sym (ap (λ k. slice_get others k) is) ∙ there)) here
  | inr less ↦ below j e less there
]

-- where all do, the interfaces of a world do
pub FoundItemsBelow-there : (of : WitSources) (v : Validator) (k : ExternKind) (x : PlacedWorld) (es others : List (Text × ItemKind)) (m : ExternMarks) (n : ℕ) → length others ≤ n → FoundItemsBelow es others n → AreSideOf of v x k others m → AreInterfacesThere of k x es
FoundItemsBelow-there of v k x es others m n past below side i has =
    let it = side.interfaces i has in
    below it.among.0 (placed_identifier i, it.kind) (omega (arith, past, it.among.1)) (slice_get-get_or others it.among.0 (placed_identifier i, it.kind) it.among.1 ∙ ap (λ (y : Text × ItemKind). Some y) it.among.2) i refl

-- ---- what is known stays

module _ (of : WitSources) (v x : Validator) (scopes : v.scopes.items ≡ x.scopes.items) where
  pub IsPlacedWorld-kept : (place : ItemPlace) (w : PlacedWorld) → IsWorldAt of v place w → IsWorldAt of x place w
  IsPlacedWorld-kept place w h = record { scope = h.scope; at_scope = subst (λ (l : List ScopeItems). slice_get l place.scope ≡ Some h.scope) scopes h.at_scope; at_item = h.at_item; is = h.is; there = h.there }

  IsLayerOf-kept : (l : Layer) (rss : List (List Rename)) (w : PlacedWorld) → IsLayerOf of v l rss w → IsLayerOf of x l rss w
  IsLayerOf-kept l rss w h = record { at = IsPlacedWorld-kept l.place w h.at; items = h.items; names = h.names }

  pub AreLayersOf-kept : (w : PlacedWorld) (ls : List Layer) → AreLayersOf of v w ls → AreLayersOf of x w ls
  AreLayersOf-kept w ls h = record {
    each = λ l among. let one = h.each l among in record { renames = one.renames; inside = one.inside; brings = one.brings; is = IsLayerOf-kept l one.renames one.inside one.is };
    all = λ rss y t brings among gives. let one = h.all rss y t brings among gives in (one.0, one.1, IsLayerOf-kept one.0 rss y one.2);
  }

  module _ (types : v.types.now ≡ x.types.now) where
    IsFoundAs-kept : (f : FoundInterface) (i : PlacedInterface) → IsFoundAs of v f i → IsFoundAs of x f i
    IsFoundAs-kept f i h = record {
      valid = found_kept of v x scopes types f h.valid;
      at = record { scope = h.at.scope; at_scope = subst (λ (l : List ScopeItems). slice_get l f.place.scope ≡ Some h.at.scope) scopes h.at.at_scope; at_item = h.at.at_item; is = h.at.is };
    }

    IsMarkOf-kept : (w : PlacedWorld) (k : ExternKind) (es : List (Text × ItemKind)) (n : ℕ) (m : ExternMark) → IsMarkOf of v w k es n m → IsMarkOf of x w k es n m
    IsMarkOf-kept w k es n Unmarked h = h
    IsMarkOf-kept w k es n Written h = λ e at. subst (λ (c : Collection). HasExternOf of k w e.0 (item_tree c e.1)) types (h e at)
    IsMarkOf-kept w k es n (Found f) h = (h.0, record { found = IsFoundAs-kept f h.0 h.1.found; at = h.1.at }, h.2)

    pub AreMarksOf-kept : (w : PlacedWorld) (k : ExternKind) (es : List (Text × ItemKind)) (m : ExternMarks) → AreMarksOf of v w k es m → AreMarksOf of x w k es m
    AreMarksOf-kept w k es m h = record { even = h.even; each = λ n y at. IsMarkOf-kept w k es n y (h.each n y at) }

    pub AreItemsOf-kept : (w : PlacedWorld) (k : ExternKind) (es : List (Text × ItemKind)) → AreItemsOf of v w k es → AreItemsOf of x w k es
    AreItemsOf-kept w k es h = record { each = λ e among. subst (λ (c : Collection). HasExternOf of k w e.0 (item_tree c e.1)) types (h.each e among); all = h.all }

    pub AreSideOf-kept : (w : PlacedWorld) (k : ExternKind) (es : List (Text × ItemKind)) (m : ExternMarks) → AreSideOf of v w k es m → AreSideOf of x w k es m
    AreSideOf-kept w k es m h = record { items = AreItemsOf-kept w k es h.items; marks = AreMarksOf-kept w k es m h.marks; interfaces = h.interfaces }

    pub AreWorldSides-kept : (w : PlacedWorld) (e : WorldContent) (m : WorldMarks) → AreWorldSides of v w e m → AreWorldSides of x w e m
    AreWorldSides-kept w e m h = record { imports = AreSideOf-kept w Import e.imports m.imports h.imports; exports = AreSideOf-kept w Export e.exports m.exports h.exports }

    IsValidatedWorld-kept : (f : FoundWorld) → IsValidatedWorld of v f → IsValidatedWorld of x f
    IsValidatedWorld-kept f h = record {
      written = h.written;
      at = IsPlacedWorld-kept f.place h.written h.at;
      stands = rw (← types) h.stands;
      sides = λ content at. AreWorldSides-kept h.written content f.marks (h.sides content (rw types at));
      layers = AreLayersOf-kept h.written f.layers.items h.layers;
      uses = rw (← types) h.uses;
      owners = rw (← types) h.owners;
      one = h.one;
      tree = rw (← types) h.tree;
    }

-- what is known of worlds stays, if whatever is known now was, or is as it is said to be
pub KnowsWorlds-more : (of : WitSources) (v x : Validator) → v.scopes.items ≡ x.scopes.items → v.types.now ≡ x.types.now → Knows of x → KnowsWorlds of v
    → ((f : FoundWorld) → Contains x.worlds.items f → Contains v.worlds.items f ⊎ IsValidatedWorld of v f) → KnowsWorlds of x
KnowsWorlds-more of v x scopes types interfaces knows worlds = record {
  interfaces = interfaces;
  worlds = λ f among. elim (worlds f among) [ inl old ↦ IsValidatedWorld-kept of v x scopes types f (knows.worlds f old) | inr new ↦ IsValidatedWorld-kept of v x scopes types f new ];
}

pub KnowsWorlds-kept : (of : WitSources) (v x : Validator) → v.features ≡ x.features → v.scopes.items ≡ x.scopes.items → v.types.now ≡ x.types.now → x.found.items ≡ v.found.items → KnowsWorlds of v
    → ((f : FoundWorld) → Contains x.worlds.items f → Contains v.worlds.items f ⊎ IsValidatedWorld of v f) → KnowsWorlds of x
KnowsWorlds-kept of v x features scopes types found knows worlds =
    KnowsWorlds-more of v x scopes types (knows_kept of v x features scopes types knows.interfaces (λ f among. inl (subst (λ (l : List FoundInterface). Contains l f) found among))) knows worlds

pub StaysAs-kept : (v x : Validator) → v.features ≡ x.features → v.scopes.items ≡ x.scopes.items → v.types.now ≡ x.types.now → x.worlds.items ≡ v.worlds.items
    → ((of : WitSources) (f : FoundInterface) → Knows of v → Contains x.found.items f → Contains v.found.items f ⊎ IsValidated of v f)
    → ((f : FoundInterface) → Contains v.found.items f → Contains x.found.items f) → StaysAs v x
StaysAs-kept v x features scopes types worlds found kept = record {
  found = record { interfaces = kept; worlds = λ f. subst (λ (l : List FoundWorld). Contains l f) (sym worlds) };
  types = sym types;
  scopes = sym scopes;
  knows = λ of knows. KnowsWorlds-more of v x scopes types (knows_kept of v x features scopes types knows.interfaces (λ f among. found of f knows.interfaces among)) knows
      (λ f among. inl (subst (λ (l : List FoundWorld). Contains l f) worlds among));
}

-- ---- small facts

-- an entry by its place, its name and its interface
pub entry_is : (es : List (Text × ItemKind)) (n : ℕ) (name other : Text) (item : ItemKind) (a b : Id) → slice_get es n ≡ Some (name, item) → name ≡ other → item ≡ Instance a → b ≡ a → slice_get es n ≡ Some (other, Instance b)
entry_is es n name other item a b at same is id = rw (← same, id, ← is) at

pub IsWorldAt-one : (of : WitSources) (v : Validator) (place : ItemPlace) (w : PlacedWorld) (scope : ScopeItems) (decl : WorldDecl) → IsWorldAt of v place w → slice_get v.scopes.items place.scope ≡ Some scope → slice_get scope.items.now place.item ≡ Some (top.World decl)
    → ◌≡◌ {A = PlacedWorld} w (record { scope = scope_syntax scope; decl = decl })
IsWorldAt-one of v place w scope decl h at_scope at_item = λ k. record { scope = (h.is ∙ ap scope_syntax one) k; decl = decls k }
  where
    one : h.scope ≡ scope
    one = same_Some _ _ (sym h.at_scope ∙ at_scope)

    same_world : (x y : WorldDecl) → Some (top.World x) ≡ Some (top.World y) → x ≡ y
    same_world x y e = cc

    decls : w.decl ≡ decl
    decls = same_world w.decl decl (sym h.at_item ∙ ap (λ (s : ScopeItems). slice_get s.items.now place.item) one ∙ at_item)

pub world_placed : (of : WitSources) (v : Validator) (place : ItemPlace) (w : PlacedWorld) → Knows of v → IsWorldAt of v place w → HasWorld of w.scope (ident_text w.decl.name) w.decl
world_placed of v place w knows h = record {
  scope = subst (IsScopeOf of) (sym h.is) (knows.scopes place.scope h.scope h.at_scope).is_scope;
  item = subst (λ (s : ScopeSyntax). Contains s.items (top.World w.decl)) (sym h.is) (contains_at h.scope.items.now place.item (top.World w.decl) h.at_item);
  there = h.there;
  named = refl;
}

pub not_true : (b : Bool) → IsTrue (not b) → false ≡ b
not_true true h = absurd (cc)
not_true false h = refl

pub is_false : (b : Bool) → (true ≡ b → ⊥) → IsTrue (not b)
is_false true h = absurd (h refl)
is_false false h = refl

pub then_some_told : {A : Type 0} (b : Bool) (x : A) (r : Option A) (P : A → Type 0) → r ≡ then_some b x → (IsTrue b → P x) → IfSome r P
then_some_told true x r P is told = rw is (told refl)
then_some_told false x r P is told = rw is tt

pub no_truth : IsTrue false → ⊥
no_truth h = absurd (cc)

pub some_there : {A : Type 0} (o : Option A) (P : A → Type 0) → IfSome o P → true ≡ is_some o → (x : A) × P x
some_there None P told is = absurd (cc)
some_there (Some x) P told is = (x, told)

-- what stands at one place has one name
pub same_name : (es : List (Text × ItemKind)) (n : ℕ) (a b : Text) (x y : ItemKind) → slice_get es n ≡ Some (a, x) → slice_get es n ≡ Some (b, y) → a ≡ b
same_name es n a b x y one other = ap (λ (e : Text × ItemKind). e.0) (same_Some _ _ (sym one ∙ other))

-- ---- uses

pub use_of : (of : WitSources) (x : ScopeSyntax) (u : UseItem) (i : PlacedInterface) → UsesTypes of u → LeadsToInterface of x u.path i → UsesInterface of x (u ∷ []) i
use_of of x u i types leads = record { item = u; name = types.1.0; among = Contains-first u []; there = types.0; within = types.1.1; leads = leads }

pub one_use : (of : WitSources) (x : ScopeSyntax) (u : UseItem) (i : PlacedInterface) → UsesInterface of x (u ∷ []) i → UsesTypes of u × LeadsToInterface of x u.path i
one_use of x u i h = subst (λ (y : UseItem). UsesTypes of y × LeadsToInterface of x y.path i) (one_item h.item u h.among) ((h.there, (h.name, h.within)), h.leads)
  where
    one_item : (y u : UseItem) → Contains (u ∷ []) y → y ≡ u
    one_item y u among = elim (Contains-cases y u [] among) [ inl e ↦ sym e | inr h ↦ absurd (omega (arith, h.1)) ]

-- the world at a place has a name, in a package of a name and a version
pub world_called : (of : WitSources) (v : Validator) (place : ItemPlace) (scope : ScopeItems) (decl : WorldDecl) (p n : Text) (version : Option Text) → Knows of v → slice_get v.scopes.items place.scope ≡ Some scope → slice_get scope.items.now place.item ≡ Some (top.World decl)
    → package_text (package_id scope.package.now) ≡ p → version_text scope.package.now.version ≡ version → ident_text decl.name ≡ n → (w : PlacedWorld) → IsWorldAt of v place w → IsWorldNamed of p version n w
world_called of v place scope decl p n version knows at_scope at_item of_p of_version named w h =
    let one = IsWorldAt-one of v place w scope decl h at_scope at_item in
    record {
      has = subst (λ (t : Text). HasWorld of w.scope t w.decl) (ap (λ (x : PlacedWorld). ident_text x.decl.name) one ∙ named) (world_placed of v place w knows h);
      of_package = ap (λ (x : PlacedWorld). package_text x.scope.package) one ∙ of_p;
      of_version = ap (λ (x : PlacedWorld). x.scope.package.version) one ∙ of_version;
    }

-- ---- names that aren't there

looked_up : (n : Text) (es : List (String Global × ItemKind)) → HasItem (named (λ k. k) es) n → IsSome (lookup (λ q. bytes_eq n (string_bytes q)) es)
looked_up n [] has = absurd (omega (arith, has.among.1))
looked_up n (e ∷ es) has = by_test (bytes_eq n (string_bytes e.0)) refl (Contains-cases (n, has.kind) (string_bytes e.0, e.1) (named (λ k. k) es) has.among) (looked_up n es)
  where
    by_test : (b : Bool) → bytes_eq n (string_bytes e.0) ≡ b → ◌≡◌ {A = Text × ItemKind} (string_bytes e.0, e.1) (n, has.kind) ⊎ Contains (named (λ k. k) es) (n, has.kind) → (HasItem (named (λ k. k) es) n → IsSome (lookup (λ q. bytes_eq n (string_bytes q)) es))
        → IsSome (cond b (Some e.1) (lookup (λ q. bytes_eq n (string_bytes q)) es))
    by_test true same among others = refl
    by_test false other (inl is) others = let n_is : n ≡ string_bytes e.0 = ap (λ (d : Text × ItemKind). d.0) (sym is) in absurd (let no : false ≡ true = sym other ∙ (bytes_eq-Decides n (string_bytes e.0)).1 n_is in cc)
    by_test false other (inr among) others = others (record { kind = has.kind; among = among })

pub not_looked_up : (r : Option (Bor ItemKind)) (m n : Text) (es : List (String Global × ItemKind)) → m ≡ n → option_copied r ≡ lookup (λ q. bytes_eq m (string_bytes q)) es → is_some r ≡ false → HasItem (named (λ k. k) es) n → ⊥
not_looked_up r m n es same value none has = no_some r (lookup (λ q. bytes_eq m (string_bytes q)) es) value none (looked_up m es (subst (HasItem (named (λ k. k) es)) (sym same) has))
  where
    no_some : (r : Option (Bor ItemKind)) (o : Option ItemKind) → option_copied r ≡ o → is_some r ≡ false → IsSome o → ⊥
    no_some None o is h some = absurd (cc)
    no_some (Some x) o is h some = absurd (cc)

-- ---- what stands at a place

pub placed_decl : (v : Validator) (place : ItemPlace) (x : PlacedInterface) (scope : ScopeItems) (decl : InterfaceDecl) → IsPlacedAt v place x → slice_get v.scopes.items place.scope ≡ Some scope → slice_get scope.items.now place.item ≡ Some (top.Interface decl) → x.decl ≡ decl
placed_decl v place x scope decl at at_scope at_item = ap (λ (y : PlacedInterface). y.decl) (IsPlacedAt-one v place x (record { scope = scope_syntax scope; decl = decl }) at (record { scope = scope; at_scope = at_scope; at_item = at_item; is = refl }))

-- what an interface uses, by the items of what stands at its place
pub uses_placed : (of : WitSources) (v : Validator) (place : ItemPlace) (x i : PlacedInterface) (scope : ScopeItems) (decl : InterfaceDecl) (items : List InterfaceItem) → IsPlacedAt v place x → slice_get v.scopes.items place.scope ≡ Some scope → slice_get scope.items.now place.item ≡ Some (top.Interface decl)
    → items ≡ decl.items.items → UsesInterface of x.scope (uses_in x.decl.items.items) i ↔ UsesInterface of x.scope (uses_in items) i
uses_placed of v place x i scope decl items at at_scope at_item same =
    let one : x.decl.items.items ≡ items = ap (λ (d : InterfaceDecl). d.items.items) (placed_decl v place x scope decl at at_scope at_item) ∙ sym same in
    (subst (λ (l : List InterfaceItem). UsesInterface of x.scope (uses_in l) i) one, subst (λ (l : List InterfaceItem). UsesInterface of x.scope (uses_in l) i) (sym one))

pub uses_among : (of : WitSources) (x : ScopeSyntax) (us : List UseItem) (u : UseItem) (i : PlacedInterface) → Contains us u → UsesInterface of x (u ∷ []) i → UsesInterface of x us i
uses_among of x us u i among h = let one = one_use of x u i h in record { item = u; name = one.0.1.0; among = among; there = one.0.0; within = one.0.1.1; leads = one.1 }

-- ---- more small facts

pub none_is : {A : Type 0} (o : Option A) → o ≡ None → IsNone o
none_is None e = refl
none_is (Some x) e = absurd (cc)

pub same_mark : (ms : List ExternMark) (n : ℕ) (f g : FoundInterface) → slice_get ms n ≡ Some (Found f) → slice_get ms n ≡ Some (Found g) → f ≡ g
same_mark ms n f g a b = same_found f g (same_Some _ _ (sym a ∙ b))
  where
    same_found : (f g : FoundInterface) → Found f ≡ Found g → f ≡ g
    same_found f g e = cc

pub same_extern : (k : ExternKind) (e f : ExternItem) → extern_item k e ≡ extern_item k f → e ≡ f
same_extern Import e f same = cc
same_extern Export e f same = cc

pub KeepsFound-trans : (v x y : Validator) → KeepsFound v x → KeepsFound x y → KeepsFound v y
KeepsFound-trans v x y a b = record { interfaces = λ f among. b.interfaces f (a.interfaces f among); worlds = λ f among. b.worlds f (a.worlds f among) }

pub StaysAs-trans : (v x y : Validator) → StaysAs v x → StaysAs x y → StaysAs v y
StaysAs-trans v x y a b = record {
  found = KeepsFound-trans v x y a.found b.found;
  types = b.types ∙ a.types;
  scopes = b.scopes ∙ a.scopes;
  knows = λ of knows. b.knows of (a.knows of knows);
}

pub named_past : (es : List (String Global × ItemKind)) (n i : ℕ) → n ≡ length es → n ≤ i → length (named (λ k. k) es) ≤ i
named_past es n i is past = omega (arith, is, past, length-map {B = Text × ItemKind} es (λ (e : String Global × ItemKind). (string_bytes e.0, e.1)))

pub entry_named : (es : List (Text × ItemKind)) (n : ℕ) (name other : Text) (item : ItemKind) (id : Id) → slice_get es n ≡ Some (name, item) → name ≡ other → item ≡ Instance id → slice_get es n ≡ Some (other, Instance id)
entry_named es n name other item id at same is = entry_is es n name other item id id at same is refl

-- nothing is marked yet
pub AreMarksOf-none : (of : WitSources) (v : Validator) (w : PlacedWorld) (k : ExternKind) (es : List (String Global × ItemKind)) (m : ExternMarks) (n : ℕ) → length m.marks.items ≡ n → n ≡ length es
    → ((j : ℕ) (x : ExternMark) → slice_get m.marks.items j ≡ Some x → x ≡ Unmarked) → AreMarksOf of v w k (named (λ q. q) es) m
AreMarksOf-none of v w k es m n even count none = record {
  even = omega (arith, even, count, length-map {B = Text × ItemKind} es (λ (e : String Global × ItemKind). (string_bytes e.0, e.1)));
  each = λ j x at. rw (none j x at) tt;
}

pub named_length : (es : List (String Global × ItemKind)) (n : ℕ) → n ≡ length es → length (named (λ k. k) es) ≡ n
named_length es n is = omega (arith, is, length-map {B = Text × ItemKind} es (λ (e : String Global × ItemKind). (string_bytes e.0, e.1)))

pub IsTextAt-kept : (v x : Validator) → StaysAs v x → (text : WorldText) (of : WitSources) (w : PlacedWorld) → IsTextAt v text of w → IsTextAt x text of w
IsTextAt-kept v x stays text of w h = record {
  at = record { knows = stays.knows of h.at.knows; items = h.at.items; at = subst (λ (l : List ScopeItems). slice_get l text.place.scope ≡ Some h.at.items) (sym stays.scopes) h.at.at; is = h.at.is };
  written = IsPlacedWorld-kept of v x (sym stays.scopes) text.place w h.written;
  decl = h.decl;
}
