-- Where types come from, by what an entry was found to say.
use Rattle.std.proofs.Common.{◌≡◌, ◌≢◌, ◌∙◌, ◌⊎◌, inl, inr, List, Contains, Option, Some, None, IsSome, refl, sym, ap, subst}
use Rattle.std.specs.Prelude.{slice_get}
use Rattle.std.specs.Option.{option_map, unwrap_or}
use Rattle.std.proofs.lemmas.Option.{same_Some, slice_get-get_or}
use Rattle.wac_model.specs.Text.{Text}
use Rattle.wac_component.specs.Collection.{Collection, InterfaceContent, UseContent}
use Rattle.wac_component.specs.Content.{named}
use Rattle.wac_component.specs.Id.{Id}
use Rattle.wac_component.specs.Implicit.{identifier}
use Rattle.wac_component.specs.declared.items.ItemKind.{ItemKind}
use Rattle.wac_component.specs.declared.items.ItemKind.TheVariants.{«Type» as OfType}
use Rattle.wac_component.specs.declared.items.Type.{«Type» as TypeOf}
use Rattle.wac_component.specs.Key.{Stands, interface_key}
use Rattle.wac_component.specs.Tree.{externs, interface_externs, item_tree}
use Rattle.wac_wit_syntax.specs.declared.tree.Ident.{Ident}
use Rattle.wac_wit_syntax.specs.declared.tree.InterfaceDecl.{InterfaceDecl}
use Rattle.wac_wit_syntax.specs.declared.tree.InterfaceItem.{InterfaceItem}
use Rattle.wac_wit_syntax.specs.declared.tree.InterfaceItem.TheVariants as inside
use Rattle.wac_wit_syntax.specs.declared.tree.Rename.{Rename}
use Rattle.wac_wit_syntax.specs.declared.tree.TopItem.TheVariants as top
use Rattle.wac_wit_syntax.specs.declared.tree.TypeDef.TheVariants as def
use Rattle.wac_wit_syntax.specs.declared.tree.TypeExpr.TheVariants as ty
use Rattle.wac_wit_syntax.specs.declared.tree.TypeItem.{TypeItem}
use Rattle.wac_wit_syntax.specs.declared.tree.UseItem.{UseItem}
use Rattle.wac_wit_validation_types.specs.Exports.{AreExportsOf, HasOrigin, HaveOrigins, IsInterfaceEntry, Offers}
use Rattle.wac_wit_validation.specs.Checking.{IsValidated, Knows}
use Rattle.wac_wit_scopes.specs.Scopes.{scope_syntax}
use Rattle.wac_wit_validation_types.specs.Denoted.{Denoted, IsDefined, NamesType, Setting, a_record, a_resource, a_variant, alias, an_enum, another_name, defined, interface_setting, renamed_by, some_flags, used}
use Rattle.wac_wit_validation_types.specs.OneMeaning.{GivesType, GivesUse}
use Rattle.wac_wit_validation_names.specs.Noted.{HasRoot, origin_at}
use Rattle.wac_wit_validation.specs.OriginClauses.{TellsItem, TellsOrigins, TellsUsed}
use Rattle.wac_wit_validation_types.specs.Origins.{AreOwnersOf, AreUsesOf, ComesFrom, IsOriginOf, IsOwnName, defined_here, named_here, named_so, placed_setting, use_at, used_from, used_through}
use Rattle.wac_wit_validation_types.specs.Placed.{LeadsToInterface, PlacedInterface, placed_identifier}
use Rattle.wac_wit_validation_types.specs.Reading.{IsTypeNamed, type_meaning}
use Rattle.wac_wit_scopes.specs.WitSources.{HasInterface, IsEnabled, IsScopeOf, ScopeSyntax, WitSources, given_name, ident_text, interface_identifier, package_id}
use Rattle.wac_wit_validation.specs.WorldChecking.{IsFoundAs}
use Rattle.wac_wit_scopes.specs.declared.scopes.ScopeItems.{ScopeItems}
use Rattle.wac_wit_validation_names.specs.declared.places.FoundInterface.{FoundInterface}
use Rattle.wac_wit_validation.specs.declared.validator.Validator.{Validator}
use Rattle.wac_wit_validation.proofs.FoundFacts.{among_got, tree_of_exports}
use Rattle.wac_wit_validation.proofs.WorldFacts.{has_found, valid_is}
use Rattle.wac_wit_validation_names.proofs.NotedFacts.{alias_name}

some_mapped : {A B : Type 0} (f : A → B) (o : Option A) (y : B) → option_map f o ≡ Some y → (x : A) × (o ≡ Some x) × (f x ≡ y)
some_mapped f None y is = absurd (cc)
some_mapped f (Some x) y is = (x, refl, same_Some _ _ is)

pub none_mapped : {A B : Type 0} (f : A → B) (o : Option A) → option_map f o ≡ None → o ≡ None
none_mapped f None is = refl
none_mapped f (Some x) is = absurd (cc)

some_of : {A : Type 0} (o : Option A) → IsSome o → (x : A) × (o ≡ Some x)
some_of None is = absurd (cc)
some_of (Some x) is = (x, refl)

some_is : {A : Type 0} (o : Option A) (x : A) → o ≡ Some x → IsSome o
some_is {A} o x is = subst (λ (p : Option A). IsSome p) (sym is) refl

no_some : {A B : Type 0} (o : Option A) → o ≡ None → IsSome o → B
no_some None none is = absurd (cc)
no_some (Some x) none is = absurd (cc)

-- there is something, or there is nothing
some_or_none : {A : Type 0} (o : Option A) → (o ≡ None) ⊎ ((x : A) × (o ≡ Some x))
some_or_none None = inl refl
some_or_none (Some x) = inr (x, refl)

-- what is said of a name of which an origin is told
told_use : (us : List (Text × UseContent)) (n : Text) (id : Id) → origin_at us n ≡ Some id → (u : UseContent) × (use_at us n ≡ Some u) × (u.interface ≡ id)
told_use us n id is = some_mapped (λ (u : UseContent). u.interface) (use_at us n) id is

pub told_nothing : (us : List (Text × UseContent)) (n : Text) → origin_at us n ≡ None → use_at us n ≡ None
told_nothing us n is = none_mapped (λ (u : UseContent). u.interface) (use_at us n) is

module _ (P : Setting → Text → Type 0)
    (own : (s : Setting) (n : Text) (t : TypeItem) → GivesType s n t → ((id : Ident) → t.def ≢ def.Alias (ty.Name id)) → P s n)
    (another : (s : Setting) (n : Text) (t : TypeItem) (id : Ident) → GivesType s n t → t.def ≡ def.Alias (ty.Name id) → P s (ident_text id) → P s n)
    (used_type : (s : Setting) (n : Text) (u : UseItem) (r : Rename) (i : PlacedInterface) (m : Denoted) → GivesUse s n u r → LeadsToInterface s.sources s.scope u.path i → NamesType (placed_setting s.sources i) (ident_text r.name) m
    → P (placed_setting s.sources i) (ident_text r.name) → P s n) where
  mutual
    by_name : (s : Setting) (n : Text) (m : Denoted) → NamesType s n m → P s n
    by_name s n m (defined t among there is h) = by_definition s n t m (record { among = among; there = there; named = is }) h
    by_name s n m (used {i = i} {v = v} u r d among there within is to has h) =
        used_type s n u r (record { scope = v; decl = d }) m (record { among = among; there = there; within = within; named = is }) (record { name = i; leads = to; has = has }) h
        (by_name (interface_setting s.sources v d.items.items) (ident_text r.name) m h)

    by_definition : (s : Setting) (n : Text) (t : TypeItem) (m : Denoted) → GivesType s n t → IsDefined s t m → P s n
    by_definition s n t m gives (another_name id is h) = another s n t id gives is (by_name s (ident_text id) m h)
    by_definition s n t _ gives (alias e is isnt h) = own s n t gives (λ id k. isnt id (alias_name e id (sym is ∙ k)))
    by_definition s n t _ gives (a_record fs is h) = own s n t gives (λ id k. let both = sym is ∙ k in absurd (cc))
    by_definition s n t _ gives (a_variant of is h) = own s n t gives (λ id k. let both = sym is ∙ k in absurd (cc))
    by_definition s n t _ gives (some_flags ns is) = own s n t gives (λ id k. let both = sym is ∙ k in absurd (cc))
    by_definition s n t _ gives (an_enum ns is) = own s n t gives (λ id k. let both = sym is ∙ k in absurd (cc))
    by_definition s n t _ gives (a_resource ms is) = own s n t gives (λ id k. let both = sym is ∙ k in absurd (cc))

-- a name of a type is of one that is defined there, or comes from another interface
abbrev IsOwnOrComes : Setting → Text → Type 0
IsOwnOrComes s n = IsOwnName s n ⊎ ((i : PlacedInterface) × ComesFrom s n i)

pub own_or_comes : (s : Setting) (n : Text) (m : Denoted) → NamesType s n m → IsOwnOrComes s n
own_or_comes = by_name IsOwnOrComes
    (λ s n t gives isnt. inl (defined_here t gives.among gives.there gives.named isnt))
    (λ s n t id gives is h. elim h [ inl own ↦ inl (named_here t id gives.among gives.there gives.named is own) | inr from ↦ inr (from.0, named_so t id gives.among gives.there gives.named is from.1) ])
    (λ s n u r i m gives leads names h. elim h [
      | inl own ↦ inr (i, used_from u r gives.among gives.there gives.within gives.named leads own)
      | inr from ↦ inr (from.0, used_through u r gives.among gives.there gives.within gives.named leads from.1)
    ])

-- a name of which nothing is said is of a type that is defined there
own_if_none : (c : Collection) (s : Setting) (us : List (Text × UseContent)) (n : Text) (m : Denoted) → AreUsesOf c s us → use_at us n ≡ None → NamesType s n m → IsOwnName s n
own_if_none c s us n m uses none names = elim (own_or_comes s n m names) [ inl own ↦ own | inr from ↦ no_some (use_at us n) none (uses.all n from.0 from.1) ]

-- ---- what the entry of an interface says that was found

module _ (of : WitSources) (v : Validator) (f : FoundInterface) (i : PlacedInterface) (found : IsFoundAs of v f i) (e : InterfaceContent) (at : slice_get v.types.now.interfaces f.id.index ≡ Some e) where
  entry_found : IsInterfaceEntry of v.types.now i e
  entry_found = subst (λ (k : PlacedInterface). IsInterfaceEntry of v.types.now k e) (valid_is of v f i found) (record { identified = found.valid.identified e at; uses = found.valid.uses e at; exports = found.valid.exports e at })

  origins_found : HaveOrigins v.types.now (placed_setting of i) e.uses
  origins_found = subst (λ (k : PlacedInterface). HaveOrigins v.types.now (placed_setting of k) e.uses) (valid_is of v f i found) (found.valid.origins e at)

-- ---- what is said of each name

-- what is known of a setting and of what an entry says of its names
pub record IsTold (v : Validator) (s : Setting) (us : List (Text × UseContent)) : Type 0 where
  pub knows : Knows s.sources v
  pub scope : IsScopeOf s.sources s.scope
  pub items : (x : InterfaceItem) → Offers s x → TellsItem v s us x

-- what is noted of a name, by what that becomes
abbrev use_as : Setting → List (Text × UseContent) → Text → Option UseContent
use_as s us n = use_at us (renamed_by s.renames n)

abbrev origin_as : Setting → List (Text × UseContent) → Text → Option Id
origin_as s us n = origin_at us (renamed_by s.renames n)

-- nothing is said of a name, and its type is defined there, or it is said where it comes from
abbrev IsToldOf : Validator → Setting → List (Text × UseContent) → Text → Type 0
IsToldOf v s us n = ((use_as s us n ≡ None) × IsOwnName s n) ⊎ ((u : UseContent) × (use_as s us n ≡ Some u) × HasOrigin v.types.now s n u)

module _ (v : Validator) (us : List (Text × UseContent)) where
  -- the same type in another way, where one interface is said
  moved : (s : Setting) (n q : Text) (u x : UseContent) (o : HasOrigin v.types.now s q x) → ComesFrom s n o.interface → u.interface ≡ x.interface → HasOrigin v.types.now s n u
  moved s n q u x o from same = record { interface = o.interface; from = from; entry = o.entry; at = ap (λ (k : Id). slice_get v.types.now.interfaces k.index) same ∙ o.at; is = o.is }

  told_own : (s : Setting) (n : Text) (t : TypeItem) → GivesType s n t → ((id : Ident) → t.def ≢ def.Alias (ty.Name id)) → IsTold v s us → IsToldOf v s us n
  told_own s n t gives isnt told =
      let none = told_nothing us (renamed_by s.renames (ident_text t.name)) ((told.items (inside.Type t) gives.among gives.there).own isnt) in
      inl (subst (λ (k : Text). use_as s us k ≡ None) gives.named none, defined_here t gives.among gives.there gives.named isnt)

  told_another : (s : Setting) (n : Text) (t : TypeItem) (id : Ident) → GivesType s n t → t.def ≡ def.Alias (ty.Name id) → IsToldOf v s us (ident_text id) → IsTold v s us → IsToldOf v s us n
  told_another s n t id gives is h told = by h
    where
      same : origin_as s us n ≡ origin_as s us (ident_text id)
      same = subst (λ (k : Text). origin_as s us k ≡ origin_as s us (ident_text id)) gives.named ((told.items (inside.Type t) gives.among gives.there).another id is)

      by : IsToldOf v s us (ident_text id) → IsToldOf v s us n
      by (inl own) = inl (told_nothing us (renamed_by s.renames n) (same ∙ ap (option_map (λ (u : UseContent). u.interface)) own.0), named_here t id gives.among gives.there gives.named is own.1)
      by (inr from) =
          let here = told_use us (renamed_by s.renames n) from.0.interface (same ∙ ap (option_map (λ (u : UseContent). u.interface)) from.1) in
          inr (here.0, here.1, moved s n (ident_text id) here.0 from.0 from.2 (named_so t id gives.among gives.there gives.named is from.2.from) here.2)

  told_used : (s : Setting) (n : Text) (u : UseItem) (r : Rename) (i : PlacedInterface) (m : Denoted) → GivesUse s n u r → LeadsToInterface s.sources s.scope u.path i → NamesType (placed_setting s.sources i) (ident_text r.name) m → IsTold v s us → IsToldOf v s us n
  told_used s n u r i m gives leads names told = by (some_or_none (use_at t.entry.uses (ident_text r.name)))
    where
      t : TellsUsed v s us u.path r
      t = told.items (inside.Use u) gives.among gives.there r gives.within

      j : PlacedInterface
      j = record { scope = scope_syntax t.leads.scope; decl = t.leads.decl }

      found : IsFoundAs s.sources v t.found j
      found = record { valid = told.knows.found t.found t.leads.among; at = record { scope = t.leads.scope; at_scope = t.leads.at_scope; at_item = t.leads.at_item; is = refl } }

      to : LeadsToInterface s.sources s.scope u.path j
      to = record { name = ident_text t.leads.decl.name; leads = t.leads.leads; has = has_found s.sources v t.found j found told.knows }

      one : i ≡ j
      one = told.knows.unambiguous.interfaces s.scope u.path i j told.scope leads to

      there : NamesType (placed_setting s.sources j) (ident_text r.name) m
      there = subst (λ (k : PlacedInterface). NamesType (placed_setting s.sources k) (ident_text r.name) m) one names

      said : origin_as s us n ≡ Some (unwrap_or (origin_at t.entry.uses (ident_text r.name)) t.found.id)
      said = subst (λ (k : Text). origin_as s us k ≡ Some (unwrap_or (origin_at t.entry.uses (ident_text r.name)) t.found.id)) gives.named t.told

      entry : IsInterfaceEntry s.sources v.types.now j t.entry
      entry = entry_found s.sources v t.found j found t.entry t.at

      by : (use_at t.entry.uses (ident_text r.name) ≡ None) ⊎ ((x : UseContent) × (use_at t.entry.uses (ident_text r.name) ≡ Some x)) → IsToldOf v s us n
      by (inl none) =
          let here = told_use us (renamed_by s.renames n) t.found.id (said ∙ ap (λ (o : Option UseContent). Some (unwrap_or (option_map (λ (x : UseContent). x.interface) o) t.found.id)) none) in
          let own = own_if_none v.types.now (placed_setting s.sources j) t.entry.uses (ident_text r.name) m entry.uses none there in
          inr (here.0, here.1, record { interface = j; from = used_from u r gives.among gives.there gives.within gives.named to own; entry = t.entry; at = ap (λ (k : Id). slice_get v.types.now.interfaces k.index) here.2 ∙ t.at; is = entry })
      by (inr (x, at)) =
          let here = told_use us (renamed_by s.renames n) x.interface (said ∙ ap (λ (o : Option UseContent). Some (unwrap_or (option_map (λ (x : UseContent). x.interface) o) t.found.id)) at) in
          let o = origins_found s.sources v t.found j found t.entry t.at (ident_text r.name) x at in
          inr (here.0, here.1, record { interface = o.interface; from = used_through u r gives.among gives.there gives.within gives.named to o.from; entry = o.entry; at = ap (λ (k : Id). slice_get v.types.now.interfaces k.index) here.2 ∙ o.at; is = o.is })

  told_by_use : (s : Setting) (n : Text) (u : UseItem) (r : Rename) → given_name r.name r.alias ≡ n → TellsUsed v s us u.path r → IsSome (use_as s us n)
  told_by_use s n u r is t =
      let here = told_use us (renamed_by s.renames n) _ (subst (λ (k : Text). origin_as s us k ≡ Some (unwrap_or (origin_at t.entry.uses (ident_text r.name)) t.found.id)) is t.told) in
      some_is (use_as s us n) here.0 here.1

  told_of : (s : Setting) (n : Text) (m : Denoted) → NamesType s n m → IsTold v s us → IsToldOf v s us n
  told_of = by_name (λ s n. IsTold v s us → IsToldOf v s us n) told_own (λ s n t id gives is h told. told_another s n t id gives is (h told) told) (λ s n u r i m gives leads names h. told_used s n u r i m gives leads names)

  -- what is said of a name of a type is where that comes from
  pub origin_told : (s : Setting) (n : Text) (m : Denoted) (u : UseContent) → NamesType s n m → IsTold v s us → use_as s us n ≡ Some u → HasOrigin v.types.now s n u
  origin_told s n m u names told at = by (told_of s n m names told)
    where
      by : IsToldOf v s us n → HasOrigin v.types.now s n u
      by (inl own) = let both = sym at ∙ own.0 in absurd (cc)
      by (inr from) = subst (HasOrigin v.types.now s n) (same_Some _ _ (sym from.1 ∙ at)) from.2

  -- something is said of each name that comes from elsewhere
  pub told_all : (s : Setting) (n : Text) (i : PlacedInterface) → ((x : InterfaceItem) → Offers s x → TellsItem v s us x) → ComesFrom s n i → IsSome (use_as s us n)
  told_all s n i items (used_from u r among there within is leads own) = told_by_use s n u r is (items (inside.Use u) among there r within)
  told_all s n i items (used_through u r among there within is leads from) = told_by_use s n u r is (items (inside.Use u) among there r within)
  told_all s n i items (named_so t id among there is means from) =
      let same = subst (λ (k : Text). origin_as s us k ≡ origin_as s us (ident_text id)) is ((items (inside.Type t) among there).another id means) in
      let source = some_of (use_as s us (ident_text id)) (told_all s (ident_text id) i items from) in
      let here = told_use us (renamed_by s.renames n) source.0.interface (same ∙ ap (option_map (λ (u : UseContent). u.interface)) source.1) in
      some_is (use_as s us n) here.0 here.1

-- a type among exports is what its name stands for
type_among : (s : Setting) (c : Collection) (es : List (Text × ItemKind)) (n : Text) (t : TypeOf) → AreExportsOf s c es → Contains es (n, OfType t) → IsTypeNamed s n c t
type_among s c es n t exports among = exports.named among.0 (n, OfType t) among.1 (slice_get-get_or es among.0 (n, OfType t) among.1 ∙ ap (λ (e : Text × ItemKind). Some e) among.2)

-- ---- where a type is defined

-- the type that the entry of an interface has under the name that is noted
module _ (c : Collection) (s : Setting) (n k : Text) (u : UseContent) (es : List (Text × ItemKind)) (o : HasOrigin c s n u) (root : HasRoot c es k u.interface (unwrap_or u.name k)) (m : Denoted) (meant : type_meaning c root.is ≡ Some m) where
  abbrev there : Setting
  there = placed_setting s.sources o.interface

  same : o.entry ≡ root.entry
  same = same_Some _ _ (sym o.at ∙ root.at)

  pub root_identified : identifier c u.interface ≡ Some (placed_identifier o.interface)
  root_identified = rw o.at o.is.identified

  pub root_named : NamesType there (unwrap_or u.name k) m
  root_named = type_among there c root.entry.exports (unwrap_or u.name k) root.of (subst (λ (x : InterfaceContent). AreExportsOf there c x.exports) same o.is.exports) root.among m (root.same ∙ meant)

  pub root_own : IsOwnName there (unwrap_or u.name k)
  root_own = own_if_none c there root.entry.uses (unwrap_or u.name k) m (subst (λ (x : InterfaceContent). AreUsesOf c there x.uses) same o.is.uses) root.own root_named

-- ---- what is said of all names of an interface

module _ (of : WitSources) (w : ScopeSyntax) (is : List InterfaceItem) (v : Validator) (e : InterfaceContent) (knows : Knows of v) (scope : IsScopeOf of w)
    (exports : AreExportsOf (interface_setting of w is) v.types.now e.exports) (tells : TellsOrigins v (interface_setting of w is) e) where
  abbrev inner : Setting
  inner = interface_setting of w is

  told : IsTold v inner e.uses
  told = record { knows = knows; scope = scope; items = tells.items }

  -- what a name stands for of which something is said
  meaning_of : (n : Text) (u : UseContent) (root : HasRoot v.types.now e.exports n u.interface (unwrap_or u.name n)) → (m : Denoted) × (type_meaning v.types.now root.is ≡ Some m) × NamesType inner n m
  meaning_of n u root = let m = some_of (type_meaning v.types.now root.is) root.meant in (m.0, m.1, type_among inner v.types.now e.exports n root.is exports root.here m.0 m.1)

  pub have_origins : HaveOrigins v.types.now inner e.uses
  have_origins n u at = let m = meaning_of n u (tells.roots n u at) in origin_told v e.uses inner n m.0 u m.2 told at

  module _ (one : (n : Text) (m k : Denoted) → NamesType inner n m → NamesType inner n k → m ≡ k) where
    is_origin : (n : Text) (u : UseContent) → HasOrigin v.types.now inner n u → HasRoot v.types.now e.exports n u.interface (unwrap_or u.name n) → IsOriginOf v.types.now inner n u
    is_origin n u o root = let m = meaning_of n u root in record {
      interface = o.interface;
      from = o.from;
      identified = root_identified v.types.now inner n n u e.exports o root m.0 m.1;
      own = root_own v.types.now inner n n u e.exports o root m.0 m.1;
      means = λ k names. subst (NamesType (placed_setting of o.interface) (unwrap_or u.name n)) (one n m.0 k m.2 names) (root_named v.types.now inner n n u e.exports o root m.0 m.1);
    }

    pub are_uses : AreUsesOf v.types.now inner e.uses
    are_uses = record {
      each = λ n u at. is_origin n u (have_origins n u at) (tells.roots n u at);
      all = λ n i from. told_all v e.uses inner n i tells.items from;
    }

-- an interface whose exports are those of the text, and of which it is said where they come from
pub validated : (of : WitSources) (v : Validator) (f : FoundInterface) (w : ScopeItems) (d : InterfaceDecl) (e : InterfaceContent) → Knows of v → slice_get v.scopes.items f.place.scope ≡ Some w → slice_get w.items.now f.place.item ≡ Some (top.Interface d) → IsEnabled of d.gates
    → Stands v.types.now (interface_key f.id) → slice_get v.types.now.interfaces f.id.index ≡ Some e → e.id ≡ Some (interface_identifier (package_id w.package.now) (ident_text d.name)) → externs v.types.now (interface_key f.id) ≡ interface_externs (item_tree v.types.now) e
    → AreExportsOf (interface_setting of (scope_syntax w) d.items.items) v.types.now e.exports → TellsOrigins v (interface_setting of (scope_syntax w) d.items.items) e → IsValidated of v f
validated of v f w d e knows at_scope at_item there stands at identified tree exports tells = record {
  scope = w;
  decl = d;
  at_scope = at_scope;
  at_item = at_item;
  there = there;
  stands = stands;
  identified = λ x h. subst (λ (y : InterfaceContent). y.id ≡ Some (interface_identifier (package_id w.package.now) (ident_text d.name))) (same x h) identified;
  exports = λ x h. subst (λ (y : InterfaceContent). AreExportsOf s v.types.now y.exports) (same x h) exports;
  uses = λ x h. subst (λ (y : InterfaceContent). AreUsesOf v.types.now s y.uses) (same x h) (are_uses of (scope_syntax w) d.items.items v e knows is_scope exports tells (knows.one_meaning (scope_syntax w) (ident_text d.name) d has));
  origins = λ x h. subst (λ (y : InterfaceContent). HaveOrigins v.types.now s y.uses) (same x h) (have_origins of (scope_syntax w) d.items.items v e knows is_scope exports tells);
  owners = λ x h. subst (λ (y : InterfaceContent). AreOwnersOf v.types.now y.uses y.exports) (same x h) tells.owners;
  tree = tree_of_exports of (scope_syntax w) d.items.items v.types.now f.id e tree exports;
}
  where
    s : Setting
    s = interface_setting of (scope_syntax w) d.items.items

    same : (x : InterfaceContent) → slice_get v.types.now.interfaces f.id.index ≡ Some x → e ≡ x
    same x h = same_Some _ _ (sym at ∙ h)

    is_scope : IsScopeOf of (scope_syntax w)
    is_scope = (knows.scopes f.place.scope w at_scope).is_scope

    has : HasInterface of (scope_syntax w) (ident_text d.name) d
    has = record { scope = is_scope; item = among_got w.items.now f.place.item (top.Interface d) at_item; there = there; named = refl }
