-- What the validator knows, with one interface more, and the tree of an interface that it found.
use Rattle.std.proofs.Common.{◌≡◌, ◌⊎◌, inl, inr, Bool, true, false, arith, cond, ℕ, List, [], ◌∷◌, ◌++◌, Contains, Option, Some, IsSome, IfOk, IsTrue, Result, Ok, Err, refl, sym, ap, subst, ◌∙◌}
use Rattle.std.specs.Prelude.{slice_get}
use Rattle.std.specs.Str.{bytes_eq}
use Rattle.std.proofs.lemmas.Option.{get_or_from_slice_get, slice_get_within}
use Rattle.std.proofs.lemmas.Slice.Eq.{bytes_eq-Decides}
use Rattle.wac_model.specs.ItemTree.{ItemTree, item_at}
use Rattle.wac_model.specs.Text.{Text}
use Rattle.wac_component.proofs.Among.{Contains-cases, Contains-first, Contains-later}
use Rattle.wac_component.specs.Collection.{Collection, InterfaceContent}
use Rattle.wac_component.specs.Id.{Id}
use Rattle.wac_component.specs.Key.{interface_key}
use Rattle.wac_component.specs.Tree.{externs, interface_externs, item_tree, items_of}
use Rattle.wac_component.specs.declared.items.ItemKind.{ItemKind}
use Rattle.wac_component.specs.declared.items.ItemKind.TheVariants.{Instance}
use Rattle.wac_wit_syntax.specs.declared.tree.InterfaceItem.{InterfaceItem}
use Rattle.wac_wit_syntax.specs.declared.tree.InterfaceDecl.{InterfaceDecl}
use Rattle.wac_wit_syntax.specs.declared.tree.TopItem.TheVariants as top
use Rattle.wac_wit_validation_types.specs.Exports.{AreExportsOf, HasItem}
use Rattle.wac_wit_validation.specs.Checking.{IsValidated, Knows}
use Rattle.wac_wit_scopes.specs.Scopes.{scope_syntax}
use Rattle.wac_wit_validation.specs.Validated.{IsInterfaceOf}
use Rattle.wac_wit_validation_types.specs.Placed.{package_text}
use Rattle.wac_wit_validation_types.specs.Denoted.{interface_setting}
use Rattle.wac_wit_validation_types.specs.Interfaces.{HasExportOf, IsInterfaceTree}
use Rattle.wac_wit_validation_types.specs.Origins.{AreUsesOf}
use Rattle.wac_wit_scopes.specs.WitSources.{IsEnabled, ScopeSyntax, WitSources, ident_text, interface_identifier, package_id, version_text}
use Rattle.wac_wit_scopes.specs.declared.scopes.ScopeItems.{ScopeItems}
use Rattle.wac_wit_validation_names.specs.declared.places.FoundInterface.{FoundInterface}
use Rattle.wac_wit_validation.specs.declared.validator.Validator.{Validator}

-- an interface stays found where the scopes and the collection stay
pub found_kept : (of : WitSources) (v w : Validator) → v.scopes.items ≡ w.scopes.items → v.types.now ≡ w.types.now → (f : FoundInterface) → IsValidated of v f → IsValidated of w f
found_kept of v w scopes types f h = record {
  scope = h.scope;
  decl = h.decl;
  at_scope = subst (λ (l : List ScopeItems). slice_get l f.place.scope ≡ Some h.scope) scopes h.at_scope;
  at_item = h.at_item;
  there = h.there;
  stands = rw (← types) h.stands;
  identified = rw (← types) h.identified;
  exports = rw (← types) h.exports;
  uses = rw (← types) h.uses;
  origins = rw (← types) h.origins;
  owners = rw (← types) h.owners;
  tree = rw (← types) h.tree;
}

-- what is known stays, if whatever is found now was found, or is as it is written
pub knows_kept : (of : WitSources) (v w : Validator) → v.features ≡ w.features → v.scopes.items ≡ w.scopes.items → v.types.now ≡ w.types.now → Knows of v → ((f : FoundInterface) → Contains w.found.items f → Contains v.found.items f ⊎ IsValidated of v f) → Knows of w
knows_kept of v w features scopes types knows found = record {
  features = rw (← features) knows.features;
  scopes = rw (← scopes) knows.scopes;
  all_scopes = rw (← scopes) knows.all_scopes;
  found = λ f among. elim (found f among) [ inl old ↦ found_kept of v w scopes types f (knows.found f old) | inr new ↦ found_kept of v w scopes types f new ];
  unambiguous = knows.unambiguous;
  one_meaning = knows.one_meaning;
  given_once = knows.given_once;
  one_item = knows.one_item;
  identified = knows.identified;
}

-- what stands at a place is one of them
pub among_got : {A : Type 0} (xs : List A) (i : ℕ) (x : A) → slice_get xs i ≡ Some x → Contains xs x
among_got xs i x at = (i, slice_get_within xs i x at, get_or_from_slice_get xs i x x at)

-- one more is one of them, or that one
pub Contains-last : {A : Type 0} (xs : List A) (y x : A) → Contains (xs ++ y ∷ []) x → Contains xs x ⊎ (y ≡ x)
Contains-last [] y x among = elim (Contains-cases x y [] among) [ inl e ↦ inr e | inr h ↦ inl h ]
Contains-last (z ∷ xs) y x among = elim (Contains-cases x z (xs ++ y ∷ []) among) [ inl e ↦ inl (subst (Contains (z ∷ xs)) e (Contains-first z xs)) | inr h ↦ elim (Contains-last xs y x h) [ inl g ↦ inl (Contains-later x z xs g) | inr e ↦ inr e ] ]

-- items by their names

module _ (f : ItemKind → ItemTree) where
  pub item_of : (es : List (Text × ItemKind)) (n : Text) (x : ItemTree) → item_at (items_of f es) n ≡ Some x → (e : Text × ItemKind) × Contains es e × (e.0 ≡ n) × (f e.1 ≡ x)
  item_of [] n x at = absurd (cc)
  item_of (e ∷ es) n x at = by_test (bytes_eq n e.0) refl at (item_of es n x)
    where
      by_test : (b : Bool) → bytes_eq n e.0 ≡ b → cond b (Some (f e.1)) (item_at (items_of f es) n) ≡ Some x → (item_at (items_of f es) n ≡ Some x → (d : Text × ItemKind) × Contains es d × (d.0 ≡ n) × (f d.1 ≡ x)) → (d : Text × ItemKind) × Contains (e ∷ es) d × (d.0 ≡ n) × (f d.1 ≡ x)
      by_test true same is others = (e, Contains-first e es, sym ((bytes_eq-Decides n e.0).0 same), cc)
      by_test false other is others = let h = others is in (h.0, Contains-later h.0 e es h.1, h.2, h.3)

  pub item_there : (es : List (Text × ItemKind)) (n : Text) → HasItem es n → IsSome (item_at (items_of f es) n)
  item_there [] n has = absurd (omega (arith, has.among.1))
  item_there (e ∷ es) n has = by_test (bytes_eq n e.0) refl (Contains-cases (n, has.kind) e es has.among) (item_there es n)
    where
      by_test : (b : Bool) → bytes_eq n e.0 ≡ b → (e ≡ (n, has.kind)) ⊎ Contains es (n, has.kind) → (HasItem es n → IsSome (item_at (items_of f es) n)) → IsSome (cond b (Some (f e.1)) (item_at (items_of f es) n))
      by_test true same among others = refl
      by_test false other (inl is) others = let n_is : n ≡ e.0 = ap (λ (d : Text × ItemKind). d.0) (sym is) in absurd (let no : false ≡ true = sym other ∙ (bytes_eq-Decides n e.0).1 n_is in cc)
      by_test false other (inr among) others = others (record { kind = has.kind; among = among })

-- the tree of an interface that exports what is written
pub tree_of_exports : (of : WitSources) (w : ScopeSyntax) (is : List InterfaceItem) (c : Collection) (id : Id) (content : InterfaceContent) → externs c (interface_key id) ≡ interface_externs (item_tree c) content
    → AreExportsOf (interface_setting of w is) c content.exports → IsInterfaceTree of w is (item_tree c (Instance id))
tree_of_exports of w is c id content tree exports = record {
  exports = items_of (item_tree c) content.exports;
  tree = rw tree refl;
  each = λ n x at. let h = item_of (item_tree c) content.exports n x at in subst (λ k. HasExportOf (interface_setting of w is) k x) h.2 (subst (HasExportOf (interface_setting of w is) h.0.0) h.3 (exports.each h.0 h.1));
  all = λ n x has. item_there (item_tree c) content.exports n (exports.all n x has);
}

pub same_content : (x y : InterfaceContent) → ◌≡◌ {A = Option InterfaceContent} (Some x) (Some y) → x ≡ y
same_content x y e = cc

-- where a test that it is found succeeds, it is
pub found_if : {E : Type 0} {P : Type 0} (r : Result Bool E) (v : Validator) (f : FoundInterface) → IfOk r (λ is. IsTrue is → P) → (P → (of : WitSources) → Knows of v → IsValidated of v f) → IfOk r (λ is. IsTrue is → (of : WitSources) → Knows of v → IsValidated of v f)
found_if (Ok b) v f told found = λ h. found (told h)
found_if (Err e) v f told found = tt

-- an interface that was found is one of the packages'
pub interface_of_found : (of : WitSources) (v : Validator) (f : FoundInterface) (knows : Knows of v) (found : IsValidated of v f) (w : ScopeItems) (d : InterfaceDecl) (p n : Text) (version : Option Text)
    → slice_get v.scopes.items f.place.scope ≡ Some w → slice_get w.items.now f.place.item ≡ Some (top.Interface d) → package_text (package_id w.package.now) ≡ p → version_text w.package.now.version ≡ version → ident_text d.name ≡ n
    → IsInterfaceOf of v.types.now p version n f.id
interface_of_found of v f knows found w d p n version at_scope at_item of_p of_version named = record {
  scope = scope_syntax w;
  decl = d;
  has = record { scope = (knows.scopes f.place.scope w at_scope).is_scope; item = among_got w.items.now f.place.item (top.Interface d) at_item; there = subst (λ (e : InterfaceDecl). IsEnabled of e.gates) decl found.there; named = named };
  of_package = of_p;
  of_version = of_version;
  stands = found.stands;
  identified = λ e h. found.identified e h ∙ ap (λ (k : ScopeItems × InterfaceDecl). Some (interface_identifier (package_id k.0.package.now) (ident_text k.1.name))) both ∙ ap (λ (k : Text). Some (interface_identifier (package_id w.package.now) k)) named;
  tree = subst (λ (k : ScopeItems × InterfaceDecl). IsInterfaceTree of (scope_syntax k.0) k.1.items.items (item_tree v.types.now (Instance f.id))) both found.tree;
  uses = λ e h. subst (λ (k : ScopeItems × InterfaceDecl). AreUsesOf v.types.now (interface_setting of (scope_syntax k.0) k.1.items.items) e.uses) both (found.uses e h);
  owners = found.owners;
}
  where
    scope : found.scope ≡ w
    scope = let e = sym found.at_scope ∙ at_scope in cc

    decl : found.decl ≡ d
    decl = let e = sym found.at_item ∙ ap (λ (k : ScopeItems). slice_get k.items.now f.place.item) scope ∙ at_item in cc

    both : ◌≡◌ {A = ScopeItems × InterfaceDecl} (found.scope, found.decl) (w, d)
    both = let a = scope in let b = decl in cc

-- nothing is among nothing
pub Contains-nothing : {A B : Type 0} (x : A) → Contains [] x → B
Contains-nothing x among = absurd (omega (arith, among.1))
