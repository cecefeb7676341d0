-- Where paths lead.
use Rattle.std.proofs.Common.{◌≡◌, ◌∙◌, ℕ, true, false, List, Contains, Option, Some, None, is_some, sym, subst, ap, length, get_or, ltb, refl}
use Rattle.std.specs.Prelude.{slice_get, IfSome}
use Rattle.std.proofs.lemmas.Option.{same_Some, slice_get_within, get_or_from_slice_get, slice_get_read}
use borrow.Author.Tests.{ltb-true}
use Rattle.wac_model.specs.Text.{Text}
use Rattle.wac_wit_syntax.specs.declared.tree.PackageName.{PackageName}
use Rattle.wac_wit_syntax.specs.declared.tree.Path.{Path}
use Rattle.wac_wit_syntax.specs.declared.tree.TopItem.TheVariants as top
use Rattle.wac_wit_syntax.specs.declared.tree.TopUse.{TopUse}
use Rattle.wac_wit_scopes.specs.Scopes.{IsKnownScope, IsNamedAs, IsPackageAt, LeadsBy, as_alone, as_it_is, by_use_at, by_itself, scope_syntax}
use Rattle.wac_wit_scopes.specs.WitSources.{HaveOneName, IsNamedPackage, IsOnlyVersion, IsPackageOf, PackageId, PathLeadsTo, WitSources, alone, by_use, directly, exactly, given_name, ident_text, package_id}
use Rattle.wac_wit_scopes.specs.declared.scopes.ScopeItems.{ScopeItems}

pub no_value : {A : Type 0} (o : Option A) → is_some o ≡ false → o ≡ None
no_value None h = refl
no_value (Some x) h = absurd (cc)

pub contains_at : {A : Type 0} (xs : List A) (i : ℕ) (x : A) → slice_get xs i ≡ Some x → Contains xs x
contains_at xs i x at = (i, slice_get_within xs i x at, get_or_from_slice_get xs i x x at)

-- an element that is read by its index
pub read_at : {A : Type 0} (xs : List A) (i : ℕ) (x y : A) → true ≡ ltb i (length xs) → y ≡ get_or xs i y → y ≡ x → slice_get xs i ≡ Some x
read_at xs i x y within at same = slice_get_read xs (length xs) i y refl (ltb-true i (length xs) (sym within)) at ∙ ap Some same

pub read_from : {A : Type 0} (xs ys : List A) (i : ℕ) (x : A) → ys ≡ xs → true ≡ ltb i (length ys) → x ≡ get_or ys i x → slice_get xs i ≡ Some x
read_from xs ys i x same within at = ap (λ l. slice_get l i) (sym same) ∙ read_at ys i x x within at refl

-- three facts of what may be there
pub if_all : {A : Type 0} (o : Option A) (P Q R S : A → Type 0) → IfSome o P → IfSome o Q → IfSome o R → ((x : A) → P x → Q x → R x → S x) → IfSome o S
if_all None P Q R S p q r f = p
if_all (Some x) P Q R S p q r f = f x p q r

-- the package of a name that is the same but for where it stands
pub IsNamed-same : (of : WitSources) (n : PackageName) (p : PackageId) → package_id n ≡ p → IsNamedPackage of n p
IsNamed-same of n p same = subst (IsNamedPackage of n) same exactly

-- a name without a version names the only package of that name
pub IsNamed-alone : (of : WitSources) (n : PackageName) (p : PackageId) → is_some n.version ≡ false → HaveOneName p (package_id n) → IsOnlyVersion of p → IsNamedPackage of n p
IsNamed-alone of n p none same is = alone (no_value n.version none) same is

module _ (of : WitSources) (from to : ScopeItems) (known : IsKnownScope of to) where
  -- the package that a name has, of those that are read
  named_package : (n : PackageName) → IsNamedAs n to → IsNamedPackage of n (package_id to.package.now)
  named_package n (as_it_is same) = IsNamed-same of n (package_id to.package.now) same
  named_package n (as_alone none is same) = alone none same (known.alone is)

  path_package : (p : Option PackageName) → IsPackageAt from p to → IsPackageOf of (scope_syntax from) p (package_id to.package.now)
  path_package None same = sym same
  path_package (Some n) named = named_package n named

  -- where a path leads, of what is read
  pub path_leads : (path : Path) (n : Text) (via : Option ℕ) → LeadsBy from path to n via → PathLeadsTo of (scope_syntax from) path (scope_syntax to) n
  path_leads path n _ (by_itself named is) = subst (PathLeadsTo of (scope_syntax from) path (scope_syntax to)) named (directly (path_package path.package is))
  path_leads path n _ (by_use_at u none at given named is) =
      subst (PathLeadsTo of (scope_syntax from) path (scope_syntax to)) named (by_use u none (contains_at from.items.now _ (top.Use u) at) given (path_package u.path.package is))

-- how a path leads by itself, and by the `use` at an index
module _ (from to : ScopeItems) (path : Path) (n : Text) where
  pub itself : LeadsBy from path to n None → (ident_text path.name ≡ n) × IsPackageAt from path.package to
  itself (by_itself named is) = (named, is)

  pub use_at : (i : ℕ) (u : TopUse) → slice_get from.items.now i ≡ Some (top.Use u) → LeadsBy from path to n (Some i)
      → (path.package ≡ None) × (given_name u.path.name u.alias ≡ ident_text path.name) × (ident_text u.path.name ≡ n) × IsPackageAt from u.path.package to
  use_at i u at (by_use_at v none v_at given named is) =
      let uses = same_Some _ _ (sym v_at ∙ at) in
      let same : v ≡ u = cc in
      subst (λ (x : TopUse). (path.package ≡ None) × (given_name x.path.name x.alias ≡ ident_text path.name) × (ident_text x.path.name ≡ n) × IsPackageAt from x.path.package to) same (none, given, named, is)
