-- What packages don't have.
use Rattle.std.proofs.Common.{◌≡◌, ◌∙◌, Contains, Option, Some, None, refl, subst, sym}
use Rattle.wac_model.specs.Text.{Text}
use Rattle.wac_wit_scopes.specs.WitSources.{HaveOneName, IsNamedPackage, IsPackageOf, IsScopeOf, PackageId, ScopeSyntax, WitSources, alone, exactly, package_id}
use Rattle.wac_wit_scopes.specs.declared.scopes.ScopeItems.{ScopeItems}
use Rattle.wac_wit_syntax.specs.declared.tree.PackageName.{PackageName}
use Rattle.wac_wit_refusals_sites.specs.Judging.{Judges}
use Rattle.wac_wit_refusals.specs.PathSteps.{LacksMember}
use Rattle.wac_wit_refusals_sites.specs.declared.judge.Judge.{Judge}
use Rattle.wac_wit_refusals_sites.proofs.Known.{each_scope}

named_one : (of : WitSources) (n : PackageName) (p : PackageId) → IsNamedPackage of n p → HaveOneName p (package_id n)
named_one of n _ exactly = record { namespace = refl; name = refl }
named_one of n p (alone none one only) = one

module _ (of : WitSources) (j : Judge) (judges : Judges of j) (w : ScopeSyntax) (o : Option PackageName) (n : PackageName) (name : Text) where
  -- what no scope of one package has
  pub lacking_exact : o ≡ Some n → ((v : ScopeSyntax) → IsScopeOf of v → IsNamedPackage of n v.package → package_id n ≡ v.package)
      → ((s : ScopeItems) → Contains j.scopes.items s → package_id n ≡ package_id s.package.now → LacksMember s.items.now name)
      → (v : ScopeSyntax) → IsScopeOf of v → IsPackageOf of w o v.package → LacksMember v.items name
  lacking_exact same exact lacks v there of_it = each_scope of j judges (λ (x : ScopeSyntax). package_id n ≡ x.package → LacksMember x.items name) lacks v there
      (exact v there (subst (λ (p : Option PackageName). IsPackageOf of w p v.package) same of_it))

  -- what no version of a package has
  pub lacking_all : o ≡ Some n → ((s : ScopeItems) → Contains j.scopes.items s → HaveOneName (package_id s.package.now) (package_id n) → LacksMember s.items.now name)
      → (v : ScopeSyntax) → IsScopeOf of v → IsPackageOf of w o v.package → LacksMember v.items name
  lacking_all same lacks v there of_it = each_scope of j judges (λ (x : ScopeSyntax). HaveOneName x.package (package_id n) → LacksMember x.items name) lacks v there
      (named_one of n v.package (subst (λ (p : Option PackageName). IsPackageOf of w p v.package) same of_it))

  -- what a package doesn't have in which a path stands
  pub lacking_own : o ≡ None → w.package ≡ package_id n → ((s : ScopeItems) → Contains j.scopes.items s → package_id n ≡ package_id s.package.now → LacksMember s.items.now name)
      → (v : ScopeSyntax) → IsScopeOf of v → IsPackageOf of w o v.package → LacksMember v.items name
  lacking_own same own lacks v there of_it = each_scope of j judges (λ (x : ScopeSyntax). package_id n ≡ x.package → LacksMember x.items name) lacks v there
      (let here : v.package ≡ w.package = subst (λ (p : Option PackageName). IsPackageOf of w p v.package) same of_it in sym (here ∙ own))
