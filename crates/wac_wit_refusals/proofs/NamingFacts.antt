-- Names of packages, and where they stand.
use Rattle.std.proofs.Common.{◌≡◌, ◌∙◌, ◌⊎◌, inl, inr, ℕ, ◌+◌, ◌<◌, ◌≤◌, false, arith, Some, None, length, refl, sym, ap}
use Rattle.std.specs.Prelude.{slice_get}
use Rattle.std.specs.Option.{is_some}
use borrow.Author.Count.{below_more}
use Rattle.std.proofs.lemmas.Option.{same_Some, slice_get_within}
use Rattle.wac_wit_refusals.specs.Packages.{IsGroupNameless, IsNamedElsewhere, PackagePlace, by_file, by_nested}
use Rattle.wac_wit_refusals.specs.Trees.{IsFileTree, IsPlacedName, package_place, tree_syntax, wit_sources}
use Rattle.wac_wit_refusals.specs.declared.packages.FileTree.{FileTree}
use Rattle.wac_wit_refusals.specs.declared.packages.NamedPackage.{NamedPackage}
use Rattle.wac_wit_scopes.proofs.AllScopes.{file_read}
use Rattle.wac_wit_scopes.proofs.PathFacts.{no_value}
use Rattle.wac_wit_scopes.proofs.ScopeFacts.{source_at}
use Rattle.wac_wit_scopes.specs.WitSources.{FileSyntax, WitSources, package_id}
use Rattle.wac_wit_scopes.specs.declared.trees.SourceTrees.{SourceTrees}
use Rattle.wac_wit_syntax.specs.declared.tree.NestedPackage.{NestedPackage}
use Rattle.wac_wit_syntax.specs.declared.tree.PackageName.{PackageName}

pub tree_at : (of : WitSources) (t : FileTree) (i : ℕ) → t.index ≡ i → IsFileTree of t → slice_get of.files i ≡ Some (tree_syntax t)
tree_at of t i is at = ap (slice_get of.files) (sym is) ∙ at

-- a file names the package, and isn't beside what names it
module _ (of : WitSources) (n : NamedPackage) (t : FileTree) where
  one_group : IsPlacedName of n → IsFileTree of t → (f g : FileSyntax) → slice_get of.files n.file ≡ Some f → slice_get of.files t.index ≡ Some g → f.group ≡ g.group → n.group ≡ t.group
  one_group placed at f g f_at g_at same = sym placed.group ∙ ap (λ (x : FileSyntax). x.group) (same_Some _ _ (sym placed.at ∙ f_at)) ∙ same ∙ ap (λ (x : FileSyntax). x.group) (same_Some _ _ (sym g_at ∙ at))

  pub named_by : (own : PackageName) → IsPlacedName of n → IsFileTree of t → t.document.now.package ≡ Some own → (n.nested ≡ None → n.group ≡ t.group → ⊥) → package_id own ≡ package_id n.name.now → IsNamedElsewhere of (package_place n) (package_id n.name.now)
  named_by own placed at names apart same = record {
    other = record { file = t.index; nested = None };
    elsewhere = λ h. apart (sym (ap (λ (p : PackagePlace). p.nested) h)) (one_group placed at (tree_syntax t) (tree_syntax t) (ap (slice_get of.files) (sym (ap (λ (p : PackagePlace). p.file) h)) ∙ at) at refl);
    apart = λ h. apart h.own (one_group placed at h.file h.other h.at h.other_at h.one);
    name = own;
    named = by_file t.index (tree_syntax t) own at names;
    same = same;
  }

  pub named_inside : (k : ℕ) (p : NestedPackage) → IsFileTree of t → slice_get t.document.now.packages.items k ≡ Some p → (record { file = t.index; nested = Some k } ≡ package_place n → ⊥) → package_id p.name ≡ package_id n.name.now
      → IsNamedElsewhere of (package_place n) (package_id n.name.now)
  named_inside k p at inside elsewhere same = record {
    other = record { file = t.index; nested = Some k };
    elsewhere = elsewhere;
    apart = λ h. let no : Some k ≡ None = h.other_own in absurd (cc);
    name = p.name;
    named = by_nested t.index (tree_syntax t) k p at inside;
    same = same;
  }

-- no file of a group before an index names its package
abbrev pub NamelessBelow : WitSources → ℕ → ℕ → Type 0
NamelessBelow of group limit = (i : ℕ) (f : FileSyntax) → i < limit → slice_get of.files i ≡ Some f → f.group ≡ group → f.document.package ≡ None

pub nameless_next : (of : WitSources) (group i : ℕ) (t : FileTree) → t.index ≡ i → IsFileTree of t → (t.group ≡ group → ⊥) ⊎ (is_some t.document.now.package ≡ false) → NamelessBelow of group i → NamelessBelow of group (i + 1)
nameless_next of group i t is at none all k f below f_at one = below_more (λ m. (g : FileSyntax) → slice_get of.files m ≡ Some g → g.group ≡ group → g.document.package ≡ None) i (λ m less g. all m g less) here k below f f_at one
  where
    here : (g : FileSyntax) → slice_get of.files i ≡ Some g → g.group ≡ group → g.document.package ≡ None
    here g g_at same =
        let same_file = same_Some _ _ (sym g_at ∙ tree_at of t i is at) in
        elim none [
          | inl other ↦ absurd (other (sym (ap (λ (x : FileSyntax). x.group) same_file) ∙ same))
          | inr without ↦ ap (λ (x : FileSyntax). x.document.package) same_file ∙ no_value t.document.now.package without
        ]

pub nameless_end : (s : SourceTrees) (group limit : ℕ) → length s.documents.now ≤ limit → NamelessBelow (wit_sources s) group limit → IsGroupNameless (wit_sources s) group
nameless_end s group limit past all f among one =
    let r = file_read s.files.now s.documents.now s.features f among in
    let within = slice_get_within s.documents.now r.0 f.document r.4 in
    let at = source_at s.files.now s.documents.now s.features r.0 r.1 f.document r.2 r.4 ∙ ap (λ g. Some (record { group = g; document = f.document })) r.3 in
    all r.0 f (omega (arith, within, past)) at one
