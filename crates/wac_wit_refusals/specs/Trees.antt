-- Files as the program has them.
use Rattle.std.specs.Prelude.{◌≡◌, Some, slice_get}
use Rattle.wac_wit_scopes.specs.WitSources.{FileSyntax, WitSources, sources_of}
use Rattle.wac_wit_scopes.specs.declared.trees.SourceTrees.{SourceTrees}
use Rattle.wac_wit_refusals.specs.Packages.{IsNamedAt, PackagePlace}
use Rattle.wac_wit_refusals.specs.declared.packages.FileTree.{FileTree}
use Rattle.wac_wit_refusals.specs.declared.packages.NamedPackage.{NamedPackage}

-- what is read
abbrev pub wit_sources : SourceTrees → WitSources
wit_sources s = sources_of s.files.now s.documents.now s.features

abbrev pub tree_syntax : FileTree → FileSyntax
tree_syntax f = record { group = f.group; document = f.document.now }

-- it is the file at its index
abbrev pub IsFileTree : WitSources → FileTree → Type 0
IsFileTree of f = slice_get of.files f.index ≡ Some (tree_syntax f)

abbrev pub package_place : NamedPackage → PackagePlace
package_place n = record { file = n.file; nested = n.nested }

-- the name of a package stands at its place, in a file of its group
pub record IsPlacedName (of : WitSources) (n : NamedPackage) : Type 0 where
  pub named : IsNamedAt of (package_place n) n.name.now
  pub file : FileSyntax
  pub at : slice_get of.files n.file ≡ Some file
  pub group : file.group ≡ n.group
