-- What a comparison of packages says of the texts that these are read from.
use Rattle.std.specs.Prelude.{◌≡◌, ◌≢◌, ◌↔◌, ◌⊎◌, ◌++◌, List, [], None, option_map, string_bytes, String}
use Rattle.std.specs.HashMap.{get_by_text, keys}
use Rattle.std.specs.List.{AllZip}
use Rattle.std.specs.declared.alloc.Global.{Global}
use Rattle.wac_types.specs.ItemTree.{ItemTree}
use Rattle.wac_types.specs.Order.{Fits}
use Rattle.wac_types.specs.Text.{Text}
use Rattle.wac_wit_scopes.specs.Parsed.{AreParsed}
use Rattle.wac_wit.specs.Read.{ListsAll, SaysOneThing}
use Rattle.wac_wit.specs.Reading.{IsPairRefused}
use Rattle.wac_wit.specs.Refusals.{TellsPairRefusals}
use Rattle.wac_wit.specs.declared.packages.WitPackage.{WitPackage}
use Rattle.wac_wit.specs.declared.reading.PairError.{PairError}
use Rattle.wac_wit.specs.declared.reading.PairError.TheVariants as pair
use Rattle.wac_wit_names.specs.declared.features.Features.{Features}
use Rattle.wac_wit_names.specs.declared.sources.SourceFile.{SourceFile}
use Rattle.wac_wit_syntax.specs.declared.tree.Document.{Document}
use Rattle.wac_wit_syntax.specs.declared.tree.InterfaceDecl.{InterfaceDecl}
use Rattle.wac_wit_validation_types.specs.Interfaces.{IsInterfaceTree}
use Rattle.wac_wit_validation_types.specs.OneWorld.{HasOneExtern}
use Rattle.wac_wit_validation_types.specs.Placed.{PlacedWorld, package_text}
use Rattle.wac_wit_validation.specs.Validated.{IsWorldNamed}
use Rattle.wac_wit_scopes.specs.WitSources.{HasInterface, ScopeSyntax, WitSources, sources_of}
use Rattle.wac_wit_validation_types.specs.Worlds.{IsWorldTree}
use Rattle.wac_wit_changes.specs.Comparing.{IsCounterpart, IsPromiseOf, IsReportOfOne}
use Rattle.wac_wit_changes.specs.Worlds.{TreeRunsIn}
use Rattle.wac_wit_changes.specs.declared.report.ComparedItem.{ComparedItem}
use Rattle.wac_wit_changes.specs.declared.report.PackageReport.{PackageReport}
use Rattle.wac_wit_changes.specs.declared.report.Promise.{Promise}
use Rattle.wac_wit_changes.specs.declared.report.Promise.TheVariants.{Same}
use Rattle.wac_wit_changes.specs.declared.report.ReportSort.TheVariants.{Interface, World}
use Rattle.wac_wit_changes.specs.declared.texts.ComparedTexts.{ComparedTexts}
use Rattle.wac_wit_changes.specs.declared.texts.TextsError.{TextsError}
use Rattle.wac_wit_changes.specs.declared.texts.TextsError.TheVariants as why

-- a package of this one's name and version has an interface of this name in what is read, and its text denotes the tree
pub record DenotesInterface (of : WitSources) (p : WitPackage) (name : Text) (tree : ItemTree) : Type 0 where
  pub scope : ScopeSyntax
  pub decl : InterfaceDecl
  pub has : HasInterface of scope name decl
  pub of_package : package_text scope.package ≡ string_bytes p.name
  pub of_version : scope.package.version ≡ option_map string_bytes p.version
  pub is_tree : IsInterfaceTree of scope decl.items.items tree

-- what the item says of an old interface of this name, whose text denotes the tree
pub data IsTextVerdict (news : WitSources) (new : WitPackage) (name : Text) (tree : ItemTree) (item : ComparedItem) : Type 0 where
  -- the new package has none of this name, and there is a problem
  gone : get_by_text new.interfaces name ≡ None → item.problems.items ≢ [] → IsTextVerdict news new name tree item
  -- the new text denotes a tree, and there is no problem exactly where that fits where the old one is asked for
  beside : (t : ItemTree) → DenotesInterface news new name t → (item.problems.items ≡ []) ↔ Fits t tree → IsTextVerdict news new name tree item

-- the item is about an interface of an old package
pub record IsTextItem (olds news : WitSources) (old new : WitPackage) (name : String Global) (item : ComparedItem) : Type 0 where
  pub sort : item.sort ≡ Interface
  pub same : string_bytes item.name ≡ string_bytes name
  pub tree : ItemTree
  pub denoted : DenotesInterface olds old (string_bytes name) tree
  pub verdict : IsTextVerdict news new (string_bytes name) tree item

-- a package of this one's name and version has a world of this name in what is read, and its text denotes the tree, where each
-- name stands for one item
pub record DenotesWorld (of : WitSources) (p : WitPackage) (name : Text) (tree : ItemTree) : Type 0 where
  pub written : PlacedWorld
  pub is : IsWorldNamed of (string_bytes p.name) (option_map string_bytes p.version) name written
  pub is_tree : IsWorldTree of written tree
  pub one : HasOneExtern of written

-- what the item says of an old world of this name, whose text denotes the tree
pub data IsWorldVerdict (news : WitSources) (new : WitPackage) (p : Promise) (name : Text) (tree : ItemTree) (item : ComparedItem) : Type 0 where
  -- the new package has none of this name, and there is a problem
  world_gone : get_by_text new.worlds name ≡ None → item.problems.items ≢ [] → IsWorldVerdict news new p name tree item
  -- the new text denotes a tree, and there is no problem exactly where the component runs in that: a component of the old world
  -- itself where nothing may break, and else one of some world
  world_beside : (t component : ItemTree) → DenotesWorld news new name t → (p ≡ Same → component ≡ tree) → (item.problems.items ≡ []) ↔ TreeRunsIn component t
      → IsWorldVerdict news new p name tree item

-- the item is about a world of an old package
pub record IsTextWorld (olds news : WitSources) (old new : WitPackage) (p : Promise) (name : String Global) (item : ComparedItem) : Type 0 where
  pub sort : item.sort ≡ World
  pub same : string_bytes item.name ≡ string_bytes name
  pub tree : ItemTree
  pub denoted : DenotesWorld olds old (string_bytes name) tree
  pub verdict : IsWorldVerdict news new p (string_bytes name) tree item

-- the report is about an old package and a new one: an item about each interface of the old one, in their
-- order, and then one about each world, in theirs
pub record IsTextReportOfBoth (olds news : WitSources) (old new : WitPackage) (r : PackageReport) : Type 0 where
  pub version : option_map string_bytes r.new_version ≡ option_map string_bytes new.version
  pub promise : IsPromiseOf old new r.promise
  pub firsts : List ComparedItem
  pub about : AllZip (IsTextItem olds news old new) (keys old.interfaces) firsts
  pub rest : List ComparedItem
  pub worlds : AllZip (IsTextWorld olds news old new r.promise) (keys old.worlds) rest
  pub all : r.compared.items ≡ firsts ++ rest

-- the report is about an old package, alone or beside the new one that it is compared with
pub record IsTextReportOn (olds news : WitSources) (others : List WitPackage) (old : WitPackage) (r : PackageReport) : Type 0 where
  pub name : string_bytes r.name ≡ string_bytes old.name
  pub about : IsReportOfOne others old r ⊎ ((new : WitPackage) × IsCounterpart others old new × IsTextReportOfBoth olds news old new r)

-- what became of the packages of old files, beside those of new files: each file's text says its tree, nothing in these
-- trees is left out of the packages, they say one thing, and there is a report on each old package, in their order, about
-- what they denote
pub record ComparesTexts (old new : List SourceFile) (features : Features) (t : ComparedTexts) : Type 0 where
  pub old_trees : List Document
  pub new_trees : List Document
  pub old_parsed : AreParsed old old_trees
  pub new_parsed : AreParsed new new_trees
  pub old_all : ListsAll (sources_of old old_trees features) t.old.packages.items
  pub new_all : ListsAll (sources_of new new_trees features) t.new.packages.items
  pub old_clear : SaysOneThing (sources_of old old_trees features)
  pub new_clear : SaysOneThing (sources_of new new_trees features)
  pub each : AllZip (IsTextReportOn (sources_of old old_trees features) (sources_of new new_trees features) t.new.packages.items) t.old.packages.items t.reports.items

-- old files or new ones aren't read: each reason that is named holds of them, and the refusals are listed
pub record AreNotRead (old new : List SourceFile) (features : Features) (error : PairError) : Type 0 where
  pub reasons : IsPairRefused old new features error
  pub told : TellsPairRefusals old new error

-- why texts aren't compared: so, where one of the two isn't read
abbrev pub AreNotCompared : List SourceFile → List SourceFile → Features → TextsError → Type 0
AreNotCompared old new features (why.Old e) = AreNotRead old new features (pair.Old e)
AreNotCompared old new features (why.New e) = AreNotRead old new features (pair.New e)
AreNotCompared old new features (why.Entry e) = Unit {0}
