-- What a comparison of packages says.
use Rattle.std.specs.Prelude.{◌≡◌, ◌≢◌, ◌↔◌, ◌++◌, ◌⊎◌, ◌==◌, Bool, true, false, List, [], ◌∷◌, Some, None, All, Contains, codes, if◌then◌else◌, option_map, string_bytes, String}
use Rattle.std.specs.HashMap.{get_by_text}
use Rattle.std.specs.List.{AllZip}
use Rattle.std.specs.declared.alloc.Global.{Global}
use Rattle.wac_component.specs.Collection.{Collection}
use Rattle.wac_component.specs.Id.{Id}
use Rattle.wac_component.specs.Tree.{item_tree}
use Rattle.wac_component.specs.declared.items.ItemKind.TheVariants.{Component, Instance}
use Rattle.wac_types.specs.Order.{Fits}
use Rattle.wac_types.specs.Pairs.{IsVersionAtMost}
use Rattle.wac_types.specs.Text.{Text}
use Rattle.wac_types.specs.Track.{IsCompatible}
use Rattle.wac_wit_scopes.specs.WitSources.{version_part}
use Rattle.wac_wit.specs.declared.packages.WitPackage.{WitPackage}
use Rattle.wac_wit_changes.specs.Worlds.{TreeRunsIn}
use Rattle.wac_wit_changes.specs.declared.report.ComparedItem.{ComparedItem}
use Rattle.wac_wit_changes.specs.declared.report.PackageReport.{PackageReport}
use Rattle.wac_wit_changes.specs.declared.report.Promise.{Promise}
use Rattle.wac_wit_changes.specs.declared.report.Promise.TheVariants.{Same, Other, Gone, Dropped}
use Rattle.wac_wit_changes.specs.declared.report.ReportSort.TheVariants.{Interface, World}

-- ---- interfaces

-- of two interfaces of a collection, the first fits where the second is asked for
abbrev pub InterfaceFits : Collection → Id → Id → Type 0
InterfaceFits types given wanted = Fits (item_tree types (Instance given)) (item_tree types (Instance wanted))

-- the package has an interface of this name that fits where the old one is asked for
abbrev pub HasFitting : Collection → WitPackage → Text → Id → Type 0
HasFitting types new name old = (id : Id) × (get_by_text new.interfaces name ≡ Some id) × InterfaceFits types id old

-- the item is about an old interface: it has no problem exactly where the new package has an interface
-- of its name that fits where the old one is asked for
pub record IsComparedInterface (types : Collection) (new : WitPackage) (old : String Global × Id) (item : ComparedItem) : Type 0 where
  pub sort : item.sort ≡ Interface
  pub name : string_bytes item.name ≡ string_bytes old.0
  pub problems : (item.problems.items ≡ []) ↔ HasFitting types new (string_bytes old.0) old.1

-- ---- worlds

-- the package has a world of this name, in which the components run
abbrev pub HasTarget : Collection → WitPackage → Text → Id → Type 0
HasTarget types new name component = (id : Id) × (get_by_text new.worlds name ≡ Some id) × TreeRunsIn (item_tree types (Component component)) (item_tree types (Component id))

-- the item is about an old world: it has no problem exactly where the new package has a world of its
-- name in which the components run. These are those of the old world itself where nothing may break,
-- and else those of some world
pub record IsComparedWorld (types : Collection) (new : WitPackage) (p : Promise) (old : String Global × Id) (item : ComparedItem) : Type 0 where
  pub component : Id
  pub own : p ≡ Same → component ≡ old.1
  pub sort : item.sort ≡ World
  pub name : string_bytes item.name ≡ string_bytes old.0
  pub problems : (item.problems.items ≡ []) ↔ HasTarget types new (string_bytes old.0) component

-- ---- packages

-- the items are about all of an old package: one about each interface, in their order, and then one
-- about each world, in theirs
pub record AreItemsOnPackage (types : Collection) (old new : WitPackage) (p : Promise) (items : List ComparedItem) : Type 0 where
  pub firsts : List ComparedItem
  pub rest : List ComparedItem
  pub all : items ≡ firsts ++ rest
  pub interfaces : AllZip (IsComparedInterface types new) old.interfaces.entries firsts
  pub worlds : AllZip (IsComparedWorld types new p) old.worlds.entries rest

-- the identifier of an interface in a package
abbrev pub identifier_in : WitPackage → Text → Text
identifier_in p n = string_bytes p.name ++ codes "/" ++ n ++ version_part (option_map string_bytes p.version)

-- the packages are of one version, or their versions are on one track of SemVer: so an interface of one has one of the other
-- on its track
abbrev pub AreOnTrack : WitPackage → WitPackage → Type 0
AreOnTrack old new = IsCompatible (identifier_in old (codes "a")) (identifier_in new (codes "a"))

-- nothing may break where the versions are on one track, and elsewhere anything may
abbrev pub IsPromiseOf : WitPackage → WitPackage → Promise → Type 0
IsPromiseOf old new p = ((p ≡ Same) × AreOnTrack old new) ⊎ ((p ≡ Other) × (AreOnTrack old new → ⊥))

-- the new package that an old one is compared with: of those that have its name the one of its version, or else the one of the
-- greatest version on its track, or else one of them all
pub record IsCounterpart (news : List WitPackage) (old new : WitPackage) : Type 0 where
  pub among : Contains news new
  pub same : string_bytes new.name ≡ string_bytes old.name
  pub own_version : (p : WitPackage) → Contains news p → identifier_in p (codes "a") ≡ identifier_in old (codes "a") → identifier_in new (codes "a") ≡ identifier_in old (codes "a")
  pub on_track : (p : WitPackage) → Contains news p → AreOnTrack old p → AreOnTrack old new
  pub greatest : (p : WitPackage) → Contains news p → AreOnTrack old p → identifier_in new (codes "a") ≢ identifier_in old (codes "a")
      → IsVersionAtMost (identifier_in p (codes "a")) (identifier_in new (codes "a"))

-- no package has this name
abbrev pub NoneHasName : List WitPackage → Text → Type 0
NoneHasName packages name = (p : WitPackage) → Contains packages p → string_bytes p.name ≢ name

-- the report is about an old package of whose name there is no new one: nothing is compared
pub record IsReportOfOne (news : List WitPackage) (old : WitPackage) (r : PackageReport) : Type 0 where
  pub alone : NoneHasName news (string_bytes old.name)
  pub version : r.new_version ≡ None
  pub promise : r.promise ≡ (if old.group == 0 then Gone else Dropped)
  pub compared : r.compared.items ≡ []

-- the report is about an old package and this new one
pub record IsReportOfBoth (types : Collection) (old new : WitPackage) (r : PackageReport) : Type 0 where
  pub version : option_map string_bytes r.new_version ≡ option_map string_bytes new.version
  pub promise : IsPromiseOf old new r.promise
  pub compared : AreItemsOnPackage types old new r.promise r.compared.items

-- the report is about an old package, alone or beside the new one that it is compared with
pub record IsReportOn (types : Collection) (news : List WitPackage) (old : WitPackage) (r : PackageReport) : Type 0 where
  pub name : string_bytes r.name ≡ string_bytes old.name
  pub about : IsReportOfOne news old r ⊎ ((new : WitPackage) × IsCounterpart news old new × IsReportOfBoth types old new r)

-- ---- the whole answer

abbrev pub has_problems : ComparedItem → Bool
has_problems item = is_cons item.problems.items
  where
    is_cons : {A : Type 0} → List A → Bool
    is_cons [] = false
    is_cons (x ∷ xs) = true

-- what a promise asks of what was compared
abbrev pub IsKeptBy : Promise → List ComparedItem → Type 0
IsKeptBy Same items = All (λ item. item.problems.items ≡ []) items
IsKeptBy Other items = Unit {0}
IsKeptBy Dropped items = Unit {0}
IsKeptBy Gone items = ⊥

-- the package keeps what the versions promise
abbrev pub KeepsPromise : PackageReport → Type 0
KeepsPromise r = IsKeptBy r.promise r.compared.items
