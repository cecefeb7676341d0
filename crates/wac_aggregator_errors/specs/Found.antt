-- What is found of two that clash, while they are looked for.
use Rattle.std.specs.Prelude.{◌≡◌, ◌<◌, ◌++◌, ◌∷◌, [], List, Option, Some, IfSome, string_bytes}
use Rattle.std.specs.Option.{MatchOption}
use Rattle.std.specs.Str.{bytes_eq}
use Rattle.wac_model.specs.Text.{Text, lookup}
use Rattle.wac_model.specs.CoreTree.{CoreTree}
use Rattle.wac_model.specs.ItemTree.{ItemTree, Items}
use Rattle.wac_component.specs.Collection.{Collection}
use Rattle.wac_component.specs.Growth.{Extends}
use Rattle.wac_component.specs.Height.{height, keys_height}
use Rattle.wac_component.specs.Key.{Key, AllStand, item_keys}
use Rattle.wac_component.specs.Sound.{IsSound}
use Rattle.wac_component.specs.Tree.{externs, items_of, item_tree}
use Rattle.wac_component.specs.declared.items.ItemKind.{ItemKind}
use Rattle.wac_merge.specs.Items.{ExternKinds, extern_keys}
use Rattle.wac_merge.specs.Known.{KnowsMeets}
use Rattle.wac_merge.specs.declared.meets.Meets.{Meets}
use Rattle.wac_mismatch.specs.Path.{AreAlike}
use Rattle.wac_mismatch.specs.Place.{item_side}
use Rattle.wac_mismatch.specs.declared.check.SubtypeCheck.{SubtypeCheck}
use Rattle.wac_mismatch.specs.declared.error.SubtypeError.{SubtypeError}
use Rattle.wac_aggregator_errors.specs.Clashes.{AreApart, AreCoresApart, ClashesAt, HasNoClash, HasNoCoreClash, export_of, core_export_of, SaysOfCores}
use Rattle.wac_aggregator_errors.specs.declared.exports.ExportClash.{ExportClash}
use Rattle.wac_aggregator_errors.specs.declared.frame.MergeFrame.{MergeFrame}
use Rattle.wac_aggregator_errors.specs.declared.modules.CoreClash.{CoreClash}

-- in whatever collection the first ids stood from which d was only added to, the others stood
abbrev pub StoodWith : Collection → List Key → List Key → Type 0
StoodWith d ks js = (c : Collection) → IsSound c → Extends c d → AllStand c ks → AllStand c js

-- an interface or a world has these exports, which stand, where it stood too, and are lower
pub record HasExportsAt (c : Collection) (k : Key) (es : ExternKinds) : Type 0 where
  pub imports : Items
  pub tree : externs c k ≡ record { imports = imports; exports = items_of (item_tree c) es }
  pub standing : AllStand c (extern_keys es)
  pub stood : StoodWith c (k ∷ []) (extern_keys es)
  pub lower : keys_height c (extern_keys es) < height c k

-- both have the name, and what they have there has no meet
pub record AreFoundIn (c : Collection) (es ts : ExternKinds) (found : ExportClash) : Type 0 where
  pub of_first : lookup bytes_eq es (string_bytes found.name) ≡ Some found.existing
  pub of_second : lookup bytes_eq ts (string_bytes found.name) ≡ Some found.new
  pub apart : AreApart (item_tree c found.existing) (item_tree c found.new)

-- the same of two items: what they export stands, and is lower
pub record IsClashOf (c : Collection) (a b : ItemKind) (found : ExportClash) : Type 0 where
  pub alike : AreAlike (item_side (item_tree c a)) (item_side (item_tree c b))
  pub of_first : export_of (item_tree c a) (string_bytes found.name) ≡ Some (item_tree c found.existing)
  pub of_second : export_of (item_tree c b) (string_bytes found.name) ≡ Some (item_tree c found.new)
  pub apart : AreApart (item_tree c found.existing) (item_tree c found.new)
  pub existing_stands : AllStand c (item_keys found.existing)
  pub new_stands : AllStand c (item_keys found.new)
  pub lower : keys_height c (item_keys found.existing) < keys_height c (item_keys a)

-- the second is there, has no meet with the first, and the error is said of both
pub record IsSaidOf (left : CoreTree) (o : Option CoreTree) (e : SubtypeError) : Type 0 where
  pub right : CoreTree
  pub there : o ≡ Some right
  pub apart : AreCoresApart left right
  pub says : SaysOfCores e left right

-- both have the name, and the error is said of what they have there, which has no meet
pub record AreFoundInCores (es ts : List (Text × CoreTree)) (found : CoreClash) : Type 0 where
  pub left : CoreTree
  pub right : CoreTree
  pub of_first : lookup bytes_eq es (string_bytes found.name) ≡ Some left
  pub of_second : lookup bytes_eq ts (string_bytes found.name) ≡ Some right
  pub apart : AreCoresApart left right
  pub says : SaysOfCores found.error left right

-- the same of two core modules
pub record IsCoreClashOf (a b : ItemTree) (found : CoreClash) : Type 0 where
  pub left : CoreTree
  pub right : CoreTree
  pub alike : AreAlike (item_side a) (item_side b)
  pub of_first : core_export_of a (string_bytes found.name) ≡ Some left
  pub of_second : core_export_of b (string_bytes found.name) ≡ Some right
  pub apart : AreCoresApart left right
  pub says : SaysOfCores found.error left right

-- what a search answers: nothing where it says that there is none,
-- else what it says of what it found

-- no name of both has two that are in the relation
abbrev pub HasNone : {V : Type 0} → (V → V → Type 0) → List (Text × V) → List (Text × V) → Type 0
HasNone {V} R es ts = (n : Text) (x y : V) → lookup bytes_eq es n ≡ Some x → lookup bytes_eq ts n ≡ Some y → ¬ (R x y)

-- the trees of two items are apart
abbrev pub AreItemsApart : Collection → ItemKind → ItemKind → Type 0
AreItemsApart c x y = AreApart (item_tree c x) (item_tree c y)

-- of named items, and of two items
abbrev pub IsSearchOf : Collection → ExternKinds → ExternKinds → Option ExportClash → Type 0
IsSearchOf c es ts o = MatchOption o (HasNone (AreItemsApart c) es ts) (AreFoundIn c es ts)

abbrev pub IsSearchBelow : Collection → ItemKind → ItemKind → Option ExportClash → Type 0
IsSearchBelow c a b o = MatchOption o (HasNoClash (item_tree c a) (item_tree c b)) (IsClashOf c a b)

-- of what a core extern has beside it, of named core externs, and of two items
abbrev pub IsSearchBeside : CoreTree → Option CoreTree → Option SubtypeError → Type 0
IsSearchBeside a o r = MatchOption r ((b : CoreTree) → o ≡ Some b → ¬ (AreCoresApart a b)) (IsSaidOf a o)

abbrev pub IsCoreSearchOf : List (Text × CoreTree) → List (Text × CoreTree) → Option CoreClash → Type 0
IsCoreSearchOf es ts o = MatchOption o (HasNone AreCoresApart es ts) (AreFoundInCores es ts)

abbrev pub IsCoreSearchBelow : ItemTree → ItemTree → Option CoreClash → Type 0
IsCoreSearchBelow a b o = MatchOption o (HasNoCoreClash a b) (IsCoreClashOf a b)

-- what is known of meets is true, from a collection on in which these ids stood
abbrev pub IsKnownFrom : Collection → Meets → List Key → Type 0
IsKnownFrom d m ks = (c : Collection) × IsSound c × AllStand c ks × KnowsMeets c d m

-- and still is, wherever that was so
abbrev pub GoesOnKnown : List Key → Collection → Meets → Collection → Meets → Type 0
GoesOnKnown ks d m e n = (c : Collection) → IsSound c → AllStand c ks → KnowsMeets c d m → KnowsMeets c e n

-- frames lead from two items of c that have no meet to two of d that have none
pub record IsWayTo (c : Collection) (from : ItemKind × ItemKind) (before : List MergeFrame) (d : Collection) (to : ItemKind × ItemKind) (frames : List MergeFrame) : Type 0 where
  pub first_stands : AllStand d (item_keys to.0)
  pub second_stands : AllStand d (item_keys to.1)
  pub apart : AreApart (item_tree d to.0) (item_tree d to.1)
  pub more : List MergeFrame
  pub put : frames ≡ before ++ more
  pub leads : (check : SubtypeCheck) (e : SubtypeError) (rest : List MergeFrame) → ClashesAt check e rest (item_tree d to.0) (item_tree d to.1) → ClashesAt check e (more ++ rest) (item_tree c from.0) (item_tree c from.1)

-- what was found stood where these ids did
abbrev pub FoundWith : Collection → List Key → Option ExportClash → Type 0
FoundWith d ks o = IfSome o (λ f. StoodWith d ks (item_keys f.existing ++ item_keys f.new))
