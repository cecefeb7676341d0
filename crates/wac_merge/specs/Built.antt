-- What the entries that meets and joins add are made of.
use Rattle.std.specs.Prelude.{◌≡◌, ◌⊎◌, List, All, Option, Some, None, Result, IfOk, IfSome}
use Rattle.std.specs.Str.{bytes_eq}
use Rattle.std.specs.declared.alloc.AllocError.{AllocError}
use Rattle.wac_model.specs.Text.{Text, lookup}
use Rattle.wac_model.specs.CoreTree.{ModuleContent, ModuleTree}
use Rattle.wac_model.specs.ItemTree.{Kind}
use Rattle.wac_core_merge.specs.Names.{with_new}
use Rattle.wac_core_merge.specs.NameOrder.{HasAllNames, HasSomeNames, IsMeetInOrder, IsJoinInOrder}
use Rattle.wac_core_merge.specs.Origin.{IsModuleFrom}
use Rattle.wac_component.specs.Collection.{Collection, UseContent, InterfaceContent, WorldContent}
use Rattle.wac_component.specs.Key.{Key, Entry, interface_entry, world_entry, module_entry, entry_at, Stands}
use Rattle.wac_component.specs.Growth.{Extends}
use Rattle.wac_component.specs.Laws.{HasLeavesOf}
use Rattle.wac_component.specs.Tree.{item_tree}
use Rattle.wac_component.specs.declared.items.ItemKind.{ItemKind}
use Rattle.wac_merge.specs.Items.{entry_item, ExternKinds}
use Rattle.wac_merge.specs.Bounded.{AreIncomparable, IsMetAs, IsJoinedAs}
use Rattle.wac_merge.specs.declared.memo.Bound.{Bound}
use Rattle.wac_merge.specs.declared.memo.Bound.TheVariants.{Meet, Join}

-- the two entries that each added one was made of, the first before the second
abbrev pub Origins : Type 0
Origins = Key → Key × Key

-- y is one of the two items, or names an entry that was added for the two that they name, where
-- neither of the two items fits where the other is asked for
pub data IsBuilt (c d : Collection) (o : Origins) (a b y : ItemKind) : Type 0 where
  first : y ≡ a → IsBuilt c d o a b y
  second : y ≡ b → IsBuilt c d o a b y
  fresh : (k : Kind) (m : Key) → y ≡ entry_item k m → Stands d m → ¬ (Stands c m) → a ≡ entry_item k (o m).0 → b ≡ entry_item k (o m).1
      → AreIncomparable (item_tree c a) (item_tree c b) → IsBuilt c d o a b y

-- y stands under the name in one of the two lists, or is built of what both have there
pub data IsBuiltAt (c d : Collection) (o : Origins) (es ts : ExternKinds) (n : Text) (y : ItemKind) : Type 0 where
  of_first : lookup bytes_eq es n ≡ Some y → IsBuiltAt c d o es ts n y
  of_second : lookup bytes_eq ts n ≡ Some y → IsBuiltAt c d o es ts n y
  of_both : {a b : ItemKind} → lookup bytes_eq es n ≡ Some a → lookup bytes_eq ts n ≡ Some b → IsBuilt c d o a b y → IsBuiltAt c d o es ts n y

-- the same of an item and of what the other side has, if anything
abbrev pub IsBuiltWith : Collection → Collection → Origins → ItemKind → Option ItemKind → ItemKind → Type 0
IsBuiltWith c d o a None y = y ≡ a
IsBuiltWith c d o a (Some b) y = IsBuilt c d o a b y

abbrev pub AreBuilt : Collection → Collection → Origins → ExternKinds → ExternKinds → ExternKinds → Type 0
AreBuilt c d o es ts ms = All (λ (e : Text × ItemKind). IsBuiltAt c d o es ts e.0 e.1) ms

-- what the first uses, and then what the second uses under other names
abbrev pub uses_of_both : List (Text × UseContent) → List (Text × UseContent) → List (Text × UseContent)
uses_of_both us vs = with_new bytes_eq us vs

-- of a meet all exports, of a join some
pub record IsInterfaceFrom (c d : Collection) (o : Origins) (a b e : InterfaceContent) : Type 0 where
  pub no_identifier : e.id ≡ None
  pub uses : e.uses ≡ uses_of_both a.uses b.uses
  pub exports : AreBuilt c d o a.exports b.exports e.exports
  pub names : HasAllNames bytes_eq a.exports b.exports e.exports ⊎ HasSomeNames bytes_eq a.exports e.exports

-- of a meet all exports and some imports, of a join all imports and some exports
pub record IsWorldFrom (c d : Collection) (o : Origins) (a b e : WorldContent) : Type 0 where
  pub no_identifier : e.id ≡ None
  pub uses : e.uses ≡ uses_of_both a.uses b.uses
  pub imports : AreBuilt c d o a.imports b.imports e.imports
  pub exports : AreBuilt c d o a.exports b.exports e.exports
  pub names : (HasAllNames bytes_eq a.exports b.exports e.exports × HasSomeNames bytes_eq a.imports e.imports)
      ⊎ (HasSomeNames bytes_eq a.exports e.exports × HasAllNames bytes_eq a.imports b.imports e.imports)

-- of a meet all exports and some imports, of a join some exports and all imports
pub record IsModuleBuilt (a b e : ModuleContent) : Type 0 where
  pub from : IsModuleFrom a b e
  pub order : IsMeetInOrder a b e ⊎ IsJoinInOrder a b e

-- an interface of two interfaces, a world of two worlds, a core module of two core modules
pub data IsEntryFrom (c d : Collection) (o : Origins) : Entry → Entry → Entry → Type 0 where
  of_interfaces : {a b e : InterfaceContent} → IsInterfaceFrom c d o a b e → IsEntryFrom c d o (interface_entry a) (interface_entry b) (interface_entry e)
  of_worlds : {a b e : WorldContent} → IsWorldFrom c d o a b e → IsEntryFrom c d o (world_entry a) (world_entry b) (world_entry e)
  of_modules : {a b e : ModuleTree} → IsModuleBuilt a.content b.content e.content → IsEntryFrom c d o (module_entry a) (module_entry b) (module_entry e)

-- the entry is new, and was made of the two
abbrev pub IsMadeOf : Collection → Collection → Origins → Key → Key → Key → Type 0
IsMadeOf c d o x y m = Stands d m × (¬ (Stands c m)) × (o m ≡ (x, y))

-- an added entry is the meet or the join of the two of its origin, which stood, and what
-- it names is from what these name
pub record IsAddedBuilt (c d : Collection) (o : Origins) (m : Key) : Type 0 where
  pub first_stands : Stands c (o m).0
  pub second_stands : Stands c (o m).1
  pub first : Entry
  pub second : Entry
  pub self : Entry
  pub first_at : entry_at c (o m).0 ≡ Some first
  pub second_at : entry_at c (o m).1 ≡ Some second
  pub self_at : entry_at d m ≡ Some self
  pub is_from : IsEntryFrom c d o first second self
  pub bound : ((k : Kind) → IsMetAs c d (entry_item k (o m).0) (entry_item k (o m).1) (Some (entry_item k m)))
      ⊎ ((k : Kind) → IsJoinedAs c d (entry_item k (o m).0) (entry_item k (o m).1) (Some (entry_item k m)))

-- d adds to c nothing but interfaces, worlds and core modules, each built of two that stood
pub record OnlyBuilds (c d : Collection) (o : Origins) : Type 0 where
  pub extends : Extends c d
  pub leaves : HasLeavesOf c d
  pub added : (m : Key) → Stands d m → Stands c m ⊎ IsAddedBuilt c d o m

-- an entry of d that c has not
abbrev pub IsAdded : Collection → Collection → Key → Type 0
IsAdded c d m = Stands d m × (¬ (Stands c m))

-- the entry at m, in d, is the meet or the join of the two in c, as items and as types
abbrev pub IsBoundAs : Bound → Collection → Collection → Key × Key → Key → Type 0
IsBoundAs Meet c d p m = (k : Kind) → IsMetAs c d (entry_item k p.0) (entry_item k p.1) (Some (entry_item k m))
IsBoundAs Join c d p m = (k : Kind) → IsJoinedAs c d (entry_item k p.0) (entry_item k p.1) (Some (entry_item k m))

-- each added entry is the one meet or the one join of an ordered pair
pub record AreOnes (c d : Collection) (o : Origins) : Type 0 where
  pub bound : Key → Bound
  pub is_bound : (m : Key) → IsAdded c d m → IsBoundAs (bound m) c d (o m) m
  pub one : (m n : Key) → IsAdded c d m → IsAdded c d n → o m ≡ o n → bound m ≡ bound n → m ≡ n

-- with one origin for each added entry: c only builds to d, nothing twice, and the answer is built
pub record Builds (c d : Collection) (a b : ItemKind) (answer : Result (Option ItemKind) AllocError) : Type 0 where
  pub origins : Origins
  pub only : OnlyBuilds c d origins
  pub ones : AreOnes c d origins
  pub built : IfOk answer (λ r. IfSome r (IsBuilt c d origins a b))
