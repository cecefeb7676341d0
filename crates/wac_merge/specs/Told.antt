-- What is told of a meet or a join by what is known of the entries that two items name.
use Rattle.std.specs.Prelude.{◌≡◌, List, [], ◌∷◌, ◌++◌, Option, Some, None, Result, IfOk, IfSome}
use Rattle.std.specs.Map.{keys_of}
use Rattle.std.specs.Option.{option_map}
use Rattle.std.specs.Str.{bytes_eq}
use Rattle.std.specs.declared.alloc.Global.{Global}
use Rattle.std.specs.declared.string.String.{String}
use Rattle.indexmap.specs.IndexMap.{IndexMap}
use Rattle.wac_model.specs.CoreTree.{ModuleContent}
use Rattle.wac_bounds.specs.MeetIn.{IsMeetIn, IsJoinIn}
use Rattle.wac_bounds.specs.Valid.{ValidModuleFits}
use Rattle.wac_core_merge.specs.NameOrder.{HasAllNames, HasSomeNames}
use Rattle.wac_component.specs.Collection.{Collection}
use Rattle.wac_component.specs.Growth.{Extends}
use Rattle.wac_component.specs.Id.{Id}
use Rattle.wac_component.specs.Key.{Key, AllStand, item_keys}
use Rattle.wac_component.specs.Sound.{IsSound}
use Rattle.wac_component.specs.Tree.{item_tree}
use Rattle.wac_component.specs.declared.items.ItemKind.{ItemKind}
use Rattle.wac_merge.specs.Bounded.{KeepsFitting, IsMetWith, IsJoinedWith, AreMet, AreFirstMet, AreJoined, Clash}
use Rattle.wac_merge.specs.Built.{Origins, IsBuilt, AreBuilt}
use Rattle.wac_merge.specs.Items.{ExternKinds, extern_list}
use Rattle.wac_merge.specs.Memo.{Made, asked_for, made_of, IsMadeAs, first_key, second_key, order_of}
use Rattle.wac_merge.specs.Reads.{imports_at, exports_at, met_at, joined_at, IsInterfaceOfBoth, IsWorldOfBoth}
use Rattle.wac_merge.specs.Runs.{FromBuilt, StepsStand, IsUnderWay}
use Rattle.wac_merge.specs.declared.entries.WorldSides.{WorldSides}
use Rattle.wac_merge.specs.declared.memo.Bound.{Bound}
use Rattle.wac_merge.specs.declared.memo.Bound.TheVariants.{Meet, Join}
use Rattle.wac_merge.specs.declared.memo.BoundId.{BoundId}
use Rattle.wac_merge.specs.declared.memo.BoundId.TheVariants.{Interface, World}
use Rattle.wac_merge.specs.declared.memo.BoundMemo.{BoundMemo}
use Rattle.wac_merge.specs.declared.memo.BoundPair.TheVariants.{Interfaces, Worlds}
use Rattle.wac_merge.specs.declared.memo.Untold.{Untold}
use Rattle.wac_merge.specs.declared.memo.Untold.TheVariants.{Memory, Lacks}
use Rattle.wac_merge.specs.declared.steps.BoundStep.{BoundStep}

-- of two items of which the first fits where the second is asked for, that which is their bound
abbrev pub of_two : Bound → ItemKind → ItemKind → ItemKind
of_two Meet a b = a
of_two Join a b = b

-- m, in d, is the meet or the join of two items in c; none where there is none
abbrev pub IsBoundIn : Bound → Collection → Collection → ItemKind → ItemKind → Option ItemKind → Type 0
IsBoundIn u c d a b m = IsMeetIn (order_of u) (item_tree c a) (item_tree c b) (option_map (item_tree d) m)

-- the same of an item and of what the other side has, if anything
abbrev pub IsBoundWith : Bound → Collection → Collection → ItemKind → Option ItemKind → Option ItemKind → Type 0
IsBoundWith Meet c d a b m = IsMetWith c d a b m
IsBoundWith Join c d a b m = IsJoinedWith c d a b m

-- the same of core modules
abbrev pub IsModuleBoundIn : Bound → ModuleContent → ModuleContent → Option ModuleContent → Type 0
IsModuleBoundIn Meet s t m = IsMeetIn ValidModuleFits s t m
IsModuleBoundIn Join s t m = IsJoinIn ValidModuleFits s t m

-- the names of both, met, or none where they clash; the names that both have, joined
abbrev pub AreBound : Bound → Collection → Collection → ExternKinds → ExternKinds → Option ExternKinds → Type 0
AreBound Meet c d es ts r = AreMet c d es ts r
AreBound Join c d es ts None = ⊥
AreBound Join c d es ts (Some js) = AreJoined c d es ts js

-- the same for the names of the first alone
abbrev pub AreFirstBound : Bound → Collection → Collection → ExternKinds → ExternKinds → Option ExternKinds → Type 0
AreFirstBound Meet c d es ts r = AreFirstMet c d es ts r
AreFirstBound Join c d es ts None = ⊥
AreFirstBound Join c d es ts (Some js) = AreJoined c d es ts js

abbrev pub HasBoundNames : Bound → ExternKinds → ExternKinds → ExternKinds → Type 0
HasBoundNames Meet es ts fs = HasAllNames bytes_eq es ts fs
HasBoundNames Join es ts fs = HasSomeNames bytes_eq es fs

abbrev pub HasFirstNames : Bound → ExternKinds → ExternKinds → Type 0
HasFirstNames Meet es fs = keys_of fs ≡ keys_of es
HasFirstNames Join es fs = HasSomeNames bytes_eq es fs

-- of the sides of a world that which is met, for a meet or a join, and that which is joined
abbrev pub met_of : Bound → WorldSides → ExternKinds
met_of Meet w = extern_list w.exports
met_of Join w = extern_list w.imports

abbrev pub joined_of : Bound → WorldSides → ExternKinds
joined_of Meet w = extern_list w.imports
joined_of Join w = extern_list w.exports

-- the sides of two worlds, met and joined, under these names
pub record AreSidesOf (u : Bound) (c : Collection) (x y : Key) (w : WorldSides) : Type 0 where
  pub met : AreMet c c (met_at u c x) (met_at u c y) (Some (met_of u w))
  pub joined : AreJoined c c (joined_at u c x) (joined_at u c y) (joined_of u w)
  pub all : HasAllNames bytes_eq (met_at u c x) (met_at u c y) (met_of u w)
  pub some : HasSomeNames bytes_eq (joined_at u c x) (joined_of u w)

-- none where what is to be met clashes
abbrev pub AreSides : Bound → Collection → Key → Key → Option WorldSides → Type 0
AreSides u c x y None = Clash c (met_at u c x) (met_at u c y)
AreSides u c x y (Some w) = AreSidesOf u c x y w

abbrev pub AreSidesBuilt : Collection → Collection → Origins → Key → Key → WorldSides → Type 0
AreSidesBuilt c d o x y w = AreBuilt c d o (imports_at d x) (imports_at d y) (extern_list w.imports) × AreBuilt c d o (exports_at d x) (exports_at d y) (extern_list w.exports)

-- what is answered, if anything is, is built of these lists, wherever the ids stood
abbrev pub AnswersBuilt : {S E : Type 0} → List Key → ExternKinds → ExternKinds → Collection → Made → Result (Option (IndexMap (String Global) ItemKind S)) E → Type 0
AnswersBuilt ks es ts d ms r = FromBuilt ks d ms (λ c o. IfOk r (λ m. IfSome m (λ fs. AreBuilt c d o es ts (extern_list fs))))

-- the entry is the interface that was made of two, with these exports, or the world, with these sides
abbrev pub IsInterfaceMade : Collection → BoundMemo → Collection → BoundMemo → Bound → Id → Id → ExternKinds → BoundId → Type 0
IsInterfaceMade c m d n b x y es p = IsMadeAs c m d n (asked_for b (Interfaces x y)) Interface (IsInterfaceOfBoth c d x y es) p

abbrev pub IsWorldMade : Collection → BoundMemo → Collection → BoundMemo → Bound → Id → Id → WorldSides → BoundId → Type 0
IsWorldMade c m d n b x y w p = IsMadeAs c m d n (asked_for b (Worlds x y)) World (IsWorldOfBoth c d x y (extern_list w.imports) (extern_list w.exports)) p

-- what is lacking is a bound of two entries that stood wherever these ids did
abbrev pub LacksOnly : Collection → List Key → Untold → Type 0
LacksOnly c ks Memory = Unit {0}
LacksOnly c ks (Lacks a) = (b : Collection) → IsSound b → Extends b c → AllStand b ks → AllStand b (first_key a.pair ∷ second_key a.pair ∷ [])

abbrev pub LacksStand : Collection → Untold → Type 0
LacksStand c Memory = Unit {0}
LacksStand c (Lacks a) = AllStand c (first_key a.pair ∷ second_key a.pair ∷ [])

-- r, in d, is told to be the bound of two items that stand in d
pub record IsToldIn (u : Bound) (d : Collection) (m : BoundMemo) (a b : ItemKind) (r : Option ItemKind) : Type 0 where
  pub bound : IsBoundIn u d d a b r
  pub kept : KeepsFitting (item_tree d a) (item_tree d b) (of_two u a b) (of_two u b a) r
  pub standing : IfSome r (λ k. AllStand d (item_keys k))
  pub built : FromBuilt (item_keys a ++ item_keys b) d (made_of m) (λ c o. IfSome r (IsBuilt c d o a b))

-- a turn for these ids, that stood before anything was built
abbrev pub GoesOn : List Key → Collection → BoundMemo → List BoundStep → Collection → BoundMemo → List BoundStep → Type 0
GoesOn ks d m ss e n ts = (c : Collection) → IsSound c → AllStand c ks → IsUnderWay c d m → StepsStand c ss → IsUnderWay c e n × StepsStand c ts
