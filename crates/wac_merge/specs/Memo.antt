-- What a call remembers: the entries that it made, and what each was made for.
use Rattle.std.specs.Prelude.{◌≡◌, ◌<◌, ◌⊎◌, ◌+◌, ◌++◌, [], ◌∷◌, List, Bool, true, false, Option, Some, None, Contains, length}
use Rattle.std.specs.Option.{option_map}
use Rattle.indexmap.specs.IndexMap.{spare}
use Rattle.wac_model.specs.ItemTree.{ItemTree, Kind, item, type_item}
use Rattle.wac_model.specs.Order.{Fits}
use Rattle.wac_bounds.specs.MeetIn.{IsMeetIn}
use Rattle.wac_component.specs.Collection.{Collection}
use Rattle.wac_component.specs.Growth.{Extends}
use Rattle.wac_component.specs.Id.{Id}
use Rattle.wac_component.specs.Key.{Key, Stands, interface_key, world_key, module_key}
use Rattle.wac_component.specs.Sound.{entry_count}
use Rattle.wac_component.specs.Tree.{item_tree}
use Rattle.wac_checker.specs.Compared.{KnowsTruly}
use Rattle.wac_merge.specs.Items.{entry_item}
use Rattle.wac_merge.specs.declared.memo.Bound.{Bound}
use Rattle.wac_merge.specs.declared.memo.Bound.TheVariants.{Meet, Join}
use Rattle.wac_merge.specs.declared.memo.BoundPair.{BoundPair}
use Rattle.wac_merge.specs.declared.memo.BoundPair.TheVariants.{Interfaces, Worlds, Modules}
use Rattle.wac_merge.specs.declared.memo.Asked.{Asked}
use Rattle.wac_merge.specs.declared.memo.BoundId.{BoundId}
use Rattle.wac_merge.specs.declared.memo.BoundId.TheVariants.{Interface, World, Module}
use Rattle.wac_merge.specs.declared.memo.BoundMemo.{BoundMemo}

-- a type, or else an item
abbrev pub sort_kind : Bool → Kind
sort_kind true = type_item
sort_kind false = item

-- the first and the second of a pair
abbrev pub first_key : BoundPair → Key
first_key (Interfaces x y) = interface_key x
first_key (Worlds x y) = world_key x
first_key (Modules x y) = module_key x

abbrev pub second_key : BoundPair → Key
second_key (Interfaces x y) = interface_key y
second_key (Worlds x y) = world_key y
second_key (Modules x y) = module_key y

abbrev pub bound_key : BoundId → Key
bound_key (Interface p) = interface_key p
bound_key (World p) = world_key p
bound_key (Module p) = module_key p

-- what was made, each with what it was made for
abbrev pub Made : Type 0
Made = List (Asked × BoundId)

abbrev pub made_of : BoundMemo → Made
made_of m = m.made.entries

-- what has no bound
abbrev pub refused_of : BoundMemo → List Asked
refused_of m = m.refused.keys

-- nothing was made for this
abbrev pub IsNew : Made → Asked → Type 0
IsNew ms a = (p : BoundId) → Contains ms (a, p) → ⊥

-- what was made for this, if anything was
abbrev pub IsMadeFor : Made → Asked → Option BoundId → Type 0
IsMadeFor ms a None = IsNew ms a
IsMadeFor ms a (Some p) = Contains ms (a, p)

-- the entry that was made for this, or that it has no bound, if either is noted
abbrev pub IsToldOf : BoundMemo → Asked → Option (Option BoundId) → Type 0
IsToldOf m a None = Unit {0}
IsToldOf m a (Some None) = Contains (refused_of m) a
IsToldOf m a (Some (Some p)) = Contains (made_of m) (a, p)

-- what is refused was refused before, or is this
abbrev pub IsRefused : BoundMemo → BoundMemo → Asked → Type 0
IsRefused m n a = (b : Asked) → Contains (refused_of n) b → Contains (refused_of m) b ⊎ (b ≡ a)

-- one more entry can be noted without memory
abbrev pub HasRoom : BoundMemo → Type 0
HasRoom m = 0 < spare m.made

-- the two remember the same
pub record IsSame (m n : BoundMemo) : Type 0 where
  pub made : made_of n ≡ made_of m
  pub refused : refused_of n ≡ refused_of m
  pub compared : n.compared ≡ m.compared

-- a meet is greatest in the order of items, a join in the order turned round
abbrev pub order_of : Bound → ItemTree → ItemTree → Type 0
order_of Meet s t = Fits s t
order_of Join s t = Fits t s

-- the entry, in d, is the meet or the join of two in c, as items and as
-- types; none where there is none
abbrev pub IsBoundOf : Bound → Collection → Collection → BoundPair → Option BoundId → Type 0
IsBoundOf b c d p m = (k : Kind) → IsMeetIn (order_of b) (item_tree c (entry_item k (first_key p))) (item_tree c (entry_item k (second_key p)))
    (option_map (item_tree d) (option_map (λ e. entry_item k (bound_key e)) m))

-- what was made is what was asked for
pub record IsTrueMade (d : Collection) (x : Asked × BoundId) : Type 0 where
  pub first : Stands d (first_key x.0.pair)
  pub second : Stands d (second_key x.0.pair)
  pub stands : Stands d (bound_key x.1)
  pub bound : IsBoundOf x.0.bound d d x.0.pair (Some x.1)

-- what is refused has no bound
pub record IsTrueRefused (d : Collection) (a : Asked) : Type 0 where
  pub first : Stands d (first_key a.pair)
  pub second : Stands d (second_key a.pair)
  pub none : IsBoundOf a.bound d d a.pair None

-- nothing was made twice
abbrev pub AreMadeOnce : Made → Type 0
AreMadeOnce [] = Unit {0}
AreMadeOnce (x ∷ xs) = IsNew xs x.0 × AreMadeOnce xs

-- what is remembered is true of a collection
pub record IsTrueMemo (d : Collection) (m : BoundMemo) : Type 0 where
  pub made : (x : Asked × BoundId) → Contains (made_of m) x → IsTrueMade d x
  pub once : AreMadeOnce (made_of m)
  pub refused : (a : Asked) → Contains (refused_of m) a → IsTrueRefused d a
  pub compared : KnowsTruly d d m.compared

-- entries were only added, each is remembered, and what is remembered is true
pub record Grows (d : Collection) (m : BoundMemo) (e : Collection) (n : BoundMemo) : Type 0 where
  pub extends : Extends d e
  pub counted : entry_count e + length (made_of m) ≡ entry_count d + length (made_of n)
  pub true_memo : IsTrueMemo e n

-- what is asked for of a pair
abbrev pub asked_for : Bound → BoundPair → Asked
asked_for b p = record { bound = b; pair = p }

-- of two core module types
abbrev pub asked_of_modules : Bound → Id → Id → Asked
asked_of_modules b x y = asked_for b (Modules x y)

-- the entry was made before for what is asked, and nothing is added; or it is made now, and noted
pub data IsBoundMade (d : Collection) (m : BoundMemo) (e : Collection) (n : BoundMemo) (a : Asked) (p : BoundId) (IsAdded : Type 0) : Type 0 where
  before : Contains (made_of m) (a, p) → e ≡ d → IsSame m n → IsBoundMade d m e n a p IsAdded
  now : IsNew (made_of m) a → IsAdded → made_of n ≡ made_of m ++ (a, p) ∷ [] → refused_of n ≡ refused_of m → n.compared ≡ m.compared → IsBoundMade d m e n a p IsAdded

-- the same of an entry of one sort, of which this holds where it is made now
abbrev pub IsMadeAs : Collection → BoundMemo → Collection → BoundMemo → Asked → (Id → BoundId) → (Id → Type 0) → BoundId → Type 0
IsMadeAs d m e n a of_sort IsAdded p = IsBoundMade d m e n a p ((q : Id) × (p ≡ of_sort q) × IsAdded q)
