-- What is believed of a cache, and of which pairs of entries it says that they fit.
use Rattle.std.specs.Prelude.{◌≡◌, ◌⊎◌, List, [], Contains, Option, Some, None, option_copied}
use Rattle.std.specs.HashSet.{HashSet}
use Rattle.wac_component.specs.Id.{Id}
use Rattle.wac_component.specs.Collection.{Collection}
use Rattle.wac_component.specs.Key.{item_keys}
use Rattle.wac_component.specs.declared.items.ItemKind.{ItemKind}
use Rattle.wac_component.specs.declared.items.ItemKind.TheVariants.{«Type» as OfType, Func, Instance, Component, Module, Value}
use Rattle.wac_component.specs.declared.items.Type.TheVariants.{Func as TypeFunc, Interface as TypeInterface, World as TypeWorld, Module as TypeModule, Value as TypeValue}
use Rattle.wac_component.specs.declared.items.ValueType.TheVariants.{Defined}
use Rattle.wac_checker.specs.Cache.{AreInOrder, Pair}
use Rattle.wac_checker_parts.specs.Pairs.{IsFitting, id_in, left_of, right_of}
use Rattle.wac_checker.specs.declared.cache.Believed.{Believed}
use Rattle.wac_checker_parts.specs.declared.parts.EntryPair.{EntryPair}
use Rattle.wac_checker_parts.specs.declared.parts.PairSort.{PairSort}
use Rattle.wac_checker_parts.specs.declared.parts.PairSort.TheVariants as sort

abbrev pub keys_if_any : {S : Type 0} → Option (HashSet Pair S) → List Pair
keys_if_any None = []
keys_if_any (Some cache) = cache.keys

-- the pairs that are believed: those of a cache, or none
abbrev pub told : Believed → List Pair
told b = keys_if_any (option_copied b.cache)

-- an entry as an item, and as the type of one
abbrev pub item_by : PairSort → Id → ItemKind
item_by sort.Defined a = Value (Defined a)
item_by sort.Func a = Func a
item_by sort.Interface a = Instance a
item_by sort.World a = Component a
item_by sort.Module a = Module a

abbrev pub type_by : PairSort → Id → ItemKind
type_by sort.Defined a = OfType (TypeValue (Defined a))
type_by sort.Func a = OfType (TypeFunc a)
type_by sort.Interface a = OfType (TypeInterface a)
type_by sort.World a = OfType (TypeWorld a)
type_by sort.Module a = OfType (TypeModule a)

-- the two entries of a pair are there, as two items or as two types
abbrev pub AreAmong : List Pair → Collection → Collection → EntryPair → Type 0
AreAmong ps l r p = Contains ps (item_by p.sort (id_in l p.left), item_by p.sort (id_in r p.right)) ⊎ Contains ps (type_by p.sort (id_in l p.left), type_by p.sort (id_in r p.right))

abbrev pub IsPairAmong : List Pair → Collection → Collection → EntryPair → Type 0
IsPairAmong ps c d p = AreAmong ps (left_of c d p.swapped) (right_of c d p.swapped) p

-- a pair fits, if the pairs that are believed are in the order
abbrev pub IsFittingBy : List Pair → Collection → Collection → EntryPair → Type 0
IsFittingBy ps c d p = AreInOrder c d ps → IsFitting c d p

-- what is believed bears on two items: each of them has an id. Then it has to be in the order
abbrev pub MayBelieve : List Pair → Collection → Collection → ItemKind → ItemKind → Type 0
MayBelieve ps c d x y = ¬ (item_keys x ≡ []) → ¬ (item_keys y ≡ []) → AreInOrder c d ps
