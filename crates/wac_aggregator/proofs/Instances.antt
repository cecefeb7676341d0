-- Instances, by their trees and as what was taken in.
use Rattle.std.proofs.Common.{◌≡◌, [], ◌∷◌, refl}
use Rattle.wac_model.specs.ItemTree.{ItemTree, Items, item, interface, composite}
use Rattle.wac_model.specs.Order.{Fits, composites}
use Rattle.wac_component.specs.Collection.{Collection}
use Rattle.wac_component.specs.Id.{Id}
use Rattle.wac_component.specs.Key.{Key}
use Rattle.wac_component.specs.Tree.{item_tree}
use Rattle.wac_component.specs.declared.items.ItemKind.{ItemKind}
use Rattle.wac_component.specs.declared.items.ItemKind.TheVariants.{«Type» as OfType, Func, Instance, Component, Module, Value}
use Rattle.wac_component.specs.declared.items.Type.TheVariants.{Resource as TypeResource, Func as TypeFunc, Value as TypeValue, Interface as TypeInterface, World as TypeWorld, Module as TypeModule}
use Rattle.wac_names.specs.Class.{class_of}
use Rattle.wac_aggregator_narrowing.specs.State.{State}
use Rattle.wac_aggregator_narrowing.specs.Taking.{AreTakenKeys, one_key, IsTakenKey}

-- an item with the tree of an interface is an instance of one, as is
-- what fits where one is asked for
abbrev pub IsInstanceTree : ItemTree → Type 0
IsInstanceTree (composite item interface i e) = Unit {0}
IsInstanceTree t = ⊥

pub instance_fits : {a : ItemTree} {i e : Items} → Fits a (composite item interface i e) → IsInstanceTree a
instance_fits (composites p q) = tt

pub instance_of : (c : Collection) (x : ItemKind) → IsInstanceTree (item_tree c x) → (r : Id) × (x ≡ Instance r)
instance_of c (Instance r) h = (r, refl)
instance_of c (Component p) h = absurd h
instance_of c (OfType (TypeInterface p)) h = absurd h
instance_of c (OfType (TypeWorld p)) h = absurd h
instance_of c (OfType (TypeResource p)) h = absurd h
instance_of c (OfType (TypeFunc p)) h = absurd h
instance_of c (OfType (TypeValue p)) h = absurd h
instance_of c (OfType (TypeModule p)) h = absurd h
instance_of c (Func p) h = absurd h
instance_of c (Module p) h = absurd h
instance_of c (Value p) h = absurd h

-- what one id alone was taken in as
pub first_key : (f : Collection) (s : State) (theirs own : Key) → AreTakenKeys class_of f s (theirs ∷ []) (own ∷ []) → IsTakenKey class_of f s theirs own
first_key f s theirs own (one_key h rest) = h
