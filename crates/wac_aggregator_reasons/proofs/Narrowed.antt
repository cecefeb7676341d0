-- What narrowing leaves of an item.
use Rattle.std.proofs.Common.{◌≡◌, List, ap}
use Rattle.wac_model.specs.ItemTree.{item, type_item, core_module}
use Rattle.wac_component.specs.Collection.{Collection}
use Rattle.wac_component.specs.Key.{Key, item_keys, AllStand}
use Rattle.wac_component.specs.Tree.{item_tree}
use Rattle.wac_component.specs.declared.items.ItemKind.{ItemKind}
use Rattle.wac_component.specs.declared.items.ItemKind.TheVariants.{«Type» as OfType, Func, Instance, Component, Module, Value}
use Rattle.wac_component.specs.declared.items.Type.TheVariants.{Resource as TypeResource, Func as TypeFunc, Value as TypeValue, Interface as TypeInterface, World as TypeWorld, Module as TypeModule}
use Rattle.wac_aggregator_narrowing.specs.Apart.{IsGood}
use Rattle.wac_aggregator_narrowing.specs.Narrows.{Narrows}
use Rattle.wac_aggregator_narrowing.proofs.Leaves.{modules_stay}
use Rattle.wac_aggregator_reasons.specs.Bare.{bare}
use Rattle.wac_aggregator_reasons.proofs.Bare.{IsModule, bare_same}

pub narrowed_bare : (c d : Collection) (ss ts : List Key) → IsGood c ss → Narrows c ss d ts → (x : ItemKind) → AllStand c (item_keys x) → bare (item_tree d x) ≡ bare (item_tree c x)
narrowed_bare c d ss ts g n x st = bare_same (n.fits x st) (modules x st)
  where
    modules : (x : ItemKind) → AllStand c (item_keys x) → IsModule (item_tree c x) → item_tree d x ≡ item_tree c x
    modules (Module m) st h = ap (core_module item) (modules_stay c d ss ts g n m st.0)
    modules (OfType (TypeModule m)) st h = ap (core_module type_item) (modules_stay c d ss ts g n m st.0)
    modules (OfType (TypeResource p)) st h = absurd h
    modules (OfType (TypeFunc p)) st h = absurd h
    modules (OfType (TypeValue p)) st h = absurd h
    modules (OfType (TypeInterface p)) st h = absurd h
    modules (OfType (TypeWorld p)) st h = absurd h
    modules (Func p) st h = absurd h
    modules (Instance p) st h = absurd h
    modules (Component p) st h = absurd h
    modules (Value p) st h = absurd h
