-- Instances whose exports are leaves, in collections with the same leaves.
use Rattle.std.proofs.Common.{◌≡◌, refl, sym, ap, ◌∙◌, List, [], ◌∷◌, All}
use Rattle.std.proofs.lemmas.List.Elements.{All-head, All-tail}
use Rattle.wac_model.specs.Text.{Text}
use Rattle.wac_model.specs.ItemTree.{Items, named, item, type_item, leaf, func, value, resource, composite, interface, no_items}
use Rattle.wac_model.specs.ValueTree.{FuncTree}
use Rattle.wac_component.specs.Collection.{Collection}
use Rattle.wac_component.specs.Key.{AllStand, interface_key, item_keys, named_keys}
use Rattle.wac_component.specs.Laws.{KeepsLeaves}
use Rattle.wac_component.specs.Tree.{item_tree, items_of}
use Rattle.wac_component.specs.declared.items.ItemKind.{ItemKind}
use Rattle.wac_component.specs.declared.items.ItemKind.TheVariants.{«Type» as OfType, Func, Instance, Component, Module, Value}
use Rattle.wac_component.specs.declared.items.Type.TheVariants.{Resource as TypeResource, Func as TypeFunc, Value as TypeValue, Interface as TypeInterface, World as TypeWorld, Module as TypeModule}
use Rattle.wac_component.specs.Entries.{exports_at}
use Rattle.wac_component.proofs.LeafTrees.{keeps-leaves}
use Rattle.wac_component.proofs.Members.{AllStand-left, AllStand-right}
use Rattle.wac_aggregator_promises.specs.Laws.{LeafInstancesFollowLeaves}
use Rattle.wac_aggregator_promises.specs.WitList.{IsLeafItem}
use Rattle.wac_aggregator_promises.proofs.Read.{interface_tree}

module _ (c d : Collection) (kept : KeepsLeaves c d) where
  leaf_kept : (x : ItemKind) → IsLeafItem x → AllStand c (item_keys x) → item_tree c x ≡ item_tree d x
  leaf_kept (Func f) h st = ap (λ (t : FuncTree). leaf item (func t)) (kept.funcs f st.0)
  leaf_kept (OfType (TypeValue v)) h st = ap (λ t. leaf type_item (value t)) (kept.values v st)
  leaf_kept (OfType (TypeResource r)) h st = ap (λ t. leaf type_item (resource t)) (kept.names r st.0)
  leaf_kept (OfType (TypeFunc f)) h st = absurd h
  leaf_kept (OfType (TypeInterface f)) h st = absurd h
  leaf_kept (OfType (TypeWorld f)) h st = absurd h
  leaf_kept (OfType (TypeModule f)) h st = absurd h
  leaf_kept (Instance f) h st = absurd h
  leaf_kept (Component f) h st = absurd h
  leaf_kept (Module f) h st = absurd h
  leaf_kept (Value f) h st = absurd h

  items_kept : (es : List (Text × ItemKind)) → All (λ (e : Text × ItemKind). IsLeafItem e.1) es → AllStand c (named_keys item_keys es) → items_of (item_tree c) es ≡ items_of (item_tree d) es
  items_kept [] h st = refl
  items_kept (e ∷ es) h st =
      let first = leaf_kept e.1 (All-head (λ (x : Text × ItemKind). IsLeafItem x.1) e es h) (AllStand-left c (item_keys e.1) (named_keys item_keys es) st) in
      let others = items_kept es (All-tail (λ (x : Text × ItemKind). IsLeafItem x.1) e es h) (AllStand-right c (item_keys e.1) (named_keys item_keys es) st) in
      λ z. named e.0 (first z) (others z)

pub leaf_instances : LeafInstancesFollowLeaves
leaf_instances c d i s t leaves st maps stand =
    interface_tree d i t st ∙ ap (λ (es : Items). composite item interface no_items es) (sym (items_kept c d (keeps-leaves c d s t leaves) (exports_at d (interface_key i)) maps stand))
