-- Types of one tree fit where one another is asked for.
use Rattle.std.proofs.Common.{◌≡◌, subst}
use Rattle.wac_model.specs.Text.{Text}
use Rattle.wac_model.specs.ValueTree.{ValueTree}
use Rattle.wac_model.specs.ItemTree.{type_item, leaf, resource, value}
use Rattle.wac_model.specs.Order.{Fits, leaves}
use Rattle.wac_component.specs.Id.{Id}
use Rattle.wac_component.specs.Collection.{Collection}
use Rattle.wac_component.specs.Tree.{root_name, value_tree, item_tree}
use Rattle.wac_component.specs.declared.items.ItemKind.TheVariants.{«Type» as OfType}
use Rattle.wac_component.specs.declared.items.Type.TheVariants.{Resource as TypeResource, Value as TypeValue}
use Rattle.wac_component.specs.declared.items.ValueType.TheVariants.{Defined}

pub resources_fit : (c f : Collection) (p q : Id) → root_name c p ≡ root_name f q → Fits (item_tree c (OfType (TypeResource p))) (item_tree f (OfType (TypeResource q)))
resources_fit c f p q e = subst (λ (n : Text). Fits (leaf type_item (resource (root_name c p))) (leaf type_item (resource n))) e leaves

pub values_fit : (c f : Collection) (p q : Id) → value_tree c (Defined p) ≡ value_tree f (Defined q) → Fits (item_tree c (OfType (TypeValue (Defined p)))) (item_tree f (OfType (TypeValue (Defined q))))
values_fit c f p q e = subst (λ (t : ValueTree). Fits (leaf type_item (value (value_tree c (Defined p)))) (leaf type_item (value t))) e leaves
