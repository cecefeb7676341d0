-- An own entry stands for a foreign one where it says the same of parts that stand for its parts.
use Rattle.std.proofs.Common.{◌≡◌, Some, slice_get, refl, ap}
use Rattle.wac_model.specs.Text.{Text}
use Rattle.wac_model.specs.ValueTree.{ValueTree, FuncTree}
use Rattle.wac_model.specs.CoreTree.{ModuleTree}
use Rattle.wac_model.specs.ItemTree.{Kind, item, type_item, leaf, core_module, resource, func, value, composite, interface, no_items, Items}
use Rattle.wac_model.specs.Order.{Fits}
use Rattle.wac_component.specs.Id.{Id}
use Rattle.wac_component.specs.Collection.{Collection, InterfaceContent, WorldContent}
use Rattle.wac_component.specs.Key.{Key, interface_key, world_key, func_key, resource_key, defined_key, module_key, Stands}
use Rattle.wac_component.specs.Sound.{IsSound}
use Rattle.wac_component.specs.Tree.{item_tree, items_of, root_name, value_tree, func_tree, module_tree, externs}
use Rattle.wac_component.specs.declared.items.ValueType.TheVariants.{Defined}
use Rattle.wac_component.proofs.Trees.{interface-externs, world-externs}
use Rattle.wac_checker_parts.specs.Externs.{AreServed}
use Rattle.wac_merge.specs.Items.{entry_item}
use Rattle.wac_aggregator_narrowing.specs.Standing.{StandsFor}
use Rattle.wac_aggregator_narrowing.specs.Taking.{SameTree}
use Rattle.wac_aggregator_narrowing.proofs.Adding.{fits_if_same}
use Rattle.wac_aggregator_narrowing.proofs.Contents.{interface_fits, world_fits}

-- of equal trees
pub stands_for_same : (f c : Collection) (theirs own : Key) → own.sort ≡ theirs.sort → Stands f theirs → Stands c own → SameTree f c theirs own → StandsFor f c theirs own
stands_for_same f c theirs own sort st so same = record {
  sort = sort;
  theirs_stands = st;
  own_stands = so;
  fits = λ k. fits_if_same (item_tree c (entry_item k own)) (item_tree f (entry_item k theirs)) (same k);
}

module _ (f c : Collection) (p q : Id) where
  pub same_resource : root_name c q ≡ root_name f p → SameTree f c (resource_key p) (resource_key q)
  same_resource h item = ap (λ (t : Text). leaf type_item (resource t)) h
  same_resource h type_item = ap (λ (t : Text). leaf type_item (resource t)) h

  pub same_value : value_tree c (Defined q) ≡ value_tree f (Defined p) → SameTree f c (defined_key p) (defined_key q)
  same_value h item = ap (λ (t : ValueTree). leaf item (value t)) h
  same_value h type_item = ap (λ (t : ValueTree). leaf type_item (value t)) h

  pub same_func : func_tree c q ≡ func_tree f p → SameTree f c (func_key p) (func_key q)
  same_func h item = ap (λ (t : FuncTree). leaf item (func t)) h
  same_func h type_item = ap (λ (t : FuncTree). leaf type_item (func t)) h

  pub same_module : module_tree c q ≡ module_tree f p → SameTree f c (module_key p) (module_key q)
  same_module h item = ap (λ (t : ModuleTree). core_module item t) h
  same_module h type_item = ap (λ (t : ModuleTree). core_module type_item t) h

  module _ (sf : IsSound f) (sc : IsSound c) where
    module _ (x z : InterfaceContent) (stp : Stands f (interface_key p)) (stq : Stands c (interface_key q)) (at_p : slice_get f.interfaces p.index ≡ Some x) (at_q : slice_get c.interfaces q.index ≡ Some z) where
      pub interface_stands_for : AreServed c f z.exports x.exports → StandsFor f c (interface_key p) (interface_key q)
      interface_stands_for served = record { sort = refl; theirs_stands = stp; own_stands = stq; fits = fits }
        where
          fits : (k : Kind) → Fits (item_tree c (entry_item k (interface_key q))) (item_tree f (entry_item k (interface_key p)))
          fits item = interface_fits c f sc sf q p z x stq stp at_q at_p served item
          fits type_item = interface_fits c f sc sf q p z x stq stp at_q at_p served type_item

      pub same_interface : items_of (item_tree c) z.exports ≡ items_of (item_tree f) x.exports → SameTree f c (interface_key p) (interface_key q)
      same_interface h = same
        where
          exports : (externs c (interface_key q)).exports ≡ (externs f (interface_key p)).exports
          exports = rw (interface-externs c q z sc stq at_q, interface-externs f p x sf stp at_p) h

          same : SameTree f c (interface_key p) (interface_key q)
          same item = ap (λ (es : Items). composite item interface no_items es) exports
          same type_item = ap (λ (es : Items). composite type_item interface no_items es) exports

    module _ (x z : WorldContent) (stp : Stands f (world_key p)) (stq : Stands c (world_key q)) (at_p : slice_get f.worlds p.index ≡ Some x) (at_q : slice_get c.worlds q.index ≡ Some z) where
      pub world_stands_for : AreServed f c x.imports z.imports → AreServed c f z.exports x.exports → StandsFor f c (world_key p) (world_key q)
      world_stands_for imports exports = record { sort = refl; theirs_stands = stp; own_stands = stq; fits = fits }
        where
          fits : (k : Kind) → Fits (item_tree c (entry_item k (world_key q))) (item_tree f (entry_item k (world_key p)))
          fits item = world_fits c f sc sf q p z x stq stp at_q at_p imports exports item
          fits type_item = world_fits c f sc sf q p z x stq stp at_q at_p imports exports type_item

      pub same_world : items_of (item_tree c) z.imports ≡ items_of (item_tree f) x.imports → items_of (item_tree c) z.exports ≡ items_of (item_tree f) x.exports → SameTree f c (world_key p) (world_key q)
      same_world is es = same
        where
          imports : (externs c (world_key q)).imports ≡ (externs f (world_key p)).imports
          imports = rw (world-externs c q z sc stq at_q, world-externs f p x sf stp at_p) is

          exports : (externs c (world_key q)).exports ≡ (externs f (world_key p)).exports
          exports = rw (world-externs c q z sc stq at_q, world-externs f p x sf stp at_p) es

          same : SameTree f c (world_key p) (world_key q)
          same item = rw (imports, exports) refl
          same type_item = rw (imports, exports) refl
