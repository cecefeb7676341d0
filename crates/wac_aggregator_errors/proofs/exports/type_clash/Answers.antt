use Rattle.std.proofs.Common.{ap, rules}
use Rattle.wac_model.specs.ItemTree.{type_item}
use Rattle.wac_component.specs.Tree.{item_tree}
use Rattle.wac_component.specs.Key.{interface_key, world_key}
use Rattle.wac_component.specs.declared.items.ItemKind.TheVariants.{«Type» as OfType}
use Rattle.wac_aggregator_errors.specs.Found.{IsSearchBelow}
use Rattle.wac_aggregator_errors.proofs.Reading.{of_entries, AreOthers, others_searched}
use Rattle.wac_aggregator_errors.proofs.exports.type_clash.Goals as goal

pub returns-in-Interface-Interface-clause-clash : goal.returns-in-Interface-Interface-clause-clash
returns-in-Interface-Interface-clause-clash c =
    of_entries (IsSearchBelow c.args.own.now) c.interface_clash.result type_item (interface_key c.in-Interface-Interface.x) (interface_key c.in-Interface-Interface.y) (OfType c.args.existing) (OfType c.args.new)
    (ap OfType c.in-Interface-Interface.is-0) (ap OfType c.in-Interface-Interface.is-1) c.interface_clash.ensures.clash

pub returns-in-World-World-clause-clash : goal.returns-in-World-World-clause-clash
returns-in-World-World-clause-clash c =
    of_entries (IsSearchBelow c.args.own.now) c.world_clash.result type_item (world_key c.in-World-World.x) (world_key c.in-World-World.y) (OfType c.args.existing) (OfType c.args.new)
    (ap OfType c.in-World-World.is-0) (ap OfType c.in-World-World.is-1) c.world_clash.ensures.clash

pub returns-in_default-clause-clash : goal.returns-in_default-clause-clash
returns-in_default-clause-clash c =
    let others : AreOthers (item_tree c.args.own.now (OfType c.args.existing)) (item_tree c.args.own.now (OfType c.args.new)) = search rules in
    others_searched (item_tree c.args.own.now (OfType c.args.existing)) (item_tree c.args.own.now (OfType c.args.new)) others
