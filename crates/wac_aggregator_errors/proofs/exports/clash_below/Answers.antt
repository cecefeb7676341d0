use Rattle.std.proofs.Common.{rules}
use Rattle.wac_component.specs.Tree.{item_tree}
use Rattle.wac_model.specs.ItemTree.{item}
use Rattle.wac_component.specs.Key.{interface_key, world_key}
use Rattle.wac_aggregator_errors.specs.Found.{IsSearchBelow}
use Rattle.wac_aggregator_errors.proofs.Reading.{of_entries, AreOthers, others_searched}
use Rattle.wac_aggregator_errors.proofs.exports.clash_below.Goals as goal

pub returns-in-Instance-Instance-clause-clash : goal.returns-in-Instance-Instance-clause-clash
returns-in-Instance-Instance-clause-clash c =
    of_entries (IsSearchBelow c.args.own.now) c.interface_clash.result item (interface_key c.in-Instance-Instance.x) (interface_key c.in-Instance-Instance.y) c.args.existing c.args.new
    c.in-Instance-Instance.is-0 c.in-Instance-Instance.is-1 c.interface_clash.ensures.clash

pub returns-in-Component-Component-clause-clash : goal.returns-in-Component-Component-clause-clash
returns-in-Component-Component-clause-clash c =
    of_entries (IsSearchBelow c.args.own.now) c.world_clash.result item (world_key c.in-Component-Component.x) (world_key c.in-Component-Component.y) c.args.existing c.args.new
    c.in-Component-Component.is-0 c.in-Component-Component.is-1 c.world_clash.ensures.clash

pub returns-in_default-clause-clash : goal.returns-in_default-clause-clash
returns-in_default-clause-clash c =
    let others : AreOthers (item_tree c.args.own.now c.args.existing) (item_tree c.args.own.now c.args.new) = search rules in
    others_searched (item_tree c.args.own.now c.args.existing) (item_tree c.args.own.now c.args.new) others
