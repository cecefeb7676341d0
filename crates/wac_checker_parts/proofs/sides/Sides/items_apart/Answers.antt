use Rattle.std.proofs.Common.{rules}
use Rattle.wac_component.specs.Tree.{item_tree}
use Rattle.wac_checker_parts.specs.Items.{AreOtherItems}
use Rattle.wac_checker_parts.proofs.ExternListing.{others_differ}
use Rattle.wac_checker_parts.proofs.sides.Sides.items_apart.Goals as goal

pub returns-in_default : goal.returns-in_default
returns-in_default c =
    let others : AreOtherItems (item_tree c.args.self.now.left.now c.args.a.now) (item_tree c.args.self.now.right.now c.args.b.now) = search rules in
    others_differ c.desc.result c.desc-in_default.result (item_tree c.args.self.now.left.now c.args.a.now) (item_tree c.args.self.now.right.now c.args.b.now) c.desc.ensures c.desc-in_default.ensures others
