use Rattle.std.proofs.Common.{ap, subst₂, arith}
use Rattle.wac_component.specs.Id.{Id}
use Rattle.wac_component.specs.Content.{interface_content}
use Rattle.wac_component.specs.Tree.{Externs}
use Rattle.wac_component.proofs.Members.{exports_stand, exports_lower}
use Rattle.wac_checker_parts.specs.Pairs.{Interfaces}
use Rattle.wac_checker_parts.specs.Listing.{IsTurn}
use Rattle.wac_checker_parts.proofs.ExternListing.{interface_turn}
use Rattle.wac_checker_parts.proofs.sides.Sides.list_interface.Goals as goal

pub list_exports-requires-clause-left : goal.list_exports-requires-clause-left
list_exports-requires-clause-left c = exports_stand c.args.self.now.left.now (interface_content c.index.result.now) c.index.ensures.standing

pub list_exports-requires-clause-right : goal.list_exports-requires-clause-right
list_exports-requires-clause-right c = exports_stand c.args.self.now.right.now (interface_content c.index-2.result.now) c.index-2.ensures.standing

pub returns-clause-listed : goal.returns-clause-listed
returns-clause-listed c =
    let left = exports_lower c.args.self.now.left.now (interface_content c.index.result.now) in
    let right = exports_lower c.args.self.now.right.now (interface_content c.index-2.result.now) in
    subst₂ (λ (a b : Id). IsTurn c.args.self.now.left.now c.args.self.now.right.now c.args.self.now.swapped (Interfaces a b) c.list_exports.new.parts.items c.list_exports.result) c.interface_at-a.ensures c.interface_at-b.ensures
    (interface_turn c.args.self.now.left.now c.args.self.now.right.now c.args.self.now.swapped c.interface_at-a.result c.interface_at-b.result (interface_content c.index.result.now).exports (interface_content c.index-2.result.now).exports c.list_exports.new.parts.items (ap (λ (e : Externs). e.exports) c.index.ensures.tree) (ap (λ (e : Externs). e.exports) c.index-2.ensures.tree) (omega (arith, left, c.index.ensures.lower)) (omega (arith, right, c.index-2.ensures.lower)) c.list_exports.result (rw c.requires.none at c.list_exports.ensures.listed))
