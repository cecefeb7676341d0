use Rattle.std.proofs.Common.{ap, sym, subst₂, arith}
use Rattle.wac_component.specs.Id.{Id}
use Rattle.wac_component.specs.Content.{world_content}
use Rattle.wac_component.specs.Tree.{Externs}
use Rattle.wac_component.proofs.Members.{world_imports_stand, world_imports_lower, world_exports_stand, world_exports_lower}
use Rattle.wac_checker_parts.specs.Pairs.{Worlds}
use Rattle.wac_checker_parts.specs.Listing.{IsTurn}
use Rattle.wac_checker_parts.proofs.ExternListing.{world_imports, world_turn}
use Rattle.wac_checker_parts.proofs.ExternPartLemmas.{named_length}
use Rattle.wac_checker_parts.proofs.ListingLemmas.{not_whole, halted}
use Rattle.wac_checker_parts.proofs.sides.Sides.list_world.Goals as goal

pub list_imports-requires-clause-left : goal.list_imports-requires-clause-left
list_imports-requires-clause-left c = world_imports_stand c.args.self.now.left.now (world_content c.index-left.result.now) c.index-left.ensures.standing

pub list_imports-requires-clause-right : goal.list_imports-requires-clause-right
list_imports-requires-clause-right c = world_imports_stand c.args.self.now.right.now (world_content c.index-right.result.now) c.index-right.ensures.standing

pub list_exports-requires-clause-left : goal.list_exports-requires-clause-left
list_exports-requires-clause-left c = world_exports_stand c.args.self.now.left.now (world_content c.index-left.result.now) c.index-left.ensures.standing

pub list_exports-requires-clause-right : goal.list_exports-requires-clause-right
list_exports-requires-clause-right c = world_exports_stand c.args.self.now.right.now (world_content c.index-right.result.now) c.index-right.ensures.standing

pub returns-clause-listed : goal.returns-clause-listed
returns-clause-listed c =
    let left_imports = world_imports_lower c.args.self.now.left.now (world_content c.index-left.result.now) in
    let right_imports = world_imports_lower c.args.self.now.right.now (world_content c.index-right.result.now) in
    let left_exports = world_exports_lower c.args.self.now.left.now (world_content c.index-left.result.now) in
    let right_exports = world_exports_lower c.args.self.now.right.now (world_content c.index-right.result.now) in
    let count = named_length c.index-left.result.now.imports.entries in
    subst₂ (λ (a b : Id). IsTurn c.args.self.now.left.now c.args.self.now.right.now c.args.self.now.swapped (Worlds a b) c.list_exports.new.parts.items c.list_exports.result) c.world_at-a.ensures c.world_at-b.ensures
    (world_turn c.args.self.now.left.now c.args.self.now.right.now c.args.self.now.swapped c.world_at-a.result c.world_at-b.result (world_content c.index-left.result.now).imports (world_content c.index-right.result.now).imports (world_content c.index-left.result.now).exports (world_content c.index-right.result.now).exports (ap (λ (e : Externs). e.imports) c.index-left.ensures.tree) (ap (λ (e : Externs). e.imports) c.index-right.ensures.tree) (ap (λ (e : Externs). e.exports) c.index-left.ensures.tree) (ap (λ (e : Externs). e.exports) c.index-right.ensures.tree) (omega (arith, left_imports, c.index-left.ensures.lower)) (omega (arith, right_imports, c.index-right.ensures.lower)) (omega (arith, left_exports, c.index-left.ensures.lower)) (omega (arith, right_exports, c.index-right.ensures.lower)) (omega (arith, count)) c.list_imports.new.parts.items c.list_exports.new.parts.items c.in_ok-list_imports.ensures.listed c.list_exports.result (rw (c.len-imports.ensures.len, sym count) at c.list_exports.ensures.listed))

pub returns-in_err-list_imports-clause-listed : goal.returns-in_err-list_imports-clause-listed
returns-in_err-list_imports-clause-listed c =
    let left_imports = world_imports_lower c.args.self.now.left.now (world_content c.index-left.result.now) in
    let right_imports = world_imports_lower c.args.self.now.right.now (world_content c.index-right.result.now) in
    let left_exports = world_exports_lower c.args.self.now.left.now (world_content c.index-left.result.now) in
    let right_exports = world_exports_lower c.args.self.now.right.now (world_content c.index-right.result.now) in
    let count = named_length c.index-left.result.now.imports.entries in
    rw (halted c.from_residual.result c.list_imports.result c.in_err-list_imports.field-0.0 c.from_residual.ensures.1 c.in_err-list_imports.was) (subst₂ (λ (a b : Id). IsTurn c.args.self.now.left.now c.args.self.now.right.now c.args.self.now.swapped (Worlds a b) c.list_imports.new.parts.items c.list_imports.result) c.world_at-a.ensures c.world_at-b.ensures
    (world_imports c.args.self.now.left.now c.args.self.now.right.now c.args.self.now.swapped c.world_at-a.result c.world_at-b.result (world_content c.index-left.result.now).imports (world_content c.index-right.result.now).imports (world_content c.index-left.result.now).exports (world_content c.index-right.result.now).exports (ap (λ (e : Externs). e.imports) c.index-left.ensures.tree) (ap (λ (e : Externs). e.imports) c.index-right.ensures.tree) (ap (λ (e : Externs). e.exports) c.index-left.ensures.tree) (ap (λ (e : Externs). e.exports) c.index-right.ensures.tree) (omega (arith, left_imports, c.index-left.ensures.lower)) (omega (arith, right_imports, c.index-right.ensures.lower)) (omega (arith, left_exports, c.index-left.ensures.lower)) (omega (arith, right_exports, c.index-right.ensures.lower)) (omega (arith, count)) c.list_imports.new.parts.items c.list_imports.result (not_whole c.list_imports.result c.in_err-list_imports.field-0.0 c.in_err-list_imports.was) c.list_imports.ensures.listed))
