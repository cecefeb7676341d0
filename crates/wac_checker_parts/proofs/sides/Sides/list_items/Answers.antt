use Rattle.std.proofs.Common.{◌+◌, ◌∙◌, Ok, arith}
use Rattle.wac_component.proofs.Members.{AllStand-member, keys_height-member}
use Rattle.wac_model.specs.ValueTree.{tuple}
use Rattle.wac_checker_parts.specs.Content.{composed_side}
use Rattle.wac_checker_parts.specs.Listing.{members_height}
use Rattle.wac_checker_parts.proofs.DifferenceLemmas.{tuples_differ}
use Rattle.wac_checker_parts.proofs.ListingLemmas.{none_listed, not_whole, halted, turn_done, turn_last, turn_other}
use Rattle.wac_checker_parts.proofs.PartLemmas.{items_at, tuples_same}
use Rattle.wac_checker_parts.proofs.sides.Sides.list_items.Goals as goal

pub returns-then-a-b-clause-listed : goal.returns-then-a-b-clause-listed
returns-then-a-b-clause-listed c = (none_listed c.args.self.now.left.now c.args.self.now.right.now c.args.self.now.swapped (composed_side c.args.self.now.left.now tuple c.args.a.now) (composed_side c.args.self.now.right.now tuple c.args.b.now) (members_height c.args.self.now.left.now c.args.a.now) (members_height c.args.self.now.right.now c.args.b.now) c.args.parts.now.items c.requires.none, tuples_differ c.args.self.now.left.now c.args.self.now.right.now c.args.a.now c.args.b.now (λ e. absurd (omega (arith, e, c.if-a-b.true))))

pub list_values-requires-clause-left : goal.list_values-requires-clause-left
list_values-requires-clause-left c = AllStand-member c.args.self.now.left.now c.args.a.now c.loop-i.i c.nth_type.result.now c.nth_type.ensures c.requires.left

pub list_values-requires-clause-right : goal.list_values-requires-clause-right
list_values-requires-clause-right c = AllStand-member c.args.self.now.right.now c.args.b.now c.loop-i.i c.nth_type-in-loop-i.result.now c.nth_type-in-loop-i.ensures c.requires.right

pub returns-in_err-list_values-clause-listed : goal.returns-in_err-list_values-clause-listed
returns-in_err-list_values-clause-listed c =
    let left = keys_height-member c.args.self.now.left.now c.args.a.now c.loop-i.i c.nth_type.result.now c.nth_type.ensures in
    let right = keys_height-member c.args.self.now.right.now c.args.b.now c.loop-i.i c.nth_type-in-loop-i.result.now c.nth_type-in-loop-i.ensures in
    rw (halted c.from_residual.result c.list_values.result c.in_err-list_values.field-0.0 c.from_residual.ensures.1 c.in_err-list_values.was) (turn_other c.args.self.now.left.now c.args.self.now.right.now c.args.self.now.swapped (composed_side c.args.self.now.left.now tuple c.args.a.now) (composed_side c.args.self.now.right.now tuple c.args.b.now) (members_height c.args.self.now.left.now c.args.a.now) (members_height c.args.self.now.right.now c.args.b.now) (c.loop-i.i + 1) c.list_values.new.parts.items c.list_values.result (not_whole c.list_values.result c.in_err-list_values.field-0.0 c.in_err-list_values.was) (turn_last c.args.self.now.left.now c.args.self.now.right.now c.args.self.now.swapped (composed_side c.args.self.now.left.now tuple c.args.a.now) (composed_side c.args.self.now.right.now tuple c.args.b.now) (members_height c.args.self.now.left.now c.args.a.now) (members_height c.args.self.now.right.now c.args.b.now) c.loop-i.i c.nth_type.result.now c.nth_type-in-loop-i.result.now c.loop-i.parts.items c.list_values.new.parts.items (omega arith) (items_at c.args.self.now.left.now c.args.self.now.right.now c.args.a.now c.args.b.now c.loop-i.i c.nth_type.result.now c.nth_type-in-loop-i.result.now c.nth_type.ensures c.nth_type-in-loop-i.ensures) (omega (arith, left)) (omega (arith, right)) c.list_values.result c.list_values.ensures.listed c.loop-i.invariant.turn))

pub loop-i-preserved : goal.loop-i-preserved
loop-i-preserved c =
    let left = keys_height-member c.args.self.now.left.now c.args.a.now c.loop-i.i c.nth_type.result.now c.nth_type.ensures in
    let right = keys_height-member c.args.self.now.right.now c.args.b.now c.loop-i.i c.nth_type-in-loop-i.result.now c.nth_type-in-loop-i.ensures in
    record { count = c.loop-i.invariant.count; turn = turn_last c.args.self.now.left.now c.args.self.now.right.now c.args.self.now.swapped (composed_side c.args.self.now.left.now tuple c.args.a.now) (composed_side c.args.self.now.right.now tuple c.args.b.now) (members_height c.args.self.now.left.now c.args.a.now) (members_height c.args.self.now.right.now c.args.b.now) c.loop-i.i c.nth_type.result.now c.nth_type-in-loop-i.result.now c.loop-i.parts.items c.list_values.new.parts.items (omega arith) (items_at c.args.self.now.left.now c.args.self.now.right.now c.args.a.now c.args.b.now c.loop-i.i c.nth_type.result.now c.nth_type-in-loop-i.result.now c.nth_type.ensures c.nth_type-in-loop-i.ensures) (omega (arith, left)) (omega (arith, right)) (Ok tt) c.in_ok-list_values.ensures.listed c.loop-i.invariant.turn; kept = c.list_values.ensures.kept ∙ c.loop-i.invariant.kept }

pub returns-clause-listed : goal.returns-clause-listed
returns-clause-listed c = turn_done c.args.self.now.left.now c.args.self.now.right.now c.args.self.now.swapped (composed_side c.args.self.now.left.now tuple c.args.a.now) (composed_side c.args.self.now.right.now tuple c.args.b.now) (members_height c.args.self.now.left.now c.args.a.now) (members_height c.args.self.now.right.now c.args.b.now) c.loop-i.i c.loop-i.parts.items (Ok tt) c.loop-i.invariant.turn (λ same. tuples_same c.args.self.now.left.now c.args.self.now.right.now c.args.a.now c.args.b.now c.loop-i.i c.loop-i.invariant.count (omega arith) same)
