use Rattle.std.proofs.Common.{◌≡◌, ◌+◌, ◌∙◌, Ok, string_bytes, Some, ap, arith}
use Rattle.wac_component.proofs.Members.{AllStand-member, keys_height-member}
use Rattle.wac_component.specs.Content.{names, types_of}
use Rattle.wac_model.specs.ValueTree.{record_of}
use Rattle.wac_checker_parts.specs.Content.{composed_side}
use Rattle.wac_checker_parts.specs.Listing.{members_height}
use Rattle.wac_checker_parts.proofs.ListingLemmas.{not_whole, halted, turn_done, turn_last, turn_other}
use Rattle.wac_checker_parts.proofs.NameLemmas.{same_text}
use Rattle.wac_checker_parts.proofs.PartLemmas.{fields_at, records_same}
use Rattle.wac_checker_parts.proofs.sides.Sides.list_record.Goals as goal

pub list_values-requires-clause-left : goal.list_values-requires-clause-left
list_values-requires-clause-left c = AllStand-member c.args.self.now.left.now (types_of c.args.a.now.entries) c.loop-i.i c.entry_at.result.1.now c.entry_at.ensures.ty c.requires.left

pub list_values-requires-clause-right : goal.list_values-requires-clause-right
list_values-requires-clause-right c = AllStand-member c.args.self.now.right.now (types_of c.args.b.now.entries) c.loop-i.i c.entry_at-in-loop-i.result.1.now c.entry_at-in-loop-i.ensures.ty c.requires.right

pub returns-in_err-list_values-clause-listed : goal.returns-in_err-list_values-clause-listed
returns-in_err-list_values-clause-listed c =
    let same_name : string_bytes c.entry_at.result.0.now ≡ string_bytes c.entry_at-in-loop-i.result.0.now = same_text c.entry_at.result.0.now c.entry_at-in-loop-i.result.0.now c.ne.result c.ne.ensures c.if-ne.false in
    let left = keys_height-member c.args.self.now.left.now (types_of c.args.a.now.entries) c.loop-i.i c.entry_at.result.1.now c.entry_at.ensures.ty in
    let right = keys_height-member c.args.self.now.right.now (types_of c.args.b.now.entries) c.loop-i.i c.entry_at-in-loop-i.result.1.now c.entry_at-in-loop-i.ensures.ty in
    rw (halted c.from_residual.result c.list_values.result c.in_err-list_values.field-0.0 c.from_residual.ensures.1 c.in_err-list_values.was) (turn_other c.args.self.now.left.now c.args.self.now.right.now c.args.self.now.swapped (composed_side c.args.self.now.left.now (record_of (names c.args.a.now.entries)) (types_of c.args.a.now.entries)) (composed_side c.args.self.now.right.now (record_of (names c.args.b.now.entries)) (types_of c.args.b.now.entries)) (members_height c.args.self.now.left.now (types_of c.args.a.now.entries)) (members_height c.args.self.now.right.now (types_of c.args.b.now.entries)) (c.loop-i.i + 1) c.list_values.new.parts.items c.list_values.result (not_whole c.list_values.result c.in_err-list_values.field-0.0 c.in_err-list_values.was) (turn_last c.args.self.now.left.now c.args.self.now.right.now c.args.self.now.swapped (composed_side c.args.self.now.left.now (record_of (names c.args.a.now.entries)) (types_of c.args.a.now.entries)) (composed_side c.args.self.now.right.now (record_of (names c.args.b.now.entries)) (types_of c.args.b.now.entries)) (members_height c.args.self.now.left.now (types_of c.args.a.now.entries)) (members_height c.args.self.now.right.now (types_of c.args.b.now.entries)) c.loop-i.i c.entry_at.result.1.now c.entry_at-in-loop-i.result.1.now c.loop-i.parts.items c.list_values.new.parts.items (omega arith) (fields_at c.args.self.now.left.now c.args.self.now.right.now c.args.a.now.entries c.args.b.now.entries c.loop-i.i (string_bytes c.entry_at-in-loop-i.result.0.now) c.entry_at.result.1.now c.entry_at-in-loop-i.result.1.now (c.entry_at.ensures.name ∙ ap Some same_name) c.entry_at-in-loop-i.ensures.name c.entry_at.ensures.ty c.entry_at-in-loop-i.ensures.ty (rw same_name at c.entry_at.ensures.lookup) c.entry_at-in-loop-i.ensures.lookup) (omega (arith, left)) (omega (arith, right)) c.list_values.result c.list_values.ensures.listed c.loop-i.invariant.turn))

pub loop-i-preserved : goal.loop-i-preserved
loop-i-preserved c =
    let same_name : string_bytes c.entry_at.result.0.now ≡ string_bytes c.entry_at-in-loop-i.result.0.now = same_text c.entry_at.result.0.now c.entry_at-in-loop-i.result.0.now c.ne.result c.ne.ensures c.if-ne.false in
    let left = keys_height-member c.args.self.now.left.now (types_of c.args.a.now.entries) c.loop-i.i c.entry_at.result.1.now c.entry_at.ensures.ty in
    let right = keys_height-member c.args.self.now.right.now (types_of c.args.b.now.entries) c.loop-i.i c.entry_at-in-loop-i.result.1.now c.entry_at-in-loop-i.ensures.ty in
    record { count = c.loop-i.invariant.count; turn = turn_last c.args.self.now.left.now c.args.self.now.right.now c.args.self.now.swapped (composed_side c.args.self.now.left.now (record_of (names c.args.a.now.entries)) (types_of c.args.a.now.entries)) (composed_side c.args.self.now.right.now (record_of (names c.args.b.now.entries)) (types_of c.args.b.now.entries)) (members_height c.args.self.now.left.now (types_of c.args.a.now.entries)) (members_height c.args.self.now.right.now (types_of c.args.b.now.entries)) c.loop-i.i c.entry_at.result.1.now c.entry_at-in-loop-i.result.1.now c.loop-i.parts.items c.list_values.new.parts.items (omega arith) (fields_at c.args.self.now.left.now c.args.self.now.right.now c.args.a.now.entries c.args.b.now.entries c.loop-i.i (string_bytes c.entry_at-in-loop-i.result.0.now) c.entry_at.result.1.now c.entry_at-in-loop-i.result.1.now (c.entry_at.ensures.name ∙ ap Some same_name) c.entry_at-in-loop-i.ensures.name c.entry_at.ensures.ty c.entry_at-in-loop-i.ensures.ty (rw same_name at c.entry_at.ensures.lookup) c.entry_at-in-loop-i.ensures.lookup) (omega (arith, left)) (omega (arith, right)) (Ok tt) c.in_ok-list_values.ensures.listed c.loop-i.invariant.turn; kept = c.list_values.ensures.kept ∙ c.loop-i.invariant.kept }

pub returns-clause-listed : goal.returns-clause-listed
returns-clause-listed c = turn_done c.args.self.now.left.now c.args.self.now.right.now c.args.self.now.swapped (composed_side c.args.self.now.left.now (record_of (names c.args.a.now.entries)) (types_of c.args.a.now.entries)) (composed_side c.args.self.now.right.now (record_of (names c.args.b.now.entries)) (types_of c.args.b.now.entries)) (members_height c.args.self.now.left.now (types_of c.args.a.now.entries)) (members_height c.args.self.now.right.now (types_of c.args.b.now.entries)) c.loop-i.i c.loop-i.parts.items (Ok tt) c.loop-i.invariant.turn (λ same. records_same c.args.self.now.left.now c.args.self.now.right.now c.args.a.now.entries c.args.b.now.entries c.loop-i.i c.loop-i.invariant.count (omega arith) same)
