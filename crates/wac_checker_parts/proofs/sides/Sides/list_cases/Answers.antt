use Rattle.std.proofs.Common.{◌≡◌, ◌+◌, ◌∙◌, inl, Ok, string_bytes, Some, ap, arith}
use Rattle.wac_component.specs.Content.{names, case_types}
use Rattle.wac_mismatch.specs.declared.fault.CountOf.TheVariants as count_of
use Rattle.wac_mismatch.specs.declared.fault.NameOf.TheVariants as name_of
use Rattle.wac_checker_parts.specs.Content.{variant_side}
use Rattle.wac_checker_parts.specs.Listing.{members_height}
use Rattle.wac_checker_parts.proofs.DefinedListing.{cases_stand, cases_turn}
use Rattle.wac_checker_parts.proofs.DifferenceLemmas.{variants_by}
use Rattle.wac_checker_parts.proofs.ListingLemmas.{not_whole, halted, turn_done, turn_other}
use Rattle.wac_checker_parts.proofs.NameLemmas.{same_text, other_text, names_refuse}
use Rattle.wac_checker_parts.proofs.PartLemmas.{variants_same}
use Rattle.wac_checker_parts.proofs.sides.Sides.list_cases.Goals as goal

pub returns-then-ne-clause-listed : goal.returns-then-ne-clause-listed
returns-then-ne-clause-listed c = (c.loop-i.invariant.turn.0, λ check f is. inl (variants_by c.args.self.now.left.now c.args.self.now.right.now c.args.a.now.entries c.args.b.now.entries check f (names_refuse check count_of.Variant name_of.Variant f c.loop-i.i (string_bytes c.entry_at.result.0.now) (string_bytes c.entry_at-in-loop-i.result.0.now) (names c.args.a.now.entries) (names c.args.b.now.entries) (other_text c.entry_at.result.0.now c.entry_at-in-loop-i.result.0.now c.ne.result c.ne.ensures c.if-ne.true) c.entry_at.ensures.name c.entry_at-in-loop-i.ensures.name is)))

pub list_optional-requires-clause-left : goal.list_optional-requires-clause-left
list_optional-requires-clause-left c = cases_stand c.args.self.now.left.now c.args.a.now.entries c.loop-i.i c.entry_at.result.1.now c.entry_at.ensures.ty c.requires.left

pub list_optional-requires-clause-right : goal.list_optional-requires-clause-right
list_optional-requires-clause-right c = cases_stand c.args.self.now.right.now c.args.b.now.entries c.loop-i.i c.entry_at-in-loop-i.result.1.now c.entry_at-in-loop-i.ensures.ty c.requires.right

pub returns-in_err-list_optional-clause-listed : goal.returns-in_err-list_optional-clause-listed
returns-in_err-list_optional-clause-listed c =
    let same_name : string_bytes c.entry_at.result.0.now ≡ string_bytes c.entry_at-in-loop-i.result.0.now = same_text c.entry_at.result.0.now c.entry_at-in-loop-i.result.0.now c.ne.result c.ne.ensures c.if-ne.false in
    rw (halted c.from_residual.result c.list_optional.result c.in_err-list_optional.field-0.0 c.from_residual.ensures.1 c.in_err-list_optional.was) (turn_other c.args.self.now.left.now c.args.self.now.right.now c.args.self.now.swapped (variant_side c.args.self.now.left.now c.args.a.now.entries) (variant_side c.args.self.now.right.now c.args.b.now.entries) (members_height c.args.self.now.left.now (case_types c.args.a.now.entries)) (members_height c.args.self.now.right.now (case_types c.args.b.now.entries)) (c.loop-i.i + 1) c.list_optional.new.parts.items c.list_optional.result (not_whole c.list_optional.result c.in_err-list_optional.field-0.0 c.in_err-list_optional.was) (cases_turn c.args.self.now.left.now c.args.self.now.right.now c.args.self.now.swapped c.args.a.now.entries c.args.b.now.entries c.loop-i.i c.entry_at-in-loop-i.result.0 c.loop-i.parts.items c.list_optional.new.parts.items (omega arith) (c.entry_at.ensures.name ∙ ap Some same_name) c.entry_at-in-loop-i.ensures.name c.entry_at.result.1.now c.entry_at-in-loop-i.result.1.now c.list_optional.result c.entry_at.ensures.ty c.entry_at-in-loop-i.ensures.ty (rw same_name at c.entry_at.ensures.lookup) c.entry_at-in-loop-i.ensures.lookup (rw (c.is_some.ensures, c.is_some-in-loop-i.ensures) at c.list_optional.ensures.listed) c.loop-i.invariant.turn))

pub loop-i-preserved : goal.loop-i-preserved
loop-i-preserved c =
    let same_name : string_bytes c.entry_at.result.0.now ≡ string_bytes c.entry_at-in-loop-i.result.0.now = same_text c.entry_at.result.0.now c.entry_at-in-loop-i.result.0.now c.ne.result c.ne.ensures c.if-ne.false in
    record { count = c.loop-i.invariant.count; turn = cases_turn c.args.self.now.left.now c.args.self.now.right.now c.args.self.now.swapped c.args.a.now.entries c.args.b.now.entries c.loop-i.i c.entry_at-in-loop-i.result.0 c.loop-i.parts.items c.list_optional.new.parts.items (omega arith) (c.entry_at.ensures.name ∙ ap Some same_name) c.entry_at-in-loop-i.ensures.name c.entry_at.result.1.now c.entry_at-in-loop-i.result.1.now (Ok tt) c.entry_at.ensures.ty c.entry_at-in-loop-i.ensures.ty (rw same_name at c.entry_at.ensures.lookup) c.entry_at-in-loop-i.ensures.lookup (rw (c.is_some.ensures, c.is_some-in-loop-i.ensures) at (rw c.in_ok-list_optional.was at c.list_optional.ensures.listed)) c.loop-i.invariant.turn; kept = c.list_optional.ensures.kept ∙ c.loop-i.invariant.kept }

pub returns-clause-listed : goal.returns-clause-listed
returns-clause-listed c = turn_done c.args.self.now.left.now c.args.self.now.right.now c.args.self.now.swapped (variant_side c.args.self.now.left.now c.args.a.now.entries) (variant_side c.args.self.now.right.now c.args.b.now.entries) (members_height c.args.self.now.left.now (case_types c.args.a.now.entries)) (members_height c.args.self.now.right.now (case_types c.args.b.now.entries)) c.loop-i.i c.loop-i.parts.items (Ok tt) c.loop-i.invariant.turn (λ same. variants_same c.args.self.now.left.now c.args.self.now.right.now c.args.a.now.entries c.args.b.now.entries c.loop-i.i c.loop-i.invariant.count (omega arith) same)
