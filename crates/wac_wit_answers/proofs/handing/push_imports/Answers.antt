use Rattle.std.proofs.Common.{refl, sym, subst, ◌∙◌}
use Rattle.std.proofs.lemmas.Option.{slice_get_read}
use Rattle.wac_types.specs.HandedIn.{handed_in}
use Rattle.wac_wit_answers.specs.Calls.{AreHandedFrom}
use Rattle.wac_wit_answers.proofs.CallLemmas.{AreHandedFrom-push, found_by_place}
use Rattle.wac_wit_answers.proofs.handing.push_imports.Goals as goal

pub loop-name-preserved : goal.loop-name-preserved
loop-name-preserved c =
    subst (AreHandedFrom c.args.sources.now) (sym c.in_ok-push_call.ensures)
    (AreHandedFrom-push c.args.sources.now (handed_in c.loop-name.calls.items) _ c.loop-name.invariant (record { found = found_by_place c.args.sources.now c.args.index c.in-Some.source.now (slice_get_read c.args.sources.now _ c.args.index c.in-Some.source.now refl c.in-Some.ensures.lookup.3.0 c.in-Some.ensures.lookup.1) (sym c.number.ensures ∙ c.if-not-is_number_of.ensures refl); stands = c.if-not-contains_item.ensures.0 refl }))
