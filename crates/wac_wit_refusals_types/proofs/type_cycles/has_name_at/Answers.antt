use Rattle.std.proofs.Common.{◌∙◌, sym}
use Rattle.std.proofs.lemmas.Slice.Eq.{bytes_eq-Decides}
use Rattle.wac_wit_refusals_sites.proofs.TypeFacts.{among_from}
use Rattle.wac_wit_refusals_types.proofs.type_cycles.has_name_at.Goals as goal

pub returns-in-loop-ty : goal.returns-in-loop-ty
returns-in-loop-ty c is =
    let ty = c.ty-item.result in
    let among = among_from c.in_ok-types_in_def.field-0.items c.deref-ty-items.result.now c.loop-ty.ty-index ty c.deref-ty-items.ensures.value c.loop-ty-test.true c.ty-item.is in
    record {
      name = c.in-Some.other.now;
      has = record { expr = ty.now; written = c.in_ok-types_in_def.ensures ty among; is = c.in-Some.ensures };
      named = (bytes_eq-Decides _ _).0 (sym c.eq.ensures ∙ c.if-eq.true);
      place = c.is_at.ensures c.if-is_at.true;
    }
