use Rattle.std.proofs.Common.{◌∙◌, sym}
use Rattle.std.proofs.lemmas.Slice.Eq.{bytes_eq-Decides}
use Rattle.wac_wit_refusals_sites.proofs.TypeFacts.{among_from}
use Rattle.wac_wit_refusals_types.proofs.definitions.type_of_name.Goals as goal

pub returns-then-eq : goal.returns-then-eq
returns-then-eq c of knows =
    let ty = c.ty-item.result in
    let among = among_from c.in_ok-types_there.field-0.items c.deref-ty-items.result.now c.loop-ty.ty-index ty c.deref-ty-items.ensures.value c.loop-ty-test.true c.ty-item.is in
    record { has = c.in_ok-types_there.ensures of knows ty among; named = (bytes_eq-Decides _ _).0 (sym c.eq.ensures ∙ c.if-eq.true) }
