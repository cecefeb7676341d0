use Rattle.std.proofs.Common.{sym, refl, ◌∙◌}
use Rattle.std.proofs.lemmas.Option.{slice_get_read}
use Rattle.wac_wit_validation_types.proofs.Fields.{IsSpelled, map-names}
use Rattle.wac_wit_validation_types.proofs.Rows.{AllZip-all, AllZip-next}
use Rattle.wac_wit_validation_types.proofs.typedefs.are_names.Goals as goal

pub loop-index-preserved : goal.loop-index-preserved
loop-index-preserved c =
    let names = c.args.names.now in
    let i = c.loop-index.index in
    let name = c.index-names-index.result in
    AllZip-next IsSpelled names c.args.of.now.keys i name c.in-Some.other.now c.loop-index.invariant (slice_get_read names _ i name refl c.loop-index-test.true c.index-names-index.is) (sym c.in-Some.ensures.key) (c.if-not-is_spelled.ensures refl)

pub returns : goal.returns
returns c is = let names = c.args.names.now in map-names names c.args.of.now.keys (AllZip-all IsSpelled names c.args.of.now.keys c.loop-index.index c.loop-index.invariant c.loop-index-test.false (c.if-names-len.false ∙ c.len.ensures.len))
