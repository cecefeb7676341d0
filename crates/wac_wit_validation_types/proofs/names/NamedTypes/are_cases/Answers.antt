use Rattle.std.proofs.Common.{sym, refl, ◌∙◌}
use Rattle.std.proofs.lemmas.Option.{slice_get_read}
use Rattle.wac_wit_validation_types.proofs.Fields.{AreCasesOf-entries, IsCaseAt}
use Rattle.wac_wit_validation_types.proofs.Rows.{AllZip-all, AllZip-next}
use Rattle.wac_wit_validation_types.proofs.names.NamedTypes.are_cases.Goals as goal

pub loop-index-preserved : goal.loop-index-preserved
loop-index-preserved c =
    let cases = c.args.cases.now in
    let i = c.loop-index.index in
    let case = c.index-cases-index.result in
    AllZip-next (IsCaseAt c.args.self.now) cases c.args.of i case (c.in-Some.name.now, c.in-Some.ty.now) c.loop-index.invariant (slice_get_read cases _ i case refl c.loop-index-test.true c.index-cases-index.is) (sym c.in-Some.ensures.entry)
    (record { name = c.if-not-is_case.ensures.name refl; ty = c.if-not-is_case.ensures.ty refl })

pub returns : goal.returns
returns c is s h =
    let n = c.args.self.now in
    let cases = c.args.cases.now in
    AreCasesOf-entries n s h cases c.args.of (AllZip-all (IsCaseAt n) cases c.args.of c.loop-index.index c.loop-index.invariant c.loop-index-test.false (c.if-cases-len.false ∙ c.len.ensures))
