use Rattle.std.proofs.Common.{sym, refl, ◌∙◌}
use Rattle.std.proofs.lemmas.Option.{slice_get_read}
use Rattle.wac_wit_validation_types.proofs.Fields.{AreFieldsOf-entries, IsFieldAt, names-fields}
use Rattle.wac_wit_validation_types.proofs.Rows.{AllZip-all, AllZip-next}
use Rattle.wac_wit_validation_types.proofs.names.NamedTypes.are_fields.Goals as goal

pub loop-index-preserved : goal.loop-index-preserved
loop-index-preserved c =
    let fields = c.args.fields.now in
    let i = c.loop-index.index in
    let field = c.index-fields-index.result in
    AllZip-next (IsFieldAt c.args.self.now) fields c.args.of i field (c.in-Some.name.now, c.in-Some.ty.now) c.loop-index.invariant (slice_get_read fields _ i field refl c.loop-index-test.true c.index-fields-index.is) (sym c.in-Some.ensures.entry)
    (record { name = c.if-not-is_field.ensures.name refl; ty = c.if-not-is_field.ensures.ty refl })

pub returns-clause-names : goal.returns-clause-names
returns-clause-names c is =
    let n = c.args.self.now in
    let fields = c.args.fields.now in
    names-fields n fields c.args.of (AllZip-all (IsFieldAt n) fields c.args.of c.loop-index.index c.loop-index.invariant c.loop-index-test.false (c.if-fields-len.false ∙ c.len.ensures))

pub returns-clause-types : goal.returns-clause-types
returns-clause-types c is s h =
    let n = c.args.self.now in
    let fields = c.args.fields.now in
    AreFieldsOf-entries n s h fields c.args.of (AllZip-all (IsFieldAt n) fields c.args.of c.loop-index.index c.loop-index.invariant c.loop-index-test.false (c.if-fields-len.false ∙ c.len.ensures))
