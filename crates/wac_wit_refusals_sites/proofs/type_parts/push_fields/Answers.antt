use Rattle.wac_wit_refusals_sites.proofs.TypeFacts.{among_read}
use Rattle.wac_wit_refusals_sites.proofs.type_parts.push_fields.Goals as goal

pub loop-field-preserved : goal.loop-field-preserved
loop-field-preserved c s fields all = c.in_ok-push_type.ensures s (fields c.field-item.result (among_read c.args.fields.now c.loop-field.field-index c.field-item.result c.loop-field-test.true c.field-item.is)) (c.loop-field.invariant s fields all)

pub returns : goal.returns
returns c = c.loop-field.invariant
