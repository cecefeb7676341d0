use Rattle.std.proofs.Common.{subst, sym}
use Rattle.wac_wit_names.specs.declared.error.WitError.{WitError}
use Rattle.wac_wit_names.specs.declared.error.WitError.TheVariants.{Refused}
use Rattle.wac_wit_refusals.specs.Kept.{TellsStill, of_files, of_memory}
use Rattle.wac_wit_refusals.specs.Reasons.{of_sources}
use Rattle.wac_wit_refusals.proofs.KeptFacts.{refuses_nothing, tells_itself}
use Rattle.wac_wit_refusals.proofs.confirming.confirmed.Goals as goal

pub returns-in_default : goal.returns-in_default
returns-in_default c = record { holds = λ parsed. refuses_nothing c.args.error c.in_default.not-Refused c.args.sources.now.files.now c.args.sources.now.features; tells = tells_itself c.args.error c.in_default.not-Refused }

pub returns-in-Ok-clause-holds : goal.returns-in-Ok-clause-holds
returns-in-Ok-clause-holds c = λ parsed r among x is. of_sources c.args.sources.now.documents.now parsed (c.in-Ok.ensures.holds r among x is)

pub returns-in-Ok-clause-tells : goal.returns-in-Ok-clause-tells
returns-in-Ok-clause-tells c = subst (λ (e : WitError). TellsStill e (Refused c.in-Ok.refusals)) (sym c.in-Refused.is) (of_files c.in-Refused.refusals c.in-Ok.refusals c.in-Ok.ensures.keeps)

pub returns-in-Err-clause-tells : goal.returns-in-Err-clause-tells
returns-in-Err-clause-tells c = of_memory c.args.error
