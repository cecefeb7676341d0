use Rattle.std.proofs.Common.{refl}
use Rattle.std.proofs.lemmas.Result.{IfOk-weaker}
use Rattle.wac_wit_scopes.specs.WitSources.{sources_of}
use Rattle.wac_wit_refusals.proofs.confirming.judged.Goals as goal

pub returns-clause-holds : goal.returns-clause-holds
returns-clause-holds c = IfOk-weaker c.judged_by.result _ _ (λ rs are. are (sources_of c.args.sources.now.files.now c.args.sources.now.documents.now c.args.sources.now.features) refl c.in_ok-judge.ensures) c.judged_by.ensures.holds
