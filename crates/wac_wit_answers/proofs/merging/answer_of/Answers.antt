use Rattle.wac_types.specs.HandedIn.{handed_in}
use Rattle.wac_wit_answers.proofs.CallLemmas.{AreHandedFrom-apart, AreHandedFrom-one}
use Rattle.wac_wit_answers.proofs.merging.answer_of.Goals as goal

pub aggregate_all-requires-clause-source : goal.aggregate_all-requires-clause-source
aggregate_all-requires-clause-source c = λ d m. (c.requires d m).stands

pub aggregate_all-requires-clause-one : goal.aggregate_all-requires-clause-one
aggregate_all-requires-clause-one c = AreHandedFrom-one c.args.sources.now (handed_in c.args.calls.now) c.requires

pub aggregate_all-requires-clause-apart : goal.aggregate_all-requires-clause-apart
aggregate_all-requires-clause-apart c = AreHandedFrom-apart c.args.sources.now (handed_in c.args.calls.now) c.requires
