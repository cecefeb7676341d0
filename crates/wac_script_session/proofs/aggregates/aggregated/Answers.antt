use Rattle.wac_script_session.proofs.aggregates.aggregated.Goals as goal

pub aggregate_all-requires-clause-source : goal.aggregate_all-requires-clause-source
aggregate_all-requires-clause-source c = λ d m. (c.requires.each d m).stands

pub aggregate_all-requires-clause-one : goal.aggregate_all-requires-clause-one
aggregate_all-requires-clause-one c = c.requires.one

pub aggregate_all-requires-clause-apart : goal.aggregate_all-requires-clause-apart
aggregate_all-requires-clause-apart c = λ d m. (c.requires.each d m).apart
