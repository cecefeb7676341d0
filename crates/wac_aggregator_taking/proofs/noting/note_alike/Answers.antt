use Rattle.wac_aggregator_taking.proofs.Plain.{OnlyGrows-refl}
use Rattle.wac_aggregator_taking.proofs.TakeLemmas.{Takes-none}
use Rattle.wac_aggregator_taking.proofs.noting.note_alike.Goals as goal

pub returns-in_default-clause-taken : goal.returns-in_default-clause-taken
returns-in_default-clause-taken c = Takes-none c.args.types.now c.args.state.now _ _ (λ s. Unit {0}) c.requires.state tt

pub returns-in_default-clause-grows : goal.returns-in_default-clause-grows
returns-in_default-clause-grows c = OnlyGrows-refl c.args.types.now c.args.state.now

pub returns-in_default-clause-owed : goal.returns-in_default-clause-owed
returns-in_default-clause-owed c = λ k m. elim m [ ]
