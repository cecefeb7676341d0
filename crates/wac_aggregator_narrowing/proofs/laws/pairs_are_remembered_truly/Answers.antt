use Rattle.wac_component.specs.Key.{other_keys}
use Rattle.wac_names.specs.Class.{class_of}
use Rattle.wac_aggregator_narrowing.proofs.laws.pairs_are_remembered_truly.Goals as goal
use Rattle.wac_aggregator_narrowing.proofs.Remembered.{RemembersTruly-foreign, IsRememberedAs-step, shared_remembered}
use Rattle.wac_aggregator_narrowing.proofs.Mapped.{plain_taken, closed_by_taken, closed_by_parts}

pub returns-clause-foreign_growth : goal.returns-clause-foreign_growth
returns-clause-foreign_growth c = λ f g s sound x h. RemembersTruly-foreign f g sound x class_of s h

pub returns-clause-step : goal.returns-clause-step
returns-clause-step c = IsRememberedAs-step class_of

pub returns-clause-plain : goal.returns-clause-plain
returns-clause-plain c = λ f d s theirs own z sound x at for quiet plain z_plain names parts. (
  plain_taken class_of f s d theirs own z sound x at for quiet plain z_plain names parts,
  closed_by_taken class_of f s theirs (other_keys z) plain parts,
)

pub returns-clause-closed : goal.returns-clause-closed
returns-clause-closed c = λ f now theirs. closed_by_parts f now theirs

pub returns-clause-shared : goal.returns-clause-shared
returns-clause-shared c = shared_remembered class_of

pub returns-clause-weaker : goal.returns-clause-weaker
returns-clause-weaker c = λ f s h. record { taken = λ theirs own p q. (h.taken theirs own p q).stands_for; copies = h.copies }
