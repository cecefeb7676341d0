use Rattle.std.proofs.Common.{◌≡◌, ◌++◌, List}
use Rattle.wac_core_merge.specs.Names.{with_new}
use Rattle.wac_core_merge.proofs.names.add_new.Given as goal

abbrev pub invariant-loop-name : goal.invariant-loop-name
invariant-loop-name g l = (done : List (g.row.K.Denot × g.row.V.Denot)) × (l.fn.second.entries ≡ done ++ l.name-iterator) × (l.first.entries ≡ with_new g.K.PartialEq.eq l.fn.first.entries done)
