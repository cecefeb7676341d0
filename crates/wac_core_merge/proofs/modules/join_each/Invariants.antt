use Rattle.std.proofs.Common.{◌≡◌, ◌++◌, List}
use Rattle.wac_core.specs.declared.externs.CoreExtern.{CoreExtern}
use Rattle.wac_core_merge.specs.Entries.{IsEachJoined}
use Rattle.wac_core_merge.proofs.modules.join_each.Given as goal

abbrev pub invariant-loop-name : goal.invariant-loop-name
invariant-loop-name g l = (done : List (g.row.K.Denot × CoreExtern)) × (l.fn.first.entries ≡ done ++ l.name-iterator) × IsEachJoined g.K.PartialEq.eq done l.second.entries l.joined.entries
