use Rattle.std.proofs.Common.{◌≡◌, ◌++◌, List}
use Rattle.wac_core.specs.declared.externs.CoreExtern.{CoreExtern}
use Rattle.wac_core_merge.specs.Entries.{IsEachMet}
use Rattle.wac_core_merge.proofs.modules.meet_each.Given as goal

abbrev pub invariant-loop-name : goal.invariant-loop-name
invariant-loop-name g l = (done : List (g.row.K.Denot × CoreExtern)) × (l.fn.first.entries ≡ done ++ l.name-iterator) × IsEachMet g.K.PartialEq.eq done l.second.entries l.met.entries
