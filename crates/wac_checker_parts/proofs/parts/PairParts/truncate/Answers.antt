use Rattle.wac_checker_parts.proofs.ListLemmas.{take_whole}
use Rattle.wac_checker_parts.proofs.parts.PairParts.truncate.Goals as goal

pub returns-clause-before : goal.returns-clause-before
returns-clause-before c = rw (c.len-self-inside.ensures.value, c.truncate.ensures.items, ← c.self.view_is) (take_whole c.self.inside.list.items c.self.inside.first c.args.len (rw (← c.self.view_is) at c.requires.none))
