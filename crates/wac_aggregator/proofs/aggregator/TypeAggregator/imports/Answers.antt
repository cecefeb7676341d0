use Rattle.std.proofs.Common.{Contains, subst}
use Rattle.wac_aggregator.proofs.Handing.{imports_stand}
use Rattle.wac_aggregator.proofs.aggregator.TypeAggregator.imports.Goals as goal

pub returns-clause-standing : goal.returns-clause-standing
returns-clause-standing c = λ n k m. rw (← c.self.view_is) (imports_stand c.self.inside.state c.self.invariant n k (subst (λ l. Contains l (n, k)) c.iter.ensures m))
