use Rattle.std.proofs.Common.{ℕ, subst}
use Rattle.std.proofs.lemmas.Result.{IfOk-weaker}
use Rattle.wac_wit_refusals_worlds.specs.Needs.{IsNeedCycle}
use Rattle.wac_wit_refusals_worlds.proofs.cycles.is_cycle_at.Goals as goal

pub returns-then-scope-file : goal.returns-then-scope-file
returns-then-scope-file c = IfOk-weaker c.is_cycle_in.result _ _ (λ b h is of judges at. subst (λ (f : ℕ). IsNeedCycle of f c.args.span) c.if-scope-file.true (h is of judges at)) c.is_cycle_in.ensures
