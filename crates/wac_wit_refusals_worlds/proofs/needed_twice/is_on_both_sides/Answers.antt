use Rattle.std.proofs.lemmas.Result.{IfOk-weaker}
use Rattle.wac_wit_refusals_worlds.proofs.needed_twice.is_on_both_sides.Goals as goal

pub returns-then-branch : goal.returns-then-branch
returns-then-branch c = IfOk-weaker c.is_exported.result _ _ (λ b told is of judges.
    let found = c.in_ok-is_among.ensures c.if-branch.true in
    record { exported = told is of judges; other = found.0; among = found.1; place = found.2 }) c.is_exported.ensures
