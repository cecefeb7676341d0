use Rattle.std.proofs.Common.{arith}
use Rattle.wac_core_merge.proofs.limits.meet_limits.Goals as goal

pub returns : goal.returns
returns c =
    let m = c.smaller.ensures in
    ((omega arith, m.0), (omega arith, m.1), λ d p q. (omega arith, m.2 d.maximum p.1 q.1))
