-- A byte on, and where no byte goes on.
use Rattle.std.proofs.Common.{◌≡◌, ◌+◌, get_or, true, false, arith, rules}
use Rattle.wac_wit_syntax.specs.Reading.{goes_on}
use Rattle.wac_wit_syntax.proofs.Runs.{run_end, run_step}
use Rattle.wac_wit_syntax.proofs.scanning.Run.end.Goals as goal

pub returns-then-not-goes_on : goal.returns-then-not-goes_on
returns-then-not-goes_on c =
    let text = c.args.bytes.now in let i = c.loop-at.at in
    let stops : goes_on c.args.self (get_or text i 0) (get_or text (i + 1) 0) ≡ false = search rules in
    λ h. let e = c.loop-at.invariant h in let f = run_end c.args.self text i (search rules) stops in omega (arith, e, f)

pub loop-at-preserved : goal.loop-at-preserved
loop-at-preserved c =
    let text = c.args.bytes.now in let i = c.loop-at.at in
    let goes : goes_on c.args.self (get_or text i 0) (get_or text (i + 1) 0) ≡ true = search rules in
    λ h. let e = c.loop-at.invariant h in let f = run_step c.args.self text i (search rules) goes in omega (arith, e, f)
