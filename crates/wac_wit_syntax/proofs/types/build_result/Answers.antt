-- A result, by its parts.
use Rattle.std.proofs.Common.{◌≡◌, true, length, rules, arith}
use Rattle.wac_wit_syntax.proofs.TypesMade.{made_both, made_ok}
use Rattle.wac_wit_syntax.proofs.types.build_result.Goals as goal
use Rattle.wac_wit_syntax.proofs.types.build_result.Goals.{else-len-eq1-via-then-len-eq1+else-not-parts, else-len-eq1-via-else-len-eq1}

pub returns-then-not-parts-clause-made : goal.returns-then-not-parts-clause-made
returns-then-not-parts-clause-made c = λ span.
    let p = c.args.parts.now in
    made_ok p.types.items _ p.lacks_first p.length _ span (omega (arith, p.types.ok.0)) (search rules) c.in_ok-take_last.ensures.last

pub returns-clause-made : goal.returns-clause-made
returns-clause-made c = λ span.
    let p = c.args.parts.now in
    let lacks : length p.types.items ≡ 1 → p.lacks_first ≡ true =
    elim c.else-len-eq1.branch [
      | else-len-eq1-via-then-len-eq1+else-not-parts w ↦ λ one. search rules
      | else-len-eq1-via-else-len-eq1 w ↦ λ one. absurd (omega (arith, p.types.ok.0))
    ] in
    made_both p.types.items _ _ p.lacks_first p.length _ _ span lacks c.in_ok-second.ensures.last c.in_ok-first.ensures.last
