-- A map of its two parts.
use Rattle.wac_wit_syntax.proofs.TypesMade.{made_map}
use Rattle.wac_wit_syntax.proofs.types.build_map.Goals as goal

pub returns-clause-made : goal.returns-clause-made
returns-clause-made c =
    let p = c.args.parts.now in
    made_map p.types.items _ _ p.lacks_first p.length c.in_ok-key.key c.in_ok-value.value c.args.span (c.has_key.ensures.key c.if-not-has_key.false) c.in_ok-value.ensures.last c.in_ok-key.ensures.last
