-- Each turn moves one place.
use Rattle.std.proofs.Common.{arith}
use Rattle.std.proofs.lemmas.List.{length-set}
use Rattle.wac_wit_syntax.proofs.Placing.{one_placed}
use Rattle.wac_wit_syntax.proofs.refusals.place_within.Goals as goal

pub loop-index-preserved : goal.loop-index-preserved
loop-index-preserved c = record {
  placed = one_placed c.args.text.now c.loop-index.found.items c.loop-index.index _ (omega (arith, c.loop-index-test.true, c.loop-index.invariant.same)) c.within-refusal.ensures c.loop-index.invariant.placed;
  same = search (length-set);
}

pub returns : goal.returns
returns c = λ k d h. c.loop-index.invariant.placed k d (omega (arith, h, c.loop-index-test.false, c.loop-index.invariant.same))
