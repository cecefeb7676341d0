use Rattle.std.proofs.Common.{Contains, List, subst}
use Rattle.std.proofs.lemmas.Result.{IfOk-weaker}
use Rattle.wac_wit_refusals_worlds.proofs.NeededFacts.{both_sides}
use Rattle.wac_wit_refusals_sites.specs.declared.led.LedTo.{LedTo}
use Rattle.wac_wit_refusals_worlds.proofs.needed_twice.needs_some_twice.Goals as goal

pub returns : goal.returns
returns c = IfOk-weaker c.are_on_both_sides.result _ _ (λ b told is of judges exports.
    let both = told is of judges in
    let needed = c.in_ok-needed.ensures of judges both.0 (subst (λ (ls : List LedTo). Contains ls both.0) c.deref.ensures.value both.1) in
    both_sides of c.args.judge.now c.args.exports.now c.args.given.now both.0 needed c.in_ok-imported.imported both.2 (c.in_ok-imported.ensures of judges exports both.2.other both.2.among) exports) c.are_on_both_sides.ensures
