use Rattle.std.proofs.Common.{List, subst, sym}
use Rattle.wac_wit_refusals_sites.proofs.Walks.{among_none}
use Rattle.wac_wit_refusals_worlds.specs.NeededSteps.{AreNeeded, imports_of, some_of}
use Rattle.wac_wit_refusals_sites.specs.declared.led.LedTo.{LedTo}
use Rattle.wac_wit_refusals_worlds.proofs.needed.needed_as_imports.Goals as goal

pub returns : goal.returns
returns c = λ of judges exports.
    let self = c.args.judge.now in
    let e = c.args.exports.now in
    let needed = subst (λ (ls : List LedTo). AreNeeded of self (some_of e) ls) (sym c.deref.ensures.value) (c.in_ok-needed.ensures of judges exports) in
    c.in_ok-push_all_needs.ensures of judges (imports_of e) (c.in_ok-push_needs_of_imports.ensures of judges needed exports (λ l among. absurd (among_none _ l c.new-imported.ensures among)))
