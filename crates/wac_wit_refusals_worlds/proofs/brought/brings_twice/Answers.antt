use Rattle.std.proofs.Common.{subst, sym}
use Rattle.wac_wit_scopes.specs.Scopes.{scope_syntax}
use Rattle.wac_wit_refusals_worlds.specs.BroughtSteps.{AreComing}
use Rattle.wac_wit_refusals_worlds.proofs.ComingFacts.{brought_twice}
use Rattle.wac_wit_refusals_sites.proofs.TypeFacts.{at_read}
use Rattle.wac_wit_refusals_worlds.proofs.brought.brings_twice.Goals as goal

pub returns-then-branch : goal.returns-then-branch
returns-then-branch c is of knows =
    let w = scope_syntax c.args.scope.now in
    let item = c.index-items-index.result in
    let found = c.is_include_at.ensures c.if-is_include_at.true in
    let all = subst (AreComing of c.args.exports w c.args.items.now) (sym c.deref.ensures.value) (c.in_ok-names.ensures of knows) in
    brought_twice of c.args.exports w c.args.items.now c.args.span c.loop-index.index found.item (at_read c.args.items.now c.loop-index.index item _ c.loop-index-test.true c.index-items-index.is found.is) found.place
    c.deref.result.now all (c.in_ok-has_twins.ensures c.if-branch.true)
