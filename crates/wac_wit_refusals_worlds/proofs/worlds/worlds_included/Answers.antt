use Rattle.std.proofs.Common.{refl}
use Rattle.wac_wit_scopes.specs.Scopes.{scope_syntax}
use Rattle.wac_wit_refusals_worlds.specs.BroughtSteps.{IsIncludedWorld}
use Rattle.wac_wit_refusals_sites.proofs.TypeFacts.{at_read, none_among}
use Rattle.wac_wit_refusals_worlds.proofs.worlds.worlds_included.Goals as goal

pub loop-index-init : goal.loop-index-init
loop-index-init c of knows = none_among (IsIncludedWorld of (scope_syntax c.args.scope.now) c.args.items.now) c.new-worlds.result.items c.new-worlds.ensures.items

pub loop-index-preserved : goal.loop-index-preserved
loop-index-preserved c of knows =
    let item = c.index-items-index.result in
    c.in_ok-push_included.ensures of knows c.args.items.now (at_read c.args.items.now c.loop-index.index item item c.loop-index-test.true c.index-items-index.is refl) (c.loop-index.invariant of knows)

pub returns : goal.returns
returns c = c.loop-index.invariant
