use Rattle.std.proofs.Common.{subst, sym}
use Rattle.wac_wit_scopes.specs.Scopes.{scope_syntax}
use Rattle.wac_wit_refusals_worlds.specs.BroughtSteps.{AreComing}
use Rattle.wac_wit_refusals_worlds.proofs.ComingFacts.{coming_all}
use Rattle.wac_wit_refusals_sites.proofs.TypeFacts.{among_from}
use Rattle.wac_wit_refusals_worlds.proofs.coming.+names_within.Goals as goal

pub loop-included-init : goal.loop-included-init
loop-included-init t c of knows = c.in_ok-names.ensures of knows (scope_syntax c.args.scope.now)

pub loop-included-preserved : goal.loop-included-preserved
loop-included-preserved t c of knows =
    let included = c.included-item.result in
    let among = among_from c.in_ok-worlds_included.field-0.items c.deref-included-items.result.now c.loop-included.included-index included c.deref-included-items.ensures.value c.loop-included-test.true c.included-item.is in
    let scope = scope_syntax included.world.scope in
    c.in_ok-push_renamed.ensures of c.args.exports (scope_syntax c.args.scope.now) c.args.items.now (c.in_ok-worlds_included.ensures of knows included among)
    (coming_all of c.args.exports scope included.world.items.now c.deref.result.now (subst (AreComing of c.args.exports scope included.world.items.now) (sym c.deref.ensures.value) (c.in_ok-inside.ensures of knows)))
    (c.loop-included.invariant of knows)

pub returns : goal.returns
returns t c = c.loop-included.invariant
