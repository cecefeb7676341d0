use Rattle.wac_wit_validation_names.specs.Once.{ItemsGiveOnce}
use Rattle.wac_wit_scopes.specs.declared.scopes.ScopeItems.{ScopeItems}
use Rattle.wac_wit_scopes.proofs.ScopeFacts.{All-end, All-next}
use Rattle.wac_wit_validation_names.proofs.once.all_give_once.Goals as goal

pub loop-scope-preserved : goal.loop-scope-preserved
loop-scope-preserved c =
    let once = λ (w : ScopeItems). ItemsGiveOnce c.args.features.now w.items.now in
    All-next c.args.scopes.now c.loop-scope.scope-index once once c.scope-item.result c.loop-scope-test.true c.scope-item.is (λ w h. h) c.loop-scope.invariant (c.in_ok-items_give_once.ensures c.if-not-branch.false)

pub returns : goal.returns
returns c = λ is. All-end c.args.scopes.now c.loop-scope.scope-index (λ (w : ScopeItems). ItemsGiveOnce c.args.features.now w.items.now) c.loop-scope-test.false c.loop-scope.invariant
