use Rattle.std.proofs.Common.{take}
use Rattle.std.specs.Prelude.{All}
use Rattle.wac_wit_validation_names.specs.Once.{ItemsGiveOnce}
use Rattle.wac_wit_scopes.specs.declared.scopes.ScopeItems.{ScopeItems}
use Rattle.wac_wit_validation_names.proofs.once.all_give_once.Given as goal

abbrev pub invariant-loop-scope : goal.invariant-loop-scope
invariant-loop-scope l = All (λ (w : ScopeItems). ItemsGiveOnce l.features w.items.now) (take l.scope-index l.scopes)
