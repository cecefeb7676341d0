use Rattle.std.proofs.Common.{refl}
use Rattle.indexmap.specs.IndexMap.{get_by_text}
use Rattle.wac_wit_syntax.specs.declared.tree.TopItem.TheVariants.{Use}
use Rattle.wac_wit_scopes.specs.WitSources.{package_id}
use Rattle.wac_wit_validation_names.proofs.AmbiguityFacts.{IsFreeItem}
use Rattle.wac_wit_scopes.proofs.ScopeFacts.{All-end, All-next}
use Rattle.wac_wit_validation_names.proofs.ambiguity.are_free.Goals as goal

pub loop-item-preserved : goal.loop-item-preserved
loop-item-preserved c =
    let free = IsFreeItem (get_by_text c.args.noted.now) (package_id c.args.package.now) in
    All-next c.args.items.now c.loop-item.item-index free free c.item-item.result c.loop-item-test.true c.item-item.is (λ t h. h) c.loop-item.invariant (c.in_ok-is_free.ensures c.if-not-branch.false)

pub returns : goal.returns
returns c = λ is u among. All-end c.args.items.now c.loop-item.item-index (IsFreeItem (get_by_text c.args.noted.now) (package_id c.args.package.now)) c.loop-item-test.false c.loop-item.invariant (Use u) among u refl
