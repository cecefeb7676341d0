use Rattle.std.proofs.Common.{arith, refl}
use Rattle.wac_wit_scopes.proofs.ScopeFacts.{All-end, All-next}
use Rattle.wac_wit_scopes.specs.Scopes.{scope_syntax}
use Rattle.wac_wit_scopes.specs.WitSources.{ident_text}
use Rattle.wac_wit_syntax.specs.declared.tree.WorldItem.{WorldItem}
use Rattle.wac_wit_syntax.specs.declared.tree.WorldItem.TheVariants as world_item
use Rattle.wac_wit_refusals_worlds.specs.IncludeSteps.{ItemLacks}
use Rattle.wac_wit_refusals_worlds.proofs.sought_names.seek_included.Goals as goal

pub loop-item-init : goal.loop-item-init
loop-item-init c of knows all = (all, λ k d h. absurd (omega (arith, h)))

pub loop-item-preserved : goal.loop-item-preserved
loop-item-preserved c of knows all =
    let P : WorldItem → Type 0 = ItemLacks of (scope_syntax c.args.from.now.world.scope) (ident_text c.args.from.now.name.now) in
    let step = c.in_ok-seek_by_item.ensures c.if-not-branch.false of knows all in
    let before = c.loop-item.invariant of knows step.0 in
    (before.0, All-next c.args.from.now.world.items.now c.loop-item.item-index P P c.item-item.result c.loop-item-test.true c.item-item.is (λ y h. h) before.1 step.1)

pub returns : goal.returns
returns c _ of knows all =
    let P : WorldItem → Type 0 = ItemLacks of (scope_syntax c.args.from.now.world.scope) (ident_text c.args.from.now.name.now) in
    let before = c.loop-item.invariant of knows all in
    (before.0, λ i among there. All-end c.args.from.now.world.items.now c.loop-item.item-index P c.loop-item-test.false before.1 (world_item.Include i) among i refl there)
