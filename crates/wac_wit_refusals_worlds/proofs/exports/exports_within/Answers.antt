use Rattle.std.proofs.lemmas.Option.{MatchOption-at_some}
use Rattle.wac_wit_scopes.specs.Scopes.{scope_syntax}
use Rattle.wac_wit_refusals_worlds.specs.NeededTwice.{HasExport}
use Rattle.wac_wit_refusals_worlds.specs.declared.exports.PlacedExport.{PlacedExport}
use Rattle.wac_wit_refusals_sites.proofs.TypeFacts.{among_from, none_among}
use Rattle.wac_wit_refusals_worlds.proofs.exports.exports_within.Goals as goal

pub loop-inner-init : goal.loop-inner-init
loop-inner-init c of knows = none_among (λ (x : PlacedExport). HasExport of (scope_syntax c.args.world.now.scope) c.args.world.now.items.now (scope_syntax x.scope) x.item.now) c.new-exports.result.items c.new-exports.ensures.items

pub loop-inner-preserved : goal.loop-inner-preserved
loop-inner-preserved c of knows =
    let worlds = c.in-Some.worlds.items in
    let inner = c.inner-item.result in
    let all = MatchOption-at_some _ _ c.in-Some.worlds c.in-Some.is c.in_ok-worlds.ensures of knows in
    let among = among_from worlds c.deref-inner-items.result.now c.loop-inner.inner-index inner c.deref-inner-items.ensures.value c.loop-inner-test.true c.inner-item.is in
    c.in_ok-push_exports_of.ensures of knows c.args.world.now (all.within inner among) (c.loop-inner.invariant of knows)

pub returns : goal.returns
returns c = c.loop-inner.invariant

pub returns-in_default : goal.returns-in_default
returns-in_default c of knows = none_among (λ (x : PlacedExport). HasExport of (scope_syntax c.args.world.now.scope) c.args.world.now.items.now (scope_syntax x.scope) x.item.now) c.new-exports.result.items c.new-exports.ensures.items
