use Rattle.wac_wit_scopes.specs.Scopes.{scope_syntax}
use Rattle.wac_wit_scopes.specs.WitSources.{ident_text}
use Rattle.wac_wit_refusals_worlds.specs.Includes.{a_world_lacks}
use Rattle.wac_wit_refusals_worlds.proofs.SoughtFacts.{lacking_none, lacking_popped, lacking_pushed}
use Rattle.wac_wit_refusals_worlds.proofs.sought_names.lacks_name.Goals as goal

pub loop-init : goal.loop-init
loop-init c of knows all = (lacking_pushed of _ c.push.new.self.items c.args.sought.now c.in_ok-push.ensures.items all).1

pub loop-preserved : goal.loop-preserved
loop-preserved c of knows all =
    let next = c.in-Some.next in
    let step = c.in_ok-seek_included.ensures c.if-not-branch.false of knows all in
    let own = c.lacks_plain_name.ensures c.if-not-lacks_plain_name.false of knows in
    let lacks = a_world_lacks (scope_syntax next.world.scope) next.world.items.now (ident_text next.name.now) own step.1 in
    c.loop.invariant of knows (lacking_popped of c.pop.new.self.items c.loop.all.items c.pop.result next c.pop.ensures.items c.in-Some.is step.0 lacks)

pub returns-in_default : goal.returns-in_default
returns-in_default c _ of knows =
    let popped = c.in_default.ensures in
    c.loop.invariant of knows (lacking_none of c.loop.all.items c.pop.new.self.items c.loop.all.len popped.items popped.rest popped.cases.0)
