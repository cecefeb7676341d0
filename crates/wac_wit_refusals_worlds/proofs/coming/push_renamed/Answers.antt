use Rattle.std.proofs.Common.{List, subst, sym}
use Rattle.wac_wit_scopes.specs.Scopes.{scope_syntax}
use Rattle.wac_wit_syntax.specs.declared.tree.Rename.{Rename}
use Rattle.wac_wit_syntax.specs.declared.tree.WorldItem.{WorldItem}
use Rattle.wac_wit_refusals_worlds.specs.Brought.{HasSideName, IsRenamedTo, by_included}
use Rattle.wac_wit_refusals_worlds.specs.BroughtSteps.{IsComing}
use Rattle.wac_wit_refusals_sites.proofs.TypeFacts.{among_read, kept_push}
use Rattle.wac_wit_refusals_worlds.proofs.coming.push_renamed.Goals as goal

pub loop-coming-preserved : goal.loop-coming-preserved
loop-coming-preserved c of exports w is world sides all =
    let coming = c.coming-item.result in
    let v = c.args.included.now in
    let scope = scope_syntax v.world.scope in
    let has = subst (λ (js : List WorldItem). HasSideName of exports scope js coming.name.now) (sym world.leads.items) (sides coming (among_read c.args.inside.now c.loop-coming.coming-index coming c.loop-coming-test.true c.coming-item.is)) in
    let renamed = subst (λ (rs : List Rename). IsRenamedTo rs coming.name.now c.new_name.result.now) c.deref.ensures.value c.new_name.ensures in
    kept_push (IsComing of exports w is) c.loop-coming.names.items c.push.new.self.items _ c.in_ok-push.ensures.items (c.loop-coming.invariant of exports w is world sides all)
    (by_included v.item.now scope world.leads.decl coming.name.now c.new_name.result.now world.at world.there world.leads.leads has renamed)

pub returns : goal.returns
returns c = c.loop-coming.invariant
