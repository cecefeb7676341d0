use Rattle.std.proofs.Common.{Contains, List, refl, subst, sym}
use Rattle.std.proofs.lemmas.Result.{on_ok_weaker}
use Rattle.wac_wit_scopes.specs.Scopes.{scope_syntax}
use Rattle.wac_wit_syntax.specs.declared.tree.InterfaceItem.{InterfaceItem}
use Rattle.wac_wit_refusals_sites.specs.Sites.{HasBody, an_interface, interface_items}
use Rattle.wac_wit_refusals_sites.proofs.judge.Judge.push_body.Goals as goal

pub returns-in-Interface : goal.returns-in-Interface
returns-in-Interface c = on_ok_weaker c.push.result (λ pushes of judges known among old.
    let there = (c.is_there.ensures of judges).0 c.if-is_there.true in
    let body = an_interface c.in-Interface.decl (subst (Contains c.args.scope.now.items.now) c.in-Interface.is among) there in
    pushes of known (subst (λ (is : List InterfaceItem). HasBody of (scope_syntax c.args.scope.now) (interface_items is)) (sym c.deref.ensures.value) body) old) c.push.ensures

pub returns-in-World : goal.returns-in-World
returns-in-World c = on_ok_weaker c.push_world.result (λ pushes of judges known among old.
    let there = (c.if-is_there-2.ensures of judges).0 refl in
    pushes of judges known (record { among = subst (Contains c.args.scope.now.items.now) c.in-World.is among; there = there }) old) c.push_world.ensures
