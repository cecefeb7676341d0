use Rattle.std.proofs.Common.{List, subst, sym}
use Rattle.std.proofs.lemmas.Result.{on_ok_weaker}
use Rattle.wac_wit_refusals_worlds.proofs.NeededFacts.{needs_led, needs_used}
use Rattle.wac_wit_refusals_worlds.specs.NeededSteps.{NeedsUses}
use Rattle.wac_wit_scopes.specs.Scopes.{scope_syntax}
use Rattle.wac_wit_syntax.specs.declared.tree.InterfaceItem.{InterfaceItem}
use Rattle.wac_wit_refusals_worlds.proofs.needed.push_export.Goals as goal

pub returns-in-Path : goal.returns-in-Path
returns-in-Path c = on_ok_weaker c.push_led.result (λ pushes of judges n needs.
    pushes of judges n (needs_led of c.args.judge.now n (scope_syntax c.args.scope.now) c.args.export.now c.in-Path.path c.in-Path.is needs)) c.push_led.ensures

pub returns-in-Inline : goal.returns-in-Inline
returns-in-Inline c = on_ok_weaker c.push_all_used.result (λ pushes of judges n needs.
    let self = c.args.judge.now in
    let scope = scope_syntax c.args.scope.now in
    pushes of judges n (subst (λ (is : List InterfaceItem). NeedsUses of self n scope is) (sym c.deref.ensures.value) (needs_used of self n scope c.args.export.now c.in-Inline.field-0 c.in-Inline.items c.in-Inline.is needs))) c.push_all_used.ensures
