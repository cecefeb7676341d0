use Rattle.std.proofs.lemmas.Result.{on_ok_weaker}
use Rattle.wac_wit_refusals_worlds.proofs.NeededFacts.{imports_next}
use Rattle.wac_wit_refusals_worlds.specs.NeededSteps.{imports_of}
use Rattle.wac_wit_scopes.specs.Scopes.{scope_syntax}
use Rattle.wac_wit_refusals_worlds.proofs.needed.push_needs_of_import.Goals as goal

pub returns-then-branch : goal.returns-then-branch
returns-then-branch c = on_ok_weaker c.push_next.result (λ pushes of judges found exports.
    let e = c.args.exports.now in
    pushes of judges (imports_of e) (imports_next of c.args.judge.now (scope_syntax e.world.scope) e.world.items.now c.args.led.now found (c.in_ok-is_not_exported.ensures c.if-branch.true of exports))) c.push_next.ensures
