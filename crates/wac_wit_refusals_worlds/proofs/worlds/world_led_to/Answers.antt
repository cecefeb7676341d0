use Rattle.std.proofs.Common.{subst, sym}
use Rattle.std.proofs.lemmas.Option.{MatchOption-at_some}
use Rattle.wac_wit_scopes.specs.Scopes.{scope_syntax}
use Rattle.wac_wit_syntax.specs.declared.tree.TopItem.{TopItem}
use Rattle.wac_wit_refusals_sites.specs.Paths.{LeadsToItem}
use Rattle.wac_wit_refusals_worlds.proofs.worlds.world_led_to.Goals as goal

pub returns-in-World : goal.returns-in-World
returns-in-World c of knows =
    let led = c.in-Some.led in
    let to = MatchOption-at_some _ _ led c.in-Some.is c.in_ok-led.ensures of knows in
    record {
      decl = c.in-World.decl;
      leads = subst (λ (t : TopItem). LeadsToItem of (scope_syntax c.args.from.now) c.args.path.now (scope_syntax led.scope) t) c.in-World.is to.leads;
      items = sym c.deref.ensures.value;
    }
