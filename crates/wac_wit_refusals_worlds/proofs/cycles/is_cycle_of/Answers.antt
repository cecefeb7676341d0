use Rattle.std.proofs.lemmas.Result.{IfOk-weaker}
use Rattle.wac_wit_scopes.proofs.PathFacts.{contains_at}
use Rattle.wac_wit_scopes.specs.Scopes.{scope_syntax}
use Rattle.wac_wit_refusals_worlds.proofs.cycles.is_cycle_of.Goals as goal

pub returns-then-stands_at : goal.returns-then-stands_at
returns-then-stands_at c = IfOk-weaker c.needs_itself.result _ _ (λ b h is of judges known placed.
    let start = c.args.start.now in
    let name = c.stands_at.ensures c.if-stands_at.true in
    record {
      scope = scope_syntax start.scope;
      at = known.in_file;
      item = start.item.now;
      among = contains_at start.scope.items.now start.place.item start.item.now placed.item;
      name = name.0;
      named = name.1;
      is_at = name.2;
      leads = h is of judges placed;
    }) c.needs_itself.ensures
