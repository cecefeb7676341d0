use Rattle.std.proofs.lemmas.Result.{IfOk-weaker}
use Rattle.wac_wit_scopes.proofs.PathFacts.{contains_at, read_from}
use Rattle.wac_wit_scopes.specs.Scopes.{scope_syntax}
use Rattle.wac_wit_refusals_worlds.proofs.exports.is_exported.Goals as goal

pub returns-in-Some-get : goal.returns-in-Some-get
returns-in-Some-get c = IfOk-weaker c.is_exported_by.result _ _ (λ b told is of judges placed exports.
    let worlds = c.args.exports.now.worlds.items in
    let world = c.in-Some-get.world.now in
    let among = contains_at worlds c.in-Some.index world (read_from worlds c.deref.result.now c.in-Some.index world c.deref.ensures.value c.in-Some-get.ensures.lookup.0 c.in-Some-get.ensures.lookup.1) in
    let by = told is of judges placed in
    record {
      scope = scope_syntax world.scope;
      items = world.items.now;
      within = exports.worlds.within world among;
      item = by.item;
      among = by.among;
      says = by.says;
    }) c.is_exported_by.ensures
