use Rattle.std.proofs.Common.{refl, sym, ap}
use Rattle.std.specs.Option.{option_map}
use Rattle.wac_wit_scopes.proofs.PathFacts.{contains_at, read_at, read_from}
use Rattle.wac_wit_scopes.specs.WitSources.{ident_text}
use Rattle.wac_wit_refusals_sites.proofs.judge.Judge.led_by.Goals as goal

pub returns : goal.returns
returns c = λ of judges.
    let self = c.args.self.now in
    let place = c.args.place in
    let to = c.in_ok-scope.scope.now in
    let item = c.in_ok-item.item.now in
    let name = c.in_ok-name.name.now in
    let to_at = read_from self.scopes.items c.deref.result.now place.scope to c.deref.ensures.value c.in_ok-scope.ensures.lookup.0 c.in_ok-scope.ensures.lookup.1 in
    let item_at = read_at to.items.now place.item item item c.in_ok-item.ensures.lookup.0 c.in_ok-item.ensures.lookup.1 refl in
    let known = judges.known place.scope to to_at in
    record {
      known = known;
      placed = record { scope = to_at; item = item_at };
      leads = record {
        name = ident_text name;
        leads = c.if-not-leads.ensures.leads refl of known;
        scope = known.is_scope;
        among = contains_at to.items.now place.item item item_at;
        named = ap (option_map ident_text) (sym c.in_ok-name.ensures);
      };
    }
