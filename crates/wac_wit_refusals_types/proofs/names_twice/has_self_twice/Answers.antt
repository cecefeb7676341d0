use Rattle.std.proofs.Common.{◌≡◌, List, Some, subst}
use Rattle.std.specs.Prelude.{slice_get}
use Rattle.wac_wit_syntax.specs.declared.tree.Field.{Field}
use Rattle.wac_wit_refusals_sites.proofs.TypeFacts.{among_read}
use Rattle.wac_wit_refusals_types.proofs.names_twice.has_self_twice.Goals as goal

pub returns-then-says_self : goal.returns-then-says_self
returns-then-says_self c is of b methods =
    let placed = c.placed-item.result in
    let says = c.says_self.ensures c.if-says_self.true in
    record {
      item = placed.item;
      part = placed.part;
      resource = placed.resource.now;
      method = placed.method.now;
      has = methods placed (among_read c.args.methods.now c.loop-placed.placed-index placed c.loop-placed-test.true c.placed-item.is);
      kind = c.takes_self.ensures c.if-takes_self.true;
      index = says.index;
      param = says.param;
      at = subst (λ (l : List Field). slice_get l says.index ≡ Some says.param) c.deref.ensures.value says.at;
      place = says.place;
      named = says.named;
    }
