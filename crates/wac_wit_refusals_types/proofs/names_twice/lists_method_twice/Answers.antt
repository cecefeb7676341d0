use Rattle.wac_wit_refusals_sites.proofs.TypeFacts.{among_read}
use Rattle.wac_wit_refusals_types.proofs.names_twice.lists_method_twice.Goals as goal

pub returns-then-is_method_again : goal.returns-then-is_method_again
returns-then-is_method_again c is of b methods =
    let placed = c.placed-item.result in
    let has = methods placed (among_read c.args.methods.now c.loop-placed.placed-index placed c.loop-placed-test.true c.placed-item.is) in
    let again = c.is_method_again.ensures c.if-is_method_again.true in
    record {
      item = placed.item;
      part = placed.part;
      resource = placed.resource.now;
      method = placed.method.now;
      has = has;
      place = c.is_at.ensures c.if-is_at.true;
      other_item = again.other.item;
      other_part = again.other.part;
      other_resource = again.other.resource.now;
      other_method = again.other.method.now;
      has_other = methods again.other again.among;
      apart = again.twice.apart;
      same_resource = again.twice.one.named.resource;
      same_name = again.twice.one.named.name;
      constructs = again.twice.one.alike.constructs;
      other_constructs = again.twice.one.alike.other_constructs;
    }
