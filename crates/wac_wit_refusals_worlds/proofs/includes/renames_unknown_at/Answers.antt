use Rattle.wac_wit_refusals_sites.proofs.TypeFacts.{ok_value_then}
use Rattle.wac_wit_refusals_worlds.proofs.includes.renames_unknown_at.Goals as goal

pub returns-in-Include : goal.returns-in-Include
returns-in-Include c = ok_value_then _ _ c.renames_unknown.result c.renames_unknown.ensures (λ b h is of knows. record {
  item = c.in-Include.it;
  is = c.in-Include.is;
  there = (c.is_there.ensures of knows).0 c.if-is_there.true;
  is_at = c.is_at.ensures c.if-is_at.true;
  unknown = h is of knows;
})
