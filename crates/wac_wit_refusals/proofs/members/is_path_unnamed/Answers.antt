use Rattle.wac_wit_refusals_sites.proofs.PathPlaces.{path_at}
use Rattle.wac_wit_refusals.proofs.members.is_path_unnamed.Goals as goal

pub returns-then-is_at : goal.returns-then-is_at
returns-then-is_at c = λ is sources judges file known. record {
  place = path_at sources file c.args.of.now known;
  named = c.in-Some.named;
  says = c.in-Some.is;
  is_at = c.is_at.ensures c.if-is_at.true;
  none = c.is_unnamed.ensures is sources judges;
}
