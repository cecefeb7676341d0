use Rattle.wac_wit_refusals_sites.proofs.PathPlaces.{path_at}
use Rattle.wac_wit_refusals.proofs.members.leads_nowhere.Goals as goal

pub returns-then-has_package : goal.returns-then-has_package
returns-then-has_package c = λ is sources judges file known.
    let to = c.has_package.ensures c.if-has_package.true sources judges in
    record {
      place = path_at sources file c.args.of.now known;
      is_at = c.is_at.ensures c.if-not-is_at.false;
      directly = c.leads_directly.ensures c.if-not-leads_directly.false;
      to = to.0;
      there = to.1;
      package_of = to.2;
      none = λ v t there of_it among named. c.lacks_member.ensures is sources judges v there of_it t among named;
    }
