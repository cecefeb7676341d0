use Rattle.std.proofs.Common.{Contains, subst}
use Rattle.wac_wit_scopes.proofs.PathFacts.{no_value}
use Rattle.wac_wit_syntax.specs.declared.tree.TopItem.{TopItem}
use Rattle.wac_wit_refusals_sites.proofs.PathPlaces.{path_at}
use Rattle.wac_wit_refusals_sites.proofs.Walks.{among_at}
use Rattle.wac_wit_refusals.proofs.leading.leads_abroad.Goals as goal

pub returns-then-branch : goal.returns-then-branch
returns-then-branch c = λ is sources judges file known.
    let of = c.args.of.now in
    let items = of.scope.items.now in
    let gives = c.in_ok-is_abroad.ensures c.if-branch.true sources judges in
    record {
      place = path_at sources file of known;
      is_at = c.is_at.ensures c.if-not-is_at.false;
      seeks = c.seeks_member.ensures c.if-not-seeks_member.false;
      plain = no_value of.path.now.package (let e = c.is_some.ensures in let f = c.if-is_some.false in cc);
      used = gives.used;
      among = subst (λ (t : TopItem). Contains items t) gives.is (among_at items c.loop-item.item-index c.item-item.result c.loop-item-test.true c.item-item.is);
      gives = gives.gives;
      foreign = gives.foreign;
      to = gives.to;
      world = gives.world;
      leads = gives.leads;
    }
