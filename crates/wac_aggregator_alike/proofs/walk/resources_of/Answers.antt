use Rattle.std.proofs.Common.{subst, sym}
use Rattle.wac_component.specs.Naming.{key_of}
use Rattle.wac_component.proofs.Search.{if_ok}
use Rattle.wac_aggregator_alike.specs.Alike.{AreResourcesOf}
use Rattle.wac_aggregator_alike.proofs.Noting.{resources_reached}
use Rattle.wac_aggregator_alike.proofs.walk.resources_of.Goals as goal

pub returns : goal.returns
returns c =
    if_ok _ (λ rs. AreResourcesOf c.args.types.now (key_of c.args.id) rs.items) (λ rs is. subst (AreResourcesOf c.args.types.now (key_of c.args.id)) (sym is) (resources_reached c.args.types.now (key_of c.args.id) c.in_ok-ids.ids.keys c.in_ok-ids.ensures)) c.resources_among.result c.resources_among.ensures
