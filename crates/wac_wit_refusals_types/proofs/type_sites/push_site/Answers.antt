use Rattle.wac_wit_refusals_types.proofs.BorrowFacts.{put_one}
use Rattle.wac_wit_refusals_types.proofs.type_sites.push_site.Goals as goal

pub returns : goal.returns
returns c = put_one c.args.followed.now.found.items _ _ c.in_ok-push.ensures.items
