use Rattle.std.proofs.Common.{refl}
use Rattle.std.proofs.lemmas.Option.{MatchOption-at_some}
use Rattle.wac_wit_refusals_sites.proofs.judge.Judge.new.Goals as goal

pub returns : goal.returns
returns c = record {
  is = refl;
  features = λ n. refl;
  known = MatchOption-at_some _ _ c.in-Some.scopes c.in-Some.is c.in_ok-scopes.ensures.known c.args.sources.now.features;
  all = MatchOption-at_some _ _ c.in-Some.scopes c.in-Some.is c.in_ok-scopes.ensures.all c.args.sources.now.features;
}
