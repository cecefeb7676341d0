use Rattle.std.proofs.Common.{arith, subst}
use Rattle.wac_wit_scopes.specs.WitSources.{IsInGroup, package_id}
use Rattle.wac_wit_validation.proofs.listing.is_listing_of.Goals as goal

pub returns : goal.returns
returns c = λ is of known. record {
  name = c.is_package_text.ensures c.if-not-is_package_text.false;
  version = c.is_version_text.ensures is;
  group = subst (IsInGroup of (package_id c.args.scope.now.package.now)) (omega (arith, c.if-of-scope.false)) known.in_group;
}
