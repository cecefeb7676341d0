use Rattle.std.proofs.Common.{◌∙◌, ap}
use Rattle.std.specs.Prelude.{not}
use Rattle.wac_wit_scopes.proofs.PathFacts.{no_value}
use Rattle.wac_wit_scopes.specs.WitSources.{version_text}
use Rattle.wac_wit_refusals.proofs.since.is_unversioned_in.Goals as goal

pub returns-in-Some : goal.returns-in-Some
returns-in-Some c is = record { since = c.in-Some.field-0.now; says = c.in-Some.ensures; none = ap version_text (no_value c.args.scope.now.package.now.version (c.is_none.ensures ∙ ap not is)) }
