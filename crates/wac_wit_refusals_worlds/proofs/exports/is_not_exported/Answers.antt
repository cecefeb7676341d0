use Rattle.std.proofs.Common.{◌∙◌, ap, not}
use Rattle.wac_wit_scopes.proofs.PathFacts.{no_value}
use Rattle.wac_wit_refusals_worlds.proofs.NeededFacts.{not_listed}
use Rattle.wac_wit_refusals_worlds.proofs.exports.is_not_exported.Goals as goal

pub returns : goal.returns
returns c = λ is of exports. not_listed of c.args.exports.now c.args.led.now exports (c.in_ok-index_of.ensures (no_value c.in_ok-index_of.field-0 (c.is_none.ensures ∙ ap not is)))
