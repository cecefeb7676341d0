use Rattle.wac_model.specs.Text.{Text}
use Rattle.wac_wit_refusals_sites.specs.Sites.{BodySyntax}
use Rattle.wac_wit_refusals_types.specs.TypeSteps.{AreNamesLedTo, LeadsToNamesIn}
use Rattle.wac_wit_scopes.specs.WitSources.{WitSources}
use Rattle.wac_wit_refusals_types.proofs.type_cycles.push_names.Given as goal

abbrev pub invariant-loop-ty : goal.invariant-loop-ty
invariant-loop-ty l = (of : WitSources) (b : BodySyntax) (n : Text) → LeadsToNamesIn of b n l.def → AreNamesLedTo of b n l.initial.open.items → AreNamesLedTo of b n l.open.items
