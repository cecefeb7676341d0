use Rattle.std.proofs.Common.{List, subst}
use Rattle.wac_wit_refusals_types.specs.NamesTwice.{TakesFieldName}
use Rattle.wac_wit_refusals_types.specs.TypeSteps.{AreTaken}
use Rattle.wac_wit_syntax.specs.declared.tree.Field.{Field}
use Rattle.wac_wit_refusals_sites.proofs.TypeFacts.{ok_value_then}
use Rattle.wac_wit_refusals_types.proofs.taken_names.param_names.Goals as goal

pub returns : goal.returns
returns c = ok_value_then _ _ c.names_of_fields.result c.names_of_fields.ensures (λ ns h. subst (λ (l : List Field). AreTaken (TakesFieldName l) ns.items) c.deref.ensures.value h)
