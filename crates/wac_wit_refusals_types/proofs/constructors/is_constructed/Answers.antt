use Rattle.wac_wit_scopes.specs.WitSources.{ident_text}
use Rattle.wac_wit_refusals_types.proofs.ConstructorFacts.{constructed_result}
use Rattle.wac_wit_refusals_types.proofs.constructors.is_constructed.Goals as goal

pub returns-in-Result : goal.returns-in-Result
returns-in-Result c = constructed_result c.args.ty.now _ (ident_text c.args.name.now) c.in-Result.ok c.has_named_ok.result c.in-Result.is c.has_named_ok.ensures
