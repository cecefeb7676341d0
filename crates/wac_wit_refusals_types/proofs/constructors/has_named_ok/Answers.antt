use Rattle.wac_wit_scopes.specs.WitSources.{ident_text}
use Rattle.wac_wit_refusals_types.proofs.ConstructorFacts.{named_some}
use Rattle.wac_wit_refusals_types.proofs.constructors.has_named_ok.Goals as goal

pub returns-in-Some : goal.returns-in-Some
returns-in-Some c = named_some c.args.ok.now c.in-Some.ty c.deref.result.now (ident_text c.args.name.now) c.is_handle_named.result c.in-Some.is c.deref.ensures c.is_handle_named.ensures
