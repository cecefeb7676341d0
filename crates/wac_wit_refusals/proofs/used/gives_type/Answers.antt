use Rattle.std.proofs.Common.{IsTrue, subst, sym}
use Rattle.std.specs.Prelude.{◌↔◌}
use Rattle.wac_wit_scopes.specs.WitSources.{ident_text}
use Rattle.wac_wit_syntax.specs.declared.tree.InterfaceItem.{InterfaceItem}
use Rattle.wac_wit_refusals.specs.UsedReasons.{GivesTypeName}
use Rattle.wac_wit_refusals.proofs.used.gives_type.Goals as goal

pub returns-in-Use : goal.returns-in-Use
returns-in-Use c = subst (λ (t : InterfaceItem). IsTrue c.gives.result ↔ GivesTypeName t (ident_text c.args.name.now)) (sym c.in-Use.is) c.gives.ensures
