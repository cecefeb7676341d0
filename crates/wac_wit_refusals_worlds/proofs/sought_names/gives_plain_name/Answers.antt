use Rattle.std.proofs.Common.{IsTrue, subst, sym}
use Rattle.std.specs.Prelude.{◌↔◌}
use Rattle.wac_wit_scopes.specs.WitSources.{ident_text}
use Rattle.wac_wit_syntax.specs.declared.tree.WorldItem.{WorldItem}
use Rattle.wac_wit_refusals_worlds.specs.Includes.{GivesPlainName}
use Rattle.wac_wit_refusals_worlds.proofs.sought_names.gives_plain_name.Goals as goal

pub returns-in-Use : goal.returns-in-Use
returns-in-Use c = subst (λ (t : WorldItem). IsTrue c.gives.result ↔ GivesPlainName t (ident_text c.args.name.now)) (sym c.in-Use.is) c.gives.ensures
