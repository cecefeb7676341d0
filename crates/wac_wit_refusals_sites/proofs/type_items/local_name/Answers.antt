use Rattle.std.proofs.Common.{ap, sym}
use Rattle.wac_wit_refusals_sites.specs.Sites.{alias_ident}
use Rattle.wac_wit_refusals_sites.proofs.type_items.local_name.Goals as goal

pub returns-in-Some : goal.returns-in-Some
returns-in-Some c = ap (alias_ident c.args.rename.now.name) (sym c.in-Some.is)

pub returns-in-None : goal.returns-in-None
returns-in-None c = ap (alias_ident c.args.rename.now.name) (sym c.in-None.is)
