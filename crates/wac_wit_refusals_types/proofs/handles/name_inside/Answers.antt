use Rattle.std.proofs.Common.{ap, refl}
use Rattle.wac_wit_refusals_sites.specs.Sites.{interface_items}
use Rattle.wac_wit_refusals_types.proofs.handles.name_inside.Goals as goal

pub returns-in-Interface : goal.returns-in-Interface
returns-in-Interface c of knows = record { scope = refl; interface = c.in-Interface.decl; is = c.in-Interface.is; there = (c.is_there.ensures of knows).0 c.if-is_there.true; body = ap interface_items c.deref.ensures.value; name = refl }
