use Rattle.std.proofs.Common.{IsTrue, subst, sym}
use Rattle.std.specs.Prelude.{◌↔◌}
use Rattle.wac_wit_syntax.specs.declared.tree.InterfaceItem.{InterfaceItem}
use Rattle.wac_wit_refusals.specs.UsedReasons.{IsInsideEnabled}
use Rattle.wac_wit_refusals.proofs.used.is_inside_there.Goals as goal

pub returns-in-Type : goal.returns-in-Type
returns-in-Type c = λ of judges. subst (λ (t : InterfaceItem). IsTrue c.is_there.result ↔ IsInsideEnabled of t) (sym c.in-Type.is) (c.is_there.ensures of judges)

pub returns-in-Use : goal.returns-in-Use
returns-in-Use c = λ of judges. subst (λ (t : InterfaceItem). IsTrue c.is_there-in-Use.result ↔ IsInsideEnabled of t) (sym c.in-Use.is) (c.is_there-in-Use.ensures of judges)

pub returns-in-Func : goal.returns-in-Func
returns-in-Func c = λ of judges. subst (λ (t : InterfaceItem). IsTrue c.is_there-in-Func.result ↔ IsInsideEnabled of t) (sym c.in-Func.is) (c.is_there-in-Func.ensures of judges)
