use Rattle.std.proofs.Common.{Contains, subst}
use Rattle.std.proofs.lemmas.Result.{on_ok_weaker}
use Rattle.wac_wit_syntax.specs.declared.tree.InterfaceItem.{InterfaceItem}
use Rattle.wac_wit_refusals_sites.specs.Paths.{by_use}
use Rattle.wac_wit_refusals_sites.specs.Sites.{interface_items}
use Rattle.wac_wit_refusals_sites.proofs.judge.Judge.push_use.Goals as goal

pub returns-in-Use : goal.returns-in-Use
returns-in-Use c = on_ok_weaker c.push_path.result (λ pushes of judges is among. pushes of judges (interface_items is) (by_use (interface_items is) c.in-Use.it (subst (λ (x : InterfaceItem). Contains is x) c.in-Use.is among))) c.push_path.ensures
