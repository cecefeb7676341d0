use Rattle.std.proofs.Common.{List, refl, subst, sym}
use Rattle.std.proofs.lemmas.Result.{on_ok_weaker}
use Rattle.wac_wit_syntax.specs.declared.tree.InterfaceItem.{InterfaceItem}
use Rattle.wac_wit_syntax.specs.declared.tree.TopItem.{TopItem}
use Rattle.wac_wit_refusals_sites.specs.Leading.{ArePathsOf}
use Rattle.wac_wit_refusals_sites.specs.Paths.{HasPathOf, HoldsBody, of_interface, outside}
use Rattle.wac_wit_refusals_sites.specs.Sites.{interface_items}
use Rattle.wac_wit_refusals_sites.specs.declared.paths.Sought.TheVariants.{OtherName}
use Rattle.wac_wit_refusals_sites.proofs.judge.Judge.push_paths.Goals as goal

pub returns-in-Use : goal.returns-in-Use
returns-in-Use c = on_ok_weaker c.push.result (λ pushes of judges. pushes of c.args.item.now (subst (λ (t : TopItem). HasPathOf of t c.in-Use.used.path OtherName) (sym c.in-Use.is) (outside c.in-Use.used))) c.push.ensures

pub returns-in-Interface : goal.returns-in-Interface
returns-in-Interface c = on_ok_weaker c.push_uses.result (λ pushes of judges. pushes of judges c.args.item.now
    (subst (λ (l : List InterfaceItem). HoldsBody of c.args.item.now (interface_items l)) (sym c.deref.ensures.value)
    (subst (λ (t : TopItem). HoldsBody of t (interface_items c.in-Interface.decl.items.items)) (sym c.in-Interface.is) (of_interface c.in-Interface.decl ((c.is_there.ensures of judges).0 c.if-is_there.true))))) c.push_uses.ensures

pub returns-in-World : goal.returns-in-World
returns-in-World c = on_ok_weaker c.push_of_world.result (λ pushes of judges. subst (λ (t : TopItem). ArePathsOf of t c.args.paths.now.items → ArePathsOf of t c.push_of_world.new.paths.items) (sym c.in-World.is)
    (pushes of judges ((c.if-is_there-2.ensures of judges).0 refl))) c.push_of_world.ensures
