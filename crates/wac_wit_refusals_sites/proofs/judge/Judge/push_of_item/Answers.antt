use Rattle.std.proofs.Common.{Contains, subst}
use Rattle.std.proofs.lemmas.Result.{on_ok_weaker}
use Rattle.wac_wit_syntax.specs.declared.tree.TopItem.TheVariants as top
use Rattle.wac_wit_syntax.specs.declared.tree.WorldItem.{WorldItem}
use Rattle.wac_wit_refusals_sites.specs.Paths.{by_include, by_use, of_world}
use Rattle.wac_wit_refusals_sites.specs.Sites.{world_items}
use Rattle.wac_wit_refusals_sites.proofs.judge.Judge.push_of_item.Goals as goal

pub returns-in-Use : goal.returns-in-Use
returns-in-Use c = on_ok_weaker c.push_path.result (λ pushes of judges d there among. pushes of judges (world_items d.items.items)
    (by_use (world_items d.items.items) c.in-Use.it (subst (λ (x : WorldItem). Contains d.items.items x) c.in-Use.is among)) (top.World d) (of_world d there)) c.push_path.ensures

pub returns-in-Include : goal.returns-in-Include
returns-in-Include c = on_ok_weaker c.push_path-in-Include.result (λ pushes of judges d there among. pushes of judges (world_items d.items.items)
    (by_include d.items.items c.in-Include.it (subst (λ (x : WorldItem). Contains d.items.items x) c.in-Include.is among)) (top.World d) (of_world d there)) c.push_path-in-Include.ensures
