use Rattle.std.proofs.Common.{List, subst, sym}
use Rattle.std.proofs.lemmas.Result.{on_ok_weaker}
use Rattle.wac_wit_syntax.specs.declared.tree.InterfaceItem.{InterfaceItem}
use Rattle.wac_wit_syntax.specs.declared.tree.TopItem.TheVariants as top
use Rattle.wac_wit_refusals_sites.specs.Paths.{HoldsBody, by_extern, of_inline, of_world}
use Rattle.wac_wit_refusals_sites.specs.Sites.{an_inline, interface_items, world_items}
use Rattle.wac_wit_refusals_sites.proofs.judge.Judge.push_of_extern.Goals as goal

pub returns-in-Path : goal.returns-in-Path
returns-in-Path c = on_ok_weaker c.push_path.result (λ pushes of judges d there has. pushes of judges (world_items d.items.items) (by_extern d.items.items c.args.item.now c.in-Path.path has c.in-Path.is) (top.World d) (of_world d there)) c.push_path.ensures

pub returns-in-Inline : goal.returns-in-Inline
returns-in-Inline c = on_ok_weaker c.push_uses.result (λ pushes of judges d there has. pushes of judges (top.World d)
    (subst (λ (l : List InterfaceItem). HoldsBody of (top.World d) (interface_items l)) (sym c.deref.ensures.value) (of_inline d c.in-Inline.items.items there (an_inline c.args.item.now c.in-Inline.field-0 c.in-Inline.items has ((c.is_there.ensures of judges).0 c.if-is_there.true) c.in-Inline.is)))) c.push_uses.ensures
