use Rattle.std.proofs.Common.{List, subst, sym}
use Rattle.std.proofs.lemmas.Result.{on_ok_weaker}
use Rattle.wac_wit_scopes.specs.Scopes.{scope_syntax}
use Rattle.wac_wit_syntax.specs.declared.tree.InterfaceItem.{InterfaceItem}
use Rattle.wac_wit_refusals_sites.specs.Sites.{HasBody, an_inline, interface_items, written_in}
use Rattle.wac_wit_refusals_sites.proofs.judge.Judge.push_inline.Goals as goal

pub returns-in-Inline : goal.returns-in-Inline
returns-in-Inline c = on_ok_weaker c.push.result (λ pushes of judges known d has among old.
    let there = (c.is_there.ensures of judges).0 c.if-is_there.true in
    let body = written_in d c.in-Inline.items.items has.among has.there (an_inline c.args.item.now c.in-Inline.field-0 c.in-Inline.items among there c.in-Inline.is) in
    pushes of known (subst (λ (is : List InterfaceItem). HasBody of (scope_syntax c.args.scope.now) (interface_items is)) (sym c.deref.ensures.value) body) old) c.push.ensures
