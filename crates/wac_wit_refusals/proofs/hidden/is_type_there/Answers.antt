use Rattle.std.proofs.Common.{List, Contains, refl, sym, subst}
use Rattle.wac_wit_refusals.specs.Attributes.{IsTypeThere}
use Rattle.wac_wit_syntax.specs.declared.tree.InterfaceItem.{InterfaceItem}
use Rattle.wac_wit_syntax.specs.declared.tree.Rename.{Rename}
use Rattle.wac_wit_refusals.proofs.hidden.is_type_there.Goals as goal

pub returns-then-is_there : goal.returns-then-is_there
returns-then-is_there c is of knows =
    let h = c.is_name_at.ensures is in
    subst (λ (i : InterfaceItem). IsTypeThere of i c.args.span) (sym c.in-Use.is) ((c.if-is_there.ensures of knows).0 refl, (h.0, subst (λ (rs : List Rename). Contains rs h.0) c.deref.ensures.value h.1, h.2))
