use Rattle.wac_component.specs.declared.worlds.ExternKind.TheVariants.{Import}
use Rattle.std.proofs.Common.{refl, subst, List}
use Rattle.wac_wit_syntax.specs.declared.tree.InterfaceItem.{InterfaceItem}
use Rattle.wac_wit_validation_types.specs.Denoted.{uses_in}
use Rattle.wac_wit_validation_types.specs.Worlds.{UsesInterface, used_inside}
use Rattle.wac_wit_validation.proofs.WorldFacts.{IfOk-map, own_interface}
use Rattle.wac_wit_validation.proofs.validator.Validator.mark_needs_of_import.Goals as goal

pub returns-in-Inline : goal.returns-in-Inline
returns-in-Inline c = IfOk-map c.mark_uses.result _ _ c.mark_uses.ensures (λ b told is of w at there among.
    told is of w w.scope at (λ i uses. own_interface of w Import i (used_inside c.in-Inline.field-0 c.in-Inline.items (record { item = c.args.item.now; among = among; there = (c.if-is_there.ensures of at.knows.interfaces).0 refl; what = c.in-Inline.is }) (subst (λ (l : List InterfaceItem). UsesInterface of w.scope (uses_in l) i) c.deref.ensures.value uses))))
