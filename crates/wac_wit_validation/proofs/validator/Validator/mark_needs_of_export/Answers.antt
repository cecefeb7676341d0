use Rattle.std.proofs.Common.{refl, subst, List}
use Rattle.wac_wit_syntax.specs.declared.tree.InterfaceItem.{InterfaceItem}
use Rattle.wac_wit_validation_types.specs.Denoted.{uses_in}
use Rattle.wac_wit_validation_types.specs.Worlds.{UsesInterface, used_by_inline}
use Rattle.wac_wit_validation.proofs.WorldFacts.{IfOk-map}
use Rattle.wac_wit_validation.proofs.validator.Validator.mark_needs_of_export.Goals as goal

pub returns-in-Path : goal.returns-in-Path
returns-in-Path c = IfOk-map c.mark_needs_of_path.result _ _ c.mark_needs_of_path.ensures (λ b told is of w at there among. told is of w at there (record { item = c.args.item.now; among = among; there = (c.if-not-is_there.ensures of at.knows.interfaces).0 refl; what = c.in-Path.is }))

pub returns-in-Inline : goal.returns-in-Inline
returns-in-Inline c = IfOk-map c.mark_unexported.result _ _ c.mark_unexported.ensures (λ b told is of w at there among.
    told is of w w.scope at there (λ i uses. used_by_inline c.in-Inline.field-0 c.in-Inline.items (record { item = c.args.item.now; among = among; there = (c.if-not-is_there.ensures of at.knows.interfaces).0 refl; what = c.in-Inline.is }) (subst (λ (l : List InterfaceItem). UsesInterface of w.scope (uses_in l) i) c.deref.ensures.value uses)))
