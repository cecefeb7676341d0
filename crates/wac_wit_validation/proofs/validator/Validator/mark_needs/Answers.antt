use Rattle.wac_component.specs.declared.worlds.ExternKind.TheVariants.{Import}
use Rattle.std.proofs.Common.{subst, Contains}
use Rattle.wac_wit_syntax.specs.declared.tree.WorldItem.{WorldItem}
use Rattle.wac_wit_validation_types.specs.Worlds.{used_by_world, world_uses}
use Rattle.wac_wit_validation.proofs.WorldFacts.{IfOk-map, own_interface, uses_among}
use Rattle.wac_wit_validation.proofs.WorldWhole.{use_in_world}
use Rattle.wac_wit_validation.proofs.validator.Validator.mark_needs.Goals as goal

pub returns-in-Use : goal.returns-in-Use
returns-in-Use c = IfOk-map c.mark_use.result _ _ c.mark_use.ensures (λ b told is of w at there among.
    told is of w w.scope at (λ i uses. own_interface of w Import i (used_by_world (uses_among of w.scope (world_uses w) c.in-Use.it i (use_in_world c.in-Use.it w.decl.items.items (subst (λ (x : WorldItem). Contains w.decl.items.items x) c.in-Use.is among)) uses))))

pub returns-in-Import : goal.returns-in-Import
returns-in-Import c = IfOk-map c.mark_needs_of_import.result _ _ c.mark_needs_of_import.ensures (λ b told is of w at there among. told is of w at there (subst (λ (x : WorldItem). Contains w.decl.items.items x) c.in-Import.is among))

pub returns-in-Export : goal.returns-in-Export
returns-in-Export c = IfOk-map c.mark_needs_of_export.result _ _ c.mark_needs_of_export.ensures (λ b told is of w at there among. told is of w at there (subst (λ (x : WorldItem). Contains w.decl.items.items x) c.in-Export.is among))
