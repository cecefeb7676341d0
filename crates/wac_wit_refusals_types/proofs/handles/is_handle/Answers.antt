use Rattle.std.proofs.Common.{◌≡◌, ◌∙◌, sym}
use Rattle.wac_wit_syntax.specs.declared.tree.TypeExpr.TheVariants as ty
use Rattle.wac_wit_refusals_types.proofs.HandleFacts.{handle_of}
use Rattle.wac_wit_refusals_types.proofs.handles.is_handle.Goals as goal

pub returns-in-Own : goal.returns-in-Own
returns-in-Own c is named = handle_of c.args.name.now c.args.ty.now (λ n h. let other : ty.Own c.in-Own.field-0 ≡ ty.Name n = sym c.in-Own.is ∙ h in absurd (cc)) named

pub returns-in-Borrow : goal.returns-in-Borrow
returns-in-Borrow c is named = handle_of c.args.name.now c.args.ty.now (λ n h. let other : ty.Borrow c.in-Borrow.field-0 ≡ ty.Name n = sym c.in-Borrow.is ∙ h in absurd (cc)) named
