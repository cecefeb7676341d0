use Rattle.std.proofs.Common.{◌∙◌}
use Rattle.wac_wit_syntax.specs.declared.tree.TypeExpr.TheVariants as ty
use Rattle.wac_wit_refusals_types.proofs.type_reasons.is_length_zero.Goals as goal

pub returns-then-length-eq0 : goal.returns-then-length-eq0
returns-then-length-eq0 c is = (c.in-FixedList.field-0, c.in-FixedList.is ∙ (λ i. ty.FixedList c.in-FixedList.field-0 (c.if-length-eq0.true i) (c.is_at.ensures is i)))
