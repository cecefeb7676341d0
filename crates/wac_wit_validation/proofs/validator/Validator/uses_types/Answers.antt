use Rattle.std.proofs.Common.{refl, sym, subst, Contains, List}
use Rattle.wac_wit_syntax.specs.declared.tree.Rename.{Rename}
use Rattle.wac_wit_validation.proofs.validator.Validator.uses_types.Goals as goal

pub returns-then-is_there : goal.returns-then-is_there
returns-then-is_there c = λ of knows. (
  λ is. let one = c.has_any.ensures.some is in ((c.if-is_there.ensures of knows.interfaces).0 refl, (one.0, subst (λ (l : List Rename). Contains l one.0) c.deref.ensures.value one.1)),
  λ uses. c.has_any.ensures.none uses.1.0 (subst (λ (l : List Rename). Contains l uses.1.0) (sym c.deref.ensures.value) uses.1.1),
)
