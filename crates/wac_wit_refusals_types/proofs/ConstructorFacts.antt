-- What constructors return.
use Rattle.std.proofs.Common.{◌∙◌, ◌≡◌, Bool, IsTrue, ap, refl, subst, sym}
use Rattle.std.proofs.lemmas.Option.{same_Some}
use Rattle.std.specs.Prelude.{◌↔◌, Box, None, Option, Some}
use Rattle.std.specs.declared.alloc.Global.{Global}
use Rattle.wac_model.specs.Text.{Text}
use Rattle.wac_wit_syntax.specs.declared.positions.Span.{Span}
use Rattle.wac_wit_syntax.specs.declared.tree.TypeExpr.{TypeExpr}
use Rattle.wac_wit_syntax.specs.declared.tree.TypeExpr.TheVariants as ty
use Rattle.wac_wit_refusals_types.specs.ConstructorSteps.{HasNamedOk}
use Rattle.wac_wit_refusals_types.specs.Constructors.{IsConstructedType, IsHandleNamed, StandsThere, a_handle, a_result}

pub stands_at : (e whole : TypeExpr) (place span : Span) → e ≡ whole → place ≡ span → StandsThere whole place → StandsThere e span
stands_at e whole place span is same there = subst (λ (t : TypeExpr). StandsThere t span) (sym is) (subst (StandsThere whole) same there)

module _ (e : TypeExpr) (err : Option (Box TypeExpr Global)) (n : Text) where
  ok_named : (ok : Option (Box TypeExpr Global)) → e ≡ ty.Result ok err → IsConstructedType e n → HasNamedOk ok n
  ok_named (Some t) is (a_handle h) = absurd (subst (λ (x : TypeExpr). IsHandleNamed x n) is h)
  ok_named None is (a_handle h) = absurd (subst (λ (x : TypeExpr). IsHandleNamed x n) is h)
  ok_named (Some t) is (a_result u other eq h) = let same : u.value ≡ t.value = cc in (t, refl, subst (λ (x : TypeExpr). IsHandleNamed x n) same h)
  ok_named None is (a_result u other eq h) = absurd (cc)

  pub constructed_result : (ok : Option (Box TypeExpr Global)) (b : Bool) → e ≡ ty.Result ok err → IsTrue b ↔ HasNamedOk ok n → IsTrue b ↔ IsConstructedType e n
  constructed_result ok b is iff = (λ h. let w = iff.0 h in a_result w.0 err (is ∙ ap (λ (o : Option (Box TypeExpr Global)). ty.Result o err) w.1) w.2, λ k. iff.1 (ok_named ok is k))

pub named_some : (o : Option (Box TypeExpr Global)) (t : Box TypeExpr Global) (inner : TypeExpr) (n : Text) (b : Bool) → o ≡ Some t → inner ≡ t.value → IsTrue b ↔ IsHandleNamed inner n → IsTrue b ↔ HasNamedOk o n
named_some o t inner n b is same iff = (
  λ h. (t, is, subst (λ (x : TypeExpr). IsHandleNamed x n) same (iff.0 h)),
  λ k. iff.1 (subst (λ (x : TypeExpr). IsHandleNamed x n) (sym (same ∙ ap (λ (u : Box TypeExpr Global). u.value) (same_Some _ _ (sym is ∙ k.1)))) k.2),
)
