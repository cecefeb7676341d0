-- What differs does so in either direction, and a no of core externs explains itself.
use Rattle.std.proofs.Common.{◌≡◌, ◌≢◌, ap, sym, ◌∙◌}
use Rattle.wac_model.specs.CoreTree.{CoreTree}
use Rattle.wac_mismatch.specs.Place.{core_side, place, expected_of, found_of}
use Rattle.wac_mismatch.specs.Holds.{Holds}
use Rattle.wac_mismatch.specs.Path.{Explains}
use Rattle.wac_mismatch.specs.declared.error.SubtypeError.{SubtypeError}
use Rattle.wac_mismatch.proofs.PathLemmas.{explains_here}
use Rattle.wac_core_checker.specs.Verdict.{RefusesHere}
use Rattle.wac_mismatch.specs.declared.check.SubtypeCheck.{SubtypeCheck}
use Rattle.wac_mismatch.specs.declared.check.SubtypeCheck.TheVariants.{Covariant, Contravariant}

-- two that differ do so as what is expected and what is found
pub differ_turned : {A B : Type 0} (g : A → B) (c : SubtypeCheck) (a b e f : A) → e ≡ expected_of c a b → f ≡ found_of c a b → g a ≢ g b → g e ≢ g f
differ_turned g Covariant a b e f p q ne same = ne (sym (ap g q) ∙ sym same ∙ ap g p)
differ_turned g Contravariant a b e f p q ne same = ne (sym (ap g p) ∙ same ∙ ap g q)

-- a no of two core externs explains itself
pub refused_here_explains : (c : SubtypeCheck) (a b : CoreTree) (e : SubtypeError) → RefusesHere c a b e → Explains e c (core_side a) (core_side b)
refused_here_explains c a b e h = explains_here (λ f. Holds f (place c (core_side a) (core_side b))) e c (core_side a) (core_side b) h (λ f x. x)
