-- What a verdict on two items answers.
use Rattle.std.proofs.Common.{◌⊎◌, Result, Ok, Err, IsOk, inl, inr}
use Rattle.wac_model.specs.ItemTree.{ItemTree}
use Rattle.wac_model.specs.Order.{Fits}
use Rattle.wac_mismatch.specs.Place.{item_side}
use Rattle.wac_mismatch.specs.declared.check.SubtypeCheck.{SubtypeCheck}
use Rattle.wac_mismatch.specs.declared.error.SubtypeError.{SubtypeError}
use Rattle.wac_mismatch.specs.declared.error.SubtypeError.TheVariants.{Mismatch, Memory}
use Rattle.wac_mismatch.proofs.PathLemmas.{explains_refutes}
use Rattle.wac_checker.specs.Checker.{Answers, IsOneAnswer}
use Rattle.wac_checker.specs.Verdict.{IsItemVerdict}

-- a verdict answers whether one item fits
pub verdict_answers : (r : Result (Unit {0}) SubtypeError) (P : Type 0) (c : SubtypeCheck) (x y : ItemTree) → IsItemVerdict r P c x y → P → Answers r (Fits x y)
verdict_answers (Ok u) P c x y h given = h given
verdict_answers (Err (Mismatch frames f)) P c x y h given = explains_refutes (Mismatch frames f) c (item_side x) (item_side y) h
verdict_answers (Err Memory) P c x y h given = tt

-- and whether that or something else holds, which doesn't
pub verdict_answers_either : (r : Result (Unit {0}) SubtypeError) (P : Type 0) (c : SubtypeCheck) (x y : ItemTree) (Q : Type 0) → (Q → ⊥) → IsItemVerdict r P c x y → P → Answers r (Q ⊎ Fits x y)
verdict_answers_either (Ok u) P c x y Q apart h given = inr (h given)
verdict_answers_either (Err (Mismatch frames f)) P c x y Q apart h given = elim [ inl q ↦ absurd (apart q) | inr fits ↦ explains_refutes (Mismatch frames f) c (item_side x) (item_side y) h fits ]
verdict_answers_either (Err Memory) P c x y Q apart h given = tt

-- a yes is right
pub verdict_yes : (r : Result (Unit {0}) SubtypeError) (P : Type 0) (c : SubtypeCheck) (x y : ItemTree) → IsItemVerdict r P c x y → IsOk r → P → Fits x y
verdict_yes (Ok u) P c x y h ok = h
verdict_yes (Err e) P c x y h ok = absurd (cc (ok))

pub one_answer : IsOneAnswer
one_answer pairs p a b (Ok u) (Ok v) r s = tt
one_answer pairs p a b (Ok u) (Err Memory) r s = tt
one_answer pairs p a b (Ok u) (Err (Mismatch frames f)) r s = s r
one_answer pairs p a b (Err Memory) s r t = tt
one_answer pairs p a b (Err (Mismatch frames f)) (Ok v) r s = r s
one_answer pairs p a b (Err (Mismatch frames f)) (Err Memory) r s = tt
one_answer pairs p a b (Err (Mismatch frames f)) (Err (Mismatch frames' f')) r s = tt
