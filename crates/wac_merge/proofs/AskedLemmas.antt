-- Looking up and noting what was made.
use Rattle.std.proofs.Common.{◌≡◌, [], ◌∷◌, ◌++◌, Bool, true, false, cond, Contains, Option, Some, None, refl, ap, sym, subst, ◌∙◌, inl, inr, arith, rules}
use Rattle.std.specs.Map.{lookup}
use Rattle.indexmap.specs.IndexMap.{insert_entry}
use Rattle.wac_component.proofs.Among.{Contains-first, Contains-later, Contains-cases}
use Rattle.wac_merge.specs.Memo.{Made, IsNew, IsMadeFor}
use Rattle.wac_merge.specs.declared.memo.Asked.{Asked}
use Rattle.wac_merge.specs.declared.memo.BoundId.{BoundId}
use Rattle.wac_merge.specs.contracts.memo.AskedPartialEq.TheImpl.{ghosts}

abbrev pub asked_eq : Asked → Asked → Bool
asked_eq = ghosts.eq

pub asked_exact : (x y : Asked) → asked_eq x y ≡ true → x ≡ y
asked_exact x y h = search rules

asked_same : (x : Asked) → asked_eq x x ≡ true
asked_same x = search rules

-- what a look-up finds was made for what is asked
pub found_made : (a : Asked) (ms : Made) (o : Option BoundId) → lookup (asked_eq a) ms ≡ o → IsMadeFor ms a o
found_made a [] o is = subst (IsMadeFor [] a) is (λ p m. absurd (omega (arith, m.1)))
found_made a (x ∷ xs) o is = by_test (asked_eq a x.0) refl is (found_made a xs o)
  where
    later : (o : Option BoundId) → asked_eq a x.0 ≡ false → IsMadeFor xs a o → IsMadeFor (x ∷ xs) a o
    later None other h = λ p m. elim (Contains-cases (a, p) x xs m) [
      | inl same ↦ (let here : asked_eq a x.0 ≡ true = ap (λ (z : Asked × BoundId). asked_eq a z.0) same ∙ asked_same a in absurd (cc))
      | inr old ↦ h p old
    ]
    later (Some p) other h = Contains-later (a, p) x xs h

    by_test : (b : Bool) → asked_eq a x.0 ≡ b → cond b (Some x.1) (lookup (asked_eq a) xs) ≡ o → (lookup (asked_eq a) xs ≡ o → IsMadeFor xs a o) → IsMadeFor (x ∷ xs) a o
    by_test true here is rest = subst (IsMadeFor (x ∷ xs) a) is (subst (λ (z : Asked). Contains (x ∷ xs) (z, x.1)) (sym (asked_exact a x.0 here)) (Contains-first x xs))
    by_test false other is rest = later o other (rest is)

-- what is new is noted last
pub put_made : (a : Asked) (r : BoundId) (ms : Made) → IsNew ms a → insert_entry asked_eq ms a r ≡ ms ++ (a, r) ∷ []
put_made a r [] new = refl
put_made a r (x ∷ xs) new = by_test (asked_eq a x.0) refl (put_made a r xs (λ p m. new p (Contains-later (a, p) x xs m)))
  where
    by_test : (b : Bool) → asked_eq a x.0 ≡ b → insert_entry asked_eq xs a r ≡ xs ++ (a, r) ∷ [] → cond b ((x.0, r) ∷ xs) (x ∷ insert_entry asked_eq xs a r) ≡ x ∷ (xs ++ (a, r) ∷ [])
    by_test true here rest = absurd (new x.1 (subst (λ (z : Asked). Contains (x ∷ xs) (z, x.1)) (sym (asked_exact a x.0 here)) (Contains-first x xs)))
    by_test false other rest = ap (λ (l : Made). x ∷ l) rest

-- nothing is made for it while what was made stays
pub still_new : (a : Asked) (ms ns : Made) → ns ≡ ms → IsNew ms a → IsNew ns a
still_new a ms ns same new = λ p m. new p (subst (λ (l : Made). Contains l (a, p)) same m)
