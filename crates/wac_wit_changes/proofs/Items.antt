-- What is said of an old interface or world, and of all of a package's.
use Rattle.std.proofs.Common.{◌≡◌, ◌≢◌, ◌↔◌, List, [], ◌∷◌, ◌++◌, Option, Some, None, map, String, sym, subst, ap, ◌∙◌}
use Rattle.std.proofs.lemmas.List.{map-append}
use Rattle.std.specs.Borrow.{Bor}
use Rattle.std.specs.List.{AllZip}
use Rattle.std.specs.Map.Iter.{deref_pair}
use Rattle.std.specs.Option.{option_copied}
use Rattle.std.specs.declared.alloc.Global.{Global}
use Rattle.wac_component.specs.Id.{Id}
use Rattle.wac_wit_changes.specs.declared.problem.Problem.{Problem}
use Rattle.wac_wit_changes.specs.declared.report.ComparedItem.{ComparedItem}
use Rattle.wac_wit_changes.proofs.Pairwise.{AllZip-one_more}

-- what is found behind a reference
pub copied_is : {A : Type 0} (r : Option (Bor A)) (o : Option A) (x : Bor A) → option_copied r ≡ o → r ≡ Some x → o ≡ Some x.now
copied_is r o x copied is = sym copied ∙ ap option_copied is

pub copied_none : {A : Type 0} (r : Option (Bor A)) (o : Option A) → option_copied r ≡ o → r ≡ None → o ≡ None
copied_none r o copied is = sym copied ∙ ap option_copied is

-- what says one thing says another that is the same
pub says_both : {P Q R : Type 0} → P ↔ Q → Q ↔ R → P ↔ R
says_both pq qr = ((λ p. qr.0 (pq.0 p)), (λ r. pq.1 (qr.1 r)))

module _ {A : Type 0} (o : Option A) (Will : A → Type 0) (ps : List Problem) where
  -- where nothing is found, a problem says so
  pub says_gone : o ≡ None → ps ≢ [] → (ps ≡ []) ↔ ((x : A) × (o ≡ Some x) × Will x)
  says_gone none some = ((λ e. absurd (some e)), (λ f. let found : o ≡ Some f.0 = f.1 in absurd (cc (none, found))))

  -- where something is found, problems say whether it will do
  pub says_found : (x : A) → o ≡ Some x → (ps ≡ []) ↔ Will x → (ps ≡ []) ↔ ((y : A) × (o ≡ Some y) × Will y)
  says_found x found will = ((λ e. (x, found, will.0 e)), (λ f. will.1 (subst Will (same f.0 f.1) f.2)))
    where
      same : (y : A) → o ≡ Some y → y ≡ x
      same y other = cc (other, found)

-- one more item
pub items_more : (About : String Global × Id → ComparedItem → Type 0) (ys : List (Bor (String Global) × Bor Id)) (items more : List ComparedItem) (name : Bor (String Global)) (id : Bor Id) (item : ComparedItem)
    → AllZip About (map deref_pair ys) items → About (name.now, id.now) item → more ≡ items ++ item ∷ [] → AllZip About (map deref_pair (ys ++ (name, id) ∷ [])) more
items_more About ys items more name id item done about e =
    subst (λ es. AllZip About es more) (sym (map-append deref_pair ys ((name, id) ∷ [])))
    (subst (AllZip About (map deref_pair ys ++ (name.now, id.now) ∷ [])) (sym e)
    (AllZip-one_more About (map deref_pair ys) items (name.now, id.now) item done about))
