-- Calls that are handed in, and imports that a loop comes by.
use Rattle.std.proofs.Common.{◌≡◌, inl, inr, ℕ, List, [], ◌∷◌, ◌++◌, Option, Some, None, Contains, length, refl, ap, sym, subst, ◌∙◌, arith}
use Rattle.std.specs.Iterator.{Yields, YieldsFirstBy}
use Rattle.std.proofs.lemmas.Iterator.Consumers.{YieldsList-from_first, YieldsList-turn}
use Rattle.std.proofs.lemmas.List.Elements.{Contains-append_cases, Contains-get_or}
use Rattle.wac_component.proofs.Among.{Contains-cases}
use Rattle.wac_aggregator_promises.specs.Call.{Call}
use Rattle.wac_script_session.specs.Calls.{IsCallIn, AreCallsIn, AreAsked}
use Rattle.wac_script_session.specs.Collections.{Numbered, collection_at}

-- one call more
pub AreCallsIn-push : (cs : Numbered) (calls : List Call) (call : Call) → AreCallsIn cs calls → IsCallIn cs call → AreCallsIn cs (calls ++ call ∷ [])
AreCallsIn-push cs calls call before new c m = elim (Contains-append_cases calls (call ∷ []) c m) [
  | inl old ↦ before c old
  | inr last ↦ elim (Contains-cases c call [] last) [
    | inl is ↦ subst (IsCallIn cs) is new
    | inr none ↦ absurd (omega (arith, none.1))
  ]
]

-- what is called in a session, by an aggregator whose number no collection has
pub AreAsked-calls : (cs : Numbered) (number : ℕ) (calls : List Call) → collection_at cs number ≡ None → AreCallsIn cs calls → AreAsked number calls
AreAsked-calls cs number calls free h = record {
  each = λ c m. record {
    stands = (h c m).stands;
    apart = λ same. let no : None ≡ Some c.types = sym free ∙ ap (collection_at cs) (sym same) ∙ (h c m).found in cc;
  };
  one = λ c d m n same. let both : Some c.types ≡ Some d.types = sym (h c m).found ∙ ap (collection_at cs) same ∙ (h d n).found in cc;
}

-- what a loop has now was left at its start
pub yielded_among : {S A B : Type 0} (v : A → B) (rest : S → List B) (s t u : S) (xs : List A) (r : Option A) (x : A)
    → Yields (YieldsFirstBy v rest) s xs t → r ≡ Some x → YieldsFirstBy v rest t r u → Contains (rest s) (v x)
yielded_among v rest s t u xs r x y is step =
    let turn = YieldsList-turn (YieldsList-from_first v rest (rest s) refl) xs t y r u x is step in
    subst (Contains (rest s)) (sym turn.1) (Contains-get_or (rest s) (length xs) (v x) turn.0)
