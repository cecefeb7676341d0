-- Answers to a list of calls and to the same calls in another order.
use Rattle.std.proofs.Common.{◌≡◌, ◌⊎◌, inl, inr, refl, subst, sym, ℕ, ◌+◌, ◌<◌, ◌≤◌, arith, List, take, Option, Some, None, IsSome, IsPermutation}
use Rattle.std.proofs.lemmas.Bool.{cases_lt}
use Rattle.wac_model.specs.ItemTree.{ItemTree}
use Rattle.wac_model.specs.Same.{SameAt, neither, both}
use Rattle.wac_names.specs.Class.{Class}
use Rattle.wac_aggregator_promises.specs.Answer.{ImportTrees, CallsAnswer, IsAccepted, accepted, refused, AreMeets, IsFirstRefused, IsPlainAnswer, IsWitAnswer, AreSameAnswers}
use Rattle.wac_aggregator_promises.specs.Call.{Call, IsItemOn}
use Rattle.wac_aggregator_promises.specs.Compatible.{IsCompatibleWitList}
use Rattle.wac_aggregator_promises.specs.Laws.{AnswersAreExact, PlainAnswersInAnyOrder, WitAnswersInAnyOrder}
use Rattle.wac_aggregator_promises.specs.PlainList.{IsCompatiblePlainList}
use Rattle.wac_aggregator_promises.specs.WitList.{IsTreeOn}
use Rattle.wac_aggregator_promises.proofs.Among.{AreAmongCalls, among_take, take_more, permuted, permuted_back, due_on, item_on, tree_on, plain_fewer, wit_fewer, wit_list_fewer}
use Rattle.wac_aggregator_promises.proofs.Sets.{meet_moves, one_meet_of}

-- the same calls, whose trees on each track are the same
module _ (Trees : List Call → Class → ItemTree → Type 0) (moves : (calls others : List Call) → AreAmongCalls calls others → (t : Class) (x : ItemTree) → Trees calls t x → Trees others t x)
    (calls others : List Call) (to : AreAmongCalls calls others) (from : AreAmongCalls others calls) (is js : ImportTrees) (p : AreMeets (Trees calls) calls is) (q : AreMeets (Trees others) others js) where
  same_at : (t : Class) (o r : Option ItemTree) → is t ≡ o → js t ≡ r → SameAt o r
  same_at t None None e f = neither
  same_at t (Some m) (Some n) e f = both (one_meet_of (Trees calls t) m n (p.meets t m e) (meet_moves (Trees others t) (Trees calls t) (moves others calls from t) (moves calls others to t) n (q.meets t n f)))
  same_at t None (Some n) e f =
      let there : IsSome (js t) = subst (λ (o : Option ItemTree). IsSome o) (sym f) refl in
      let here = subst (λ (o : Option ItemTree). IsSome o) e ((p.due t).0 (due_on others calls from t ((q.due t).1 there))) in
      absurd (cc here)
  same_at t (Some m) None e f =
      let here : IsSome (is t) = subst (λ (o : Option ItemTree). IsSome o) (sym e) refl in
      let there = subst (λ (o : Option ItemTree). IsSome o) f ((q.due t).0 (due_on calls others to t ((p.due t).1 here))) in
      absurd (cc there)

  pub same_imports : (t : Class) → SameAt (is t) (js t)
  same_imports t = same_at t (is t) (js t) refl refl

-- no call of a compatible list is the first that isn't
pub not_refused : (IsCompatible : List Call → Type 0) → ((calls others : List Call) → AreAmongCalls calls others → IsCompatible others → IsCompatible calls)
    → (calls others : List Call) → AreAmongCalls others calls → IsCompatible calls → (at : ℕ) → IsFirstRefused IsCompatible others at → ⊥
not_refused IsCompatible fewer calls others from h at r = r.with_it (fewer (take (at + 1) others) calls (λ c m. from c (among_take (at + 1) others c m)) h)

pub plain_in_any_order : PlainAnswersInAnyOrder
plain_in_any_order calls others (accepted is) (accepted js) p a b = same_imports IsItemOn item_on calls others (permuted calls others p) (permuted_back calls others p) is js a.1 b.1
plain_in_any_order calls others (accepted is) (refused n) p a b = not_refused IsCompatiblePlainList plain_fewer calls others (permuted_back calls others p) a.0 n b
plain_in_any_order calls others (refused m) (accepted js) p a b = not_refused IsCompatiblePlainList plain_fewer others calls (permuted calls others p) b.0 m a
plain_in_any_order calls others (refused m) (refused n) p a b = tt

wit_answers : (calls others : List Call) (a b : CallsAnswer) → IsPermutation calls others → IsWitAnswer calls a → IsWitAnswer others b → AreSameAnswers a b
wit_answers calls others (accepted is) (accepted js) p a b = same_imports IsTreeOn tree_on calls others (permuted calls others p) (permuted_back calls others p) is js a.1 b.1
wit_answers calls others (accepted is) (refused n) p a b = not_refused IsCompatibleWitList wit_fewer calls others (permuted_back calls others p) a.0 n b
wit_answers calls others (refused m) (accepted js) p a b = not_refused IsCompatibleWitList wit_fewer others calls (permuted calls others p) b.0 m a
wit_answers calls others (refused m) (refused n) p a b = tt

pub wit_in_any_order : WitAnswersInAnyOrder
wit_in_any_order = record {
  is_wit = λ calls others p. wit_list_fewer others calls (permuted_back calls others p);
  due = λ calls others t p. due_on calls others (permuted calls others p) t;
  answers = wit_answers;
}

-- the refused call is the first
module _ (IsCompatible : List Call → Type 0) (fewer : (calls others : List Call) → AreAmongCalls calls others → IsCompatible others → IsCompatible calls) (calls : List Call) where
  not_later : (m n : ℕ) → m < n → IsFirstRefused IsCompatible calls m → IsFirstRefused IsCompatible calls n → ⊥
  not_later m n l p q = p.with_it (fewer (take (m + 1) calls) (take n calls) (take_more (m + 1) n calls (omega arith)) q.before)

  pub one_call : (m n : ℕ) → IsFirstRefused IsCompatible calls m → IsFirstRefused IsCompatible calls n → m ≡ n
  one_call m n p q = by_order (cases_lt m n) (cases_lt n m)
    where
      by_order : (m < n) ⊎ (n ≤ m) → (n < m) ⊎ (m ≤ n) → m ≡ n
      by_order (inl l) y = absurd (not_later m n l p q)
      by_order (inr k) (inl l) = absurd (not_later n m l q p)
      by_order (inr k) (inr l) = omega arith

pub answers_exact : AnswersAreExact
answers_exact = record {
  plain = λ calls a h. (to_plain calls a h, from_plain calls a h);
  wit = λ calls a h. (to_wit calls a h, from_wit calls a h);
  one_plain_call = one_call IsCompatiblePlainList plain_fewer;
  one_wit_call = one_call IsCompatibleWitList wit_fewer;
}
  where
    to_plain : (calls : List Call) (a : CallsAnswer) → IsPlainAnswer calls a → IsAccepted a → IsCompatiblePlainList calls
    to_plain calls (accepted is) h y = h.0
    to_plain calls (refused n) h y = absurd y

    from_plain : (calls : List Call) (a : CallsAnswer) → IsPlainAnswer calls a → IsCompatiblePlainList calls → IsAccepted a
    from_plain calls (accepted is) h k = tt
    from_plain calls (refused n) h k = absurd (not_refused IsCompatiblePlainList plain_fewer calls calls (λ c m. m) k n h)

    to_wit : (calls : List Call) (a : CallsAnswer) → IsWitAnswer calls a → IsAccepted a → IsCompatibleWitList calls
    to_wit calls (accepted is) h y = h.0
    to_wit calls (refused n) h y = absurd y

    from_wit : (calls : List Call) (a : CallsAnswer) → IsWitAnswer calls a → IsCompatibleWitList calls → IsAccepted a
    from_wit calls (accepted is) h k = tt
    from_wit calls (refused n) h k = absurd (not_refused IsCompatibleWitList wit_fewer calls calls (λ c m. m) k n h)
