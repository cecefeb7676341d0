-- Calls one after another.
use Rattle.std.proofs.Common.{◌≡◌, ◌≢◌, ◌<◌, ℕ, suc, List, [], ◌∷◌, ◌++◌, Some, Contains, take, length, slice_get, slice_index_or, refl, ap, sym, ◌∙◌, subst}
use Rattle.std.proofs.Math.Seq.{take-suc}
use Rattle.std.proofs.lemmas.List.Elements.{Contains-get_or}
use Rattle.std.proofs.lemmas.Option.{slice_get_within, get_or_from_slice_get, slice_get-get_or}
use Rattle.std.specs.Option.{option_map}
use Rattle.wac_component.specs.Key.{AllStand, item_keys}
use Rattle.wac_component.specs.Sound.{IsSound}
use Rattle.wac_component.proofs.Lists.{slice_get-map}
use Rattle.wac_aggregator_promises.specs.Call.{Call}
use Rattle.wac_aggregator_imports.specs.Import.{AreFiled}
use Rattle.wac_names.specs.Class.{class_of}
use Rattle.wac_aggregator_narrowing.specs.Remembers.{RemembersTruly}
use Rattle.wac_aggregator_narrowing.specs.State.{IsStateKept, RunsTaking}
use Rattle.wac_aggregator_reasons.specs.Trial.{IsAccounted}
use Rattle.wac_aggregator_reasons.specs.Split.{AreSharedOrBelow}
use Rattle.wac_aggregator_taking.specs.Takes.{state_of, AreFiledIn, MayTake}
use Rattle.wac_aggregator_taking.specs.declared.state.Merging.{Merging}
use Rattle.wac_aggregator_taking.proofs.TakeLemmas.{AreFiledIn-run}
use Rattle.wac_aggregator_reasons.proofs.Starting.{held_after}
use Rattle.wac_aggregator.specs.Advances.{attempt_at, Advances, MayTry}
use Rattle.wac_aggregator.specs.HandedIn.{called, handed_in}
use Rattle.wac_aggregator.specs.Served.{AreCallsServed}
use Rattle.wac_aggregator.specs.InOrder.{IsMergingInOrder}
use Rattle.wac_aggregator.specs.declared.all.Call.{Call as Handed}
use Rattle.wac_aggregator.proofs.Advancing.{run, rest, taken_kept, call_accounts}
use Rattle.wac_aggregator.proofs.Front.{advances_served}
use Rattle.wac_aggregator.proofs.Held.{identified_after}
use Rattle.wac_aggregator.proofs.Trying.{call_trial, call_accounted}

-- one more of a list
pub take-next : {A : Type 0} (xs : List A) (i : ℕ) (x : A) → slice_get xs i ≡ Some x → take (suc i) xs ≡ take i xs ++ x ∷ []
take-next xs i x h = take-suc xs i x (slice_get_within xs i x h) ∙ ap (λ y. take i xs ++ y ∷ []) (get_or_from_slice_get xs i x x h)

pub Contains-at : {A : Type 0} (xs : List A) (i : ℕ) (x : A) → slice_get xs i ≡ Some x → Contains xs x
Contains-at xs i x h = subst (Contains xs) (get_or_from_slice_get xs i x x h) (Contains-get_or xs i x (slice_get_within xs i x h))

-- the call at an index, with what its references refer to
pub called_at : (calls : List Handed) (i : ℕ) (x : Handed) → i < length calls → x ≡ slice_index_or calls i x → slice_get (handed_in calls) i ≡ Some (called x)
called_at calls i x l is = slice_get-map called calls i ∙ ap (option_map called) (slice_get-get_or calls i x l ∙ ap (λ y. Some y) (sym is))

-- a call of a sound collection may be tried
pub may_try : (call : Call) (a : Merging) → IsSound call.types → AllStand call.types (item_keys call.kind) → IsMergingInOrder a → MayTry call a
may_try call a sound item order = record { sound = record { sound = sound; stands = item }; held = order.held; split = order.split }

-- the state is in order after a call
pub advances_in_order : (call : Call) (a b : Merging) → MayTake call.types a → MayTry call a → AreSharedOrBelow (state_of a) → AreFiled a.imports → AreFiled b.imports → Advances call a b → IsMergingInOrder b
advances_in_order call a b may try order filed_a filed_b h = record {
  kept = kept_b;
  filed = subst (λ (m : Merging). AreFiledIn m.types m.shared.entries) (sym h.same) (AreFiledIn-run call.types (state_of h.taken) (state_of (record h.taken { types = b.types; imports = b.imports })) h.taken.shared.entries (taken_kept call a b may filed_a filed_b h) refl
      (subst (λ (m : Merging). RunsTaking (RemembersTruly class_of) call.types (state_of h.taken) (state_of m)) h.same (rest call a b may filed_a filed_b h)) h.takes.filed);
  imports = filed_b;
  held = held_after (attempt_at call a) (state_of b) kept_b now;
  split = now.split;
  identified = identified_after call a b may filed_a filed_b h order;
}
  where
    kept_b : IsStateKept (state_of b)
    kept_b = (run call a b may filed_a filed_b h).kept may.kept

    now : IsAccounted (attempt_at call a) (state_of b)
    now = call_accounts call a b may filed_a filed_b h (attempt_at call a) (call_trial call a may try) (call_accounted call a may try)

-- and its collection has the number that it had
pub advances_number : (call : Call) (a b : Merging) → MayTake call.types a → AreFiled a.imports → AreFiled b.imports → Advances call a b → b.types.number ≡ a.types.number
advances_number call a b may filed_a filed_b h = ((run call a b may filed_a filed_b h).narrows may.kept).number

module _ (calls : List Call) (number : ℕ) (one : (c d : Call) → Contains calls c → Contains calls d → c.types.number ≡ d.types.number → c.types ≡ d.types) (apart : (c : Call) → Contains calls c → c.types.number ≢ number) where
  -- what a call finds
  pub may_take : (front : List Call) (call : Call) (a : Merging) → Contains calls call → a.types.number ≡ number → IsMergingInOrder a → AreCallsServed calls front a → MayTake call.types a
  may_take front call a among number_is order s = record { apart = λ e. apart call among (e ∙ number_is); kept = order.kept; truly = s.truly call.types (λ c m. one call c among m); filed = order.filed }

  -- what it leaves
  pub one_more : (i : ℕ) (call : Call) (a b : Merging) → slice_get calls i ≡ Some call → AllStand call.types (item_keys call.kind) → AreFiled b.imports → a.types.number ≡ number → IsMergingInOrder a → AreCallsServed calls (take i calls) a → Advances call a b → AreCallsServed calls (take (suc i) calls) b
  one_more i call a b at item filed_b number_is order s h =
      let among = Contains-at calls i call at in
      subst (λ front. AreCallsServed calls front b) (sym (take-next calls i call at))
      (advances_served calls (take i calls) call a b among (λ c m. one call c among m) (may_take (take i calls) call a among number_is order s) item order.imports filed_b s h)
