-- Calls that hand in items of two collections.
use Rattle.std.proofs.Common.{◌≡◌, ◌≢◌, inl, inr, List, [], ◌∷◌, ◌++◌, Some, None, Contains, ap, sym, subst, ◌∙◌}
use Rattle.std.proofs.lemmas.List.Elements.{Contains-push_cases}
use Rattle.wac_types.specs.Collection.{Collection}
use Rattle.wac_types.specs.Call.{Call}
use Rattle.wac_memory_tests.specs.Calls.{collection_at, IsCallOf, AreCallsOf, MayBeAggregated}

-- one call more
pub AreCallsOf-push : (a b : Collection) (calls : List Call) (call : Call) → AreCallsOf a b calls → IsCallOf a b call → AreCallsOf a b (calls ++ call ∷ [])
AreCallsOf-push a b calls call before new c m = elim (Contains-push_cases calls call c m) [
  | inl old ↦ before c old
  | inr is ↦ subst (IsCallOf a b) is new
]

-- no call is of the collection of the merged imports
AreCallsOf-apart : (a b : Collection) (calls : List Call) → AreCallsOf a b calls → (c : Call) → Contains calls c → c.types.number ≢ 9
AreCallsOf-apart a b calls h c m same = let no : None ≡ Some c.types = ap (collection_at a b) (sym same) ∙ (h c m).found in cc

-- equal numbers mean one collection
AreCallsOf-one : (a b : Collection) (calls : List Call) → AreCallsOf a b calls → (c d : Call) → Contains calls c → Contains calls d → c.types.number ≡ d.types.number → c.types ≡ d.types
AreCallsOf-one a b calls h c d m n same = let both : Some c.types ≡ Some d.types = sym (h c m).found ∙ ap (collection_at a b) same ∙ (h d n).found in cc

pub AreCallsOf-aggregated : (a b : Collection) (calls : List Call) → AreCallsOf a b calls → MayBeAggregated 9 calls
AreCallsOf-aggregated a b calls h = record {
  source = λ c m. (h c m).stands;
  one = AreCallsOf-one a b calls h;
  apart = AreCallsOf-apart a b calls h;
}
