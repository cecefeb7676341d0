-- Calls that hand in what worlds import.
use Rattle.std.proofs.Common.{◌≡◌, ◌≢◌, ◌+◌, ℕ, inl, inr, refl, List, [], ◌∷◌, ◌++◌, Some, None, Contains, ap, sym, subst, ◌∙◌}
use Rattle.std.specs.Prelude.{option_map, slice_get}
use Rattle.std.proofs.lemmas.List.Elements.{Contains-push_cases}
use native.Mathlib.Numerals.{unary_clauses}
use Rattle.wac_types.specs.Call.{Call}
use Rattle.wac_wit_answers.specs.Calls.{numbered_collection, IsHandedFrom, AreHandedFrom}
use Rattle.wac_wit_answers.specs.declared.merging.Source.{Source}

-- one call more
pub AreHandedFrom-push : (ss : List Source) (calls : List Call) (call : Call) → AreHandedFrom ss calls → IsHandedFrom ss call → AreHandedFrom ss (calls ++ call ∷ [])
AreHandedFrom-push ss calls call before new c m = elim (Contains-push_cases calls call c m) [
  | inl old ↦ before c old
  | inr is ↦ subst (IsHandedFrom ss) is new
]

-- no call is of the collection of the merged imports
pub AreHandedFrom-apart : (ss : List Source) (calls : List Call) → AreHandedFrom ss calls → (c : Call) → Contains calls c → c.types.number ≢ 0
AreHandedFrom-apart ss calls h c m same = let no : None ≡ Some c.types = ap (numbered_collection ss) (sym same) ∙ (h c m).found in cc

-- equal numbers mean one collection
pub AreHandedFrom-one : (ss : List Source) (calls : List Call) → AreHandedFrom ss calls → (c d : Call) → Contains calls c → Contains calls d → c.types.number ≡ d.types.number → c.types ≡ d.types
AreHandedFrom-one ss calls h c d m n same = let both : Some c.types ≡ Some d.types = sym (h c m).found ∙ ap (numbered_collection ss) same ∙ (h d n).found in cc

numbered_place : (ss : List Source) (i : ℕ) → numbered_collection ss (i + 1) ≡ option_map (λ (s : Source). s.types) (slice_get ss i)
numbered_place ss i = simp unary_clauses refl

-- the collection of a world is found by the number that its place has
pub found_by_place : (ss : List Source) (i : ℕ) (s : Source) → slice_get ss i ≡ Some s → s.types.number ≡ i + 1 → numbered_collection ss s.types.number ≡ Some s.types
found_by_place ss i s at is = ap (numbered_collection ss) is ∙ numbered_place ss i ∙ ap (option_map (λ (s : Source). s.types)) at
