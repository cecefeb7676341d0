-- Calls that hand in what the components of a graph import.
use Rattle.std.proofs.Common.{◌≡◌, ◌≢◌, inl, inr, refl, List, [], ◌∷◌, ◌++◌, Some, None, Contains, ap, sym, subst, ◌∙◌}
use Rattle.std.proofs.lemmas.List.Elements.{Contains-push_cases}
use Rattle.wac_types.specs.Call.{Call}
use Rattle.wac_composition.specs.Calls.{component_types, IsCallOf, AreCallsOf, MayBeAggregated}
use Rattle.wac_composition.specs.declared.graph.Graph.{Graph}

-- one call more
pub AreCallsOf-push : (g : Graph) (calls : List Call) (call : Call) → AreCallsOf g calls → IsCallOf g call → AreCallsOf g (calls ++ call ∷ [])
AreCallsOf-push g calls call before new c m = elim (Contains-push_cases calls call c m) [
  | inl old ↦ before c old
  | inr is ↦ subst (IsCallOf g) is new
]

-- no call is of the collection of the merged imports
AreCallsOf-apart : (g : Graph) (calls : List Call) → AreCallsOf g calls → (c : Call) → Contains calls c → c.types.number ≢ 4
AreCallsOf-apart g calls h c m same = let no : None ≡ Some c.types = ap (component_types g) (sym same) ∙ (h c m).found in cc

-- equal numbers mean one collection
AreCallsOf-one : (g : Graph) (calls : List Call) → AreCallsOf g calls → (c d : Call) → Contains calls c → Contains calls d → c.types.number ≡ d.types.number → c.types ≡ d.types
AreCallsOf-one g calls h c d m n same = let both : Some c.types ≡ Some d.types = sym (h c m).found ∙ ap (component_types g) same ∙ (h d n).found in cc

pub AreCallsOf-aggregated : (g : Graph) (calls : List Call) → AreCallsOf g calls → MayBeAggregated 4 calls
AreCallsOf-aggregated g calls h = record {
  source = λ c m. (h c m).stands;
  one = AreCallsOf-one g calls h;
  apart = AreCallsOf-apart g calls h;
}

-- each component's collection is found by its number
pub middleware_found : (g : Graph) → component_types g g.middleware.types.number ≡ Some g.middleware.types
middleware_found g = rw g.numbered.middleware_is refl

pub handler_found : (g : Graph) → component_types g g.handler.types.number ≡ Some g.handler.types
handler_found g = rw g.numbered.handler_is refl

pub client_found : (g : Graph) → component_types g g.client.types.number ≡ Some g.client.types
client_found g = rw g.numbered.client_is refl
