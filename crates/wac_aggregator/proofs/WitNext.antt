-- What holds of the state of merging once one call more of a WIT list was accepted.
use Rattle.std.proofs.Common.{inl, inr, List, [], ◌∷◌, ◌++◌, Contains}
use Rattle.std.proofs.lemmas.List.Elements.{Contains-push}
use Rattle.wac_component.specs.Id.{Id}
use Rattle.wac_aggregator_promises.specs.Call.{Call, IsSoundCall}
use Rattle.wac_aggregator_promises.specs.Entries.{ReachesByUses}
use Rattle.wac_aggregator_promises.specs.Shared.{TakenIds}
use Rattle.wac_aggregator_promises.specs.WitList.{AreWit, IsNamedInstance, IsWitList}
use Rattle.wac_aggregator_promises.proofs.Members.{wit_item}
use Rattle.wac_aggregator_imports.specs.Import.{AreFiled}
use Rattle.wac_aggregator_taking.specs.Members.{HasTakenIn, HasAllOf, TakesMembers}
use Rattle.wac_aggregator_taking.specs.Takes.{MayTake}
use Rattle.wac_aggregator_taking.specs.declared.state.Merging.{Merging}
use Rattle.wac_aggregator.specs.Advances.{Advances}
use Rattle.wac_aggregator.specs.HandedIn.{IsOneOf}
use Rattle.wac_aggregator.specs.Served.{AreCallsServed}
use Rattle.wac_aggregator.specs.Wit.{IsWitAfter, MayHandIn}
use Rattle.wac_aggregator.proofs.Wit.{named_wit, may_hand_in}
use Rattle.wac_aggregator.proofs.WitNamed.{named_next}
use Rattle.wac_aggregator.proofs.WitPlain.{plain_next}

-- what takes in the interfaces that a named instance reaches by uses
abbrev pub TakesInNamed : Call → Merging → Merging → Type 0
TakesInNamed call a b = (i : Id) → MayHandIn call a i → (taken : TakenIds) → AreWit call.types (ReachesByUses call.types i) → HasTakenIn a taken → HasAllOf call.types a taken → TakesMembers call.types a b (ReachesByUses call.types i) taken

module _ (calls front : List Call) (call : Call) (wit : IsWitList (front ++ call ∷ [])) (a b : Merging) (among : Contains calls call) (one : IsOneOf calls call.types) (may : MayTake call.types a) (sound : IsSoundCall call) (filed_a : AreFiled a.imports) (filed_b : AreFiled b.imports)
    (served : AreCallsServed calls front a) (w : IsWitAfter calls front a) (h : Advances call a b) where
  takes_members : TakesInNamed call a b → (i : Id) (n : IsNamedInstance call i) → TakesMembers call.types a b (ReachesByUses call.types i) w.taken
  takes_members take i n = take i (may_hand_in calls front call a i wit filed_a served w n) w.taken (named_wit front call wit i n) w.has (w.all call.types one)

  pub wit_next : TakesInNamed call a b → IsWitAfter calls (front ++ call ∷ []) b
  wit_next take = elim (wit_item (front ++ call ∷ []) wit call (Contains-push front call)) [
    | inl n ↦ named_next calls front call wit a b among one may sound filed_a filed_b served w h n.0 n.1 (takes_members take n.0 n.1)
    | inr p ↦ plain_next calls front call wit a b among one may sound filed_a filed_b served w h p
  ]
