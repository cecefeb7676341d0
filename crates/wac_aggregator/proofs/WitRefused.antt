-- Why a call of a WIT list is refused.
use Rattle.std.proofs.Common.{◌≡◌, ◌≢◌, inl, inr, List, [], ◌∷◌, ◌++◌, Some, Contains, refl, ap, sym, ◌∙◌, subst}
use Rattle.std.proofs.lemmas.List.Elements.{Contains-push}
use Rattle.std.specs.Option.{option_map}
use Rattle.wac_component.specs.Collection.{Collection}
use Rattle.wac_component.specs.Id.{Id}
use Rattle.wac_component.specs.Key.{Key, Stands, interface_key}
use Rattle.wac_component.specs.Open.{OpenReaches, step}
use Rattle.wac_component.specs.Reach.{Reaches}
use Rattle.wac_component.specs.Tree.{item_tree}
use Rattle.wac_component.proofs.Among.{Contains-first, Contains-later}
use Rattle.wac_component.proofs.OpenWalks.{opens_reach, open_in_next}
use Rattle.wac_component.proofs.Walks.{no_walk_returns}
use Rattle.wac_names.specs.Class.{Class, class_of}
use Rattle.wac_aggregator_narrowing.specs.Traced.{IsAmongRoots, Arrow, Arrows}
use Rattle.wac_aggregator_narrowing.specs.Traced as traced
use Rattle.wac_aggregator_promises.specs.Call.{Call, AreSoundCalls}
use Rattle.wac_aggregator_promises.specs.Compatible.{TrackUses, LeadsOver}
use Rattle.wac_aggregator_promises.specs.Entries.{ReachesByUses}
use Rattle.wac_aggregator_promises.specs.PlainList.{IsPlain}
use Rattle.wac_aggregator_promises.specs.Reason.{CallRefusal, kinds, mismatch, unexplained, used_interface, used_name, no_identifier, owner_without_identifier, cycle, IsReason}
use Rattle.wac_aggregator_promises.specs.Reason as reason
use Rattle.wac_aggregator_promises.specs.Shared.{TakenIds}
use Rattle.wac_aggregator_promises.specs.WitList.{AreWit, IsNamedInstance, IsMember, IsWitList}
use Rattle.wac_aggregator_promises.specs.WitRun.{IsWitRefusal, by_kinds, by_import, by_use, by_owner, by_taking, by_cycle, by_member}
use Rattle.wac_aggregator_promises.proofs.ByUses.{by_uses, member_by_uses, wit_members}
use Rattle.wac_aggregator_promises.proofs.Members.{LeadsOver-trans, members_stand, named_member, walk_leads, wit_item}
use Rattle.wac_aggregator_imports.specs.Import.{ImportContent, AreFiled}
use Rattle.wac_aggregator_errors.specs.declared.error.AggregateError.{AggregateError}
use Rattle.wac_aggregator_taking.specs.Members.{HasTakenIn, HasAllOf, roots_of, Hinders, at_entry, in_cycle, IsNotTaken, IsOfMerging, IsMemberRefusal}
use Rattle.wac_aggregator_errors.specs.Said.{said}
use Rattle.wac_aggregator_taking.specs.Refused.{HasReason}
use Rattle.wac_aggregator_taking.specs.declared.state.Merging.{Merging}
use Rattle.wac_aggregator_taking.proofs.Identifiers.{is_interface, has_identifier}
use Rattle.wac_aggregator.specs.Advances.{attempt_at, CallHasNoMeet}
use Rattle.wac_aggregator.specs.HandedIn.{IsOneOf}
use Rattle.wac_aggregator.specs.Served.{AreCallsServed}
use Rattle.wac_aggregator.specs.Wit.{trees_of, IsWitAfter, MayHandIn}
use Rattle.wac_aggregator.proofs.Wit.{named_wit, taken_members, may_hand_in}

-- ---- cycles

-- a root is one of the interfaces that were taken in
root_taken : (some : TakenIds) (c : Collection) (k : Key) → IsAmongRoots c k (roots_of some) → (i : Id) × Contains some (c, i) × (k ≡ interface_key i)
root_taken [] c k m = elim m [ ]
root_taken (e ∷ es) _ _ traced.here = (e.1, Contains-first e es, refl)
root_taken (e ∷ es) c k (traced.there m) = let r = root_taken es c k m in (r.0, Contains-later (c, r.0) e es r.1, r.2)

module _ (calls : List Call) (some : TakenIds) (wit : IsWitList calls) (sound : AreSoundCalls calls) (members : (c : Collection) (i : Id) → Contains some (c, i) → IsMember calls c i) where
  -- an arrow leads from member to member
  arrow_leads : (s t : Class) → Arrow class_of (roots_of some) s t → LeadsOver (TrackUses calls) s t
  arrow_leads s t x = walk_leads calls wit x.of x.from.id x.to.id s t from_member (record { name = x.from_name; identified = has_identifier x.of x.from x.from_name x.from_identified; on_track = x.from_track }) (record { name = x.to_name; identified = has_identifier x.of x.to x.to_name x.to_identified; on_track = x.to_track }) another
      (subst (λ k. OpenReaches x.of k (interface_key x.to.id)) from_is (subst (OpenReaches x.of x.from) to_is (step x.leads.named x.leads.onward)))
    where
      from_is : x.from ≡ interface_key x.from.id
      from_is = is_interface x.of x.from x.from_name x.from_identified

      to_is : x.to ≡ interface_key x.to.id
      to_is = is_interface x.of x.to x.to_name x.to_identified

      from_member : IsMember calls x.of x.from.id
      from_member =
          let r = root_taken some x.of x.root x.is_root in
          let m = members x.of r.0 r.1 in
          member_by_uses m (by_uses x.of (IsMember calls x.of) (wit_members calls x.of wit) r.0 x.from.id m (subst (λ k. Reaches x.of k (interface_key x.from.id)) r.2 (subst (Reaches x.of x.root) from_is (opens_reach x.of x.root x.from x.reached))))

      another : x.to.id ≢ x.from.id
      another same =
          let k = members_stand calls x.of x.from.id sound from_member in
          no_walk_returns x.of k.0 x.from x.leads.by (subst (Stands x.of) (sym from_is) k.1) (open_in_next x.of x.from x.leads.by x.leads.named)
          (subst (Reaches x.of x.leads.by) (to_is ∙ ap interface_key same ∙ sym from_is) (opens_reach x.of x.leads.by x.to x.leads.onward))

  arrows_lead : (s t : Class) → Arrows class_of (roots_of some) s t → LeadsOver (TrackUses calls) s t
  arrows_lead s t (traced.one x) = arrow_leads s t x
  arrows_lead s t (traced.on {b = u} x rest) = LeadsOver-trans (arrow_leads s u x) (arrows_lead u t rest)

-- ---- refusals

-- what is refused of a named instance
abbrev pub RefusesNamed : Call → Merging → AggregateError → Type 0
RefusesNamed call a e = (i : Id) → MayHandIn call a i → (some : TakenIds) → AreWit call.types (ReachesByUses call.types i) → HasTakenIn a some → HasAllOf call.types a some → IsMemberRefusal call.types (ReachesByUses call.types i) some e

module _ (calls front : List Call) (call : Call) (a : Merging) (wit : IsWitList (front ++ call ∷ [])) (sound : AreSoundCalls (front ++ call ∷ [])) (one : IsOneOf calls call.types) (filed : AreFiled a.imports) (served : AreCallsServed calls front a) (w : IsWitAfter calls front a) where
  abbrev longer : List Call
  longer = front ++ call ∷ []

  -- an interface that it reaches by uses can't be taken in
  not_taken : (i : Id) → IsNamedInstance call i → IsNotTaken call.types (ReachesByUses call.types i) w.taken → IsWitRefusal front call a.types (trees_of a)
  not_taken i n k = by k.hinders
    where
      members : (d : Collection) (j : Id) → Contains k.more (d, j) → IsMember longer d j
      members = taken_members front call i n w.taken k.more w.members k.are_more

      by : Hinders call.types (ReachesByUses call.types i) k.more → IsWitRefusal front call a.types (trees_of a)
      by (at_entry own shared j stood walk cannot) = by_member k.more own shared call.types j stood members (member_by_uses (named_member longer wit call i (Contains-push front call) n) walk) cannot
      by (in_cycle t arrows) = by_cycle t (arrows_lead longer k.more wit sound members t t arrows)

  no_meet : CallHasNoMeet call a → IsWitRefusal front call a.types (trees_of a)
  no_meet h = by_import (record { tree = item_tree a.types h.import.1; stood = ap (option_map (λ (i : ImportContent). item_tree a.types i.1)) h.stood; no_bound = h.no_bound })

  by_reason : (r : CallRefusal) → IsReason (attempt_at call a) r → (IsOfMerging r → IsWitRefusal front call a.types (trees_of a)) → IsWitRefusal front call a.types (trees_of a)
  by_reason (kinds existing found) h merging = by_kinds existing found h
  by_reason (no_identifier used) h merging = by_use used h
  by_reason (owner_without_identifier name) h merging = by_owner name h
  by_reason (reason.taken name) h merging = by_taking name h
  by_reason mismatch h merging = merging tt
  by_reason unexplained h merging = absurd h
  by_reason (used_interface used expected found) h merging = merging tt
  by_reason (used_name used) h merging = merging tt
  by_reason (cycle interface) h merging = merging tt

  pub wit_refused : (e : AggregateError) (r : CallRefusal) → said e ≡ Some r → HasReason (attempt_at call a) e → (IsPlain call.types call.kind → CallHasNoMeet call a) → RefusesNamed call a e → IsWitRefusal front call a.types (trees_of a)
  wit_refused e r says because plain named = by_reason r (because r says) (λ merging. elim (wit_item longer wit call (Contains-push front call)) [
    | inl n ↦ not_taken n.0 n.1 (named n.0 (may_hand_in calls front call a n.0 wit filed served w n.1) w.taken (named_wit front call wit n.0 n.1) w.has (w.all call.types one) r says merging)
    | inr p ↦ no_meet (plain p.plain)
  ])
