-- A plain list is a WIT list without members.
use Rattle.std.proofs.Common.{ℕ, ◌+◌, take, ◌⊎◌, inl, inr, List, Contains}
use Rattle.std.proofs.lemmas.List.Elements.{All-contains}
use Rattle.wac_model.specs.ItemTree.{ItemTree}
use Rattle.wac_component.specs.Id.{Id}
use Rattle.wac_component.specs.Collection.{Collection}
use Rattle.wac_names.specs.Class.{Class}
use Rattle.wac_aggregator_promises.specs.Answer.{ImportTrees, CallsAnswer, accepted, refused, AreMeets, IsPlainAnswer, IsWitAnswer}
use Rattle.wac_aggregator_promises.specs.Call.{Call, IsItemOn}
use Rattle.wac_aggregator_promises.specs.Compatible.{IsCompatibleWitList, TrackUses, LeadsOver, one, more}
use Rattle.wac_aggregator_promises.specs.Laws.{PlainListsAreWitLists}
use Rattle.wac_aggregator_promises.specs.PlainList.{IsPlain, IsPlainList, IsCompatiblePlainList}
use Rattle.wac_aggregator_promises.specs.WitList.{IsNamedInstance, IsMember, handed_in, used, IsMemberTree, IsPlainTree, IsTreeOn, IsPlainApart, IsWitList}
use Rattle.wac_aggregator_promises.proofs.Among.{All-at, among_take, plain_list_fewer}
use Rattle.wac_aggregator_promises.proofs.Members.{named_not_plain}
use Rattle.wac_aggregator_promises.proofs.PlainRuns.{some_tree}
use Rattle.wac_aggregator_promises.proofs.Sets.{bound_part, meet_moves}

module _ (calls : List Call) (plain : IsPlainList calls) where
  plain_at : (c : Call) → Contains calls c → IsPlain c.types c.kind
  plain_at c m = All-contains (λ (x : Call). IsPlain x.types x.kind) calls c plain m

  no_member : (c : Collection) (i : Id) → IsMember calls c i → ⊥
  no_member c i (handed_in call m e n) = named_not_plain call i n (plain_at call m)
  no_member c i (used {i = j} m u) = no_member c j m

  wit_list : IsWitList calls
  wit_list = record {
    items = All-at {P = λ c. ((i : Id) × IsNamedInstance c i) ⊎ IsPlainApart calls c} calls (λ c m. inr record { plain = plain_at c m; apart = λ d i k o. no_member d i k });
    identified = λ c i m. absurd (no_member c i m);
    exports = λ c i m. absurd (no_member c i m);
    owners = λ c i r o m. absurd (no_member c i m);
  }

  to_plain : (t : Class) (x : ItemTree) → IsItemOn calls t x → IsPlainTree calls t x
  to_plain t x k = record { call = k.call; is_on = k.is_on; plain = plain_at k.call k.is_on.among; is_tree = k.is_tree }

  from_plain : (t : Class) (x : ItemTree) → IsPlainTree calls t x → IsItemOn calls t x
  from_plain t x k = record { call = k.call; is_on = k.is_on; is_tree = k.is_tree }

  no_member_tree : (t : Class) (x : ItemTree) → IsMemberTree calls t x → ⊥
  no_member_tree t x k = no_member k.types k.id k.member.member

  from_tree : (t : Class) (x : ItemTree) → IsTreeOn calls t x → IsItemOn calls t x
  from_tree t x (inl k) = absurd (no_member_tree t x k)
  from_tree t x (inr k) = from_plain t x k

  no_uses : (s t : Class) → TrackUses calls s t → ⊥
  no_uses s t r = no_member r.types r.user r.user_on.member

  no_leads : (s t : Class) → LeadsOver (TrackUses calls) s t → ⊥
  no_leads s t (one r) = no_uses s t r
  no_leads s t (more {t = u} r l) = no_uses s u r

  to_wit : IsCompatiblePlainList calls → IsCompatibleWitList calls
  to_wit h = record {
    members = λ t. (some_tree, λ x k. absurd (no_member_tree t x k));
    plain_items = λ t. bound_part (IsItemOn calls t) (IsPlainTree calls t) (from_plain t) (h t);
    uses = λ t c d i j n u v p. absurd (no_member c i p.member);
    no_cycle = λ t l. no_leads t t l;
  }

  from_wit : IsCompatibleWitList calls → IsCompatiblePlainList calls
  from_wit h t = bound_part (IsPlainTree calls t) (IsItemOn calls t) (to_plain t) (h.plain_items t)

module _ (calls : List Call) (plain : IsPlainList calls) where
  meets_to : (imports : ImportTrees) → AreMeets (IsItemOn calls) calls imports → AreMeets (IsTreeOn calls) calls imports
  meets_to imports h = record { due = h.due; meets = λ t m e. meet_moves (IsItemOn calls t) (IsTreeOn calls t) (λ x k. inr (to_plain calls plain t x k)) (from_tree calls plain t) m (h.meets t m e) }

  meets_from : (imports : ImportTrees) → AreMeets (IsTreeOn calls) calls imports → AreMeets (IsItemOn calls) calls imports
  meets_from imports h = record { due = h.due; meets = λ t m e. meet_moves (IsTreeOn calls t) (IsItemOn calls t) (from_tree calls plain t) (λ x k. inr (to_plain calls plain t x k)) m (h.meets t m e) }

  front_plain : (n : ℕ) → IsPlainList (take n calls)
  front_plain n = plain_list_fewer (take n calls) calls (among_take n calls) plain

  answers_to : (a : CallsAnswer) → IsPlainAnswer calls a → IsWitAnswer calls a
  answers_to (accepted imports) h = (to_wit calls plain h.0, meets_to imports h.1)
  answers_to (refused at) h = record { is_call = h.is_call; before = to_wit (take at calls) (front_plain at) h.before; with_it = λ k. h.with_it (from_wit (take (at + 1) calls) (front_plain (at + 1)) k) }

  answers_from : (a : CallsAnswer) → IsWitAnswer calls a → IsPlainAnswer calls a
  answers_from (accepted imports) h = (from_wit calls plain h.0, meets_from imports h.1)
  answers_from (refused at) h = record { is_call = h.is_call; before = from_wit (take at calls) (front_plain at) h.before; with_it = λ k. h.with_it (to_wit (take (at + 1) calls) (front_plain (at + 1)) k) }

pub plain_as_wit : PlainListsAreWitLists
plain_as_wit = record {
  is_wit = wit_list;
  no_member = λ calls c i p. no_member calls p c i;
  trees = λ calls t x p. (λ k. inr (to_plain calls p t x k), from_tree calls p t x);
  compatible = λ calls p. (to_wit calls p, from_wit calls p);
  answers = λ calls a p. (answers_to calls p a, answers_from calls p a);
}
