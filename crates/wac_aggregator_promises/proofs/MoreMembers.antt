-- The members after one call more, and the imports on their tracks.
use Rattle.std.proofs.Common.{◌≡◌, ◌⊎◌, inl, inr, refl, subst, sym, ap, ◌∙◌, List, [], ◌∷◌, ◌++◌, Option, Some, None, Contains}
use Rattle.std.proofs.lemmas.List.Elements.{Contains-push, Contains-push_cases}
use Rattle.wac_model.specs.ItemTree.{Kind, Leaf, Shape, Items, ItemTree, item, leaf, composite, resource}
use Rattle.wac_model.specs.Order.{Fits}
use Rattle.wac_component.specs.Id.{Id}
use Rattle.wac_component.specs.Collection.{Collection}
use Rattle.wac_component.specs.Tree.{item_tree}
use Rattle.wac_component.specs.declared.items.ItemKind.TheVariants.{Instance}
use Rattle.wac_names.specs.Class.{Class}
use Rattle.wac_aggregator_promises.specs.Answer.{ImportTrees}
use Rattle.wac_aggregator_promises.specs.Call.{Call}
use Rattle.wac_aggregator_promises.specs.Entries.{ReachesByUses}
use Rattle.wac_aggregator_promises.specs.Laws.{MembersOfMore, WitImportsAreMeets}
use Rattle.wac_aggregator_promises.specs.Shared.{TakenIds, SharedEntries, IsTakenTree, AreShared}
use Rattle.wac_aggregator_promises.specs.TreeSets.{IsMeetOf}
use Rattle.wac_aggregator_promises.specs.WitList.{IsNamedInstance, IsMember, handed_in, used, IsMemberTree, IsPlainTree, IsTreeOn, IsWitList}
use Rattle.wac_aggregator_promises.specs.WitRun.{AreMembers, AreWitImports}
use Rattle.wac_aggregator_promises.proofs.Among.{among_front, member}
use Rattle.wac_aggregator_promises.proofs.ByUses.{ByUses-trans, member_by_uses}
use Rattle.wac_aggregator_promises.proofs.Members.{apart}
use Rattle.wac_aggregator_promises.proofs.Sets.{meet_moves}

module _ (front : List Call) (call : Call) where
  abbrev IsNewMember : Collection → Id → Type 0
  IsNewMember c i = (call.types ≡ c) × ((j : Id) × IsNamedInstance call j × ReachesByUses c j i)

  to_parts : (c : Collection) (i : Id) → IsMember (front ++ call ∷ []) c i → IsMember front c i ⊎ IsNewMember c i
  to_parts c i (handed_in d m e n) = by_cases (Contains-push_cases front call d m)
    where
      by_cases : Contains front d ⊎ (call ≡ d) → IsMember front c i ⊎ IsNewMember c i
      by_cases (inl k) = inl (handed_in d k e n)
      by_cases (inr f) = inr (ap (λ (x : Call). x.types) f ∙ e, (i, subst (λ (x : Call). IsNamedInstance x i) (sym f) n, ReachesByUses.stay))
  to_parts c i (used {i = j} m u) = by_cases (to_parts c j m)
    where
      by_cases : IsMember front c j ⊎ IsNewMember c j → IsMember front c i ⊎ IsNewMember c i
      by_cases (inl k) = inl (used k u)
      by_cases (inr k) = inr (k.0, (k.1.0, k.1.1, ByUses-trans k.1.2 (ReachesByUses.step u ReachesByUses.stay)))

  from_parts : (c : Collection) (i : Id) → IsMember front c i ⊎ IsNewMember c i → IsMember (front ++ call ∷ []) c i
  from_parts c i (inl m) = member front (front ++ call ∷ []) (among_front front (call ∷ [])) c i m
  from_parts c i (inr k) = member_by_uses (handed_in call (Contains-push front call) k.0 k.1.1) k.1.2

pub members_of_more : MembersOfMore
members_of_more front call c i = (to_parts front call c i, from_parts front call c i)

not_above : {k j : Kind} {l : Leaf} {s : Shape} {i e : Items} → Fits (leaf k l) (composite j s i e) → ⊥
not_above h = elim h [ ]

module _ (calls : List Call) (taken : TakenIds) (own : Collection) (shared : SharedEntries) (imports : ImportTrees) (wit : IsWitList calls)
    (members : AreMembers calls taken) (kept : AreShared taken own shared) (are : AreWitImports calls own shared imports) where
  member_of : (t : Class) (x : ItemTree) → IsTakenTree taken t x → IsMemberTree calls t x
  member_of t x k = record { types = k.types; id = k.id; member = record { member = (members k.types k.id).1 k.is_on.among; is_on = k.is_on.is_on }; is_tree = k.is_tree }

  taken_of : (t : Class) (x : ItemTree) → IsMemberTree calls t x → IsTakenTree taken t x
  taken_of t x k = record { types = k.types; id = k.id; is_on = record { among = (members k.types k.id).0 k.member.member; is_on = k.member.is_on }; is_tree = k.is_tree }

  -- a track with a shared entry has no plain items: else the entry would be the meet of nothing
  no_plain : (t : Class) (s : Id) → shared t ≡ Some s → (y : ItemTree) → IsPlainTree calls t y → ⊥
  no_plain t s e y k = not_above ((kept.trees t s e).is_greatest (leaf item (resource [])) (λ x h. absurd (apart calls wit t x y (member_of t x h) k)))

  meet_at : (t : Class) (m : ItemTree) (o : Option Id) → shared t ≡ o → imports t ≡ Some m → IsMeetOf m (IsTreeOn calls t)
  meet_at t m (Some s) e f = subst (λ (x : ItemTree). IsMeetOf x (IsTreeOn calls t)) (sym (are.of_members t s m e f))
      (meet_moves (IsTakenTree taken t) (IsTreeOn calls t) (λ x k. inl (member_of t x k)) member_only (item_tree own (Instance s)) (kept.trees t s e))
    where
      member_only : (x : ItemTree) → IsTreeOn calls t x → IsTakenTree taken t x
      member_only x (inl k) = taken_of t x k
      member_only x (inr k) = absurd (no_plain t s e x k)
  meet_at t m None e f = meet_moves (IsPlainTree calls t) (IsTreeOn calls t) (λ x k. inr k) (λ x k. plain_only x k) m (are.of_plain t m e f)
    where
      plain_only : (x : ItemTree) → IsTreeOn calls t x → IsPlainTree calls t x
      plain_only x (inl k) =
          let r = taken_of t x k in
          let s = kept.remembered t r.types r.id r.is_on in
          let g = s.1 in
          absurd (cc (e, g))
      plain_only x (inr k) = k

pub wit_imports_are_meets : WitImportsAreMeets
wit_imports_are_meets calls taken own shared imports wit members kept are = record { due = are.due; meets = λ t m e. meet_at calls taken own shared imports wit members kept are t m (shared t) refl e }
