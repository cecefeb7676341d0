-- Shared entries that took in members of a WIT list.
use Rattle.std.proofs.Common.{◌≡◌, refl, subst, sym, ap, ◌∙◌, List, Option, Some, None, Contains}
use Rattle.std.specs.Str.{bytes_eq}
use Rattle.wac_model.specs.Text.{Text, lookup}
use Rattle.wac_model.specs.ItemTree.{ItemTree}
use Rattle.wac_component.specs.Id.{Id}
use Rattle.wac_component.specs.Collection.{Collection, UseContent}
use Rattle.wac_component.specs.Key.{Key, interface_key, next}
use Rattle.wac_component.specs.Reach.{IsAmong, Reaches, stay, step}
use Rattle.wac_component.specs.Tree.{item_tree}
use Rattle.wac_component.specs.declared.items.ItemKind.TheVariants.{Instance}
use Rattle.wac_component.specs.Entries.{HasUse, uses_at}
use Rattle.wac_component.proofs.Walks.{no_walk_returns}
use Rattle.wac_component.proofs.OpenWalks.{open_in_next}
use Rattle.wac_names.specs.Class.{Class}
use Rattle.wac_aggregator_promises.specs.Call.{Call}
use Rattle.wac_aggregator_promises.specs.Compatible.{AreUsesAlike, HaveUsesAlike, TrackUses, LeadsOver, one, more, HasNoCycle, IsCompatibleWitList}
use Rattle.wac_aggregator_promises.specs.Entries.{IsIdentifiedOn}
use Rattle.wac_aggregator_promises.specs.Laws.{RefusedMembersAreIncompatible}
use Rattle.wac_aggregator_promises.specs.Shared.{TakenIds, SharedEntries, IsTakenOn, IsTakenTree, IsUseOf, IsTakenUse, AreShared, CannotTake, no_bound, interfaces_clash, names_clash}
use Rattle.wac_aggregator_promises.specs.TreeSets.{HaveLowerBound}
use Rattle.wac_aggregator_promises.specs.WitList.{IsMember, IsMemberOn, IsMemberTree, IsWitList}
use Rattle.wac_aggregator_promises.proofs.Members.{one_track}
use Rattle.wac_aggregator_promises.proofs.PlainRuns.{some_tree}
use Rattle.wac_aggregator_promises.proofs.Read.{lookup_use, use_opens}

same_content : {k l : UseContent} → ◌≡◌ {A = Option UseContent} (Some k) (Some l) → k ≡ l
same_content e = cc e

same_id : {k l : Id} → ◌≡◌ {A = Option Id} (Some k) (Some l) → k ≡ l
same_id e = cc e

module _ (calls : List Call) (taken : TakenIds) (own : Collection) (shared : SharedEntries) (wit : IsWitList calls) (kept : AreShared taken own shared) where
  -- two uses that are one use of the aggregator's are alike
  alike : (v w : UseContent) → v ≡ w → (c d : Collection) (u x : UseContent) → IsUseOf shared v c u → IsUseOf shared w d x → AreUsesAlike c u d x
  alike v w same c d u x p q =
      let on = kept.identified p.track v.interface p.is_shared in
      let other_on = subst (λ (y : UseContent). IsIdentifiedOn own y.interface q.track) (sym same) (kept.identified q.track w.interface q.is_shared) in
      let tracks = one_track own v.interface q.track p.track other_on on in
      record { track = p.track; first_on = p.is_on; second_on = subst (λ (r : Class). IsIdentifiedOn d x.interface r) tracks q.is_on; names = sym p.same_name ∙ ap (λ (y : UseContent). y.name) same ∙ q.same_name }

  -- where not all members were taken in yet
  module _ (members : (d : Collection) (j : Id) → Contains taken (d, j) → IsMember calls d j) (c : Collection) (i : Id) (member : IsMember calls c i) (compatible : IsCompatibleWitList calls) where
    taken_tree : (t : Class) (x : ItemTree) → IsTakenTree taken t x → IsMemberTree calls t x
    taken_tree t x k = record { types = k.types; id = k.id; member = record { member = members k.types k.id k.is_on.among; is_on = k.is_on.is_on }; is_tree = k.is_tree }

    used_alike : (t : Class) (s : Id) (name : Text) (v u : UseContent) → IsIdentifiedOn c i t → shared t ≡ Some s → lookup bytes_eq (uses_at own (interface_key s)) name ≡ Some v → HasUse c (interface_key i) name u
        → (k : IsTakenUse taken shared t name v) → AreUsesAlike k.types k.content c u
    used_alike t s name v u on e l h k = compatible.uses t k.types c k.id i name k.content u record { member = members k.types k.id k.is_on.among; is_on = k.is_on.is_on } record { member = member; is_on = on } k.has h

    pub can_take : CannotTake own shared c i → ⊥
    can_take (no_bound t s on e none) =
        let b = compatible.members t in
        none b.0 ((kept.trees t s e).is_greatest b.0 (λ x k. b.1 x (taken_tree t x k)))
        (b.1 (item_tree c (Instance i)) record { types = c; id = i; member = record { member = member; is_on = on }; is_tree = refl })
    can_take (interfaces_clash t s name v u a b on e l h p q apart) =
        let k = kept.no_others t s name v e l in
        let x = used_alike t s name v u on e l h k in
        apart (one_track own v.interface a k.is_use.track p (kept.identified k.is_use.track v.interface k.is_use.is_shared)
        ∙ one_track k.types k.content.interface k.is_use.track x.track k.is_use.is_on x.first_on
        ∙ one_track c u.interface x.track b x.second_on q)
    can_take (names_clash t s name v u on e l h unequal) =
        let k = kept.no_others t s name v e l in
        unequal (k.is_use.same_name ∙ (used_alike t s name v u on e l h k).names)

  -- where all members were
  module _ (all : (c : Collection) (i : Id) → IsMember calls c i → Contains taken (c, i)) where
    taken_on : (t : Class) (c : Collection) (i : Id) → IsMemberOn calls t c i → IsTakenOn taken t c i
    taken_on t c i k = record { among = all c i k.member; is_on = k.is_on }

    member_bound : (t : Class) (o : Option Id) → shared t ≡ o → HaveLowerBound (IsMemberTree calls t)
    member_bound t (Some s) e = (item_tree own (Instance s), λ x k. (kept.trees t s e).is_below x record { types = k.types; id = k.id; is_on = taken_on t k.types k.id k.member; is_tree = k.is_tree })
    member_bound t None e = (some_tree, λ x k. absurd (none (kept.remembered t k.types k.id (taken_on t k.types k.id k.member))))
      where
        none : (s : Id) × (shared t ≡ Some s) → ⊥
        none s = let f = s.1 in cc (e, f)

    pub members_bound : (t : Class) → HaveLowerBound (IsMemberTree calls t)
    members_bound t = member_bound t (shared t) refl

    pub uses_alike : HaveUsesAlike calls
    uses_alike t c d i j name u v p q a b =
        let s = kept.remembered t c i (taken_on t c i p) in
        let x = kept.uses t s.0 c i name u s.1 (taken_on t c i p) a in
        let y = kept.uses t s.0 d j name v s.1 (taken_on t d j q) b in
        alike x.content y.content (same_content (sym x.has ∙ y.has)) c d u v x.is_use y.is_use

    -- where members on one track use members on another, the shared entries do
    shared_next : (s t : Class) → TrackUses calls s t → (a b : Id) → shared s ≡ Some a → shared t ≡ Some b → IsAmong (interface_key b) (next own (interface_key a))
    shared_next s t r a b e f =
        let u = kept.uses s a r.types r.user r.uses.name r.uses.content e (taken_on s r.types r.user r.user_on) r.uses.has in
        let on = subst (λ (x : Id). IsIdentifiedOn r.types x t) (sym r.uses.is_of) r.used_on.is_on in
        let tracks = one_track r.types r.uses.content.interface t u.is_use.track on u.is_use.is_on in
        let same = same_id (sym u.is_use.is_shared ∙ ap shared (sym tracks) ∙ f) in
        subst (λ (x : Id). IsAmong (interface_key x) (next own (interface_key a))) same
        (open_in_next own (interface_key a) (interface_key u.content.interface) (use_opens own (interface_key a) r.uses.name u.content (lookup_use own (interface_key a) r.uses.name u.content u.has)))

    user_shared : (s t : Class) → TrackUses calls s t → (a : Id) × (shared s ≡ Some a)
    user_shared s t r = kept.remembered s r.types r.user (taken_on s r.types r.user r.user_on)

    used_shared : (s t : Class) → TrackUses calls s t → (a : Id) × (shared t ≡ Some a)
    used_shared s t r = kept.remembered t r.types r.used (taken_on t r.types r.used r.used_on)

    shared_reach : (s t : Class) → LeadsOver (TrackUses calls) s t → (a b : Id) → shared s ≡ Some a → shared t ≡ Some b → (j : Key) × IsAmong j (next own (interface_key a)) × Reaches own j (interface_key b)
    shared_reach s t (one r) a b e f = (interface_key b, shared_next s t r a b e f, stay)
    shared_reach s t (more {t = u} r l) a b e f =
        let k = used_shared s u r in
        let w = shared_reach u t l k.0 b k.1 f in
        (interface_key k.0, shared_next s u r a k.0 e k.1, step w.1 w.2)

    leads_from : (s t : Class) → LeadsOver (TrackUses calls) s t → (a : Id) × (shared s ≡ Some a)
    leads_from s t (one r) = user_shared s t r
    leads_from s t (more {t = u} r l) = user_shared s u r

    pub no_track_cycle : HasNoCycle (TrackUses calls)
    no_track_cycle t l =
        let a = leads_from t t l in
        let w = shared_reach t t l a.0 a.0 a.1 a.1 in
        no_walk_returns own kept.sound (interface_key a.0) w.0 (kept.stands t a.0 a.1) w.1 w.2

pub refused_members : RefusedMembersAreIncompatible
refused_members calls taken own shared c i wit kept members member cannot compatible = can_take calls taken own shared wit kept members c i member compatible cannot
