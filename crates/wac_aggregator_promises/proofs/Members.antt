-- The members of a WIT list, and what its items reach.
use Rattle.std.proofs.Common.{◌≡◌, ◌≢◌, ◌⊎◌, inl, inr, refl, subst, sym, ap, ◌∙◌, arith, List, [], ◌∷◌, length, Option, Some, None, Contains, IsSome}
use Rattle.std.proofs.lemmas.List.Elements.{All-contains}
use Rattle.wac_model.specs.Text.{Text}
use Rattle.wac_model.specs.ItemTree.{ItemTree}
use Rattle.wac_component.specs.Id.{Id}
use Rattle.wac_component.specs.Collection.{Collection}
use Rattle.wac_component.specs.Implicit.{identifier, HasIdentifier}
use Rattle.wac_component.specs.Key.{Key, Sort, defined_sort, resource_sort, func_sort, interface_sort, world_sort, module_sort, Stands, AllStand, entries, interface_key, resource_key, item_keys}
use Rattle.wac_component.specs.Reach.{IsAmong, here, Reaches, stay, step}
use Rattle.wac_component.specs.Sound.{IsSound}
use Rattle.wac_component.specs.Tree.{item_tree}
use Rattle.wac_component.specs.declared.items.ItemKind.{ItemKind}
use Rattle.wac_component.specs.declared.items.ItemKind.TheVariants.{Instance}
use Rattle.wac_component.specs.Entries.{owner_at}
use Rattle.wac_component.specs.Open.{OpenReaches}
use Rattle.wac_component.proofs.Walks.{next_stands, walks_stand, no_walk_returns}
use Rattle.wac_component.proofs.Among.{among_single}
use Rattle.wac_component.proofs.OpenWalks.{opens_reach}
use Rattle.wac_names.specs.Class.{Class, class_of}
use Rattle.wac_aggregator_promises.specs.Attempt.{IsSource, held, reached, IsHeld, nothing, from_calls}
use Rattle.wac_aggregator_promises.specs.Call.{Call, call_track, call_tree, IsSoundCall, AreSoundCalls}
use Rattle.wac_aggregator_promises.specs.Compatible.{TrackUses, LeadsOver, one, more}
use Rattle.wac_aggregator_promises.specs.Due.{IsDue, of_name, of_owner}
use Rattle.wac_aggregator_promises.specs.Entries.{IsIdentifiedOn, ReachesByUses}
use Rattle.wac_aggregator_promises.specs.OpenReach.{ItemReaches, ItemOpenReaches}
use Rattle.wac_aggregator_promises.specs.PlainList.{IsPlain}
use Rattle.wac_aggregator_promises.specs.Reason.{TrackLeads}
use Rattle.wac_aggregator_promises.specs.WitList.{IsNamedInstance, IsMember, handed_in, used, IsMemberOn, IsMemberTree, IsPlainTree, IsTreeOn, IsPlainApart, IsWitList}
use Rattle.wac_aggregator_promises.proofs.ByUses.{by_uses, member_by_uses, wit_members}
use Rattle.wac_aggregator_promises.proofs.Read.{use_next, owner_next}
use Rattle.wac_aggregator_promises.proofs.Opened.{item_reaches}

-- identifiers and their tracks
pub track_with : (c : Collection) (i : Id) → HasIdentifier c i → (t : Class) × IsIdentifiedOn c i t
track_with c i h = at (identifier c i) refl h
  where
    at : (o : Option Text) → identifier c i ≡ o → IsSome o → (t : Class) × IsIdentifiedOn c i t
    at None e s = absurd (cc s)
    at (Some n) e s = (class_of n, record { name = n; identified = e; on_track = refl })

pub one_track : (c : Collection) (i : Id) (s t : Class) → IsIdentifiedOn c i s → IsIdentifiedOn c i t → s ≡ t
one_track c i s t p q =
    let same : p.name ≡ q.name = some_same (sym p.identified ∙ q.identified) in
    sym p.on_track ∙ ap class_of same ∙ q.on_track
  where
    some_same : {k l : Text} → ◌≡◌ {A = Option Text} (Some k) (Some l) → k ≡ l
    some_same e = cc e

pub not_identified : (c : Collection) (i : Id) (n : Text) → identifier c i ≡ None → identifier c i ≡ Some n → ⊥
not_identified c i n e f = cc (e, f)

pub not_owned : (c : Collection) (r o : Id) → owner_at c r ≡ None → owner_at c r ≡ Some o → ⊥
not_owned c r o e f = cc (e, f)

pub not_without : (c : Collection) (i : Id) → HasIdentifier c i → identifier c i ≡ None → ⊥
not_without c i h e = cc (h, e)

-- what a member is
pub members_stand : (calls : List Call) (c : Collection) (i : Id) → AreSoundCalls calls → IsMember calls c i → IsSound c × Stands c (interface_key i)
members_stand calls c i s (handed_in call m e n) =
    let k = All-contains IsSoundCall calls call s m in
    let st : AllStand call.types (interface_key i ∷ []) = subst (λ (x : ItemKind). AllStand call.types (item_keys x)) n.instance k.stands in
    subst (λ (x : Collection). IsSound x × Stands x (interface_key i)) e (k.sound, st.0)
members_stand calls c i s (used {i = j} m u) =
    let k = members_stand calls c j s m in
    (k.0, next_stands c (interface_key j) (interface_key i) k.0 k.1 (use_next c j i u))

-- a member reaches what it reaches by uses
pub reaches_by_uses : (c : Collection) (i j : Id) → ReachesByUses c i j → Reaches c (interface_key i) (interface_key j)
reaches_by_uses c i j ReachesByUses.stay = stay
reaches_by_uses c i j (ReachesByUses.step {j = o} u w) = step (use_next c i o u) (reaches_by_uses c o j w)

-- the owner of a resource that an interface reaches is another one
pub owner_another : (c : Collection) (i r o : Id) → IsSound c → Stands c (interface_key i) → Reaches c (interface_key i) (resource_key r) → owner_at c r ≡ Some o → i ≡ o → ⊥
owner_another c i r o s st w owned e =
    no_walk_returns c s (resource_key r) (interface_key o) (walks_stand c s (interface_key i) (resource_key r) st w) (owner_next c r o owned) (subst (λ (x : Id). Reaches c (interface_key x) (resource_key r)) e w)

pub LeadsOver-trans : {R : Class → Class → Type 0} {s t u : Class} → LeadsOver R s t → LeadsOver R t u → LeadsOver R s u
LeadsOver-trans (one r) l = more r l
LeadsOver-trans (more r k) l = more r (LeadsOver-trans k l)

-- the items of a WIT list
pub named_key : (c : Call) (i : Id) (k : Key) → IsNamedInstance c i → ItemReaches c.types c.kind k → Reaches c.types (interface_key i) k
named_key c i k n w =
    let m = subst (λ (x : ItemKind). IsAmong w.0 (item_keys x)) n.instance w.1 in
    subst (λ (x : Key). Reaches c.types x k) (among_single (interface_key i) m) w.2

pub named_on : (c : Call) (i : Id) → IsNamedInstance c i → IsIdentifiedOn c.types i (call_track c)
named_on c i n = record { name = c.name; identified = n.identified; on_track = refl }

-- a named instance isn't plain
pub named_not_plain : (c : Call) (i : Id) → IsNamedInstance c i → IsPlain c.types c.kind → ⊥
named_not_plain c i n p = not_identified c.types i c.name (p.no_identifier i (interface_key i, subst (λ (x : ItemKind). IsAmong (interface_key i) (item_keys x)) (sym n.instance) here, stay)) n.identified

module _ (calls : List Call) (wit : IsWitList calls) where
  abbrev pub IsWitItem : Call → Type 0
  IsWitItem c = ((i : Id) × IsNamedInstance c i) ⊎ IsPlainApart calls c

  pub wit_item : (c : Call) → Contains calls c → IsWitItem c
  wit_item c m = All-contains IsWitItem calls c wit.items m

  pub named_member : (c : Call) (i : Id) → Contains calls c → IsNamedInstance c i → IsMember calls c.types i
  named_member c i m n = handed_in c m refl n

  pub named_member_on : (c : Call) (i : Id) → Contains calls c → IsNamedInstance c i → IsMemberOn calls (call_track c) c.types i
  named_member_on c i m n = record { member = named_member c i m n; is_on = named_on c i n }

  -- an interface with an identifier that an item reaches is a member
  pub reached_member : (c : Call) (q : Id) → Contains calls c → ItemReaches c.types c.kind (interface_key q) → HasIdentifier c.types q → IsMember calls c.types q
  reached_member c q m w h = by_cases (wit_item c m)
    where
      by_cases : IsWitItem c → IsMember calls c.types q
      by_cases (inl n) =
          let k = named_member c n.0 m n.1 in
          member_by_uses k (by_uses c.types (IsMember calls c.types) (wit_members calls c.types wit) n.0 q k (named_key c n.0 (interface_key q) n.1 w))
      by_cases (inr p) = absurd (not_without c.types q h (p.plain.no_identifier q w))

  -- a track has members or plain items, not both
  pub apart : (t : Class) (x y : ItemTree) → IsMemberTree calls t x → IsPlainTree calls t y → ⊥
  apart t x y k p = by_cases (wit_item p.call p.is_on.among)
    where
      by_cases : IsWitItem p.call → ⊥
      by_cases (inl n) = named_not_plain p.call n.0 n.1 p.plain
      by_cases (inr q) = q.apart k.types k.id k.member.member (subst (λ (s : Class). IsIdentifiedOn k.types k.id s) (sym p.is_on.on_track) k.member.is_on)

  -- an item's tree is one of its track
  pub item_tree_on : (c : Call) → Contains calls c → IsTreeOn calls (call_track c) (call_tree c)
  item_tree_on c m = by_cases (wit_item c m)
    where
      by_cases : IsWitItem c → IsTreeOn calls (call_track c) (call_tree c)
      by_cases (inl n) = inl record { types = c.types; id = n.0; member = named_member_on c n.0 m n.1; is_tree = ap (item_tree c.types) n.1.instance }
      by_cases (inr p) = inr record { call = c; is_on = record { among = m; on_track = refl }; plain = p.plain; is_tree = refl }

  -- a member on one track that another one reaches by uses
  pub leads_by_uses : (c : Collection) (i q : Id) (s t : Class) → IsMember calls c i → ReachesByUses c i q → IsIdentifiedOn c i s → IsIdentifiedOn c q t → (i ≡ q) ⊎ LeadsOver (TrackUses calls) s t
  leads_by_uses c i q s t m ReachesByUses.stay a b = inl refl
  leads_by_uses c i q s t m (ReachesByUses.step {j = j} u w) a b =
      let n = used m u in
      let on = track_with c j (wit.identified c j n) in
      inr (onward n on.0 on.1 (leads_by_uses c j q on.0 t n w on.1 b))
    where
      used_by : IsMember calls c j → (r : Class) → IsIdentifiedOn c j r → TrackUses calls s r
      used_by n r o = record { types = c; user = i; used = j; user_on = record { member = m; is_on = a }; used_on = record { member = n; is_on = o }; uses = u }

      onward : IsMember calls c j → (r : Class) → IsIdentifiedOn c j r → (j ≡ q) ⊎ LeadsOver (TrackUses calls) r t → LeadsOver (TrackUses calls) s t
      onward n r o (inl e) = one (used_by n t (subst (λ (x : Id). IsIdentifiedOn c x t) (sym e) b))
      onward n r o (inr l) = more (used_by n r o) l

  -- on each due track there are members or plain items
  pub due_tree : (t : Class) → IsDue calls t → (x : ItemTree) × IsTreeOn calls t x
  due_tree t (of_name c k) = (call_tree c, subst (λ (s : Class). IsTreeOn calls s (call_tree c)) k.on_track (item_tree_on c k.among))
  due_tree t (of_owner c m o) = by_cases (wit_item c m)
    where
      by_cases : IsWitItem c → (x : ItemTree) × IsTreeOn calls t x
      by_cases (inl n) =
          let k = named_member c n.0 m n.1 in
          let w = named_key c n.0 (resource_key o.resource) n.1 (item_reaches c.types c.kind (resource_key o.resource) o.reached) in
          (item_tree c.types (Instance o.owner), inl record { types = c.types; id = o.owner; member = record { member = member_by_uses k (wit.owners c.types n.0 o.resource o.owner k w o.owned); is_on = o.is_on }; is_tree = refl })
      by_cases (inr p) = absurd (not_owned c.types o.resource o.owner (p.plain.no_owner o.resource (item_reaches c.types c.kind (resource_key o.resource) o.reached)) o.owned)

pub has_identifier : (c : Collection) (i : Id) (t : Class) → IsIdentifiedOn c i t → HasIdentifier c i
has_identifier c i t h = subst (λ (o : Option Text). IsSome o) (sym h.identified) refl

-- what the items of calls openly reach
no_entry : (s : Sort) → length (entries nothing s) ≡ 0
no_entry defined_sort = refl
no_entry resource_sort = refl
no_entry func_sort = refl
no_entry interface_sort = refl
no_entry world_sort = refl
no_entry module_sort = refl

none_held : (k : Key) → IsHeld nothing k → ⊥
none_held k h = omega (arith, no_entry k.sort, h.stands.1)

-- an identified interface that is a source is a member
module _ (calls : List Call) (wit : IsWitList calls) where
  pub source_member : (c : Collection) (q : Id) → IsSource (from_calls calls) c (interface_key q) → HasIdentifier c q → IsMember calls c q
  source_member c q (held e h) i = absurd (none_held (interface_key q) (subst (λ (x : Collection). IsHeld x (interface_key q)) (sym e) h))
  source_member c q (reached d m e w) i =
      let w' = subst (λ (x : Collection). ItemOpenReaches x d.kind (interface_key q)) (sym e) w in
      let i' = subst (λ (x : Collection). HasIdentifier x q) (sym e) i in
      subst (λ (x : Collection). IsMember calls x q) e (reached_member calls wit d q m (item_reaches d.types d.kind (interface_key q) w') i')

  -- a member that openly reaches another one leads to it by uses
  pub walk_leads : (c : Collection) (i j : Id) (s t : Class) → IsMember calls c i → IsIdentifiedOn c i s → IsIdentifiedOn c j t → j ≢ i → OpenReaches c (interface_key i) (interface_key j) → LeadsOver (TrackUses calls) s t
  walk_leads c i j s t m a b another w = by_cases (leads_by_uses calls wit c i j s t m (by_uses c (IsMember calls c) (wit_members calls c wit) i j m (opens_reach c (interface_key i) (interface_key j) w)) a b)
    where
      by_cases : (i ≡ j) ⊎ LeadsOver (TrackUses calls) s t → LeadsOver (TrackUses calls) s t
      by_cases (inl e) = absurd (another (sym e))
      by_cases (inr l) = l

  track_leads : (s t : Class) → TrackLeads (from_calls calls) s t → LeadsOver (TrackUses calls) s t
  track_leads s t r = walk_leads r.types r.from r.to s t (source_member r.types r.from r.from_source (has_identifier r.types r.from s r.from_on)) r.from_on r.to_on r.another r.walk

  pub all_lead : (s t : Class) → LeadsOver (TrackLeads (from_calls calls)) s t → LeadsOver (TrackUses calls) s t
  all_lead s t (one r) = track_leads s t r
  all_lead s t (more {t = u} r l) = LeadsOver-trans (track_leads s u r) (all_lead u t l)
