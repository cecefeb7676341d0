-- What holds of a list of calls, along a list that has its calls among its own.
use Rattle.std.proofs.Common.{◌≡◌, ◌⊎◌, inl, inr, refl, subst, ap, ◌∙◌, ℕ, suc, zero, ◌+◌, ◌≤◌, arith, List, [], ◌∷◌, ◌++◌, take, length, Contains, All, IsPermutation, append_assoc}
use Rattle.std.proofs.lemmas.List.Elements.{All-contains, Contains-get_or, Contains-append_left}
use Rattle.std.proofs.lemmas.List.Sorted.{Contains-permutation, IsPermutation-sym}
use Rattle.wac_model.specs.ItemTree.{ItemTree}
use Rattle.wac_component.specs.Id.{Id}
use Rattle.wac_component.specs.Collection.{Collection}
use Rattle.wac_names.specs.Class.{Class}
use Rattle.wac_aggregator_promises.specs.Call.{Call, IsCallOn, IsItemOn, IsSoundCall, AreSoundCalls}
use Rattle.wac_aggregator_promises.specs.Compatible.{TrackUses, LeadsOver, one, more, IsCompatibleWitList}
use Rattle.wac_aggregator_promises.specs.Due.{IsDue, of_name, of_owner}
use Rattle.wac_aggregator_promises.specs.PlainList.{IsPlainList, IsCompatiblePlainList, IsPlain}
use Rattle.wac_aggregator_promises.specs.WitList.{IsNamedInstance, IsMember, handed_in, used, IsMemberOn, IsMemberTree, IsPlainTree, IsTreeOn, IsPlainApart, IsWitList}
use Rattle.wac_aggregator_promises.proofs.Sets.{bound_part}

abbrev pub AreAmongCalls : List Call → List Call → Type 0
AreAmongCalls calls others = (c : Call) → Contains calls c → Contains others c

pub All-at : {P : Call → Type 0} (calls : List Call) → ((c : Call) → Contains calls c → P c) → All P calls
All-at calls h k d l = h _ (Contains-get_or calls k d l)

pub among_front : (front back : List Call) → AreAmongCalls front (front ++ back)
among_front front back c m = Contains-append_left front back c m

pub among_middle : (front : List Call) (call : Call) (back : List Call) → AreAmongCalls (front ++ call ∷ []) (front ++ call ∷ back)
among_middle front call back c m = subst (λ (l : List Call). Contains l c) (append_assoc front (call ∷ []) back) (Contains-append_left (front ++ call ∷ []) back c m)

pub permuted : (calls others : List Call) → IsPermutation calls others → AreAmongCalls calls others
permuted calls others p c m = Contains-permutation calls others c p m

pub permuted_back : (calls others : List Call) → IsPermutation calls others → AreAmongCalls others calls
permuted_back calls others p = permuted others calls (IsPermutation-sym calls others p)

take_among : (n : ℕ) (calls : List Call) → AreAmongCalls (take n calls) calls
take_among zero calls c m = absurd (omega (arith, m.1))
take_among (suc n) [] c m = m
take_among (suc n) (x ∷ calls) c (zero, l, e) = (0, omega arith, e)
take_among (suc n) (x ∷ calls) c (suc i, l, e) = let r = take_among n calls c (i, omega arith, e) in (suc r.0, omega (arith, r.1), r.2)

pub among_take : (n : ℕ) (calls : List Call) → AreAmongCalls (take n calls) calls
among_take = take_among

pub take_more : (m n : ℕ) (calls : List Call) → m ≤ n → AreAmongCalls (take m calls) (take n calls)
take_more zero n calls l c m = absurd (omega (arith, m.1))
take_more (suc k) zero calls l c m = absurd (omega arith)
take_more (suc k) (suc n) [] l c m = m
take_more (suc k) (suc n) (x ∷ calls) l c (zero, b, e) = (0, omega arith, e)
take_more (suc k) (suc n) (x ∷ calls) l c (suc i, b, e) = let r = take_more k n calls (omega arith) c (i, omega arith, e) in (suc r.0, omega (arith, r.1), r.2)

module _ (calls others : List Call) (h : AreAmongCalls calls others) where
  pub call_on : (t : Class) (c : Call) → IsCallOn calls t c → IsCallOn others t c
  call_on t c k = record { among = h c k.among; on_track = k.on_track }

  pub item_on : (t : Class) (x : ItemTree) → IsItemOn calls t x → IsItemOn others t x
  item_on t x k = record { call = k.call; is_on = call_on t k.call k.is_on; is_tree = k.is_tree }

  pub due_on : (t : Class) → IsDue calls t → IsDue others t
  due_on t (of_name c k) = of_name c (call_on t c k)
  due_on t (of_owner c m o) = of_owner c (h c m) o

  pub member : (c : Collection) (i : Id) → IsMember calls c i → IsMember others c i
  member c i (handed_in call m e n) = handed_in call (h call m) e n
  member c i (used {i = j} m u) = used (member c j m) u

  pub member_on : (t : Class) (c : Collection) (i : Id) → IsMemberOn calls t c i → IsMemberOn others t c i
  member_on t c i k = record { member = member c i k.member; is_on = k.is_on }

  pub member_tree : (t : Class) (x : ItemTree) → IsMemberTree calls t x → IsMemberTree others t x
  member_tree t x k = record { types = k.types; id = k.id; member = member_on t k.types k.id k.member; is_tree = k.is_tree }

  pub plain_tree : (t : Class) (x : ItemTree) → IsPlainTree calls t x → IsPlainTree others t x
  plain_tree t x k = record { call = k.call; is_on = call_on t k.call k.is_on; plain = k.plain; is_tree = k.is_tree }

  pub tree_on : (t : Class) (x : ItemTree) → IsTreeOn calls t x → IsTreeOn others t x
  tree_on t x (inl k) = inl (member_tree t x k)
  tree_on t x (inr k) = inr (plain_tree t x k)

  pub track_uses : (s t : Class) → TrackUses calls s t → TrackUses others s t
  track_uses s t k = record { types = k.types; user = k.user; used = k.used; user_on = member_on s k.types k.user k.user_on; used_on = member_on t k.types k.used k.used_on; uses = k.uses }

  pub leads : (s t : Class) → LeadsOver (TrackUses calls) s t → LeadsOver (TrackUses others) s t
  leads s t (one k) = one (track_uses s t k)
  leads s t (more {t = u} k l) = more (track_uses s u k) (leads u t l)

  -- fewer calls are compatible where more are
  pub plain_fewer : IsCompatiblePlainList others → IsCompatiblePlainList calls
  plain_fewer k t = bound_part _ _ (item_on t) (k t)

  pub wit_fewer : IsCompatibleWitList others → IsCompatibleWitList calls
  wit_fewer k = record {
    members = λ t. bound_part _ _ (member_tree t) (k.members t);
    plain_items = λ t. bound_part _ _ (plain_tree t) (k.plain_items t);
    uses = λ t c d i j n u v p q. k.uses t c d i j n u v (member_on t c i p) (member_on t d j q);
    no_cycle = λ t l. k.no_cycle t (leads t t l);
  }

  pub plain_list_fewer : IsPlainList others → IsPlainList calls
  plain_list_fewer k = All-at calls (λ c m. All-contains (λ (x : Call). IsPlain x.types x.kind) others c k (h c m))

  pub sound_fewer : AreSoundCalls others → AreSoundCalls calls
  sound_fewer k = All-at calls (λ c m. All-contains IsSoundCall others c k (h c m))

  wit_item : (c : Call) → ((i : Id) × IsNamedInstance c i) ⊎ IsPlainApart others c → ((i : Id) × IsNamedInstance c i) ⊎ IsPlainApart calls c
  wit_item c (inl k) = inl k
  wit_item c (inr k) = inr record { plain = k.plain; apart = λ d i m o. k.apart d i (member d i m) o }

  pub wit_list_fewer : IsWitList others → IsWitList calls
  wit_list_fewer k = record {
    items = All-at calls (λ c m. wit_item c (All-contains (λ (x : Call). ((i : Id) × IsNamedInstance x i) ⊎ IsPlainApart others x) others c k.items (h c m)));
    identified = λ c i m. k.identified c i (member c i m);
    exports = λ c i m. k.exports c i (member c i m);
    owners = λ c i r o m. k.owners c i r o (member c i m);
  }

-- lists cut at a call
pub take_front : (front back : List Call) → take (length front) (front ++ back) ≡ front
take_front [] back = refl
take_front (c ∷ front) back = ap (λ l. c ∷ l) (take_front front back)

pub take_with : (front : List Call) (c : Call) (back : List Call) → take (length front + 1) (front ++ c ∷ back) ≡ front ++ c ∷ []
take_with [] c back = refl
take_with (d ∷ front) c back =
    let e : suc (length front) + 1 ≡ suc (length front + 1) = omega arith in
    ap (λ (n : ℕ). take n (d ∷ front ++ c ∷ back)) e ∙ ap (λ l. d ∷ l) (take_with front c back)
