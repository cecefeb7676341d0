-- At the start of a call all is accounted for.
use Rattle.std.proofs.Common.{◌≡◌, ◌≢◌, ◌⊎◌, inl, inr, List, [], ◌∷◌, ℕ, suc, zero, ◌<◌, Bool, true, false, Option, Some, None, refl, sym, ap, subst, ◌∙◌, arith}
use Rattle.wac_model.specs.Text.{Text}
use Rattle.wac_model.specs.ItemTree.{ItemTree}
use Rattle.wac_component.specs.Collection.{Collection}
use Rattle.wac_component.specs.Height.{height}
use Rattle.wac_component.specs.Key.{Key, item_keys, Stands}
use Rattle.wac_component.specs.Reach.{IsAmong, here, there}
use Rattle.wac_component.specs.Sound.{IsSound}
use Rattle.wac_component.specs.Entries.{identifier_at}
use Rattle.wac_component.specs.Open.{OpenReaches, open_next, stay, step}
use Rattle.wac_component.proofs.Among.{among_each, Contains-first}
use Rattle.wac_component.proofs.Extended.{Extends-refl}
use Rattle.wac_component.proofs.OpenWalks.{open_in_next, open_stands, opens_stand}
use Rattle.wac_component.proofs.Walks.{next_below}
use Rattle.wac_names.specs.Class.{Class, class_of, class_eq}
use Rattle.wac_names.proofs.Classes.{classes_decided}
use Rattle.wac_aggregator_promises.specs.Attempt.{Attempt, Sources, single_attempt, Touches}
use Rattle.wac_aggregator_promises.specs.Call.{Call, IsSoundCall}
use Rattle.wac_aggregator_narrowing.specs.Identified.{IsQuiet}
use Rattle.wac_aggregator_narrowing.specs.Remembers.{RemembersTruly}
use Rattle.wac_aggregator_narrowing.specs.State.{State, IsStateKept, IsNewState}
use Rattle.wac_aggregator_narrowing.specs.Traced.{Root, IsAmongRoots}
use Rattle.wac_aggregator_narrowing.specs.Traced as root
use Rattle.wac_aggregator_narrowing.proofs.Tracing.{shared_arrowed}
use Rattle.wac_aggregator_reasons.specs.Roots.{IsSourceRoot, RootsAreSources}
use Rattle.wac_aggregator_reasons.specs.Sharing.{of_shared, AreHeld}
use Rattle.wac_aggregator_reasons.specs.Split.{AreSplit}
use Rattle.wac_aggregator_reasons.specs.Trial.{OnlyGrew, IsAccounted}
use Rattle.wac_aggregator_reasons.proofs.Cycles.{identified_interface}
use Rattle.wac_aggregator_reasons.proofs.Merged.{more_roots}
use Rattle.wac_aggregator_reasons.proofs.Moving.{identifier_is}
use Rattle.wac_aggregator_reasons.proofs.Roots.{call_root, start_root}
use Rattle.wac_aggregator_reasons.proofs.Splitting.{held_again}
use Rattle.wac_aggregator_reasons.proofs.States.{no_root, start_sourced}
use Rattle.wac_aggregator_reasons.proofs.Touching.{touches_start}

-- these ids of the collection as roots, before others
abbrev roots_with : Collection → List Key → List Root → List Root
roots_with c [] rs = rs
roots_with c (k ∷ ks) rs = record { of = c; at = k } ∷ roots_with c ks rs

root_among : (c : Collection) (k : Key) (ks : List Key) (rs : List Root) → IsAmong k ks → IsAmongRoots c k (roots_with c ks rs)
root_among c k [] rs m = elim m [ ]
root_among c k (_ ∷ ks) rs here = root.here
root_among c k (j ∷ ks) rs (there m) = root.there (root_among c k ks rs m)

root_later : (c d : Collection) (k : Key) (ks : List Key) (rs : List Root) → IsAmongRoots d k rs → IsAmongRoots d k (roots_with c ks rs)
root_later c d k [] rs m = m
root_later c d k (j ∷ ks) rs m = root.there (root_later c d k ks rs m)

roots_lead : (sources : Sources) (c : Collection) (ks : List Key) (rs : List Root) → ((k : Key) → IsAmong k ks → IsSourceRoot sources c k) → RootsAreSources sources rs → RootsAreSources sources (roots_with c ks rs)
roots_lead sources c [] rs h rest = rest
roots_lead sources c (k ∷ ks) rs h rest = more_roots sources c k (roots_with c ks rs) (h k here) (roots_lead sources c ks rs (λ j m. h j (there m)) rest)

no_roots : (sources : Sources) → RootsAreSources sources []
no_roots sources c k m = elim m [ ]

-- one of these ids is such, or each is the other
one_or_all : (A B : Key → Type 0) (ks : List Key) → ((k : Key) → IsAmong k ks → A k ⊎ B k) → ((k : Key) × IsAmong k ks × A k) ⊎ ((k : Key) → IsAmong k ks → B k)
one_or_all A B [] h = inr (λ k m. elim m [ ])
one_or_all A B (k ∷ ks) h = elim (h k here) [
  | inl is ↦ inl (k, here, is)
  | inr not ↦ elim (one_or_all A B ks (λ j m. h j (there m))) [
    | inl found ↦ inl (found.0, there found.1, found.2)
    | inr none ↦ inr (by_place not none)
  ]
]
  where
    by_place : B k → ((j : Key) → IsAmong j ks → B j) → (j : Key) → IsAmong j (k ∷ ks) → B j
    by_place first rest _ here = first
    by_place first rest j (there m) = rest j m

class_decided : (a b : Class) → Dec (a ≡ b)
class_decided a b = by_test (class_eq a b) refl
  where
    by_test : (t : Bool) → class_eq a b ≡ t → Dec (a ≡ b)
    by_test true e = yes ((classes_decided a b).0 e)
    by_test false e = no (λ q. let h = (classes_decided a b).1 q in cc)

-- an open walk leads to such an id, or to none
module _ (f : Collection) (sound : IsSound f) (P : Key → Type 0) (decide : (k : Key) → P k ⊎ (P k → ⊥)) where
  abbrev LeadsSomewhere : Key → Type 0
  LeadsSomewhere k = (t : Key) × OpenReaches f k t × P t

  abbrev LeadsNowhere : Key → Type 0
  LeadsNowhere k = (t : Key) → OpenReaches f k t → P t → ⊥

  leads_or_not : (n : ℕ) (k : Key) → Stands f k → height f k < n → LeadsSomewhere k ⊎ LeadsNowhere k
  leads_or_not zero k st low = absurd (omega (arith, low))
  leads_or_not (suc n) k st low = elim (decide k) [
    | inl is ↦ inl (k, stay, is)
    | inr not ↦ elim (one_or_all LeadsSomewhere LeadsNowhere (open_next f k) (λ j m. leads_or_not n j (open_stands f sound k j st m) (omega (arith, low, next_below f k j sound st (open_in_next f k j m))))) [
      | inl found ↦ inl (found.2.0, step found.1 found.2.1, found.2.2)
      | inr none ↦ inr (by_step not none)
    ]
  ]
    where
      by_step : (P k → ⊥) → ((j : Key) → IsAmong j (open_next f k) → LeadsNowhere j) → LeadsNowhere k
      by_step not none _ stay is = not is
      by_step not none t (step {j = j} m w) is = none j m t w is

  pub leads_decided : (ks : List Key) → ((k : Key) → IsAmong k ks → Stands f k) → ((k : Key) × IsAmong k ks × LeadsSomewhere k) ⊎ ((k : Key) → IsAmong k ks → LeadsNowhere k)
  leads_decided ks st = one_or_all LeadsSomewhere LeadsNowhere ks (λ k m. leads_or_not (suc (height f k)) k (st k m) (omega arith))

-- a shared entry on the track of the interface's identifier
record IsMet (f : Collection) (s : State) (k : Key) : Type 0 where
  pub name : Text
  pub identified : identifier_at f k ≡ Some name
  pub entry : Key
  pub entry_name : Text
  pub is_shared : IsAmong entry s.shared
  pub entry_identified : identifier_at s.own entry ≡ Some entry_name
  pub same_track : class_of entry_name ≡ class_of name

module _ (f : Collection) (s : State) where
  abbrev IsOn : Text → Key → Type 0
  IsOn name e = (m : Text) × (identifier_at s.own e ≡ Some m) × (class_of m ≡ class_of name)

  on_decided : (name : Text) (e : Key) → IsOn name e ⊎ (IsOn name e → ⊥)
  on_decided name e = by_name (identifier_at s.own e) refl
    where
      by_class : (m : Text) → identifier_at s.own e ≡ Some m → Dec (class_of m ≡ class_of name) → IsOn name e ⊎ (IsOn name e → ⊥)
      by_class m is (yes same) = inl (m, is, same)
      by_class m is (no ne) = inr (λ h. let both : Some m ≡ Some h.0 = sym is ∙ h.1 in let e : m ≡ h.0 = cc in ne (ap class_of e ∙ h.2))

      by_name : (o : Option Text) → identifier_at s.own e ≡ o → IsOn name e ⊎ (IsOn name e → ⊥)
      by_name None is = inr (λ h. let both : None ≡ Some h.0 = sym is ∙ h.1 in absurd (cc))
      by_name (Some m) is = by_class m is (class_decided (class_of m) (class_of name))

  met_decided : (k : Key) → IsMet f s k ⊎ (IsMet f s k → ⊥)
  met_decided k = by_name (identifier_at f k) refl
    where
      by_name : (o : Option Text) → identifier_at f k ≡ o → IsMet f s k ⊎ (IsMet f s k → ⊥)
      by_name None is = inr (λ h. let both : None ≡ Some h.name = sym is ∙ h.identified in absurd (cc))
      by_name (Some name) is = elim (one_or_all (IsOn name) (λ e. IsOn name e → ⊥) s.shared (λ e m. on_decided name e)) [
        | inl found ↦ inl (record { name = name; identified = is; entry = found.0; entry_name = found.2.0; is_shared = found.1; entry_identified = found.2.1; same_track = found.2.2 })
        | inr none ↦ inr (λ h. let both : Some h.name ≡ Some name = sym h.identified ∙ is in let e : h.name ≡ name = cc in none h.entry h.is_shared (h.entry_name, h.entry_identified, h.same_track ∙ ap class_of e))
      ]

module _ (s : State) (call : Call) (import : Option ItemTree) (kept : IsStateKept s) (held : AreHeld s) (split : AreSplit s) (remembers : RemembersTruly class_of call.types s) (is_call : IsSoundCall call) (apart : call.types.number ≢ s.own.number) where
  abbrev attempt : Attempt
  attempt = single_attempt s.own import call

  item_stands : (k : Key) → IsAmong k (item_keys call.kind) → Stands call.types k
  item_stands k m = among_each (Stands call.types) k (item_keys call.kind) m is_call.stands

  -- where the item openly reaches an interface with a shared entry on its track, it touches
  met_touches : (k : Key) → IsAmong k (item_keys call.kind) → (t : Key) → OpenReaches call.types k t → IsMet call.types s t → Touches attempt
  met_touches k m t w h =
      let same = identified_interface call.types t h.name h.identified in
      touches_start attempt s t.id h.name h.entry_name h.entry (subst (λ (j : Key). (i : Key) × IsAmong i (item_keys call.kind) × OpenReaches call.types i j) same (k, m, w))
      (sym (identifier_is call.types t.id) ∙ sym (ap (identifier_at call.types) same) ∙ h.identified) h.same_track refl (λ e. apart (sym (ap (λ (c : Collection). c.number) e))) held h.is_shared h.entry_identified

  -- else what was taken in for what it openly reaches leads to no
  -- identified interface, and has its tree
  none_untold : ((k : Key) → IsAmong k (item_keys call.kind) → (t : Key) → OpenReaches call.types k t → IsMet call.types s t → ⊥) → OnlyGrew attempt s
  none_untold none = record {
    grows = Extends-refl s.own;
    same = λ theirs own r is. (remembers.taken theirs own is (number r.0 r.1 theirs r.2)).quiet (quiet r.0 r.1 theirs own r.2 is);
  }
    where
      number : (k : Key) → IsAmong k (item_keys call.kind) → (t : Key) → OpenReaches call.types k t → t.id.number ≡ call.types.number
      number k m t w = (opens_stand call.types is_call.sound k t (item_stands k m) w).0

      quiet : (k : Key) → IsAmong k (item_keys call.kind) → (theirs own : Key) → OpenReaches call.types k theirs → s.taken theirs ≡ Some own → IsQuiet call.types theirs
      quiet k m theirs own w is t n v named =
          let reached = opens_on k theirs t w v in
          let o = remembers.closed theirs own t n is (number k m theirs w) v named in
          let h = (remembers.taken t o.0 o.1 (number k m t reached)).shared n named in
          none k m t reached (record { name = n; identified = named; entry = o.0; entry_name = h.name; is_shared = h.is_shared; entry_identified = h.identified; same_track = h.on_track })
        where
          opens_on : (i j l : Key) → OpenReaches call.types i j → OpenReaches call.types j l → OpenReaches call.types i l
          opens_on i j l stay v = v
          opens_on i j l (step {j = x} m w) v = step m (opens_on x j l w v)

  abbrev item_roots : List Root
  item_roots = roots_with call.types (item_keys call.kind) []

  abbrev all_roots : List Root
  all_roots = roots_with s.own s.shared item_roots

  -- the sources are what the item openly reaches, and what is held
  start_accounts : IsAccounted attempt s
  start_accounts = record {
    sourced = start_sourced attempt.sources s refl held;
    split = split;
    roots = all_roots;
    of_item = λ k m. root_later s.own call.types k s.shared item_roots (root_among call.types k (item_keys call.kind) [] m);
    are_sources = roots_lead attempt.sources s.own s.shared item_roots (λ k m. start_root attempt.sources s k refl kept held (of_shared m))
        (roots_lead attempt.sources call.types (item_keys call.kind) [] (λ k m. call_root attempt.sources call k (Contains-first call []) is_call m) (no_roots attempt.sources));
    arrowed = shared_arrowed class_of all_roots s.own s.shared (λ k m. root_among s.own k s.shared item_roots m);
    told = elim (leads_decided call.types is_call.sound (IsMet call.types s) (met_decided call.types s) (item_keys call.kind) item_stands) [
      | inl found ↦ inl (met_touches found.0 found.1 found.2.0 found.2.1 found.2.2)
      | inr none ↦ inr (none_untold none)
    ];
  }

pub start_accounted : (s : State) (call : Call) (import : Option ItemTree) → IsStateKept s → AreHeld s → AreSplit s → RemembersTruly class_of call.types s → IsSoundCall call → call.types.number ≢ s.own.number → IsAccounted (single_attempt s.own import call) s
start_accounted s call import kept held split remembers is_call apart = start_accounts s call import kept held split remembers is_call apart

-- after a call that was accepted, what is openly reached is held
pub held_after : (a : Attempt) (s : State) → IsStateKept s → IsAccounted a s → AreHeld s
held_after a s kept h = held_again a.sources s kept h.split h.sourced

-- so it is in a new aggregator
pub new_held : (s : State) → IsNewState s → AreHeld s × AreSplit s
new_held s new = (record { held = λ k t r w. absurd (no_root s new k r); used = λ k t n u r w has. absurd (no_root s new k r) }, λ k r. absurd (no_root s new k r))
