-- What is accounted for when an interface enters that is shared, or grows.
use Rattle.std.proofs.Common.{◌≡◌, slice_get, arith, inl, inr, List, [], ◌∷◌, Contains, Some, None, refl, ap, sym, subst, ◌∙◌}
use Rattle.wac_model.specs.Text.{Text, lookup}
use Rattle.std.specs.Str.{bytes_eq}
use Rattle.std.specs.Option.{option_map_or}
use Rattle.wac_component.specs.Collection.{Collection, UseContent, InterfaceContent}
use Rattle.wac_component.specs.Entries.{identifier_at, exports_at, uses_at, entry_exports, entry_uses}
use Rattle.wac_component.specs.Id.{Id}
use Rattle.wac_component.specs.Key.{Key, Each, Stands, AllStand, interface_entry, interface_key, interface_keys, item_keys, named_keys, use_keys}
use Rattle.wac_aggregator_memo.specs.Memo.{AddsPair}
use Rattle.wac_component.specs.Open.{open_next}
use Rattle.wac_component.specs.Reach.{IsAmong}
use Rattle.wac_component.specs.declared.items.ItemKind.{ItemKind}
use Rattle.wac_component.proofs.Among.{among_each, among_either, each_among, each_found, Contains-first, Contains-later, Contains-cases}
use Rattle.wac_component.proofs.Reading.{interface_at}
use Rattle.wac_core_merge.proofs.NameLemmas.{Contains-with_new}
use Rattle.wac_merge.specs.Built.{uses_of_both}
use Rattle.wac_component.proofs.Keys.{Each-left, Each-right}
use Rattle.wac_merge.specs.Items.{ExternKinds, AreUnhidden}
use Rattle.wac_aggregator_promises.specs.Attempt.{Attempt, IsSource, Touches}
use Rattle.wac_names.specs.Class.{class_of}
use Rattle.wac_aggregator_narrowing.specs.Entering.{AddsEntry, InterfaceIsTaken}
use Rattle.wac_aggregator_narrowing.specs.Last.{last_key}
use Rattle.wac_aggregator_narrowing.specs.Traced.{LeadsAlongArrows}
use Rattle.wac_aggregator_narrowing.specs.Narrows.{AddsShared, CanGrow, grown}
use Rattle.wac_component.specs.Replacing.{NamesReach}
use Rattle.wac_aggregator_promises.specs.Reason.{IsReason, cycle}
use Rattle.wac_aggregator_narrowing.specs.State.{State, IsStateKept}
use Rattle.wac_aggregator_narrowing.specs.Taking.{AreMapped, SameTree}
use Rattle.wac_aggregator_narrowing.proofs.Mapped.{taken_at}
use Rattle.wac_aggregator_narrowing.proofs.Entering.{interface_parts, interface_named}
use Rattle.wac_aggregator_reasons.specs.Trial.{IsTrial, IsAccounted, AreOpenItems, AreOpenUses, StaysAccounted}
use Rattle.wac_aggregator_reasons.specs.Entering.{IsFromSources}
use Rattle.wac_aggregator_reasons.specs.Sharing.{of_shared}
use Rattle.wac_aggregator_reasons.specs.Sourced.{IsSourced}
use Rattle.wac_aggregator_reasons.specs.Split.{IsOpenKey}
use Rattle.wac_aggregator_reasons.proofs.Accounts.{root_open, accounted_then, accounted_shared, accounted_grown}
use Rattle.wac_aggregator_reasons.proofs.EntryAccounts.{IsMadeFrom, trial_source, made_from_sources, made_open, made_same}
use Rattle.wac_aggregator_reasons.proofs.Reasons.{entry_items, leads_back, uses_stay, new_touches, parts_lead}
use Rattle.std.proofs.lemmas.List.Elements.{All-contains}
use Rattle.wac_aggregator_taking.specs.Takes.{IsOwnUse}
use Rattle.wac_aggregator_taking.specs.Growing.{AreAllOpen, AreMetWith, StaysAlong, with_own}
use Rattle.wac_aggregator_taking.proofs.Arrowed.{grown_along}
use Rattle.wac_aggregator_taking.proofs.GrowLemmas.{kept_on}
use Rattle.wac_aggregator_taking.proofs.Refusals.{among_uses}
use Rattle.wac_aggregator_reasons.proofs.SourcedItems.{interface_from}
use Rattle.wac_aggregator_taking.proofs.TakeLemmas.{shared_stands}
use Rattle.wac_aggregator_taking.proofs.Enters.{interface_made}

module _ (at : Attempt) (f : Collection) (s : State) (p : Id) (x z : InterfaceContent) (name : Text) (kept : IsStateKept s) (trial : IsTrial at f (interface_key p ∷ [])) (all : IsAccounted at s) (h : InterfaceIsTaken class_of f s p x z)
    (identified : identifier_at f (interface_key p) ≡ Some name) where
  -- what the interface was made of leads along arrows from its track
  pub parts_along : Each (LeadsAlongArrows s.own s.shared all.roots (class_of name)) (interface_keys z)
  parts_along = each_among (LeadsAlongArrows s.own s.shared all.roots (class_of name)) (interface_keys z) (λ j m.
      let r = taken_at class_of f s (open_next f (interface_key p)) (interface_keys z) j (interface_parts class_of f s kept p x z h) m in
      parts_lead at s f p name r.0 j kept all trial identified r.1 r.2)

  -- it enters as a shared entry
  pub shared_accounted : (t : State) → AreMapped (IsOwnUse f s) x.uses z.uses → z.id ≡ Some name → AddsEntry f s t (interface_key p) (interface_entry z) → AddsShared s.shared t.shared (last_key s.own (interface_entry z)) → StaysAccounted at s t
  shared_accounted t used own_is adds shares =
      let made = interface_made f s h.sound kept p x z h used in
      accounted_shared at f s t (interface_key p) z name name kept adds shares (interface_named class_of f s kept p x z h) (made_from_sources at f s (interface_key p) (interface_entry z) trial all made) (made_open at f s (interface_key p) (interface_entry z) trial all made)
      (trial_source at f (interface_key p) trial) identified own_is refl all parts_along
      (λ untold. inr (subst (λ c. SameTree c t.own (interface_key p) (last_key s.own (interface_entry z))) (sym trial.types) (subst (λ c. SameTree f c (interface_key p) (last_key s.own (interface_entry z))) (sym adds.own) (made_same at f s (interface_key p) (interface_entry z) trial all made kept untold))))

-- what an entry uses is among the ids that it names
used_key : (P : Key → Type 0) (us : List (Text × UseContent)) (n : Text) (u : UseContent) → Contains us (n, u) → Each P (named_keys use_keys us) → P (interface_key u.interface)
used_key P [] n u m h = absurd (omega (arith, m.1))
used_key P (v ∷ us) n u m h = elim (Contains-cases (n, u) v us m) [
  | inl same ↦ subst (λ (q : Text × UseContent). P (interface_key q.1.interface)) same h.0
  | inr later ↦ used_key P us n u later h.1
]

-- an id that named items name is one of an item
among_items : (es : ExternKinds) (j : Key) → IsAmong j (named_keys item_keys es) → (n : Text) × (y : ItemKind) × Contains es (n, y) × IsAmong j (item_keys y)
among_items [] j m = elim m [ ]
among_items ((n, y) ∷ es) j m = elim (among_either (item_keys y) (named_keys item_keys es) m) [
  | inl first ↦ (n, y, Contains-first (n, y) es, first)
  | inr later ↦ let r = among_items es j later in (r.0, r.1, Contains-later (r.0, r.1) (n, y) es r.2, r.3)
]

-- an interface that was taken in, for which a shared entry stands on its track
module _ (at : Attempt) (f : Collection) (s : State) (p e : Id) (x : InterfaceContent) (us : List (Text × UseContent)) (es : ExternKinds) (name m : Text) (kept : IsStateKept s) (trial : IsTrial at f (interface_key p ∷ [])) (all : IsAccounted at s)
    (h : InterfaceIsTaken class_of f s p x (record { id = None; uses = us; exports = es })) (used : AreMapped (IsOwnUse f s) x.uses us) (identified : identifier_at f (interface_key p) ≡ Some name) (absent : s.taken (interface_key p) ≡ None)
    (among : IsAmong (interface_key e) s.shared) (own_is : identifier_at s.own (interface_key e) ≡ Some m) (same : class_of m ≡ class_of name) where
  abbrev z : InterfaceContent
  z = record { id = None; uses = us; exports = es }

  -- the item touches
  pub grows_touching : Touches at
  grows_touching = new_touches at s f p e name m all trial identified absent among own_is same

  made : IsMadeFrom f s (interface_key p) (interface_entry z)
  made = interface_made f s h.sound kept p x z h used

  from : IsFromSources (IsSource at.sources) s.own (interface_entry z)
  from = made_from_sources at f s (interface_key p) (interface_entry z) trial all made

  opens : Each (IsOpenKey s) (interface_keys z)
  opens = made_open at f s (interface_key p) (interface_entry z) trial all made

  named : AllStand s.own (interface_keys z)
  named = interface_named class_of f s kept p x z h

  -- what stands exports and uses what is open
  pub stood_open : AreOpenItems at s (exports_at s.own (interface_key e)) × AreOpenUses at s (uses_at s.own (interface_key e))
  stood_open = entry_items at s kept (interface_key e) (shared_stands s kept (interface_key e) among) (root_open at s (interface_key e) all (of_shared among))

  -- so does what was taken in
  pub new_uses_open : AreOpenUses at s us
  new_uses_open n u mu = record {
    use_sourced = record {
      stands = used_key (Stands s.own) us n u mu (Each-left (Stands s.own) (named_keys use_keys us) (named_keys item_keys es) named);
      use_from = from.uses n u mu;
      key = used_key (IsSourced (IsSource at.sources) s.own) us n u mu (Each-left (IsSourced (IsSource at.sources) s.own) (named_keys use_keys us) (named_keys item_keys es) from.parts);
    };
    opens = used_key (IsOpenKey s) us n u mu (Each-left (IsOpenKey s) (named_keys use_keys us) (named_keys item_keys es) opens);
  }

  pub new_items_open : AreUnhidden es → AreAllOpen at s es
  new_items_open found n y my =
      let is : lookup bytes_eq es n ≡ Some y = All-contains (λ (q : Text × ItemKind). lookup bytes_eq es q.0 ≡ Some q.1) es (n, y) found my in
      record {
        item = record {
          stands = each_found (Stands s.own) es n y is (Each-right (Stands s.own) (named_keys use_keys us) (named_keys item_keys es) named);
          export = from.exports n y is;
          keys = each_found (IsSourced (IsSource at.sources) s.own) es n y is (Each-right (IsSourced (IsSource at.sources) s.own) (named_keys use_keys us) (named_keys item_keys es) from.parts);
        };
        opens = each_found (IsOpenKey s) es n y is (Each-right (IsOpenKey s) (named_keys use_keys us) (named_keys item_keys es) opens);
      }

  module _ (old : InterfaceContent) (was : slice_get s.own.interfaces e.index ≡ Some old) where
    old_exports : exports_at s.own (interface_key e) ≡ old.exports
    old_exports = ap (λ o. option_map_or entry_exports o []) (interface_at s.own e old was)

    old_uses : uses_at s.own (interface_key e) ≡ old.uses
    old_uses = ap (λ o. option_map_or entry_uses o []) (interface_at s.own e old was)

    pub old_items_open : AreOpenItems at s old.exports
    old_items_open = subst (AreOpenItems at s) old_exports stood_open.0

    pub old_uses_open : AreOpenUses at s old.uses
    old_uses_open = subst (AreOpenUses at s) old_uses stood_open.1

  -- the entry grows by what was met
  module _ (old new : InterfaceContent) (was : slice_get s.own.interfaces e.index ≡ Some old) (d : Collection) (met : AreMetWith s.own d old.exports es new.exports) (found : AreUnhidden es) where
    mid : State
    mid = with_own s d

    pub met_now : StaysAlong at s (with_own s d) all × AreOpenItems at (with_own s d) new.exports
    met_now = met.accounts at s kept all (old_items_open old was) (new_items_open found)

    kept_mid : IsStateKept (with_own s d)
    kept_mid = kept_on s.own d met.on s kept

    taken_along_track : Each (LeadsAlongArrows s.own s.shared all.roots (class_of m)) (interface_keys z)
    taken_along_track = subst (λ t. Each (LeadsAlongArrows s.own s.shared all.roots t) (interface_keys z)) (sym same) (parts_along at f s p x z name kept trial all h identified)

    -- what the grown entry names leads along arrows from its track
    pub new_along : (old_stand : AllStand s.own (interface_keys old)) (names : (P : Key → Type 0) → Each P (named_keys use_keys old.uses) → Each P (named_keys use_keys us) → Each P (named_keys use_keys new.uses)) → Each (LeadsAlongArrows d s.shared met_now.0.stays.now.roots (class_of m)) (interface_keys new)
    new_along old_stand names =
        subst (λ rs. Each (LeadsAlongArrows d s.shared rs (class_of m)) (interface_keys new)) (sym met_now.0.roots)
        (grown_along s e old new z m kept among was own_is d met names old_stand named all.roots all.arrowed taken_along_track)

    -- where the grown entry would lead back to itself, there is reason for a cycle
    pub cycle_refused : (old_stand : AllStand s.own (interface_keys old)) (names : (P : Key → Type 0) → Each P (named_keys use_keys old.uses) → Each P (named_keys use_keys us) → Each P (named_keys use_keys new.uses)) → AllStand d (interface_keys new) → NamesReach d (interface_keys new) (interface_key e) → IsReason at (cycle name)
    cycle_refused old_stand names stand reach =
        leads_back at (with_own s d) f p e name m (interface_keys new) kept_mid met_now.0.stays.now trial identified among ((met.on.steps s.shared kept.good).stops.identifiers (interface_key e) (shared_stands s kept (interface_key e) among) ∙ own_is) same stand (new_along old_stand names) reach

    -- as what both use, and with exports that are found by their names
    module _ (uses_are : new.uses ≡ uses_of_both old.uses us) (new_found : AreUnhidden new.exports) where
      uses_open : AreOpenUses at (with_own s d) new.uses
      uses_open n u m0 =
          let steps = met.on.steps s.shared kept.good in
          elim (Contains-with_new bytes_eq old.uses us (n, u) (subst (λ l. Contains l (n, u)) uses_are m0)) [
            | inl first ↦ uses_stay at s (with_own s d) steps.narrows steps.stops met_now.0.stays.keys old.uses (old_uses_open old was) n u first
            | inr later ↦ uses_stay at s (with_own s d) steps.narrows steps.stops met_now.0.stays.keys us new_uses_open n u later
          ]

      from_new : IsFromSources (IsSource at.sources) d (interface_entry new)
      from_new = interface_from (IsSource at.sources) d new new_found (λ n y is. (met_now.1 n y is).item) (λ n u m0. (uses_open n u m0).use_sourced)

      parts_open : Each (IsOpenKey (with_own s d)) (interface_keys new)
      parts_open = each_among (IsOpenKey (with_own s d)) (interface_keys new) (λ j q. elim (among_either (named_keys use_keys new.uses) (named_keys item_keys new.exports) q) [
        | inl of_use ↦ let r = among_uses new.uses j of_use in subst (IsOpenKey (with_own s d)) r.3 (uses_open r.0 r.1 r.2).opens
        | inr of_item ↦
            let r = among_items new.exports j of_item in
            let is : lookup bytes_eq new.exports r.0 ≡ Some r.1 = All-contains (λ (q : Text × ItemKind). lookup bytes_eq new.exports q.0 ≡ Some q.1) new.exports (r.0, r.1) new_found r.2 in
            among_each (IsOpenKey (with_own s d)) j (item_keys r.1) r.3 (met_now.1 r.0 r.1 is).opens
      ])

      -- all stays accounted for once the entry has grown
      pub grown_accounted : (t : State) (old_stand : AllStand s.own (interface_keys old)) (names : (P : Key → Type 0) → Each P (named_keys use_keys old.uses) → Each P (named_keys use_keys us) → Each P (named_keys use_keys new.uses)) → CanGrow d s.shared e old new
          → ¬ (NamesReach d (interface_keys new) (interface_key e)) → t.own ≡ grown d e new → t.shared ≡ s.shared → t.imports ≡ s.imports → t.copies ≡ s.copies → AddsPair s.taken t.taken (interface_key p) (interface_key e) → old.id ≡ Some m → StaysAccounted at s t
      grown_accounted t old_stand names can none own shared imports copies adds is =
          accounted_then at s (with_own s d) t met.on.grows.standing met_now.0.stays
          (accounted_grown at (with_own s d) t (interface_key p) e old new m kept_mid can none own shared imports copies adds is met_now.0.stays.now from_new parts_open (new_along old_stand names) grows_touching)
