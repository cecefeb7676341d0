-- Interfaces with identifiers are shared entries, or below imports of components.
use Rattle.std.proofs.Common.{◌≡◌, inl, inr, Option, Some, None, sym, subst, ap, ◌∙◌}
use Rattle.std.specs.Option.{option_map_or}
use Rattle.wac_model.specs.Text.{Text}
use Rattle.wac_component.specs.Collection.{Collection}
use Rattle.wac_component.specs.Entries.{entry_identifier}
use Rattle.wac_component.specs.Key.{Key, Entry, interface_entry, entry_at, entry_keys, import_keys, optional_keys, Stands}
use Rattle.wac_component.specs.Open.{import_next}
use Rattle.wac_component.specs.Reach.{IsAmong, Reaches, stay, step}
use Rattle.wac_component.proofs.Among.{among_each}
use Rattle.wac_component.proofs.OpenWalks.{imports_stand}
use Rattle.wac_component.proofs.Walks.{next_stands}
use Rattle.wac_aggregator_promises.specs.Attempt.{IsBelowImport}
use Rattle.wac_aggregator_narrowing.specs.Apart.{IsKeyApart}
use Rattle.wac_aggregator_narrowing.specs.State.{State, IsStateKept, RunsTaking}
use Rattle.wac_aggregator_reasons.specs.Split.{IsSharedOrBelow, AreSharedOrBelow, AddsSharedOrBelow}

-- an entry with an identifier imports nothing
identified_imports : (o : Option Entry) (n : Text) (j : Key) → option_map_or entry_identifier o None ≡ Some n → IsAmong j (optional_keys import_keys o) → ⊥
identified_imports None n j is m = elim m [ ]
identified_imports (Some (interface_entry i)) n j is m = elim m [ ]
identified_imports (Some e) n j is m = absurd (cc)

-- nothing is added
pub adds_none : (s : State) → AddsSharedOrBelow s s
adds_none s k n stands is = inl stands

module _ (IsTrue : Collection → State → Type 0) (f : Collection) (s t : State) (kept : IsStateKept s) (run : RunsTaking IsTrue f s t) where
  -- a walk from what is apart from shared entries is one still
  apart_walk : (k j : Key) → Stands s.own k → IsKeyApart s.own s.shared k → Reaches s.own k j → Reaches t.own k j
  apart_walk k j st apart stay = stay
  apart_walk k j st apart (step {j = i} m w) =
      let same = (run.narrows kept).entries k st (λ shared. apart k shared stay) in
      step (subst (IsAmong i) (sym (ap (optional_keys entry_keys) same)) m) (apart_walk i j (next_stands s.own k i kept.good.sound st m) (λ x shared v. apart x shared (step m v)) w)

  -- what is below an import is so still
  pub below_still : (k : Key) → IsBelowImport s.own k → IsBelowImport t.own k
  below_still k b =
      let j = b.reached.0 in
      let among = b.reached.1 in
      let stands = among_each (Stands s.own) j (import_next s.own b.world) among (imports_stand s.own kept.good.sound b.world b.stands) in
      let apart = among_each (IsKeyApart s.own s.shared) j (import_next s.own b.world) among (kept.good.isolated b.world b.stands) in
      let same = (run.narrows kept).entries b.world b.stands (λ shared. identified_imports (entry_at s.own b.world) (kept.good.identified b.world shared).0 j (kept.good.identified b.world shared).1 among) in
      record { world = b.world; stands = (run.narrows kept).standing b.world b.stands; reached = (j, subst (IsAmong j) (sym (ap (optional_keys import_keys) same)) among, apart_walk j k stands apart b.reached.2) }

  shared_or_below_still : (k : Key) → IsSharedOrBelow s k → IsSharedOrBelow t k
  shared_or_below_still k (inl shared) = inl ((run.stops kept).shared k shared)
  shared_or_below_still k (inr below) = inr (below_still k below)

  -- all are so where all were, and those are that were added
  pub added_all : AddsSharedOrBelow s t → AreSharedOrBelow s → AreSharedOrBelow t
  added_all adds all k n stands is = elim (adds k n stands is) [
    | inl was ↦ shared_or_below_still k (all k n was (sym ((run.stops kept).identifiers k was) ∙ is))
    | inr new ↦ new
  ]

-- one after another
pub adds_then : (IsTrue : Collection → State → Type 0) (f : Collection) (s t u : State) → IsStateKept t → RunsTaking IsTrue f t u → AddsSharedOrBelow s t → AddsSharedOrBelow t u → AddsSharedOrBelow s u
adds_then IsTrue f s t u kept run g h k n stands is = elim (h k n stands is) [
  | inl then ↦ elim (g k n then (sym ((run.stops kept).identifiers k then) ∙ is)) [
    | inl was ↦ inl was
    | inr new ↦ inr (shared_or_below_still IsTrue f t u kept run k new)
  ]
  | inr new ↦ inr new
]
