-- Where open walks stop stays, when a collection is added to and when a shared interface grows.
use Rattle.std.proofs.Common.{◌≡◌, ◌≢◌, List, [], Some, None, Option, refl, ap, sym, subst, ◌∙◌, ◌⊎◌, inl, inr}
use Rattle.std.specs.Option.{option_map_or}
use Rattle.wac_model.specs.Text.{Text}
use Rattle.wac_component.specs.Id.{Id}
use Rattle.wac_component.specs.Collection.{Collection, InterfaceContent}
use Rattle.wac_component.specs.Growth.{Extends}
use Rattle.wac_component.specs.Key.{Key, interface_key, interface_keys, item_keys, Stands}
use Rattle.wac_component.specs.Reach.{IsAmong, Reaches}
use Rattle.wac_component.specs.Replacing.{NamesReach}
use Rattle.wac_component.specs.Sound.{IsSound}
use Rattle.wac_component.specs.Open.{open_next, OpenReaches, stay, step}
use Rattle.wac_component.specs.Entries.{identifier_at}
use Rattle.wac_component.proofs.Keys.{Each-map}
use Rattle.wac_component.proofs.Among.{among_each, each_among}
use Rattle.wac_component.proofs.OpenWalks.{open_stands}
use Rattle.wac_aggregator_narrowing.specs.Identified.{use_names, StopsAt, stop, goes_on, IsUnstopped}
use Rattle.wac_aggregator_narrowing.specs.Apart.{IsGood}
use Rattle.wac_aggregator_narrowing.specs.Narrows.{KeepsStops, CanGrow, grown}
use Rattle.wac_aggregator_narrowing.proofs.Walking.{reaches_openly}
use Rattle.wac_aggregator_narrowing.proofs.Adding.{identifier_kept, open_next_kept, covered_kept}
use Rattle.wac_aggregator_narrowing.proofs.Growing.{entry_other, open_next_other, identifier_grown, unchanged, covered_grown}

pub KeepsStops-refl : (c : Collection) (ss : List Key) → KeepsStops c ss c ss
KeepsStops-refl c ss = record { shared = λ k m. m; identifiers = λ k st. refl; uses = λ k st q. refl; stops = λ k t n st w. w; covered = λ k st a. a; quiet = λ x st h. refl }

pub KeepsStops-trans : (c d e : Collection) (ss ts us : List Key) → ((k : Key) → Stands c k → Stands d k) → KeepsStops c ss d ts → KeepsStops d ts e us → KeepsStops c ss e us
KeepsStops-trans c d e ss ts us on g h = record {
  shared = λ k m. h.shared k (g.shared k m);
  identifiers = λ k st. h.identifiers k (on k st) ∙ g.identifiers k st;
  uses = λ k st q. h.uses k (on k st) (g.identifiers k st ∙ q) ∙ g.uses k st q;
  stops = λ k t n st w. g.stops k t n st (h.stops k t n (on k st) w);
  covered = λ k st a. h.covered k (on k st) (g.covered k st a);
  quiet = λ x st none. h.quiet x (Each-map (Stands c) (Stands d) on (item_keys x) st)
      (each_among (IsUnstopped d) (item_keys x) (λ k m t n w. among_each (IsUnstopped c) k (item_keys x) m none t n (g.stops k t n (among_each (Stands c) k (item_keys x) m st) w))) ∙ g.quiet x st none;
}

-- an open walk to an identified interface stops at one on its way
pub record FirstStop (c : Collection) (k t : Key) : Type 0 where
  pub at : Key
  pub name : Text
  pub stops : StopsAt c k at name
  pub onward : OpenReaches c at t

pub open_stops : (c : Collection) (k t : Key) (n : Text) → OpenReaches c k t → identifier_at c t ≡ Some n → FirstStop c k t
open_stops c k t n stay is = record { at = k; name = n; stops = stop is; onward = stay }
open_stops c k t n (step {j = j} m w) is = by_identifier (identifier_at c k) refl (open_stops c j t n w is)
  where
    by_identifier : (o : Option Text) → identifier_at c k ≡ o → FirstStop c j t → FirstStop c k t
    by_identifier (Some l) same r = record { at = k; name = l; stops = stop same; onward = step m w }
    by_identifier None same r = record { at = r.at; name = r.name; stops = goes_on same m r.stops; onward = r.onward }

-- such a walk stops at once, or goes on
pub stops_first : (c : Collection) (k t : Key) (n : Text) → StopsAt c k t n → (identifier_at c k ≡ Some n) ⊎ ((identifier_at c k ≡ None) × (j : Key) × IsAmong j (open_next c k) × StopsAt c j t n)
stops_first c k t n (stop is) = inl is
stops_first c k t n (goes_on {j = j} is m w) = inr (is, j, m, w)

-- it stops at what is identified, to which it leads
pub stop_identified : (c : Collection) (k t : Key) (n : Text) → StopsAt c k t n → identifier_at c t ≡ Some n
stop_identified c k t n (stop is) = is
stop_identified c k t n (goes_on {j = j} is m w) = stop_identified c j t n w

pub stop_reaches : (c : Collection) (k t : Key) (n : Text) → StopsAt c k t n → OpenReaches c k t
stop_reaches c k t n (stop is) = stay
stop_reaches c k t n (goes_on {j = j} is m w) = step m (stop_reaches c j t n w)

-- adding
module _ (c d : Collection) (s : IsSound c) (x : Extends c d) where
  pub stops_was : (k t : Key) (n : Text) → Stands c k → StopsAt d k t n → StopsAt c k t n
  stops_was k t n st (stop is) = stop (sym (identifier_kept c d s x k st) ∙ is)
  stops_was k t n st (goes_on {j = j} is m w) =
      let o = subst (λ (ks : List Key). IsAmong j ks) (open_next_kept c d s x k st) m in
      goes_on (sym (identifier_kept c d s x k st) ∙ is) o (stops_was j t n (open_stands c s k j st o) w)

  pub KeepsStops-Extends : (ss ts : List Key) → ((k : Key) → IsAmong k ss → IsAmong k ts) → KeepsStops c ss d ts
  KeepsStops-Extends ss ts more = record {
    shared = more;
    identifiers = identifier_kept c d s x;
    uses = λ k st q. ap (λ o. option_map_or use_names o []) (x.same_entry k st);
    stops = stops_was;
    covered = covered_kept c d s x ss ts more;
    quiet = λ y st none. x.trees y st;
  }

-- growth
module _ (c : Collection) (ss : List Key) (e : Id) (old new : InterfaceContent) (g : IsGood c ss) (can : CanGrow c ss e old new) (no_cycle : ¬ (NamesReach c (interface_keys new) (interface_key e))) where
  identified_other : (k : Key) → identifier_at c k ≡ None → k ≢ interface_key e
  identified_other k none same =
      let r = g.identified (interface_key e) can.is_shared in
      let is : None ≡ Some r.0 = sym none ∙ ap (identifier_at c) same ∙ r.1 in absurd (cc)

  stops_stay : (k t : Key) (n : Text) → Stands c k → StopsAt (grown c e new) k t n → StopsAt c k t n
  stops_stay k t n st (stop is) = stop (sym (identifier_grown c ss e old new g can no_cycle k st) ∙ is)
  stops_stay k t n st (goes_on {j = j} is m w) =
      let none : identifier_at c k ≡ None = sym (identifier_grown c ss e old new g can no_cycle k st) ∙ is in
      let o = subst (λ (ks : List Key). IsAmong j ks) (open_next_other c ss e old new g can no_cycle k st (identified_other k none)) m in
      goes_on none o (stops_stay j t n (open_stands c g.sound k j st o) w)

  -- from where no open walk stops, none leads to a shared entry
  pub unstopped_apart : (k s : Key) → Stands c k → IsUnstopped c k → IsAmong s ss → Reaches c k s → ⊥
  unstopped_apart k s st none m w =
      let r = g.identified s m in
      let found = open_stops c k s r.0 (reaches_openly c ss g k s st m w) r.1 in none found.at found.name found.stops

  pub KeepsStops-grown : KeepsStops c ss (grown c e new) ss
  KeepsStops-grown = record {
    shared = λ k m. m;
    identifiers = identifier_grown c ss e old new g can no_cycle;
    uses = λ k st none. ap (λ o. option_map_or use_names o []) (entry_other c ss e old new g can no_cycle k st (identified_other k none));
    stops = stops_stay;
    covered = covered_grown c ss e old new g can no_cycle;
    quiet = λ x st none. unchanged c ss e old new g can no_cycle x st
        (λ r. unstopped_apart r.0 (interface_key e) (among_each (Stands c) r.0 (item_keys x) r.1 st) (among_each (IsUnstopped c) r.0 (item_keys x) r.1 none) can.is_shared r.2);
  }
