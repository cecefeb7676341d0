-- Where an item meets a shared entry, it touches.
use Rattle.std.proofs.Common.{◌≡◌, ◌≢◌, inl, inr, Some, None, IsSome, refl, sym, subst, ◌∙◌}
use Rattle.wac_model.specs.Text.{Text}
use Rattle.wac_component.specs.Id.{Id}
use Rattle.wac_component.specs.Implicit.{identifier}
use Rattle.wac_component.specs.Key.{Key, interface_key}
use Rattle.wac_component.specs.Reach.{IsAmong}
use Rattle.wac_component.specs.Entries.{identifier_at}
use Rattle.wac_component.specs.Open.{stay}
use Rattle.wac_names.specs.Class.{class_of}
use Rattle.wac_aggregator_promises.specs.Attempt.{Attempt, IsSource, held, Touches, OpenlyReached}
use Rattle.wac_aggregator_promises.specs.Entries.{IsIdentifiedOn}
use Rattle.wac_aggregator_narrowing.specs.State.{State}
use Rattle.wac_aggregator_reasons.specs.Sharing.{of_shared, IsSharer, AreHeld}
use Rattle.wac_aggregator_reasons.proofs.Cycles.{identified_interface, identified_on}

-- with a source on the track that is another interface
pub touches_other : (a : Attempt) (s : State) (i : Id) (name m : Text) → OpenlyReached a (interface_key i) → identifier a.call.types i ≡ Some name → class_of m ≡ class_of name
    → (h : IsSharer a.sources s m) → (h.types ≡ a.call.types → h.id ≢ i) → Touches a
touches_other a s i name m reached is same h another = record {
  track = class_of name;
  interface = i;
  reached = reached;
  is_on = record { name = name; identified = is; on_track = refl };
  other_types = h.types;
  other = h.id;
  source = h.source;
  other_on = subst (λ t. IsIdentifiedOn h.types h.id t) same h.is_on;
  another = another;
}

-- before the interface was itself taken in
pub touches_new : (a : Attempt) (s : State) (i : Id) (name m : Text) → OpenlyReached a (interface_key i) → identifier a.call.types i ≡ Some name → class_of m ≡ class_of name
    → a.sources.start ≢ a.call.types → s.taken (interface_key i) ≡ None → IsSharer a.sources s m → Touches a
touches_new a s i name m reached is same apart new h = touches_other a s i name m reached is same h (λ e g. elim h.stood [
  | inl start ↦ apart (sym start ∙ e)
  | inr there ↦ not_there (subst (λ (p : Id). IsSome (s.taken (interface_key p))) g there)
])
  where
    not_there : IsSome (s.taken (interface_key i)) → ⊥
    not_there h = absurd (cc (new, h))

-- or with a shared entry that stood at the start, also where the interface was taken in before
pub touches_start : (a : Attempt) (s : State) (i : Id) (name m : Text) (k : Key) → OpenlyReached a (interface_key i) → identifier a.call.types i ≡ Some name → class_of m ≡ class_of name
    → a.sources.start ≡ s.own → a.sources.start ≢ a.call.types → AreHeld s → IsAmong k s.shared → identifier_at s.own k ≡ Some m → Touches a
touches_start a s i name m k reached is same start apart h among named = record {
  track = class_of name;
  interface = i;
  reached = reached;
  is_on = record { name = name; identified = is; on_track = refl };
  other_types = s.own;
  other = k.id;
  source = subst (λ (j : Key). IsSource a.sources s.own j) (identified_interface s.own k m named) (held start (h.held k k (of_shared among) stay));
  other_on = identified_on s.own k m named (class_of name) same;
  another = λ e. absurd (apart (start ∙ e));
}
