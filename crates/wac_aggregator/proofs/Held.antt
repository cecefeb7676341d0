-- Which interfaces are held after a call.
use Rattle.std.proofs.Common.{◌≡◌, ◌⊎◌, ◌++◌, inl, inr, List, [], ◌∷◌, Some, ap, sym, subst, ◌∙◌}
use Rattle.std.proofs.lemmas.List.Elements.{Contains-append_left, Contains-append_right}
use Rattle.wac_model.specs.Text.{Text}
use Rattle.wac_component.specs.Entries.{identifier_at}
use Rattle.wac_component.specs.Key.{Key, interface_key, item_keys}
use Rattle.wac_component.specs.Open.{OpenReaches, stay}
use Rattle.wac_component.specs.Reach.{IsAmong}
use Rattle.wac_component.proofs.Among.{Contains-first}
use Rattle.wac_names.specs.Class.{Class, class_of}
use Rattle.wac_aggregator_narrowing.specs.Remembers.{RemembersTruly}
use Rattle.wac_aggregator_narrowing.specs.State.{RunsTaking}
use Rattle.wac_aggregator_promises.specs.Attempt.{IsHeld}
use Rattle.wac_aggregator_promises.specs.Call.{Call}
use Rattle.wac_aggregator_promises.specs.Holding.{HoldsOn, ReachesOn, HoldsNoOthers, HoldsReached}
use Rattle.wac_aggregator_imports.specs.Import.{AreFiled}
use Rattle.wac_aggregator_reasons.specs.Sharing.{AreHeld, of_shared}
use Rattle.wac_aggregator_reasons.specs.Split.{AreSharedOrBelow, AddsSharedOrBelow}
use Rattle.wac_aggregator_reasons.proofs.SharedOrBelow.{adds_then, added_all}
use Rattle.wac_aggregator_taking.specs.Takes.{shared_keys, state_of, MayTake, IsSharedFrom}
use Rattle.wac_aggregator_taking.specs.declared.state.Merging.{Merging}
use Rattle.wac_aggregator_taking.proofs.Identifiers.{is_interface, has_identifier, identifier_of}
use Rattle.wac_aggregator_taking.proofs.TakeLemmas.{shared_stands}
use Rattle.wac_aggregator.specs.Advances.{Advances}
use Rattle.wac_aggregator.proofs.Advancing.{run, rest, taken_kept}

module _ (call : Call) (a b : Merging) (may : MayTake call.types a) (filed_a : AreFiled a.imports) (filed_b : AreFiled b.imports) (h : Advances call a b) where
  rests : RunsTaking (RemembersTruly class_of) call.types (state_of h.taken) (state_of b)
  rests = rest call a b may filed_a filed_b h

  -- where the import is met with the item, nothing with an identifier is added
  adds_on : AddsSharedOrBelow (state_of h.taken) (state_of b)
  adds_on k n stands is = inl (h.on.identified k n stands is)

  pub identified_after : AreSharedOrBelow (state_of a) → AreSharedOrBelow (state_of b)
  identified_after = added_all (RemembersTruly class_of) call.types (state_of a) (state_of b) may.kept (run call a b may filed_a filed_b h)
      (adds_then (RemembersTruly class_of) call.types (state_of a) (state_of h.taken) (state_of b) (taken_kept call a b may filed_a filed_b h) rests h.takes.identified adds_on)

  -- an entry that was shared before was held
  was_held : AreHeld (state_of a) → (k : Key) (n : Text) (t : Class) → IsAmong k (shared_keys a.shared.entries) → identifier_at a.types k ≡ Some n → class_of n ≡ t → HoldsOn a.types t
  was_held held k n t shared is on = record {
    interface = k.id;
    held = subst (IsHeld a.types) (is_interface a.types k n is) (held.held k k (of_shared shared) stay);
    is_on = record { name = n; identified = has_identifier a.types k n is; on_track = on };
  }

  reached_on : (k : Key) (n : Text) (t : Class) → IsSharedFrom call.types (item_keys call.kind) h.taken k → identifier_at h.taken.types k ≡ Some n → class_of n ≡ t → ReachesOn call t
  reached_on k n t new is on =
      let same : new.name ≡ n = let both : Some new.name ≡ Some n = sym new.own_identified ∙ is in cc in
      record {
        interface = new.theirs.id;
        reached = (new.walk.0, new.walk.1, subst (OpenReaches call.types new.walk.0) (is_interface call.types new.theirs new.name new.identified) new.walk.2);
        is_on = record { name = new.name; identified = has_identifier call.types new.theirs new.name new.identified; on_track = ap class_of same ∙ on };
      }

  -- on which tracks interfaces are held then
  pub holds_no_others : AreHeld (state_of a) → AreSharedOrBelow (state_of a) → HoldsNoOthers a.types b.types call
  holds_no_others held order t on = elim (identified_after order (interface_key on.interface) on.is_on.name on.held.stands named) [
    | inl shared ↦ by_shared (subst (IsAmong (interface_key on.interface)) (ap (λ (m : Merging). shared_keys m.shared.entries) h.same) shared)
    | inr below ↦ absurd (on.held.above below)
  ]
    where
      named : identifier_at b.types (interface_key on.interface) ≡ Some on.is_on.name
      named = identifier_of b.types on.interface on.is_on.name on.is_on.identified

      by_shared : IsAmong (interface_key on.interface) (shared_keys h.taken.shared.entries) → HoldsOn a.types t ⊎ ReachesOn call t
      by_shared shared =
          let kept = taken_kept call a b may filed_a filed_b h in
          let then : identifier_at h.taken.types (interface_key on.interface) ≡ Some on.is_on.name = sym ((rests.stops kept).identifiers (interface_key on.interface) (shared_stands (state_of h.taken) kept (interface_key on.interface) shared)) ∙ named in
          elim (h.takes.shares (interface_key on.interface) shared) [
            | inl was ↦ inl (was_held held (interface_key on.interface) on.is_on.name t was (sym ((h.takes.run.stops may.kept).identifiers (interface_key on.interface) (shared_stands (state_of a) may.kept (interface_key on.interface) was)) ∙ then) on.is_on.on_track)
            | inr new ↦ inr (reached_on (interface_key on.interface) on.is_on.name t new then on.is_on.on_track)
          ]

  -- and after the calls before it
  pub reached_after : (front : List Call) → AreHeld (state_of a) → AreSharedOrBelow (state_of a) → HoldsReached front a.types → HoldsReached (front ++ call ∷ []) b.types
  reached_after front held order before t on = elim (holds_no_others held order t on) [
    | inl was ↦ (let r = before t was in (r.0, Contains-append_left front (call ∷ []) r.0 r.1, r.2))
    | inr new ↦ (call, Contains-append_right front (call ∷ []) call (Contains-first call []), new)
  ]
