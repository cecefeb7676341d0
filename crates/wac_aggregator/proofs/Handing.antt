-- What a call does to an aggregator.
use Rattle.std.proofs.Common.{◌≡◌, ◌≢◌, Some, None, IsSome, refl, ap, sym, ◌∙◌, subst}
use Rattle.wac_mismatch.specs.declared.check.SubtypeCheck.{SubtypeCheck}
use Rattle.wac_component.specs.Collection.{Collection}
use Rattle.wac_component.specs.Key.{AllStand, item_keys}
use Rattle.wac_component.specs.Sound.{IsSound}
use Rattle.wac_component.specs.declared.items.ItemKind.{ItemKind}
use Rattle.std.specs.List.{Contains}
use Rattle.wac_model.specs.Text.{Text}
use Rattle.wac_names.specs.Class.{Class, class_of}
use Rattle.wac_aggregator_narrowing.specs.Remembers.{RemembersTruly}
use Rattle.wac_aggregator_narrowing.specs.State.{IsOneWith}
use Rattle.wac_aggregator_promises.specs.Aggregated.{IsCallStep, track_imports}
use Rattle.wac_aggregator_promises.specs.Attempt.{single_attempt}
use Rattle.wac_aggregator_promises.specs.Call.{Call, call_track}
use Rattle.wac_aggregator_promises.specs.Due.{OwnsOn}
use Rattle.wac_aggregator_promises.specs.Imported.{track_names, ImportsAfter}
use Rattle.wac_aggregator_promises.specs.PlainList.{IsPlain}
use Rattle.wac_aggregator_promises.specs.PlainRun.{IsPlainStep, IsPlainRefusal}
use Rattle.wac_aggregator_promises.specs.Holding.{HoldsNoOthers}
use Rattle.wac_aggregator_promises.specs.Reason.{IsReason}
use Rattle.wac_aggregator_errors.specs.declared.error.AggregateError.{AggregateError}
use Rattle.wac_aggregator_errors.specs.declared.error.AggregateError.TheVariants.{Memory}
use Rattle.wac_aggregator_imports.specs.Import.{AreFiled}
use Rattle.wac_aggregator_imports.specs.Left.{listed_imports}
use Rattle.wac_aggregator_imports.proofs.Listed.{of_Contains}
use Rattle.wac_aggregator_errors.specs.Said.{said}
use Rattle.wac_aggregator_taking.specs.Refused.{HasReason}
use Rattle.wac_aggregator_taking.specs.Takes.{state_of, MayTake, OwnersImported}
use Rattle.wac_aggregator_taking.specs.declared.state.Merging.{Merging}
use Rattle.wac_aggregator.specs.Advances.{attempt_at, Advances, IsRefusedCall, MayTry}
use Rattle.wac_aggregator.specs.Content.{AggregatorContent, shown, content_of, state_in}
use Rattle.wac_aggregator.specs.InOrder.{IsMergingInOrder}
use Rattle.wac_aggregator.proofs.Advancing.{at_of, run, advances_step}
use Rattle.wac_aggregator.proofs.Held.{holds_no_others}
use Rattle.wac_aggregator.proofs.Listing.{advances_in_order, advances_number}
use Rattle.wac_aggregator.proofs.Plain.{track_import, plain_step, plain_refusal}
use Rattle.wac_aggregator.proofs.Imported.{track_name, imports_after, owner_imported, owners_after}
use Rattle.wac_aggregator.proofs.Remembering.{truly_in, truly_of, owners_in, owners_of}

-- each import stands
pub imports_stand : (a : Merging) → IsMergingInOrder a → (n : Text) (k : ItemKind) → Contains (listed_imports a.imports) (n, k) → AllStand a.types (item_keys k)
imports_stand a h n k m = h.kept.imports n k (at_of a.imports n (n, k) (of_Contains a.imports h.imports (n, k) m))

-- what refuses a call that may be tried is a reason, by the imports that are shown
pub refused_reason : (call : Call) (a : Merging) → AreFiled a.imports → MayTry call a → (e : AggregateError) → IsRefusedCall call a e → HasReason (single_attempt a.types (track_imports (shown (content_of a)) (call_track call)) call) e
refused_reason call a filed try e h = by (track_import a (call_track call) filed)
  where
    by : track_imports (shown (content_of a)) (call_track call) ≡ (attempt_at call a).import → HasReason (single_attempt a.types (track_imports (shown (content_of a)) (call_track call)) call) e
    by same r says = subst (λ import. IsReason (single_attempt a.types import call) r) (sym same) ((h (λ memory. let no : None ≡ Some r = sym (ap said memory) ∙ says in absurd (cc))).reason try r says)

module _ (call : Call) (inside : Merging) (told : SubtypeCheck) (before : AggregatorContent) (is : content_of inside ≡ before) (order : IsMergingInOrder inside) (apart : call.types.number ≢ before.types.number) (truly : RemembersTruly class_of call.types (state_in before)) where
  abbrev a : Merging
  a = record inside { check = told }

  pub call_may : MayTake call.types a
  call_may = record { apart = λ e. apart (e ∙ ap (λ (s : AggregatorContent). s.types.number) is); kept = order.kept; truly = truly_of call.types inside (subst (λ s. RemembersTruly class_of call.types (state_in s)) (sym is) truly); filed = order.filed }

  call_try : IsSound call.types → AllStand call.types (item_keys call.kind) → MayTry call a
  call_try sound item = record { sound = record { sound = sound; stands = item }; held = order.held; split = order.split }

  module _ (b : Merging) (filed : AreFiled b.imports) (h : Advances call a b) where
    pub call_in_order : IsSound call.types → AllStand call.types (item_keys call.kind) → IsMergingInOrder b
    call_in_order sound item = advances_in_order call a b call_may (call_try sound item) order.identified order.imports filed h

    pub call_number : b.types.number ≡ before.types.number
    call_number = advances_number call a b call_may order.imports filed h ∙ ap (λ (s : AggregatorContent). s.types.number) is

    pub call_step : IsCallStep (shown before) (shown (content_of b)) call
    call_step = subst (λ s. IsCallStep (shown s) (shown (content_of b)) call) is (advances_step call a b call_may order.imports filed h)

    pub call_truly : (g : Collection) → IsOneWith call.types g → RemembersTruly class_of g (state_in before) → RemembersTruly class_of g (state_in (content_of b))
    call_truly g one t = truly_in g b ((run call a b call_may order.imports filed h).truly order.kept g one (truly_of g inside (subst (λ s. RemembersTruly class_of g (state_in s)) (sym is) t)))

    pub call_imports : ImportsAfter (shown before) (shown (content_of b)) call
    call_imports = subst (λ s. ImportsAfter (shown s) (shown (content_of b)) call) is (imports_after call a b call_may order.imports filed h)

    pub call_held : HoldsNoOthers before.types b.types call
    call_held = subst (λ (s : AggregatorContent). HoldsNoOthers s.types b.types call) is (holds_no_others call a b call_may order.imports filed h order.held order.identified)

    owners_before : (g : Collection) → OwnersImported g (state_in before) → OwnersImported g (state_of a)
    owners_before g o = owners_of g inside (subst (λ s. OwnersImported g (state_in s)) (sym is) o)

    pub call_due : AllStand call.types (item_keys call.kind) → OwnersImported call.types (state_in before) → (t : Class) → OwnsOn call t → IsSome (track_names (shown (content_of b)) t)
    call_due item o t owns =
        let j = owner_imported call a b call_may order.imports filed h (owners_before call.types o) item t owns in
        rw (track_name b t filed, j.1) refl

    pub call_owners : (g : Collection) → IsOneWith call.types g → OwnersImported g (state_in before) → OwnersImported g (state_in (content_of b))
    call_owners g one o = owners_in g b (owners_after call a b call_may order.imports filed h g one (owners_before g o))

    pub call_plain : IsPlain call.types call.kind → IsPlainStep (track_imports (shown before)) (track_imports (shown (content_of b))) call
    call_plain p = subst (λ s. IsPlainStep (track_imports (shown s)) (track_imports (shown (content_of b))) call) is (plain_step call a b call_may order.imports filed h p)

  pub call_refused : (e : AggregateError) → IsRefusedCall call a e → IsPlain call.types call.kind → e ≢ Memory → IsPlainRefusal (track_imports (shown before)) call
  call_refused e h p ne = subst (λ s. IsPlainRefusal (track_imports (shown s)) call) is (plain_refusal call a order.imports ((h ne).plain p))

  pub call_reason : (e : AggregateError) → IsSound call.types → AllStand call.types (item_keys call.kind) → IsRefusedCall call a e → HasReason (single_attempt before.types (track_imports (shown before) (call_track call)) call) e
  call_reason e sound item h = subst (λ s. HasReason (single_attempt s.types (track_imports (shown s) (call_track call)) call) e) is (refused_reason call a order.imports (call_try sound item) e h)
