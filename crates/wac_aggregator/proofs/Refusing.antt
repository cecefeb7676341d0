-- Why a call is refused.
use Rattle.std.proofs.Common.{◌≡◌, ◌⊎◌, inl, inr, Option, Some, None, IsSome, refl, ap, sym, subst, ◌∙◌}
use Rattle.std.specs.Option.{option_map}
use Rattle.wac_model.specs.Desc.{item_desc}
use Rattle.wac_model.specs.ItemTree.{ItemTree}
use Rattle.wac_model.specs.Order.{Fits}
use Rattle.wac_component.specs.Height.{keys_height}
use Rattle.wac_component.specs.Id.{Id}
use Rattle.wac_component.specs.Key.{item_keys, interface_key}
use Rattle.wac_component.specs.Tree.{item_tree}
use Rattle.wac_component.specs.declared.items.ItemKind.{ItemKind}
use Rattle.wac_names.specs.Class.{class_of}
use Rattle.wac_aggregator_narrowing.specs.Taking.{IsTakenItem}
use Rattle.wac_aggregator_reasons.proofs.Reasons.{merges_clash}
use Rattle.wac_aggregator_promises.specs.Call.{Call, call_track, call_tree}
use Rattle.wac_aggregator_promises.specs.Case.{case_of}
use Rattle.wac_aggregator_promises.specs.PlainList.{IsPlain}
use Rattle.wac_aggregator_promises.specs.Reason.{kinds, mismatch, taken, IsTaken}
use Rattle.wac_aggregator_promises.proofs.WitReasons.{fits_case}
use Rattle.wac_aggregator_imports.specs.Import.{ImportContent, ImportsContent, import_of}
use Rattle.wac_aggregator_errors.specs.declared.error.AggregateError.{AggregateError}
use Rattle.wac_aggregator_errors.specs.declared.error.AggregateError.TheVariants.{Memory}
use Rattle.wac_aggregator_uses.specs.Differ.{UsesDiffer}
use Rattle.wac_aggregator_errors.specs.Said.{said}
use Rattle.wac_aggregator_taking.specs.Refused.{HasReason, MayRefuse, IsMergeRefusal, SaysMismatch}
use Rattle.wac_aggregator_taking.specs.Takes.{state_of, IsOwnersImport, MayTake, Takes}
use Rattle.wac_aggregator_taking.specs.declared.state.Merging.{Merging}
use Rattle.wac_aggregator_taking.proofs.Identifiers.{has_identifier}
use Rattle.wac_aggregator_taking.proofs.MergeReasons.{one_reason, entries_refused}
use Rattle.wac_aggregator_taking.proofs.Plain.{plain_quiet}
use Rattle.wac_aggregator_taking.proofs.TakeLemmas.{near_none, only_grows}
use Rattle.wac_aggregator_taking.proofs.PlainUses.{plain_no_uses}
use Rattle.wac_aggregator.specs.Advances.{attempt_at, CallHasNoMeet, IsRefusedCall, MayTry}
use Rattle.wac_aggregator.proofs.Calls.{import_with, at_still, existing_stands}
use Rattle.wac_aggregator.proofs.Trying.{call_trial, call_accounted, import_open, own_open, taken_accounted}

-- what refuses the item refuses the call
pub item_refused : (call : Call) (a : Merging) (e : AggregateError) → MayTake call.types a → MayRefuse call.types a (item_keys call.kind) e → IsRefusedCall call a e
item_refused call a e may h ne =
    let r = h ne in
    record {
      plain = λ p. absurd (r.plain p);
      reason = λ try. r.reason (attempt_at call a) (call_trial call a may try) (call_accounted call a may try) (near_none (attempt_at call a) a);
    }

no_some : (o : Option ImportContent) → o ≡ None → IsSome o → ⊥
no_some None is h = absurd (cc h)
no_some (Some i) is h = absurd (cc is)

module _ (call : Call) (a : Merging) (existing : ItemKind) (found : option_map (λ (i : ImportContent). i.1) (import_of a.imports (call_track call)) ≡ Some existing) where
  -- the import on the track has no lower bound with the item
  no_meet : ((t : ItemTree) → Fits t (item_tree a.types existing) → Fits t (call_tree call) → ⊥) → CallHasNoMeet call a
  no_meet none =
      let w = import_with (import_of a.imports (call_track call)) existing found in
      record { import = w.0; stood = w.1; no_bound = λ t x y. none t (subst (λ k. Fits t (item_tree a.types k)) w.2 x) y }

  stood : (attempt_at call a).import ≡ Some (item_tree a.types existing)
  stood =
      let w = import_with (import_of a.imports (call_track call)) existing found in
      ap (option_map (λ (i : ImportContent). item_tree a.types i.1)) w.1 ∙ ap (λ k. Some (item_tree a.types k)) w.2

  -- they are of different cases
  pub cases_refused : (e : AggregateError) → ¬ (case_of (item_tree a.types existing) ≡ case_of (call_tree call)) → said e ≡ Some (kinds (item_desc (item_tree a.types existing)) (item_desc (call_tree call))) → IsRefusedCall call a e
  cases_refused e differ says ne = record {
    plain = λ p. no_meet (λ t x y. differ (sym (fits_case x) ∙ fits_case y));
    reason = λ try. one_reason (attempt_at call a) e (kinds (item_desc (item_tree a.types existing)) (item_desc (call_tree call))) says (record { tree = item_tree a.types existing; stood = stood; differ = differ; existing_desc = refl; found_desc = refl });
  }

module _ (call : Call) (a mid : Merging) (own : ItemKind) (may : MayTake call.types a)
    (takes : Takes call.types a mid (keys_height call.types (item_keys call.kind)) (item_keys call.kind) (λ t. IsTakenItem class_of call.types t call.kind own)) where
  -- an import came with the item
  pub not_added : (e : AggregateError) → import_of a.imports (call_track call) ≡ None → (e ≡ Memory) ⊎ (IsSome (import_of mid.imports (call_track call)) × (said e ≡ Some (taken call.name))) → IsRefusedCall call a e
  not_added e none (inl is) ne = absurd (ne is)
  not_added e none (inr h) ne = record {
    plain = λ p. absurd (no_some (import_of mid.imports (call_track call)) (ap (λ (is : ImportsContent). import_of is (call_track call)) (takes.plain p) ∙ none) h.0);
    reason = λ try. one_reason (attempt_at call a) e (taken call.name) h.1 (came (import_of mid.imports (call_track call)) refl h.0);
  }
    where
      of_owner : (i : ImportContent) → IsOwnersImport call.types (item_keys call.kind) mid (call_track call) i → IsTaken (attempt_at call a) call.name
      of_owner i o = record {
        none_stood = ap (option_map (λ (i : ImportContent). item_tree a.types i.1)) none;
        resource = o.leads.resource;
        owner = o.leads.owner;
        reached = (o.from, o.among, o.leads.walk);
        owned = o.leads.owned;
        is_on = record { name = o.owner_name; identified = has_identifier call.types (interface_key o.leads.owner) o.owner_name o.leads.identified; on_track = o.on_track };
        named = refl;
      }

      came : (o : Option ImportContent) → import_of mid.imports (call_track call) ≡ o → IsSome o → IsTaken (attempt_at call a) call.name
      came None at some = absurd (cc)
      came (Some i) at some = elim (takes.due (call_track call) i at) [
        | inl was ↦ absurd (let no : None ≡ Some i = sym none ∙ was in cc)
        | inr o ↦ of_owner i o
      ]

  -- it has no meet with the import, or their uses differ
  module _ (existing : ItemKind) (found : option_map (λ (i : ImportContent). i.1) (import_of a.imports (call_track call)) ≡ Some existing) (e : AggregateError) where
    plain_apart : IsPlain call.types call.kind → UsesDiffer mid.types (item_keys existing) (item_keys own) e ⊎ SaysMismatch mid.types existing own e → CallHasNoMeet call a
    plain_apart p (inl uses) = absurd (plain_no_uses call.types (state_of mid) call.kind own p takes.holds (item_keys existing) e uses)
    plain_apart p (inr clash) =
        let only = only_grows call.types a mid (keys_height call.types (item_keys call.kind)) (item_keys call.kind) (λ t. IsTakenItem class_of call.types t call.kind own) takes p in
        let same_import = only.grows.trees existing (may.kept.imports call.name existing found) in
        let same_item = takes.holds.quiet (plain_quiet call.types (item_keys call.kind) p) in
        no_meet call a existing found (λ t x y. clash.no_bound t (subst (Fits t) (sym same_import) x) (subst (Fits t) (sym same_item) y))

    clash_reason : (try : MayTry call a) → UsesDiffer mid.types (item_keys existing) (item_keys own) e ⊎ SaysMismatch mid.types existing own e → HasReason (attempt_at call a) e
    clash_reason try h =
        let at = attempt_at call a in
        let trial = call_trial call a may try in
        let all = call_accounted call a may try in
        let now = taken_accounted call a may mid own takes at trial all in
        let kept = takes.run.kept may.kept in
        let there = import_open at mid call.name existing now (at_still call a mid own may takes existing found) in
        let taken_open = own_open call a may mid own takes at trial all in
        elim h [
          | inl uses ↦ entries_refused at (state_of mid) (item_keys existing) (item_keys own) e (inl (rw (stood call a existing found) refl)) kept (existing_stands call a mid own may takes existing found) takes.holds.stands there taken_open uses
          | inr clash ↦ one_reason at e mismatch clash.says
              (merges_clash at (state_of a) (state_of mid) existing own may.kept kept (takes.run.narrows may.kept) (may.kept.imports call.name existing found) (stood call a existing found) refl now takes.holds there taken_open clash.no_bound)
        ]

    pub not_merged : IsMergeRefusal mid.types existing own e → IsRefusedCall call a e
    not_merged h ne = record { plain = λ p. plain_apart p (h ne); reason = λ try. clash_reason try (h ne) }

-- what is told of a mismatch changes nothing else
pub told_refused : (a : Merging) (told : Option Id) (call : Call) (e : AggregateError) → IsRefusedCall call (record a { handed_in = told }) e → IsRefusedCall call a e
told_refused a told call e h ne =
    let r = h ne in
    record { plain = λ p. let n = r.plain p in record { import = n.import; stood = n.stood; no_bound = n.no_bound }; reason = λ try. r.reason (record { sound = try.sound; held = try.held; split = try.split }) }
