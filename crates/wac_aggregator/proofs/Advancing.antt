-- A call is a step, and keeps what stood and what was remembered.
use Rattle.std.proofs.Common.{◌≡◌, Bool, true, false, List, Option, Some, None, refl, ap, sym, ◌∙◌, subst}
use Rattle.std.specs.List.{IsDistinct}
use Rattle.std.specs.Option.{option_map}
use Rattle.wac_model.specs.Text.{Text}
use Rattle.wac_model.specs.Order.{Fits}
use Rattle.wac_model.proofs.ItemOrder.{Fits-refl, Fits-trans}
use Rattle.wac_component.specs.Collection.{Collection}
use Rattle.wac_component.specs.Key.{Key, Each, AllStand, item_keys}
use Rattle.wac_component.specs.Tree.{item_tree}
use Rattle.wac_component.specs.declared.items.ItemKind.{ItemKind}
use Rattle.wac_names.specs.Class.{class_eq, class_of}
use Rattle.wac_names.proofs.Classes.{classes_decided}
use Rattle.wac_aggregator_narrowing.specs.Identified.{IsCovered}
use Rattle.wac_aggregator_narrowing.specs.Imports.{IsImportFor, ImportsFit}
use Rattle.wac_aggregator_narrowing.specs.Remembers.{RemembersTruly}
use Rattle.wac_aggregator_narrowing.specs.State.{State, IsStateKept, RunsTaking}
use Rattle.wac_aggregator_narrowing.proofs.Running.{RunsTaking-step, RunsTaking-trans, RunsTaking-import}
use Rattle.wac_aggregator_narrowing.proofs.Remembered.{RemembersTruly-step}
use Rattle.wac_aggregator_promises.specs.Aggregated.{IsCallStep, IsByTrack}
use Rattle.wac_aggregator_promises.specs.Call.{Call, call_track, call_tree}
use Rattle.wac_aggregator_imports.specs.Import.{ImportContent, ImportsContent, import_of, import_at, AreFiled}
use Rattle.wac_aggregator_imports.proofs.Listed.{classes_listed}
use Rattle.wac_aggregator_promises.specs.Attempt.{Attempt}
use Rattle.wac_component.specs.Reach.{IsAmong}
use Rattle.wac_component.proofs.Among.{among_each}
use Rattle.wac_aggregator_reasons.specs.Sharing.{of_import}
use Rattle.wac_aggregator_reasons.specs.Trial.{IsTrial, IsAccounted, IsOpenSource}
use Rattle.wac_aggregator_reasons.proofs.Accounts.{root_open, accounted_imports}
use Rattle.wac_aggregator_taking.specs.Takes.{shared_keys, state_of, MayTake}
use Rattle.wac_aggregator_taking.specs.declared.state.Merging.{Merging}
use Rattle.wac_aggregator.specs.Advances.{IsImportPlaced, Advances, added, noted}
use Rattle.wac_aggregator.specs.Content.{shown, content_of}
use Rattle.wac_aggregator.specs.Served.{NameLeadsTo}
use Rattle.wac_aggregator.proofs.Leading.{PlacedAs, placed_as, placed_here, placed_other, leads-on, leads-new, leads-from, found-of, canonical-other, canonical-track}

-- what is found under a class is found under each name of it
pub at_of : (is : ImportsContent) (n : Text) (i : ImportContent) → import_of is (class_of n) ≡ Some i → import_at is n ≡ Some i.1
at_of is n i h = ap (option_map (λ (j : ImportContent). j.1)) h

pub of_at : (is : ImportsContent) (n : Text) (x : ItemKind) → import_at is n ≡ Some x → (i : ImportContent) × (import_of is (class_of n) ≡ Some i) × (i.1 ≡ x)
of_at is n x h = by (import_of is (class_of n)) refl h
  where
    by : (o : Option ImportContent) → import_of is (class_of n) ≡ o → option_map (λ (j : ImportContent). j.1) o ≡ Some x → (i : ImportContent) × (import_of is (class_of n) ≡ Some i) × (i.1 ≡ x)
    by None at k = absurd (cc)
    by (Some i) at k = let same : i.1 ≡ x = cc in (i, at, same)

module _ (call : Call) (a b : Merging) (may : MayTake call.types a) (filed_a : AreFiled a.imports) (filed_b : AreFiled b.imports) (h : Advances call a b) where
  abbrev f : Collection
  f = call.types

  abbrev ss : List Key
  ss = shared_keys h.taken.shared.entries

  pub placing : PlacedAs a.imports h.taken.imports b.imports call.name h.import
  placing = placed_as a.imports h.taken.imports b.imports h.takes.led call.name h.import h.placed

  pub taken_kept : IsStateKept (state_of h.taken)
  taken_kept = h.takes.run.kept may.kept

  -- the state once entries were added
  abbrev mid : State
  mid = record (state_of h.taken) { own = b.types }

  to_mid : RunsTaking (RemembersTruly class_of) f (state_of h.taken) mid
  to_mid = RunsTaking-step (RemembersTruly class_of) f (state_of h.taken) b.types ss (λ k. h.on.steps ss k.good)
      (λ k g t. let s = h.on.steps ss k.good in RemembersTruly-step class_of g (state_of h.taken) b.types ss s.narrows s.stops t)

  -- the imports before, and now
  was_or : (P : ItemKind → Type 0) → P h.import → ((n : Text) (x : ItemKind) → import_at h.taken.imports n ≡ Some x → P x) → (n : Text) (x : ItemKind) → import_at b.imports n ≡ Some x → P x
  was_or P new old n x at = by (class_eq (call_track call) (class_of n)) refl
    where
      by : (t : Bool) → class_eq (call_track call) (class_of n) ≡ t → P x
      by true e =
          let here : import_at b.imports n ≡ Some h.import = at_of b.imports n (placing.as_name, h.import) (ap (import_of b.imports) (sym ((classes_decided (call_track call) (class_of n)).0 e)) ∙ placed_here a.imports h.taken.imports b.imports call.name h.import placing h.takes.stays) in
          let same : h.import ≡ x = let both : Some h.import ≡ Some x = sym here ∙ at in cc in
          subst P same new
      by false e = old n x (ap (option_map (λ (j : ImportContent). j.1)) (sym (placed_other a.imports h.taken.imports b.imports call.name h.import placing h.takes.stays (class_of n) e)) ∙ at)

  fit : IsStateKept mid → ImportsFit b.types (import_at h.taken.imports) b.types (import_at b.imports)
  fit kept n x at = by (class_eq (call_track call) (class_of n)) refl
    where
      stood : AllStand h.taken.types (item_keys x)
      stood = taken_kept.imports n x at

      by : (t : Bool) → class_eq (call_track call) (class_of n) ≡ t → IsImportFor b.types (import_at b.imports n) b.types x
      by true e =
          let on : call_track call ≡ class_of n = (classes_decided (call_track call) (class_of n)).0 e in
          let i = of_at h.taken.imports n x at in
          record {
            import = h.import;
            is = at_of b.imports n (placing.as_name, h.import) (ap (import_of b.imports) (sym on) ∙ placed_here a.imports h.taken.imports b.imports call.name h.import placing h.takes.stays);
            fits = subst (λ t. Fits (item_tree b.types h.import) t) (sym (h.on.grows.trees x stood)) (by_place h.placed i.0 (ap (import_of h.taken.imports) on ∙ i.1) i.2);
          }
        where
          by_place : IsImportPlaced a.imports h.taken.imports b.imports call.name h.import → (i : ImportContent) → import_of h.taken.imports (call_track call) ≡ Some i → i.1 ≡ x → Fits (item_tree b.types h.import) (item_tree h.taken.types x)
          by_place (added before none puts led) i here is = absurd (let no : None ≡ Some i = sym none ∙ here in cc)
          by_place (noted j before is_noted) i here is =
              let same : j ≡ i = let both : Some j ≡ Some i = sym (h.takes.stays (call_track call) j before) ∙ here in cc in
              subst (λ y. Fits (item_tree b.types h.import) (item_tree h.taken.types y)) (ap (λ (k : ImportContent). k.1) same ∙ is) (h.existing j before)
      by false e =
          record {
            import = x;
            is = ap (option_map (λ (j : ImportContent). j.1)) (placed_other a.imports h.taken.imports b.imports call.name h.import placing h.takes.stays (class_of n) e) ∙ at;
            fits = Fits-refl (item_tree b.types x);
          }

  pub rest : RunsTaking (RemembersTruly class_of) f (state_of h.taken) (state_of b)
  rest = subst (λ (m : Merging). RunsTaking (RemembersTruly class_of) f (state_of h.taken) (state_of m)) (sym h.same)
      (RunsTaking-trans (RemembersTruly class_of) f (state_of h.taken) mid (record mid { imports = import_at b.imports }) to_mid
      (RunsTaking-import (RemembersTruly class_of) f mid (import_at b.imports)
      (λ kept. was_or (λ x. AllStand b.types (item_keys x)) h.stands kept.imports)
      (λ kept. was_or (λ x. Each (IsCovered b.types ss) (item_keys x)) h.covered kept.imports_covered)
      fit
      (λ g t. record { taken = t.taken; copies = t.copies; closed = t.closed })))

  pub run : RunsTaking (RemembersTruly class_of) f (state_of a) (state_of b)
  run = RunsTaking-trans (RemembersTruly class_of) f (state_of a) (state_of h.taken) (state_of b) h.takes.run rest

  -- all stays accounted for
  pub call_accounts : (at : Attempt) → IsTrial at call.types (item_keys call.kind) → IsAccounted at (state_of a) → IsAccounted at (state_of b)
  call_accounts at trial all =
      let now = h.accounts at trial all in
      let stays = accounted_imports at mid (record mid { imports = import_at b.imports }) (to_mid.kept taken_kept) refl refl refl refl
      (was_or (λ x. (k : Key) → IsAmong k (item_keys x) → IsOpenSource at mid k) (λ k m. among_each (IsOpenSource at mid) k (item_keys h.import) m now.1) (λ n x is k m. root_open at mid k now.0 (of_import {n = n} is m))) now.0 in
      subst (λ (m : Merging). IsAccounted at (state_of m)) (sym h.same) stays.now

  -- the import serves
  pub fits_item : Fits (item_tree b.types h.import) (call_tree call)
  fits_item = Fits-trans (item_tree b.types h.import) (item_tree h.taken.types h.own) (call_tree call) h.fits h.takes.holds.fits

  -- a name that led to an import leads to one that is no wider
  pub leads_below : (n : Text) (i : ImportContent) → NameLeadsTo a.imports n i → (j : ImportContent) × NameLeadsTo b.imports n j × Fits (item_tree b.types j.1) (item_tree a.types i.1)
  leads_below n i l =
      let m = run.imports may.kept n i.1 (at_of a.imports n i l.import) in
      let j = of_at b.imports n m.import m.is in
      (j.0, leads-on a.imports h.taken.imports b.imports call.name h.import placing h.takes.stays n i j.0 l j.1, subst (λ x. Fits (item_tree b.types x) (item_tree a.types i.1)) (sym j.2) m.fits)

  pub advances_step : IsCallStep (shown (content_of a)) (shown (content_of b)) call
  advances_step = record {
    kept = λ n x is.
        let j = leads_below n (canonical_name n, x) (leads-from a.imports filed_a n x is) in
        record { import = j.0.1; is_import = found-of b.imports filed_b n j.0 j.1; fits = j.2 };
    served = record { import = h.import; is_import = found-of b.imports filed_b call.name (placing.as_name, h.import) (leads-new a.imports h.taken.imports b.imports call.name h.import placing h.takes.stays); fits = fits_item };
    others = λ n none other. canonical-other a.imports h.taken.imports b.imports call.name h.import placing h.takes.stays filed_a n none other;
  }
    where
      canonical_name : Text → Text
      canonical_name n = (shown (content_of a)).canonical n

-- names lead to their tracks, each of which has one import
pub by_track : (a : Merging) → AreFiled a.imports → IsByTrack (shown (content_of a))
by_track a filed = record {
  canonical = canonical-track a.imports filed;
  one_each = subst (IsDistinct class_eq) (sym (classes_listed a.imports filed)) filed.distinct;
}
