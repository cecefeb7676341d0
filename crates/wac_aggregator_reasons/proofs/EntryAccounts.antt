-- An entry all parts of which were taken in comes from sources, and is open; it has its
-- source's tree unless the item touches.
use Rattle.std.proofs.Common.{◌≡◌, inr, List, [], ◌∷◌, Some, refl, sym, subst, ◌∙◌}
use Rattle.wac_model.specs.Text.{Text}
use Rattle.wac_component.specs.Collection.{Collection}
use Rattle.wac_component.specs.Entries.{exports_at, uses_at, entry_exports, entry_uses}
use Rattle.wac_component.specs.Growth.{Extends, with_entry}
use Rattle.wac_component.specs.Key.{Key, Entry, entry_keys, other_keys, import_keys, item_keys, named_keys, Each, AllStand}
use Rattle.wac_component.specs.Open.{open_next, OpenReaches, stay, step}
use Rattle.wac_component.specs.Reach.{IsAmong, here}
use Rattle.wac_component.specs.Tree.{item_tree}
use Rattle.wac_component.specs.declared.items.ItemKind.{ItemKind}
use Rattle.wac_component.proofs.Adding.{Extends-with_entry}
use Rattle.wac_component.proofs.Among.{each_among, among_each}
use Rattle.wac_component.proofs.Keys.{Each-left, Each-right}
use Rattle.wac_component.proofs.OpenWalks.{OpenReaches-trans}
use Rattle.wac_aggregator_promises.specs.Attempt.{Attempt, IsSource, reached}
use Rattle.wac_names.specs.Class.{class_of}
use Rattle.wac_aggregator_narrowing.specs.Entering.{AddsEntry}
use Rattle.wac_aggregator_narrowing.specs.Last.{last_key}
use Rattle.wac_aggregator_narrowing.specs.State.{State, IsStateKept}
use Rattle.wac_aggregator_narrowing.specs.Taking.{SameTree, AreTakenKeys, IsTakenItem, AreMapped, none, one}
use Rattle.wac_aggregator_narrowing.proofs.Mapped.{taken_each}
use Rattle.wac_aggregator_reasons.specs.Entering.{IsFromSources, IsTakenIdentifiedUse}
use Rattle.wac_aggregator_reasons.specs.Sharing.{of_taken}
use Rattle.wac_aggregator_reasons.specs.Sourced.{IsSourced}
use Rattle.wac_aggregator_reasons.specs.Split.{IsLow, IsOpenKey}
use Rattle.wac_aggregator_reasons.specs.Trial.{IsTrial, OnlyGrew, IsAccounted, StaysAccounted}
use Rattle.wac_aggregator_reasons.proofs.TakenParts.{taken_exports, taken_uses}
use Rattle.wac_aggregator_reasons.proofs.TakenSame.{taken_same}
use Rattle.wac_aggregator_reasons.proofs.Accounts.{accounted_entry}

-- all that the foreign entry openly names was taken in, as what the own one names; and the own one
-- has its tree where its exports have those of the foreign one's
pub record IsMadeFrom (f : Collection) (s : State) (theirs : Key) (z : Entry) : Type 0 where
  pub named : AllStand s.own (entry_keys z)
  pub parts : AreTakenKeys class_of f s (open_next f theirs) (other_keys z)
  pub exports : AreMapped (IsTakenItem class_of f s) (exports_at f theirs) (entry_exports z)
  pub opens : (k : Key) → IsAmong k (named_keys item_keys (exports_at f theirs)) → IsAmong k (open_next f theirs)
  pub uses : AreMapped (IsTakenIdentifiedUse f s) (uses_at f theirs) (entry_uses z)
  pub lows : Each (IsLow s) (import_keys z)
  pub same : AreMapped (λ x y. item_tree (with_entry s.own z) y ≡ item_tree f x) (exports_at f theirs) (entry_exports z) → SameTree f (with_entry s.own z) theirs (last_key s.own z)

-- what the item openly reaches is a source
pub trial_source : (a : Attempt) (f : Collection) (k : Key) → IsTrial a f (k ∷ []) → IsSource a.sources f k
trial_source a f k h =
    let r = h.reached k here in
    reached a.call h.source h.types (subst (λ c. (j : Key) × IsAmong j (item_keys a.call.kind) × OpenReaches c j k) h.types r)

module _ (a : Attempt) (f : Collection) (s : State) (theirs : Key) (z : Entry) (trial : IsTrial a f (theirs ∷ [])) (all : IsAccounted a s) (made : IsMadeFrom f s theirs z) where
  pub made_from_sources : IsFromSources (IsSource a.sources) s.own z
  made_from_sources = record {
    parts = taken_each class_of f s (IsSourced (IsSource a.sources) s.own) (λ i j t. all.sourced.roots j (of_taken t.noted)) (open_next f theirs) (other_keys z) made.parts;
    exports = taken_exports (IsSource a.sources) f theirs (trial_source a f theirs trial) s (exports_at f theirs) (entry_exports z) refl made.exports;
    uses = taken_uses (IsSource a.sources) f theirs (trial_source a f theirs trial) s (uses_at f theirs) (entry_uses z) (λ n u has. has) made.uses;
  }

  pub made_open : Each (IsOpenKey s) (other_keys z)
  made_open = taken_each class_of f s (IsOpenKey s) (λ i j t. all.split j (of_taken t.noted)) (open_next f theirs) (other_keys z) made.parts

  -- what the item openly reaches has its tree
  reached_same : OnlyGrew a s → (i own : Key) → IsAmong i (open_next f theirs) → s.taken i ≡ Some own → SameTree f s.own i own
  reached_same untold i own m is =
      let r = trial.reached theirs here in
      let walk = OpenReaches-trans a.call.types r.0 theirs i r.2 (subst (λ c. OpenReaches c theirs i) (sym trial.types) (step m stay)) in
      subst (λ c. SameTree c s.own i own) trial.types (untold.same i own (r.0, r.1, walk) is)

  items_same : OnlyGrew a s → Extends s.own (with_entry s.own z) → (xs ys : List (Text × ItemKind)) → ((k : Key) → IsAmong k (named_keys item_keys xs) → IsAmong k (open_next f theirs)) → AreMapped (IsTakenItem class_of f s) xs ys
      → AreMapped (λ x y. item_tree (with_entry s.own z) y ≡ item_tree f x) xs ys
  items_same untold grows xs ys opens none = none
  items_same untold grows xs ys opens (one {x = x} {y = y} {xs = us} {ys = vs} t m) =
      let P : Key → Type 0 = λ k. IsAmong k (open_next f theirs) in
      let both : Each P (named_keys item_keys xs) = each_among P (named_keys item_keys xs) opens in
      let first : Each P (item_keys x) = Each-left P (item_keys x) (named_keys item_keys us) both in
      let others : Each P (named_keys item_keys us) = Each-right P (item_keys x) (named_keys item_keys us) both in
      one (grows.trees y t.stands ∙ taken_same f s x y t (λ i own n is. reached_same untold i own (among_each P i (item_keys x) n first) is)) (items_same untold grows us vs (λ k n. among_each P k (named_keys item_keys us) n others) m)

  pub made_same : IsStateKept s → OnlyGrew a s → SameTree f (with_entry s.own z) theirs (last_key s.own z)
  made_same kept untold = made.same (items_same untold (Extends-with_entry s.own z kept.good.sound) (exports_at f theirs) (entry_exports z) made.opens made.exports)

  -- it enters, and all stays accounted for
  pub made_accounted : (t : State) → IsStateKept s → AddsEntry f s t theirs z → t.shared ≡ s.shared → StaysAccounted a s t
  made_accounted t kept adds shared =
      accounted_entry a f s t theirs z kept adds shared made.named made_from_sources made.lows made_open
      (λ untold. inr (subst (λ c. SameTree c t.own theirs (last_key s.own z)) (sym trial.types) (subst (λ c. SameTree f c theirs (last_key s.own z)) (sym adds.own) (made_same kept untold)))) all
