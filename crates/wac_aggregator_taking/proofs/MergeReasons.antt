-- What is met is open where both items are, and what can't be met gives a reason.
use Rattle.std.proofs.Common.{◌≡◌, ◌⊎◌, inl, inr, All, Contains, List, [], ◌∷◌, Some, None, refl, ap, sym, subst, ◌∙◌}
use Rattle.wac_model.specs.Text.{Text, lookup}
use Rattle.wac_component.specs.Collection.{Collection, UseContent}
use Rattle.wac_component.specs.Entries.{uses_at}
use Rattle.wac_component.specs.Key.{Key, Each, Stands, AllStand, item_keys}
use Rattle.wac_component.specs.declared.items.ItemKind.{ItemKind}
use Rattle.wac_component.proofs.Among.{among_each, each_among, Contains-first, each_found}
use Rattle.wac_aggregator_promises.specs.Attempt.{Attempt, IsSource, Touches}
use Rattle.wac_aggregator_promises.specs.Reason.{CallRefusal, IsImportedOrTouches, IsReason, mismatch, used_interface, used_name}
use Rattle.wac_names.specs.Class.{Class, class_of}
use Rattle.wac_aggregator_narrowing.specs.Apart.{IsGood}
use Rattle.wac_aggregator_narrowing.specs.State.{State, IsStateKept}
use Rattle.wac_aggregator_narrowing.specs.Traced.{Root, Arrows, LeadsAlongArrows}
use Rattle.wac_aggregator_narrowing.proofs.Tracing.{built_along}
use Rattle.wac_aggregator_reasons.specs.Sourced.{IsSourced}
use Rattle.wac_aggregator_reasons.specs.Split.{IsOpenKey}
use Rattle.wac_aggregator_reasons.specs.Trial.{IsAccounted, IsOpenSource, IsOpenItem, AreOpenUses}
use Rattle.wac_aggregator_reasons.proofs.Accounts.{accounted_built, built_roots}
use Rattle.wac_aggregator_reasons.proofs.Built.{built_sourced}
use Rattle.wac_aggregator_reasons.proofs.Reasons.{entry_items, built_open, items_clash, interfaces_differ, names_differ}
use Rattle.wac_aggregator_reasons.proofs.Splitting as splitting
use Rattle.wac_aggregator_errors.specs.declared.error.AggregateError.{AggregateError}
use Rattle.wac_model.specs.Order.{Fits}
use Rattle.wac_component.specs.Growth.{Extends}
use Rattle.wac_component.specs.Tree.{item_tree}
use Rattle.wac_aggregator_promises.specs.TreeSets.{HaveNoLowerBound}
use Rattle.std.proofs.lemmas.List.Elements.{All-head}
use Rattle.std.specs.Str.{bytes_eq}
use Rattle.wac_aggregator_promises.specs.WitList.{IsLeafItem}
use Rattle.wac_aggregator_promises.proofs.ByUses.{leaf_item, leaf_uses}
use Rattle.wac_merge.specs.Items.{ExternKinds, extern_keys}
use Rattle.wac_aggregator_uses.proofs.UseLemmas.{second_uses}
use Rattle.wac_aggregator_uses.proofs.UseLists.{one_alone}
use Rattle.wac_aggregator_taking.proofs.GrowLemmas.{below_both}
use Rattle.wac_aggregator_taking.specs.Growing.{IsOwnMeet, AreMetWith, AreApartIn, with_own, StaysAlong}
use Rattle.wac_aggregator_uses.specs.Differ.{SaysUsesDiffer, of_interfaces, of_names, UsesDiffer}
use Rattle.wac_aggregator_errors.specs.Said.{said}
use Rattle.wac_aggregator_taking.specs.Refused.{HasReason, SaysMismatch, HasApartLeaves}

-- what is open and comes from sources, and what is open, and comes from sources
module _ (at : Attempt) (s : State) where
  both_each : (ks : List Key) → Each (IsSourced (IsSource at.sources) s.own) ks → Each (IsOpenKey s) ks → Each (IsOpenSource at s) ks
  both_each [] g o = tt
  both_each (k ∷ ks) g o = (record { sourced = g.0; opens = o.0 }, both_each ks g.1 o.1)

  sourced_each : (ks : List Key) → Each (IsOpenSource at s) ks → Each (IsSourced (IsSource at.sources) s.own) ks
  sourced_each ks h = each_among (IsSourced (IsSource at.sources) s.own) ks (λ k m. (among_each (IsOpenSource at s) k ks m h).sourced)

  open_each : (ks : List Key) → Each (IsOpenSource at s) ks → Each (IsOpenKey s) ks
  open_each ks h = each_among (IsOpenKey s) ks (λ k m. (among_each (IsOpenSource at s) k ks m h).opens)

module _ (c d : Collection) (a b m : ItemKind) (met : IsOwnMeet c d a b m) where
  -- what was met under a name is open where both are
  pub met_open : (at : Attempt) (s : State) (n : Text) → IsStateKept (with_own s c) → (all : IsAccounted at (with_own s c)) → IsOpenItem at (with_own s c) n a → IsOpenItem at (with_own s c) n b → StaysAlong at (with_own s c) (with_own s d) all × IsOpenItem at (with_own s d) n m
  met_open at s n kept all ha hb = (
    record { stays = accounted_built at (with_own s c) d a b met.answer kept met.builds all; roots = built_roots at (with_own s c) d a b met.answer kept met.builds all },
    built_open at (with_own s c) d n a b m met.answer kept met.builds met.built (met.on.steps s.shared kept.good).good.sound met.stands ha hb,
  )

  -- what was met names what is open and comes from sources, where both do
  pub met_sources : (at : Attempt) (s : State) → IsStateKept (with_own s c) → AllStand c (item_keys a) → AllStand c (item_keys b) → Each (IsOpenSource at (with_own s c)) (item_keys a) → Each (IsOpenSource at (with_own s c)) (item_keys b) → Each (IsOpenSource at (with_own s d)) (item_keys m)
  met_sources at s kept sa sb ha hb =
      both_each at (with_own s d) (item_keys m)
      (built_sourced (IsSource at.sources) c d met.builds.origins kept.good.sound met.builds.only a b m met.built sa sb (sourced_each at (with_own s c) (item_keys a) ha) (sourced_each at (with_own s c) (item_keys b) hb))
      (splitting.built_open (with_own s c) (with_own s d) met.builds.origins kept met.builds.only refl a b m met.built sa sb (open_each at (with_own s c) (item_keys a) ha) (open_each at (with_own s c) (item_keys b) hb))

  -- and leads along arrows where both do
  pub met_along : (ss : List Key) (rs : List Root) (from : Class) → IsGood c ss → AllStand c (item_keys a) → AllStand c (item_keys b) → Each (LeadsAlongArrows c ss rs from) (item_keys a) → Each (LeadsAlongArrows c ss rs from) (item_keys b) → Each (LeadsAlongArrows d ss rs from) (item_keys m)
  met_along ss rs from good sa sb ha hb = built_along class_of (Arrows class_of rs) c d met.builds.origins ss from a b m good met.builds.only met.built sa sb ha hb

-- two that have no meet once entries were added had none before
pub apart_before : (c d : Collection) (a b : ItemKind) → Extends c d → AllStand c (item_keys a) → AllStand c (item_keys b) → AreApartIn d a b → HaveNoLowerBound (item_tree c a) (item_tree c b)
apart_before c d a b grows sa sb apart t x y = apart t (below_both t (item_tree d a) (item_tree d b) (subst (Fits t) (sym (grows.trees a sa)) x) (subst (Fits t) (sym (grows.trees b sb)) y))

-- of one reason alone
pub one_reason : (at : Attempt) (e : AggregateError) (r : CallRefusal) → said e ≡ Some r → IsReason at r → HasReason at e
one_reason at e r says reason q is = let same : r ≡ q = (let both : Some r ≡ Some q = sym says ∙ is in cc) in subst (IsReason at) same reason

-- uses that differ, of interfaces that are open
pub uses_refused : (at : Attempt) (s : State) (us vs : List (Text × UseContent)) (e : AggregateError) → IsImportedOrTouches at → AreOpenUses at s us → AreOpenUses at s vs → SaysUsesDiffer s.own us vs e → HasReason at e
uses_refused at s us vs e meets hu hv (of_interfaces name expected found u v mu mv eu ev apart says) = one_reason at e (used_interface name expected found) says (interfaces_differ at s name expected found u v meets (hu name u mu) (hv name v mv) eu ev apart)
uses_refused at s us vs e meets hu hv (of_names name u v mu mv apart says) = one_reason at e (used_name name) says (names_differ at s name u v meets (hu name u mu) (hv name v mv) apart)

-- the same of entries
pub entries_refused : (at : Attempt) (s : State) (ks js : List Key) (e : AggregateError) → IsImportedOrTouches at → IsStateKept s → AllStand s.own ks → AllStand s.own js → Each (IsOpenSource at s) ks → Each (IsOpenSource at s) js → UsesDiffer s.own ks js e → HasReason at e
entries_refused at s ks js e meets kept sk sj hk hj h =
    let first = entry_items at s kept h.first (among_each (Stands s.own) h.first ks h.among_first sk) (among_each (IsOpenSource at s) h.first ks h.among_first hk) in
    let second = entry_items at s kept h.second (among_each (Stands s.own) h.second js h.among_second sj) (among_each (IsOpenSource at s) h.second js h.among_second hj) in
    uses_refused at s (uses_at s.own h.first) (uses_at s.own h.second) e meets first.1 second.1 h.differ

-- the ids in an open item are open
pub item_open : (at : Attempt) (s : State) (n : Text) (x : ItemKind) → IsOpenItem at s n x → Each (IsOpenSource at s) (item_keys x)
item_open at s n x h = both_each at s (item_keys x) h.item.keys h.opens

-- a leaf that is refused has no common lower bound with the other item
pub leaf_apart : (c : Collection) (x y : ItemKind) (e : AggregateError) → IsLeafItem y → UsesDiffer c (item_keys x) (item_keys y) e ⊎ SaysMismatch c x y e → HaveNoLowerBound (item_tree c x) (item_tree c y)
leaf_apart c x y e leaf (inl uses) = absurd (second_uses c (uses_at c uses.first) (uses_at c uses.second) e uses.differ (leaf_uses c uses.second.sort uses.second.id (leaf_item y uses.second leaf uses.among_second)))
leaf_apart c x y e leaf (inr clash) = clash.no_bound

pub leaves_apart : (c : Collection) (es : ExternKinds) (n : Text) (x y : ItemKind) (e : AggregateError) → lookup bytes_eq es n ≡ Some x → UsesDiffer c (item_keys x) (item_keys y) e ⊎ SaysMismatch c x y e → All (λ (t : Text × ItemKind). IsLeafItem t.1) ((n, y) ∷ []) → HasApartLeaves c es ((n, y) ∷ [])
leaves_apart c es n x y e is h leaves = record { name = n; first = x; second = y; is_first = is; is_second = Contains-first (n, y) []; no_bound = leaf_apart c x y e (All-head (λ (t : Text × ItemKind). IsLeafItem t.1) (n, y) [] leaves) h }

-- those that are apart in more entries, and later in a list, are so here
pub leaves_apart_on : (c d : Collection) (es ms xs ys : ExternKinds) (n : Text) (a : ItemKind) → AreMetWith c d es xs ms → lookup bytes_eq xs n ≡ None → AllStand c (extern_keys es) → AllStand c (item_keys a) → Contains ys (n, a) → HasApartLeaves d ms ((n, a) ∷ []) → HasApartLeaves c es ys
leaves_apart_on c d es ms xs ys n a met absent st sa among h =
    let same : (h.name, h.second) ≡ (n, a) = one_alone (n, a) (h.name, h.second) h.is_second in
    let named : h.name ≡ n = ap (λ (p : Text × ItemKind). p.0) same in
    let is : h.second ≡ a = ap (λ (p : Text × ItemKind). p.1) same in
    let first : lookup bytes_eq es n ≡ Some h.first = sym (met.others n absent) ∙ ap (lookup bytes_eq ms) (sym named) ∙ h.is_first in
    record {
      name = n;
      first = h.first;
      second = a;
      is_first = first;
      is_second = among;
      no_bound = λ t x y. h.no_bound t (subst (Fits t) (sym (met.on.grows.trees h.first (each_found (Stands c) es n h.first first st))) x) (subst (λ k. Fits t (item_tree d k)) (sym is) (subst (Fits t) (sym (met.on.grows.trees a sa)) y));
    }

-- items under one name that are refused, where the item of the call touches
pub merge_refused : (c : Collection) (at : Attempt) (s : State) (n : Text) (x y : ItemKind) (e : AggregateError) → IsStateKept (with_own s c) → Touches at → IsOpenItem at (with_own s c) n x → IsOpenItem at (with_own s c) n y
    → UsesDiffer c (item_keys x) (item_keys y) e ⊎ SaysMismatch c x y e → HasReason at e
merge_refused c at s n x y e kept touches hx hy (inl uses) = entries_refused at (with_own s c) (item_keys x) (item_keys y) e (inr touches) kept hx.item.stands hy.item.stands (item_open at (with_own s c) n x hx) (item_open at (with_own s c) n y hy) uses
merge_refused c at s n x y e kept touches hx hy (inr clash) = one_reason at e mismatch clash.says (items_clash at (with_own s c) n x y kept touches hx hy clash.no_bound)
