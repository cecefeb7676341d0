-- Each step of merging keeps what is accounted for while a call is tried.
use Rattle.std.proofs.Common.{◌≡◌, ◌⊎◌, inl, inr, List, Option, Some, Result, refl, sym, subst, ◌∙◌}
use Rattle.std.specs.declared.alloc.AllocError.{AllocError}
use Rattle.wac_model.specs.Text.{Text}
use Rattle.wac_component.specs.Id.{Id}
use Rattle.wac_component.specs.Collection.{Collection, InterfaceContent}
use Rattle.wac_component.specs.Entries.{identifier_at}
use Rattle.wac_component.specs.Growth.{Extends}
use Rattle.wac_component.specs.Key.{Key, Entry, interface_entry, entry_keys, other_keys, import_keys, interface_key, interface_keys, item_keys, Each, Stands, AllStand}
use Rattle.wac_aggregator_memo.specs.Memo.{AddsPair, Remembered}
use Rattle.wac_component.specs.Open.{open_next, OpenReaches, step}
use Rattle.wac_component.specs.Reach.{IsAmong, Reaches}
use Rattle.wac_component.specs.Replacing.{NamesReach}
use Rattle.wac_component.specs.declared.items.ItemKind.{ItemKind}
use Rattle.wac_component.proofs.Adding.{Extends-with_entry}
use Rattle.wac_component.proofs.Among.{among_each}
use Rattle.wac_component.proofs.Extended.{Extends-refl, Extends-trans}
use Rattle.wac_merge.proofs.ItemKeys.{each_entry_item}
use Rattle.wac_merge.specs.Built.{Builds}
use Rattle.wac_merge.specs.Items.{entry_item}
use Rattle.wac_names.specs.Class.{class_of}
use Rattle.wac_aggregator_promises.specs.Attempt.{Attempt, IsSource, IsBelowImport, Touches}
use Rattle.wac_aggregator_narrowing.specs.Entering.{AddsEntry}
use Rattle.wac_aggregator_narrowing.specs.Imports.{NamedImports}
use Rattle.wac_aggregator_narrowing.specs.Last.{last_key}
use Rattle.wac_aggregator_narrowing.specs.Narrows.{AddsShared, CanGrow, grown}
use Rattle.wac_aggregator_narrowing.specs.State.{State, IsStateKept}
use Rattle.wac_aggregator_narrowing.specs.Taking.{SameTree}
use Rattle.wac_aggregator_narrowing.specs.Traced.{Arrows, IsArrowed, LeadsAlongArrows}
use Rattle.wac_aggregator_narrowing.proofs.Adding.{last_at}
use Rattle.wac_aggregator_narrowing.proofs.Tracing.{traced_added, traced_shared, traced_grown}
use Rattle.wac_aggregator_reasons.specs.Entering.{IsFromSources}
use Rattle.wac_aggregator_reasons.specs.Keeping.{StaySourced}
use Rattle.wac_aggregator_reasons.specs.Sharing.{IsOpenRoot, of_shared, of_import, of_taken}
use Rattle.wac_aggregator_reasons.specs.Split.{IsLow, of_copy, of_import as of_below, IsOpenKey, AreSplit, StaySplit}
use Rattle.wac_aggregator_reasons.specs.Trial.{OnlyGrew, IsAccounted, IsOpenSource, StaysAccounted}
use Rattle.wac_aggregator_reasons.proofs.Keeping.{grows_keep, entries_keep, shared_keep, grown_keeps, takes_keep, imports_keep}
use Rattle.wac_aggregator_reasons.proofs.Splitting.{entry_splits, entry_open, grown_splits, built_splits, split_on}

module _ (a : Attempt) where
  -- what an open walk starts at is open, and comes from sources
  pub root_open : (s : State) (k : Key) → IsAccounted a s → IsOpenRoot s k → IsOpenSource a s k
  root_open s k h r = record { sourced = h.sourced.roots k r; opens = h.split k r }

  -- so is what it names
  pub part_open : (s : State) (k j : Key) → IsAmong j (open_next s.own k) → IsOpenSource a s k → IsOpenSource a s j
  part_open s k j m h = record {
    sourced = record {
      exports = λ t n x w is. h.sourced.exports t n x (step m w) is;
      uses = λ t n u w has. h.sourced.uses t n u (step m w) has;
    };
    opens = λ t w low. h.opens t (step m w) low;
  }

  -- where nothing changes
  pub accounted_none : (s : State) → IsAccounted a s → StaysAccounted a s s
  accounted_none s h = record { now = h; grows = inr (Extends-refl s.own); keys = λ k st o. o; lows = λ k low. low }

  -- one change after another
  pub accounted_then : (s t u : State) → ((k : Key) → Stands s.own k → Stands t.own k) → StaysAccounted a s t → StaysAccounted a t u → StaysAccounted a s u
  accounted_then s t u standing g h = record {
    now = h.now;
    grows = elim g.grows [
      | inl touches ↦ inl touches
      | inr first ↦ elim h.grows [ inl touches ↦ inl touches | inr then ↦ inr (Extends-trans s.own t.own u.own first then) ]
    ];
    keys = λ k st o. h.keys k (standing k st) (g.keys k st o);
    lows = λ k low. h.lows k (g.lows k low);
  }

  -- of what is sourced, split and arrowed, and of what was told, all is made
  made : (s t : State) (h : IsAccounted a s) → StaySourced a.sources s t → StaySplit s t → AreSplit t → IsArrowed t.own t.shared h.roots → Touches a ⊎ Extends s.own t.own → (OnlyGrew a s → Touches a ⊎ OnlyGrew a t) → StaysAccounted a s t
  made s t h sourced stays split arrowed grows told = record {
    now = record {
      sourced = sourced.all;
      split = split;
      roots = h.roots;
      of_item = h.of_item;
      are_sources = h.are_sources;
      arrowed = arrowed;
      told = elim h.told [ inl touches ↦ inl touches | inr untold ↦ told untold ];
    };
    grows = grows;
    keys = λ k st o. record { sourced = sourced.keys k st o.sourced; opens = stays.opens k st o.opens };
    lows = stays.lows;
  }

  -- what was taken in has the tree that it had, where entries are only added
  same_still : (s t : State) (theirs own : Key) → IsStateKept s → Extends s.own t.own → s.taken theirs ≡ Some own → SameTree a.call.types s.own theirs own → SameTree a.call.types t.own theirs own
  same_still s t theirs own kept grows is same k = grows.trees (entry_item k own) (each_entry_item (Stands s.own) k own (kept.taken theirs own is).0) ∙ same k

  -- what was untold is so still
  still_untold : (s t : State) → IsStateKept s → Extends s.own t.own → t.taken ≡ s.taken → OnlyGrew a s → OnlyGrew a t
  still_untold s t kept grows same h = record {
    grows = Extends-trans a.sources.start s.own t.own h.grows grows;
    same = λ theirs own r is. let was = subst (λ (m : Remembered). m theirs ≡ Some own) same is in same_still s t theirs own kept grows was (h.same theirs own r was);
  }

  -- also where one more is noted that has its tree
  more_untold : (s t : State) (theirs own : Key) → IsStateKept s → Extends s.own t.own → AddsPair s.taken t.taken theirs own → (OnlyGrew a s → Touches a ⊎ SameTree a.call.types t.own theirs own) → OnlyGrew a s → Touches a ⊎ OnlyGrew a t
  more_untold s t theirs own kept grows adds new h = elim (new h) [
    | inl touches ↦ inl touches
    | inr same ↦ inr (record {
      grows = Extends-trans a.sources.start s.own t.own h.grows grows;
      same = λ k o r is. elim (adds.only k o is) [
        | inl e ↦ subst (λ j. SameTree a.call.types t.own j o) (sym e.0) (subst (λ j. SameTree a.call.types t.own theirs j) (sym e.1) same)
        | inr was ↦ same_still s t k o kept grows was (h.same k o r was)
      ];
    })
  ]

  -- the roots are those that were
  no_new_root : (s t : State) → t.shared ≡ s.shared → t.imports ≡ s.imports → t.taken ≡ s.taken → (k : Key) → IsOpenRoot t k → IsOpenRoot s k ⊎ IsOpenKey t k
  no_new_root s t shared imports taken k (of_shared m) = inl (of_shared (subst (λ (ks : List Key). IsAmong k ks) shared m))
  no_new_root s t shared imports taken k (of_import {n = n} {x = x} is m) = inl (of_import (subst (λ (i : NamedImports). i n ≡ Some x) imports is) m)
  no_new_root s t shared imports taken k (of_taken {theirs = j} is) = inl (of_taken (subst (λ (m : Remembered). m j ≡ Some k) taken is))

  -- or the one that was noted
  noted_root : (s t : State) (theirs own : Key) → t.shared ≡ s.shared → t.imports ≡ s.imports → AddsPair s.taken t.taken theirs own → IsOpenKey t own → (k : Key) → IsOpenRoot t k → IsOpenRoot s k ⊎ IsOpenKey t k
  noted_root s t theirs own shared imports adds new k (of_shared m) = inl (of_shared (subst (λ (ks : List Key). IsAmong k ks) shared m))
  noted_root s t theirs own shared imports adds new k (of_import {n = n} {x = x} is m) = inl (of_import (subst (λ (i : NamedImports). i n ≡ Some x) imports is) m)
  noted_root s t theirs own shared imports adds new k (of_taken {theirs = j} is) = elim (adds.only j k is) [ inl e ↦ inr (subst (λ o. IsOpenKey t o) (sym e.1) new) | inr was ↦ inl (of_taken was) ]

  -- entries were added to which no root leads
  pub accounted_added : (s t : State) → IsStateKept s → Extends s.own t.own → t.shared ≡ s.shared → t.imports ≡ s.imports → t.taken ≡ s.taken → StaySplit s t → IsAccounted a s → StaysAccounted a s t
  accounted_added s t kept grows shared imports taken stays h =
      made s t h (grows_keep a.sources s t grows shared imports taken kept h.sourced) stays (split_on s t kept (no_new_root s t shared imports taken) stays h.split)
      (subst (λ (ks : List Key). IsArrowed t.own ks h.roots) (sym shared) (traced_added class_of (Arrows class_of h.roots) s.own t.own s.shared kept.good grows h.arrowed)) (inr grows) (λ untold. inr (still_untold s t kept grows taken untold))

  -- a meet or a join was built
  pub accounted_built : (s : State) (d : Collection) (x y : ItemKind) (r : Result (Option ItemKind) AllocError) → IsStateKept s → Builds s.own d x y r → IsAccounted a s → StaysAccounted a s (record s { own = d })
  accounted_built s d x y r kept builds h = accounted_added s (record s { own = d }) kept builds.only.extends refl refl refl (built_splits s (record s { own = d }) builds.origins kept builds.only refl) h

  -- the roots are those that were

  pub none_roots : (s : State) (h : IsAccounted a s) → (accounted_none s h).now.roots ≡ h.roots
  unfolding accounted_none
  none_roots s h = refl

  pub then_roots : (s t u : State) (standing : (k : Key) → Stands s.own k → Stands t.own k) (g : StaysAccounted a s t) (h : StaysAccounted a t u) → (accounted_then s t u standing g h).now.roots ≡ h.now.roots
  unfolding accounted_then
  then_roots s t u standing g h = refl

  pub built_roots : (s : State) (d : Collection) (x y : ItemKind) (r : Result (Option ItemKind) AllocError) (kept : IsStateKept s) (builds : Builds s.own d x y r) (h : IsAccounted a s) → (accounted_built s d x y r kept builds h).now.roots ≡ h.roots
  unfolding accounted_built accounted_added made
  built_roots s d x y r kept builds h = refl

  -- an entry was added and noted
  pub accounted_entry : (f : Collection) (s t : State) (theirs : Key) (z : Entry) → IsStateKept s → AddsEntry f s t theirs z → t.shared ≡ s.shared → AllStand s.own (entry_keys z) → IsFromSources (IsSource a.sources) s.own z → Each (IsLow s) (import_keys z) → Each (IsOpenKey s) (other_keys z)
      → (OnlyGrew a s → Touches a ⊎ SameTree a.call.types t.own theirs (last_key s.own z)) → IsAccounted a s → StaysAccounted a s t
  accounted_entry f s t theirs z kept adds shared named from lows parts told h =
      let grows : Extends s.own t.own = subst (λ (c : Collection). Extends s.own c) (sym adds.own) (Extends-with_entry s.own z kept.good.sound) in
      let stays = entry_splits s t kept z adds.own named lows adds.copies in
      let new = entry_open s t kept z adds.own named lows adds.copies parts in
      made s t h (entries_keep a.sources f s t theirs z adds shared named (λ all. from) kept h.sourced) stays (split_on s t kept (noted_root s t theirs (last_key s.own z) shared adds.imports adds.remembers new) stays h.split)
      (subst (λ (ks : List Key). IsArrowed t.own ks h.roots) (sym shared) (traced_added class_of (Arrows class_of h.roots) s.own t.own s.shared kept.good grows h.arrowed)) (inr grows) (more_untold s t theirs (last_key s.own z) kept grows adds.remembers told)

  -- the same as a shared entry
  pub accounted_shared : (f : Collection) (s t : State) (theirs : Key) (z : InterfaceContent) (n m : Text) → IsStateKept s → AddsEntry f s t theirs (interface_entry z) → AddsShared s.shared t.shared (last_key s.own (interface_entry z)) → AllStand s.own (interface_keys z)
      → IsFromSources (IsSource a.sources) s.own (interface_entry z) → Each (IsOpenKey s) (interface_keys z) → IsSource a.sources f theirs → identifier_at f theirs ≡ Some n → z.id ≡ Some m → class_of m ≡ class_of n
      → (h : IsAccounted a s) → Each (LeadsAlongArrows s.own s.shared h.roots (class_of m)) (interface_keys z) → (OnlyGrew a s → Touches a ⊎ SameTree a.call.types t.own theirs (last_key s.own (interface_entry z))) → StaysAccounted a s t
  accounted_shared f s t theirs z n m kept adds shares named from parts source is own_is same h along told =
      let grows : Extends s.own t.own = subst (λ (c : Collection). Extends s.own c) (sym adds.own) (Extends-with_entry s.own (interface_entry z) kept.good.sound) in
      let own = last_key s.own (interface_entry z) in
      let stays = entry_splits s t kept (interface_entry z) adds.own named tt adds.copies in
      let new : IsOpenKey t own = entry_open s t kept (interface_entry z) adds.own named tt adds.copies parts in
      let roots : (k : Key) → IsOpenRoot t k → IsOpenRoot s k ⊎ IsOpenKey t k = new_root own new in
      made s t h (shared_keep a.sources f s t theirs z n m adds shares named (λ all. from) source is own_is same kept h.sourced) stays (split_on s t kept roots stays h.split)
      (subst (λ (c : Collection). IsArrowed c t.shared h.roots) (sym adds.own)
      (traced_shared class_of (Arrows class_of h.roots) s.own s.shared z own (last_at s.own (interface_entry z)) kept.good named t.shared shares m own_is h.arrowed (λ j q. among_each (LeadsAlongArrows s.own s.shared h.roots (class_of m)) j (interface_keys z) q along)))
      (inr grows) (more_untold s t theirs own kept grows adds.remembers told)
    where
      new_root : (own : Key) → IsOpenKey t (last_key s.own (interface_entry z)) → (k : Key) → IsOpenRoot t k → IsOpenRoot s k ⊎ IsOpenKey t k
      new_root own new k (of_shared q) = elim (shares.only k q) [ inl e ↦ inr (subst (λ o. IsOpenKey t o) (sym e) new) | inr was ↦ inl (of_shared was) ]
      new_root own new k (of_import {n = l} {x = x} at q) = inl (of_import (subst (λ (i : NamedImports). i l ≡ Some x) adds.imports at) q)
      new_root own new k (of_taken {theirs = j} at) = elim (adds.remembers.only j k at) [ inl e ↦ inr (subst (λ o. IsOpenKey t o) (sym e.1) new) | inr was ↦ inl (of_taken was) ]

  -- a shared interface grew, where the item touches
  pub accounted_grown : (s t : State) (theirs : Key) (e : Id) (old new : InterfaceContent) (n : Text) → IsStateKept s → CanGrow s.own s.shared e old new → ¬ (NamesReach s.own (interface_keys new) (interface_key e)) → t.own ≡ grown s.own e new
      → t.shared ≡ s.shared → t.imports ≡ s.imports → t.copies ≡ s.copies → AddsPair s.taken t.taken theirs (interface_key e) → old.id ≡ Some n
      → (h : IsAccounted a s) → IsFromSources (IsSource a.sources) s.own (interface_entry new) → Each (IsOpenKey s) (interface_keys new) → Each (LeadsAlongArrows s.own s.shared h.roots (class_of n)) (interface_keys new) → Touches a → StaysAccounted a s t
  accounted_grown s t theirs e old new n kept can none own shared imports copies adds is h from parts along touches =
      let stays = grown_splits s t kept e old new can none own copies (h.split (interface_key e) (of_shared can.is_shared)) parts in
      let e_open : IsOpenKey t (interface_key e) = stays.opens (interface_key e) (among_each (Stands s.own) (interface_key e) s.shared can.is_shared kept.good.shared) (h.split (interface_key e) (of_shared can.is_shared)) in
      made s t h (grown_keeps a.sources s t theirs e old new can none own shared imports adds (λ all. from) kept h.sourced) stays (split_on s t kept (noted_root s t theirs (interface_key e) shared imports adds e_open) stays h.split)
      (subst (λ (ks : List Key). IsArrowed t.own ks h.roots) (sym shared) (subst (λ (c : Collection). IsArrowed c s.shared h.roots) (sym own)
      (traced_grown class_of (Arrows class_of h.roots) s.own s.shared e old new kept.good can none n is h.arrowed (λ j q. among_each (LeadsAlongArrows s.own s.shared h.roots (class_of n)) j (interface_keys new) q along))))
      (inl touches) (λ untold. inl touches)

  -- low and open ids are those that were, where the own entries and the copies do not change
  low_in : (s t : State) (k : Key) → t.own ≡ s.own → t.copies ≡ s.copies → IsLow s k → IsLow t k
  low_in s t k own copies (of_copy theirs o is w) = of_copy theirs o (subst (λ (m : Remembered). m theirs ≡ Some o) (sym copies) is) (subst (λ (c : Collection). Reaches c o k) (sym own) w)
  low_in s t k own copies (of_below b) = of_below (subst (λ (c : Collection). IsBelowImport c k) (sym own) b)

  open_in : (s t : State) (k : Key) → t.own ≡ s.own → t.copies ≡ s.copies → IsOpenKey s k → IsOpenKey t k
  open_in s t k own copies h j w low = h j (subst (λ (c : Collection). OpenReaches c k j) own w) (low_in t s j (sym own) (sym copies) low)

  same_low : (s t : State) → t.own ≡ s.own → t.copies ≡ s.copies → StaySplit s t
  same_low s t own copies = record { opens = λ k st h. open_in s t k own copies h; lows = λ k low. low_in s t k own copies low }

  -- an id is noted for an own entry that is open
  pub accounted_taken : (s t : State) (theirs own : Key) → IsStateKept s → t.own ≡ s.own → t.shared ≡ s.shared → t.imports ≡ s.imports → t.copies ≡ s.copies → AddsPair s.taken t.taken theirs own → IsOpenSource a s own
      → (OnlyGrew a s → Touches a ⊎ SameTree a.call.types s.own theirs own) → IsAccounted a s → StaysAccounted a s t
  accounted_taken s t theirs own kept same shared imports copies adds new told h =
      let stays = same_low s t same copies in
      let grows : Extends s.own t.own = subst (λ (c : Collection). Extends s.own c) (sym same) (Extends-refl s.own) in
      let opens : IsOpenKey t own = open_in s t own same copies new.opens in
      made s t h (takes_keep a.sources s t theirs own same shared imports adds (λ all. new.sourced) kept h.sourced) stays (split_on s t kept (noted_root s t theirs own shared imports adds opens) stays h.split)
      (subst (λ (ks : List Key). IsArrowed t.own ks h.roots) (sym shared) (subst (λ (c : Collection). IsArrowed c s.shared h.roots) (sym same) h.arrowed))
      (inr grows) (more_untold s t theirs own kept grows adds (λ untold. subst (λ (c : Collection). Touches a ⊎ SameTree a.call.types c theirs own) (sym same) (told untold)))

  -- other imports stand
  pub accounted_imports : (s t : State) → IsStateKept s → t.own ≡ s.own → t.shared ≡ s.shared → t.taken ≡ s.taken → t.copies ≡ s.copies → ((n : Text) (x : ItemKind) → t.imports n ≡ Some x → (k : Key) → IsAmong k (item_keys x) → IsOpenSource a s k) → IsAccounted a s → StaysAccounted a s t
  accounted_imports s t kept same shared taken copies new h =
      let stays = same_low s t same copies in
      let grows : Extends s.own t.own = subst (λ (c : Collection). Extends s.own c) (sym same) (Extends-refl s.own) in
      made s t h (imports_keep a.sources s t same shared taken (λ all n x is k m. (new n x is k m).sourced) kept h.sourced) stays (split_on s t kept (roots stays) stays h.split)
      (subst (λ (ks : List Key). IsArrowed t.own ks h.roots) (sym shared) (subst (λ (c : Collection). IsArrowed c s.shared h.roots) (sym same) h.arrowed)) (inr grows) (λ untold. inr (still_untold s t kept grows taken untold))
    where
      roots : StaySplit s t → (k : Key) → IsOpenRoot t k → IsOpenRoot s k ⊎ IsOpenKey t k
      roots stays k (of_shared m) = inl (of_shared (subst (λ (ks : List Key). IsAmong k ks) shared m))
      roots stays k (of_import {n = n} {x = x} is m) = inr (open_in s t k same copies (new n x is k m).opens)
      roots stays k (of_taken {theirs = j} is) = inl (of_taken (subst (λ (q : Remembered). q j ≡ Some k) taken is))
