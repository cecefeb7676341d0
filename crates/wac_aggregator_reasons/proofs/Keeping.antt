-- Each change keeps what comes from sources.
use Rattle.std.specs.Option.{option_map_or}
use Rattle.std.proofs.Common.{◌≡◌, inr, Option, Some, None, refl, sym, ap, subst, ◌∙◌, IsSome}
use Rattle.wac_model.specs.Text.{Text}
use Rattle.wac_component.specs.Id.{Id}
use Rattle.wac_component.specs.Collection.{Collection, InterfaceContent}
use Rattle.wac_component.specs.Growth.{Extends}
use Rattle.wac_component.specs.Key.{Key, Entry, interface_entry, entry_keys, interface_key, interface_keys, item_keys, Stands, AllStand}
use Rattle.wac_component.specs.Reach.{IsAmong}
use Rattle.wac_component.specs.Replacing.{NamesReach}
use Rattle.wac_component.specs.Entries.{entry_identifier, identifier_at}
use Rattle.wac_aggregator_memo.specs.Memo.{AddsPair}
use Rattle.wac_component.specs.declared.items.ItemKind.{ItemKind}
use Rattle.wac_component.proofs.Adding.{Extends-with_entry}
use Rattle.wac_names.specs.Class.{class_of}
use Rattle.wac_aggregator_promises.specs.Attempt.{Sources, IsSource}
use Rattle.wac_aggregator_narrowing.specs.Entering.{AddsEntry}
use Rattle.wac_aggregator_narrowing.specs.Last.{last_key}
use Rattle.wac_aggregator_narrowing.specs.Narrows.{AddsShared, CanGrow, grown}
use Rattle.wac_aggregator_narrowing.specs.State.{State, IsStateKept}
use Rattle.wac_aggregator_narrowing.proofs.Adding.{identifier_kept, last_at}
use Rattle.wac_aggregator_narrowing.proofs.Growing.{identifier_grown}
use Rattle.wac_aggregator_reasons.specs.Entering.{IsFromSources}
use Rattle.wac_aggregator_reasons.specs.Keeping.{KeepsSourced}
use Rattle.wac_aggregator_reasons.specs.Sharing.{of_shared, IsSharer, AreSourced}
use Rattle.wac_aggregator_reasons.specs.Sourced.{IsSourced}
use Rattle.wac_aggregator_reasons.proofs.Cycles.{identified_interface, identified_on}
use Rattle.wac_aggregator_reasons.proofs.Entered.{added_sourced}
use Rattle.wac_aggregator_reasons.proofs.Grown.{grown_sourced}
use Rattle.wac_aggregator_reasons.proofs.Moving.{sourced_kept}
use Rattle.wac_aggregator_reasons.proofs.States.{moved, taken_in, shared_in, imports_in}

module _ (sources : Sources) where
  -- the own collection is added to
  pub grows_keep : (s t : State) → Extends s.own t.own → t.shared ≡ s.shared → t.imports ≡ s.imports → t.taken ≡ s.taken → KeepsSourced sources s t
  grows_keep s t x same_shared same_imports same_taken kept h =
      let keys : (k : Key) → Stands s.own k → IsSourced (IsSource sources) s.own k → IsSourced (IsSource sources) t.own k = sourced_kept (IsSource sources) s.own t.own kept.good.sound x in
      record { all = moved sources s t kept same_shared same_imports same_taken (identifier_kept s.own t.own kept.good.sound x) keys h; keys = keys }

  -- an entry is added for a foreign one
  pub entries_keep : (f : Collection) (s t : State) (theirs : Key) (z : Entry) → AddsEntry f s t theirs z → t.shared ≡ s.shared → AllStand s.own (entry_keys z) → (AreSourced sources s → IsFromSources (IsSource sources) s.own z) → KeepsSourced sources s t
  entries_keep f s t theirs z adds same_shared named from kept h =
      let u : State = record s { own = t.own } in
      let a = grows_keep s u (subst (λ (c : Collection). Extends s.own c) (sym adds.own) (Extends-with_entry s.own z kept.good.sound)) refl refl refl kept h in
      let new = subst (λ (c : Collection). IsSourced (IsSource sources) c (last_key s.own z)) (sym adds.own) (added_sourced (IsSource sources) s.own kept.good.sound z named (from h)) in
      record { all = taken_in sources u t theirs (last_key s.own z) refl same_shared adds.imports adds.remembers new a.all; keys = a.keys }

  pub entered_sourced : (f : Collection) (s t : State) (theirs : Key) (z : Entry) → IsStateKept s → AddsEntry f s t theirs z → AllStand s.own (entry_keys z) → IsFromSources (IsSource sources) s.own z → IsSourced (IsSource sources) t.own (last_key s.own z)
  entered_sourced f s t theirs z kept adds named from = subst (λ (c : Collection). IsSourced (IsSource sources) c (last_key s.own z)) (sym adds.own) (added_sourced (IsSource sources) s.own kept.good.sound z named from)

  -- a source that was taken in shares its track
  own_sharer : (t : State) (f : Collection) (theirs own : Key) (n m : Text) → IsSource sources f theirs → identifier_at f theirs ≡ Some n → class_of m ≡ class_of n → t.taken theirs ≡ Some own → IsSharer sources t m
  own_sharer t f theirs own n m source is same there = record {
    types = f;
    id = theirs.id;
    source = subst (λ (k : Key). IsSource sources f k) (identified_interface f theirs n is) source;
    is_on = identified_on f theirs n is (class_of m) (sym same);
    stood = inr (some (t.taken (interface_key theirs.id)) (ap t.taken (sym (identified_interface f theirs n is)) ∙ there));
  }
    where
      some : (o : Option Key) → o ≡ Some own → IsSome o
      some o e = cc

  -- one with an identifier is added, and shared
  pub shared_keep : (f : Collection) (s t : State) (theirs : Key) (z : InterfaceContent) (n m : Text) → AddsEntry f s t theirs (interface_entry z) → AddsShared s.shared t.shared (last_key s.own (interface_entry z)) → AllStand s.own (interface_keys z)
      → (AreSourced sources s → IsFromSources (IsSource sources) s.own (interface_entry z)) → IsSource sources f theirs → identifier_at f theirs ≡ Some n → z.id ≡ Some m → class_of m ≡ class_of n → KeepsSourced sources s t
  shared_keep f s t theirs z n m adds shares named from source is own_is same kept h =
      let u : State = record t { shared = s.shared } in
      let adds' : AddsEntry f s u theirs (interface_entry z) = record { own = adds.own; imports = adds.imports; copies = adds.copies; number = adds.number; remembers = adds.remembers } in
      let a = entries_keep f s u theirs (interface_entry z) adds' refl named from kept h in
      let new = entered_sourced f s u theirs (interface_entry z) kept adds' named (from h) in
      record {
        all = shared_in sources u t (last_key s.own (interface_entry z)) refl refl refl shares new (λ l q. own_sharer t f theirs (last_key s.own (interface_entry z)) n l source is (same_class l q) adds.remembers.is) a.all;
        keys = a.keys;
      }
    where
      same_class : (l : Text) → identifier_at t.own (last_key s.own (interface_entry z)) ≡ Some l → class_of l ≡ class_of n
      same_class l q =
          let at : identifier_at t.own (last_key s.own (interface_entry z)) ≡ z.id = ap (λ (c : Collection). identifier_at c (last_key s.own (interface_entry z))) adds.own ∙ ap (λ o. option_map_or entry_identifier o None) (last_at s.own (interface_entry z)).at in
          let both : Some l ≡ Some m = sym q ∙ at ∙ own_is in let e : l ≡ m = cc in ap class_of e ∙ same

  -- a shared interface grows, and is remembered for a foreign one
  pub grown_keeps : (s t : State) (theirs : Key) (e : Id) (old new : InterfaceContent) → CanGrow s.own s.shared e old new → ¬ (NamesReach s.own (interface_keys new) (interface_key e)) → t.own ≡ grown s.own e new → t.shared ≡ s.shared → t.imports ≡ s.imports
      → AddsPair s.taken t.taken theirs (interface_key e) → (AreSourced sources s → IsFromSources (IsSource sources) s.own (interface_entry new)) → KeepsSourced sources s t
  grown_keeps s t theirs e old new can none same same_shared same_imports adds from kept h =
      let u : State = record s { own = grown s.own e new } in
      let keys : (k : Key) → Stands s.own k → IsSourced (IsSource sources) s.own k → IsSourced (IsSource sources) u.own k = grown_sourced (IsSource sources) s.own s.shared e old new kept.good can none (from h) in
      let all = moved sources s u kept refl refl refl (identifier_grown s.own s.shared e old new kept.good can none) keys h in
      record {
        all = taken_in sources u t theirs (interface_key e) same same_shared same_imports adds (all.roots (interface_key e) (of_shared can.is_shared)) all;
        keys = λ k st g. subst (λ (c : Collection). IsSourced (IsSource sources) c k) (sym same) (keys k st g);
      }

  -- an id is remembered, or other imports stand
  pub takes_keep : (s t : State) (theirs own : Key) → t.own ≡ s.own → t.shared ≡ s.shared → t.imports ≡ s.imports → AddsPair s.taken t.taken theirs own → (AreSourced sources s → IsSourced (IsSource sources) s.own own) → KeepsSourced sources s t
  takes_keep s t theirs own same same_shared same_imports adds new kept h = record {
    all = taken_in sources s t theirs own same same_shared same_imports adds (new h) h;
    keys = λ k st g. subst (λ (c : Collection). IsSourced (IsSource sources) c k) (sym same) g;
  }

  pub imports_keep : (s t : State) → t.own ≡ s.own → t.shared ≡ s.shared → t.taken ≡ s.taken → (AreSourced sources s → (n : Text) (x : ItemKind) → t.imports n ≡ Some x → (k : Key) → IsAmong k (item_keys x) → IsSourced (IsSource sources) s.own k) → KeepsSourced sources s t
  imports_keep s t same same_shared same_taken new kept h = record {
    all = imports_in sources s t same same_shared same_taken (new h) h;
    keys = λ k st g. subst (λ (c : Collection). IsSourced (IsSource sources) c k) (sym same) g;
  }
