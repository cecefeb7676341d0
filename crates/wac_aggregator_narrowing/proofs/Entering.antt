-- Foreign entries that enter the own collection, once all that they name was taken in.
use Rattle.std.proofs.Common.{arith, ◌≡◌, List, [], ◌++◌, length, Some, None, slice_get, inl, refl, ap, sym, subst, ◌∙◌}
use Rattle.std.proofs.lemmas.List.{length-map}
use Rattle.std.specs.Option.{option_map_or}
use Rattle.wac_model.specs.Text.{Text}
use Rattle.wac_model.specs.Order.{Fits}
use Rattle.wac_component.specs.Id.{Id}
use Rattle.wac_component.specs.Collection.{Collection, UseContent, InterfaceContent, WorldContent}
use Rattle.wac_component.specs.Growth.{with_entry}
use Rattle.wac_component.specs.Key.{Key, Entry, interface_entry, world_entry, entry_keys, other_keys, optional_keys, import_keys, interface_key, interface_keys, world_key, use_keys, item_keys, named_keys, Each, Stands, AllStand}
use Rattle.wac_component.specs.Replacing.{NamesReach}
use Rattle.wac_component.specs.Tree.{item_tree, items_of}
use Rattle.wac_component.specs.declared.items.ItemKind.{ItemKind}
use Rattle.wac_component.specs.Open.{open_next, step}
use Rattle.wac_component.specs.Entries.{entry_identifier, identifier_at}
use Rattle.wac_aggregator_memo.specs.Memo.{AddsPair, Remembered}
use Rattle.wac_component.proofs.Adding.{IsSound-with_entry, Extends-with_entry}
use Rattle.wac_component.proofs.ImportKeys.{imports-apart}
use Rattle.wac_component.proofs.Keys.{Each-left, Each-right, Each-append}
use Rattle.wac_component.proofs.Lists.{slice_get-last, slice_get-set_same}
use Rattle.wac_component.proofs.Reading.{interface_at, world_at}
use Rattle.wac_component.proofs.Among.{among_each, each_among}
use Rattle.wac_checker_parts.specs.Externs.{AreServed}
use Rattle.wac_aggregator_narrowing.specs.Identified.{use_names, IsQuiet, IsCovered}
use Rattle.wac_aggregator_narrowing.specs.Apart.{IsKeyApart, AreKeysApart}
use Rattle.wac_aggregator_narrowing.specs.Narrows.{IsGoodStep, AddsShared, CanGrow, grown}
use Rattle.wac_aggregator_narrowing.specs.Standing.{StandsFor, IsCopy}
use Rattle.wac_aggregator_narrowing.specs.State.{State, IsStateKept, RunsTaking}
use Rattle.wac_aggregator_narrowing.specs.Remembers.{IsRememberedAs, RemembersTruly}
use Rattle.wac_aggregator_narrowing.specs.Taking.{SameTree, IsClosedIn, AreTakenKeys, IsCopiedKey, AreCopiedKeys, IsTakenItem, IsCopiedItem, AreMapped}
use Rattle.wac_aggregator_narrowing.specs.Last.{last_key}
use Rattle.wac_aggregator_narrowing.specs.Entering.{IsEntered, IsCopiedInto, AddsEntry, AddsCopy, MayEnter, MayBeCopy, InterfaceIsTaken, WorldIsTaken, InterfaceIsCopied, WorldIsCopied}
use Rattle.wac_aggregator_narrowing.proofs.Adding.{last_at, added_apart, added_covered, shared_covered, fits_if_same}
use Rattle.wac_aggregator_narrowing.proofs.Mapped.{AreServed-trans, served_names_still, mapped_more, mapped_keys, mapped_served, mapped_asked, mapped_same, mapped_quiet, paired_append, paired_named, paired_each, paired_at, taken_item_still, copied_item_still, taken_named, taken_append, taken_each, taken_of, plain_taken, closed_by_taken, closed_by_parts}
use Rattle.wac_aggregator_narrowing.proofs.Remembered.{shared_remembered, names_kept, RemembersTruly-step, RemembersTruly-take, RemembersTruly-copy}
use Rattle.wac_aggregator_narrowing.proofs.Running.{RunsTaking-step, RunsTaking-take, RunsTaking-copy, RunsTaking-trans, changed_taken, changed_copies}
use Rattle.wac_aggregator_narrowing.proofs.Steps.{adding_steps, sharing_steps, growing_steps}
use Rattle.wac_aggregator_narrowing.proofs.Taking.{interface_stands_for, world_stands_for, same_interface, same_world}

module _ {T : Type 0} (track : Text → T) (f : Collection) (s : State) (kept : IsStateKept s) where
  -- the own collection changes, and then a pair is remembered
  entered : (d : Collection) (ts : List Key) (t : State) (theirs own : Key) → IsGoodStep s.own s.shared d ts → t.own ≡ d → t.shared ≡ ts → t.imports ≡ s.imports → t.copies ≡ s.copies
      → theirs.id.number ≡ f.number → AddsPair s.taken t.taken theirs own → IsRememberedAs track f d ts theirs own → IsCovered d ts own → IsClosedIn f t.taken theirs → IsEntered track f s t theirs own
  entered d ts t theirs own steps same_own same_shared same_imports same_copies number adds remembered covered closed =
      changed_taken (λ u. IsEntered track f s u theirs own) u t same_own same_shared same_imports same_copies record {
        run = RunsTaking-trans (RemembersTruly track) f s u (record u { taken = t.taken }) first then;
        taken = record { remembered = remembered; noted = adds.is; covered = covered; closed = closed };
      }
    where
      u : State
      u = record s { own = d; shared = ts }

      first : RunsTaking (RemembersTruly track) f s u
      first = RunsTaking-step (RemembersTruly track) f s d ts (λ h. steps) (λ h g k. RemembersTruly-step track g s d ts steps.narrows steps.stops k)

      then : RunsTaking (RemembersTruly track) f u (record u { taken = t.taken })
      then = RunsTaking-take (RemembersTruly track) f u t.taken theirs own adds (λ h. (remembered.stands_for.own_stands, covered)) (λ h g one k. RemembersTruly-take track f g u t.taken theirs own one number adds remembered closed k)

  -- an entry without identifier
  pub plain_enters : (t : State) (theirs : Key) (z : Entry) → MayEnter track f s theirs z → AddsEntry f s t theirs z → t.shared ≡ s.shared → IsEntered track f s t theirs (last_key s.own z)
  plain_enters t theirs z may adds same_shared =
      entered (with_entry s.own z) s.shared t theirs (last_key s.own z) (adding_steps s.own s.shared z kept.good may.named may.apart) adds.own same_shared adds.imports adds.copies adds.number adds.remembers
      (plain_taken track f s (with_entry s.own z) theirs (last_key s.own z) z kept.good.sound (Extends-with_entry s.own z kept.good.sound) (last_at s.own z).at may.stands_for may.quiet may.theirs_plain may.plain may.names may.parts)
      (added_covered s.own s.shared z (last_key s.own z) (last_at s.own z) kept.good may.named may.plain (taken_each track f s (IsCovered s.own s.shared) (λ i j k. k.covered) (open_next f theirs) (other_keys z) may.parts))
      (λ u n w is. let r = closed_by_taken track f s theirs (other_keys z) may.theirs_plain may.parts u n w is in (r.0, adds.remembers.kept u r.0 r.1))

  -- an interface with an identifier, of parts that were taken in,
  -- is closed once it is remembered
  closed_shared : (now : Remembered) (theirs own : Key) (js : List Key) → AddsPair s.taken now theirs own → AreTakenKeys track f s (open_next f theirs) js → IsClosedIn f now theirs
  closed_shared now theirs own js adds parts = closed_by_parts f now theirs (λ n is. (own, adds.is))
      (λ i m u n w is. let r = (taken_of track f s (open_next f theirs) js i parts m).2.closed u n w is in (r.0, adds.kept u r.0 r.1))

  -- the shared interface that stands for it grows
  pub grown_enters : (t : State) (theirs : Key) (e : Id) (old new : InterfaceContent) (js : List Key) (n m : Text) → CanGrow s.own s.shared e old new → ¬ (NamesReach s.own (interface_keys new) (interface_key e))
      → t.own ≡ grown s.own e new → t.shared ≡ s.shared → t.imports ≡ s.imports → t.copies ≡ s.copies → theirs.id.number ≡ f.number → AddsPair s.taken t.taken theirs (interface_key e)
      → identifier_at f theirs ≡ Some n → identifier_at s.own (interface_key e) ≡ Some m → track m ≡ track n → AreTakenKeys track f s (open_next f theirs) js → StandsFor f (grown s.own e new) theirs (interface_key e)
      → IsEntered track f s t theirs (interface_key e)
  grown_enters t theirs e old new js n m can none same_own same_shared same_imports same_copies number adds theirs_is own_is same parts for =
      entered (grown s.own e new) s.shared t theirs (interface_key e) steps same_own same_shared same_imports same_copies number adds
      (shared_remembered track f (grown s.own e new) s.shared theirs (interface_key e) n m for can.is_shared theirs_is (steps.stops.identifiers (interface_key e) (among_each (Stands s.own) (interface_key e) s.shared can.is_shared kept.good.shared) ∙ own_is) same)
      (among_each (IsCovered (grown s.own e new) s.shared) (interface_key e) s.shared can.is_shared steps.good.covered)
      (closed_shared t.taken theirs (interface_key e) js adds parts)
    where
      steps : IsGoodStep s.own s.shared (grown s.own e new) s.shared
      steps = growing_steps s.own s.shared e old new kept.good can none

  -- a copy
  pub copy_enters : (t : State) (theirs : Key) (z : Entry) → MayBeCopy f s theirs z → AddsCopy f s t theirs z → IsCopiedInto track f s t theirs (last_key s.own z)
  copy_enters t theirs z may adds =
      changed_copies (λ x. IsCopiedInto track f s x theirs (last_key s.own z)) u t adds.own adds.shared adds.imports adds.taken record {
        run = RunsTaking-trans (RemembersTruly track) f s u (record u { copies = t.copies }) first then;
        copy = copied;
      }
    where
      u : State
      u = record s { own = with_entry s.own z }

      imports_apart : AreKeysApart s.own s.shared (import_keys z)
      imports_apart = each_among (IsKeyApart s.own s.shared) (import_keys z) (λ j m. among_each (IsKeyApart s.own s.shared) j (entry_keys z) ((imports-apart z j).1 (inl m)) may.apart)

      steps : IsGoodStep s.own s.shared (with_entry s.own z) s.shared
      steps = adding_steps s.own s.shared z kept.good may.named imports_apart

      copied : IsCopy f (with_entry s.own z) s.shared theirs (last_key s.own z)
      copied = record {
        sort = may.sort;
        theirs_stands = may.stands;
        own_stands = (last_at s.own z).stands;
        apart = added_apart s.own s.shared z (last_key s.own z) (last_at s.own z) kept.good may.named may.apart;
        same = may.same;
        names = names_kept f s.own (with_entry s.own z) s.shared theirs (last_key s.own z) z kept.good.sound (Extends-with_entry s.own z kept.good.sound) (last_at s.own z).at may.identifier may.names
            (λ j m. let r = paired_at (IsCopiedKey f s) (open_next f theirs) (other_keys z) j may.parts m in (r.0, r.1, r.2.copy));
      }

      first : RunsTaking (RemembersTruly track) f s u
      first = RunsTaking-step (RemembersTruly track) f s (with_entry s.own z) s.shared (λ h. steps) (λ h g k. RemembersTruly-step track g s (with_entry s.own z) s.shared steps.narrows steps.stops k)

      then : RunsTaking (RemembersTruly track) f u (record u { copies = t.copies })
      then = RunsTaking-copy (RemembersTruly track) f u t.copies theirs (last_key s.own z) adds.remembers (λ h. (copied.own_stands, copied.apart)) (λ h g one k. RemembersTruly-copy track f g u t.copies theirs (last_key s.own z) one adds.number adds.remembers copied k)

  -- parts of what is quiet are quiet
  quiet_parts : (theirs : Key) → IsQuiet f theirs → Each (IsQuiet f) (open_next f theirs)
  quiet_parts theirs q = each_among (IsQuiet f) (open_next f theirs) (λ j m t n w is. q t n (step m w) is)

  -- after the entry was added, the items are still what they were
  added_run : (z : Entry) → AllStand s.own (entry_keys z) → AreKeysApart s.own s.shared (import_keys z) → RunsTaking (RemembersTruly track) f s (record s { own = with_entry s.own z })
  added_run z named apart =
      let steps = adding_steps s.own s.shared z kept.good named apart in
      RunsTaking-step (RemembersTruly track) f s (with_entry s.own z) s.shared (λ h. steps) (λ h g k. RemembersTruly-step track g s (with_entry s.own z) s.shared steps.narrows steps.stops k)

  module _ (p : Id) (x z : InterfaceContent) (h : InterfaceIsTaken track f s p x z) where
    interface_next : open_next f (interface_key p) ≡ interface_keys x
    interface_next = ap (optional_keys other_keys) (interface_at f p x h.entry)

    pub interface_parts : AreTakenKeys track f s (open_next f (interface_key p)) (interface_keys z)
    interface_parts =
        subst (λ (is : List Key). AreTakenKeys track f s is (interface_keys z)) (sym interface_next)
        (taken_append track f s (named_keys use_keys x.uses) (named_keys use_keys z.uses) (named_keys item_keys x.exports) (named_keys item_keys z.exports) h.uses
        (taken_named track f s (IsTakenItem track f s) item_keys item_keys (λ a b k. k.keys) x.exports z.exports h.exports))

    pub interface_named : AllStand s.own (interface_keys z)
    interface_named = taken_each track f s (Stands s.own) (λ i j k. k.remembered.stands_for.own_stands) (open_next f (interface_key p)) (interface_keys z) interface_parts

    pub interface_covered : Each (IsCovered s.own s.shared) (interface_keys z)
    interface_covered = taken_each track f s (IsCovered s.own s.shared) (λ i j k. k.covered) (open_next f (interface_key p)) (interface_keys z) interface_parts

    u : State
    u = record s { own = with_entry s.own (interface_entry z) }

    items_after : AreMapped (IsTakenItem track f u) x.exports z.exports
    unfolding u
    items_after = mapped_more (IsTakenItem track f s) (IsTakenItem track f u) (taken_item_still track f s u kept (RemembersTruly track) f (added_run (interface_entry z) interface_named tt)) x.exports z.exports h.exports

    own_at : slice_get (with_entry s.own (interface_entry z)).interfaces (length s.own.interfaces) ≡ Some z
    own_at = slice_get-last s.own.interfaces z

    pub interface_for : StandsFor f (with_entry s.own (interface_entry z)) (interface_key p) (last_key s.own (interface_entry z))
    unfolding u
    interface_for =
        interface_stands_for f (with_entry s.own (interface_entry z)) p (record { number = s.own.number; index = length s.own.interfaces }) h.sound (IsSound-with_entry s.own (interface_entry z) kept.good.sound interface_named) x z h.stands (last_at s.own (interface_entry z)).stands h.entry own_at
        (mapped_served f u.own x.exports z.exports (mapped_more (IsTakenItem track f u) (λ a b. Fits (item_tree u.own b) (item_tree f a)) (λ a b k. k.fits) x.exports z.exports items_after))

    interface_quiet : IsQuiet f (interface_key p) → SameTree f (with_entry s.own (interface_entry z)) (interface_key p) (last_key s.own (interface_entry z))
    unfolding u
    interface_quiet q =
        same_interface f (with_entry s.own (interface_entry z)) p (record { number = s.own.number; index = length s.own.interfaces }) h.sound (IsSound-with_entry s.own (interface_entry z) kept.good.sound interface_named) x z h.stands (last_at s.own (interface_entry z)).stands h.entry own_at
        (mapped_quiet track f u x.exports z.exports items_after (Each-right (IsQuiet f) (named_keys use_keys x.uses) (named_keys item_keys x.exports) (subst (λ (ks : List Key). Each (IsQuiet f) ks) interface_next (quiet_parts (interface_key p) q))))

    pub interface_enters : (t : State) → x.id ≡ None → z.id ≡ None → AddsEntry f s t (interface_key p) (interface_entry z) → t.shared ≡ s.shared → IsEntered track f s t (interface_key p) (last_key s.own (interface_entry z))
    interface_enters t theirs_plain plain adds same = plain_enters t (interface_key p) (interface_entry z) may adds same
      where
        may : MayEnter track f s (interface_key p) (interface_entry z)
        may = record {
          plain = plain;
          theirs_plain = ap (λ o. option_map_or entry_identifier o None) (interface_at f p x h.entry) ∙ theirs_plain;
          names = h.names ∙ sym (ap (λ o. option_map_or use_names o []) (interface_at f p x h.entry));
          named = interface_named;
          apart = tt;
          parts = interface_parts;
          stands_for = interface_for;
          quiet = interface_quiet;
        }

    pub shared_interface_enters : (t : State) (n m : Text) → x.id ≡ Some n → z.id ≡ Some m → track m ≡ track n → AddsEntry f s t (interface_key p) (interface_entry z) → AddsShared s.shared t.shared (last_key s.own (interface_entry z)) → IsEntered track f s t (interface_key p) (last_key s.own (interface_entry z))
    shared_interface_enters t n m theirs_is own_is same adds shares =
        entered d t.shared t (interface_key p) own steps adds.own refl adds.imports adds.copies adds.number adds.remembers
        (shared_remembered track f d t.shared (interface_key p) own n m interface_for shares.is (ap (λ o. option_map_or entry_identifier o None) (interface_at f p x h.entry) ∙ theirs_is) (ap (λ o. option_map_or entry_identifier o None) (last_at s.own (interface_entry z)).at ∙ own_is) same)
        (shared_covered s.own s.shared (interface_entry z) own (last_at s.own (interface_entry z)) kept.good interface_named tt t.shared shares m own_is interface_covered)
        (closed_shared t.taken (interface_key p) own (interface_keys z) adds.remembers interface_parts)
      where
        d : Collection
        d = with_entry s.own (interface_entry z)

        own : Key
        own = last_key s.own (interface_entry z)

        steps : IsGoodStep s.own s.shared d t.shared
        steps = sharing_steps s.own s.shared t.shared z m shares kept.good interface_named own_is interface_covered

    -- into the shared interface that grows so that it serves what z would export
    pub grown_interface_enters : (t : State) (e : Id) (old new : InterfaceContent) (n m : Text) → x.id ≡ Some n → old.id ≡ Some m → track m ≡ track n → CanGrow s.own s.shared e old new → AreServed s.own s.own new.exports z.exports
        → ¬ (NamesReach s.own (interface_keys new) (interface_key e)) → t.own ≡ grown s.own e new → t.shared ≡ s.shared → t.imports ≡ s.imports → t.copies ≡ s.copies → p.number ≡ f.number → AddsPair s.taken t.taken (interface_key p) (interface_key e)
        → IsEntered track f s t (interface_key p) (interface_key e)
    grown_interface_enters t e old new n m theirs_is old_is same can served none same_own same_shared same_imports same_copies number adds =
        grown_enters t (interface_key p) e old new (interface_keys z) n m can none same_own same_shared same_imports same_copies number adds
        (ap (λ o. option_map_or entry_identifier o None) (interface_at f p x h.entry) ∙ theirs_is) (ap (λ o. option_map_or entry_identifier o None) (interface_at s.own e old can.was) ∙ old_is) same interface_parts
        (interface_stands_for f (grown s.own e new) p e h.sound steps.good.sound x new h.stands (steps.narrows.standing (interface_key e) e_stands) h.entry e_at
        (served_names_still f s.own (grown s.own e new) s.shared s.shared new.exports x.exports steps.narrows (Each-right (Stands s.own) (named_keys use_keys new.uses) (named_keys item_keys new.exports) can.named) new_serves))
      where
        steps : IsGoodStep s.own s.shared (grown s.own e new) s.shared
        steps = growing_steps s.own s.shared e old new kept.good can none

        e_stands : Stands s.own (interface_key e)
        e_stands = among_each (Stands s.own) (interface_key e) s.shared can.is_shared kept.good.shared

        e_at : slice_get (grown s.own e new).interfaces e.index ≡ Some new
        e_at = slice_get-set_same s.own.interfaces e.index new (let low = e_stands.1 in omega (arith, low, length-map s.own.interfaces interface_entry))

        new_serves : AreServed s.own f new.exports x.exports
        new_serves = AreServed-trans s.own s.own f new.exports z.exports x.exports served (mapped_served f s.own x.exports z.exports (mapped_more (IsTakenItem track f s) (λ a b. Fits (item_tree s.own b) (item_tree f a)) (λ a b k. k.fits) x.exports z.exports h.exports))

  module _ (p : Id) (x z : WorldContent) (h : WorldIsTaken track f s p x z) where
    world_next : open_next f (world_key p) ≡ named_keys use_keys x.uses ++ named_keys item_keys x.exports
    world_next = ap (optional_keys other_keys) (world_at f p x h.entry)

    pub world_parts : AreTakenKeys track f s (open_next f (world_key p)) (other_keys (world_entry z))
    world_parts =
        subst (λ (is : List Key). AreTakenKeys track f s is (other_keys (world_entry z))) (sym world_next)
        (taken_append track f s (named_keys use_keys x.uses) (named_keys use_keys z.uses) (named_keys item_keys x.exports) (named_keys item_keys z.exports) h.uses
        (taken_named track f s (IsTakenItem track f s) item_keys item_keys (λ a b k. k.keys) x.exports z.exports h.exports))

    others_named : AllStand s.own (named_keys use_keys z.uses ++ named_keys item_keys z.exports)
    others_named = taken_each track f s (Stands s.own) (λ i j k. k.remembered.stands_for.own_stands) (open_next f (world_key p)) (other_keys (world_entry z)) world_parts

    pub world_named : AllStand s.own (entry_keys (world_entry z))
    world_named =
        Each-append (Stands s.own) (named_keys use_keys z.uses ++ named_keys item_keys z.imports) (named_keys item_keys z.exports)
        (Each-append (Stands s.own) (named_keys use_keys z.uses) (named_keys item_keys z.imports) (Each-left (Stands s.own) (named_keys use_keys z.uses) (named_keys item_keys z.exports) others_named) (mapped_keys (IsCopiedItem f s) item_keys (Stands s.own) (λ a b k. k.stands) x.imports z.imports h.imports))
        (Each-right (Stands s.own) (named_keys use_keys z.uses) (named_keys item_keys z.exports) others_named)

    world_apart : AreKeysApart s.own s.shared (import_keys (world_entry z))
    world_apart = mapped_keys (IsCopiedItem f s) item_keys (IsKeyApart s.own s.shared) (λ a b k. k.apart) x.imports z.imports h.imports

    v : State
    v = record s { own = with_entry s.own (world_entry z) }

    v_run : RunsTaking (RemembersTruly track) f s v
    unfolding v
    v_run = added_run (world_entry z) world_named world_apart

    exports_after : AreMapped (IsTakenItem track f v) x.exports z.exports
    exports_after = mapped_more (IsTakenItem track f s) (IsTakenItem track f v) (taken_item_still track f s v kept (RemembersTruly track) f v_run) x.exports z.exports h.exports

    imports_after : AreMapped (IsCopiedItem f v) x.imports z.imports
    imports_after = mapped_more (IsCopiedItem f s) (IsCopiedItem f v) (copied_item_still track f s v kept (RemembersTruly track) f v_run) x.imports z.imports h.imports

    world_own_at : slice_get (with_entry s.own (world_entry z)).worlds (length s.own.worlds) ≡ Some z
    world_own_at = slice_get-last s.own.worlds z

    pub world_for : StandsFor f (with_entry s.own (world_entry z)) (world_key p) (last_key s.own (world_entry z))
    unfolding v
    world_for =
        world_stands_for f (with_entry s.own (world_entry z)) p (record { number = s.own.number; index = length s.own.worlds }) h.sound (IsSound-with_entry s.own (world_entry z) kept.good.sound world_named) x z h.stands (last_at s.own (world_entry z)).stands h.entry world_own_at
        (mapped_asked f v.own x.imports z.imports (mapped_more (IsCopiedItem f v) (λ a b. Fits (item_tree f a) (item_tree v.own b)) (λ a b k. fits_if_same (item_tree f a) (item_tree v.own b) (sym k.same)) x.imports z.imports imports_after))
        (mapped_served f v.own x.exports z.exports (mapped_more (IsTakenItem track f v) (λ a b. Fits (item_tree v.own b) (item_tree f a)) (λ a b k. k.fits) x.exports z.exports exports_after))

    world_quiet : IsQuiet f (world_key p) → SameTree f (with_entry s.own (world_entry z)) (world_key p) (last_key s.own (world_entry z))
    unfolding v
    world_quiet q =
        same_world f (with_entry s.own (world_entry z)) p (record { number = s.own.number; index = length s.own.worlds }) h.sound (IsSound-with_entry s.own (world_entry z) kept.good.sound world_named) x z h.stands (last_at s.own (world_entry z)).stands h.entry world_own_at
        (mapped_same f v.own x.imports z.imports (mapped_more (IsCopiedItem f v) (λ a b. item_tree v.own b ≡ item_tree f a) (λ a b k. k.same) x.imports z.imports imports_after))
        (mapped_quiet track f v x.exports z.exports exports_after (Each-right (IsQuiet f) (named_keys use_keys x.uses) (named_keys item_keys x.exports) (subst (λ (ks : List Key). Each (IsQuiet f) ks) world_next (quiet_parts (world_key p) q))))

    pub world_enters : (t : State) → AddsEntry f s t (world_key p) (world_entry z) → t.shared ≡ s.shared → IsEntered track f s t (world_key p) (last_key s.own (world_entry z))
    world_enters t adds same = plain_enters t (world_key p) (world_entry z) may adds same
      where
        may : MayEnter track f s (world_key p) (world_entry z)
        may = record {
          plain = refl;
          theirs_plain = ap (λ o. option_map_or entry_identifier o None) (world_at f p x h.entry);
          names = h.names ∙ sym (ap (λ o. option_map_or use_names o []) (world_at f p x h.entry));
          named = world_named;
          apart = world_apart;
          parts = world_parts;
          stands_for = world_for;
          quiet = world_quiet;
        }

  -- copies stand, apart
  pub copied_each : (P : Key → Type 0) → ((i j : Key) → IsCopiedKey f s i j → P j) → (is js : List Key) → AreCopiedKeys f s is js → Each P js
  copied_each = paired_each (IsCopiedKey f s)

  -- those of what is used, and those of named items
  copied_parts : (us vs : List (Text × UseContent)) (xs ys : List (Text × ItemKind)) → AreCopiedKeys f s (named_keys use_keys us) (named_keys use_keys vs) → AreMapped (IsCopiedItem f s) xs ys
      → AreCopiedKeys f s (named_keys use_keys us ++ named_keys item_keys xs) (named_keys use_keys vs ++ named_keys item_keys ys)
  copied_parts us vs xs ys h m =
      paired_append (IsCopiedKey f s) (named_keys use_keys us) (named_keys use_keys vs) (named_keys item_keys xs) (named_keys item_keys ys) h
      (paired_named (IsCopiedKey f s) (IsCopiedItem f s) item_keys item_keys (λ a b k. k.keys) xs ys m)

  module _ (p : Id) (x z : InterfaceContent) (h : InterfaceIsCopied f s p x z) where
    copied_next : AreCopiedKeys f s (open_next f (interface_key p)) (interface_keys z)
    copied_next =
        subst (λ (is : List Key). AreCopiedKeys f s is (interface_keys z)) (sym (ap (optional_keys other_keys) (interface_at f p x h.entry)))
        (copied_parts x.uses z.uses x.exports z.exports h.uses h.exports)

    pub copied_named : AllStand s.own (interface_keys z)
    copied_named = copied_each (Stands s.own) (λ i j k. k.copy.own_stands) (open_next f (interface_key p)) (interface_keys z) copied_next

    copied_apart : AreKeysApart s.own s.shared (interface_keys z)
    copied_apart = copied_each (IsKeyApart s.own s.shared) (λ i j k. k.copy.apart) (open_next f (interface_key p)) (interface_keys z) copied_next

    w : State
    w = record s { own = with_entry s.own (interface_entry z) }

    copied_exports : AreMapped (IsCopiedItem f w) x.exports z.exports
    unfolding w
    copied_exports = mapped_more (IsCopiedItem f s) (IsCopiedItem f w) (copied_item_still track f s w kept (RemembersTruly track) f (added_run (interface_entry z) copied_named tt)) x.exports z.exports h.exports

    copied_same : SameTree f (with_entry s.own (interface_entry z)) (interface_key p) (last_key s.own (interface_entry z))
    unfolding w
    copied_same =
        same_interface f (with_entry s.own (interface_entry z)) p (record { number = s.own.number; index = length s.own.interfaces }) h.sound (IsSound-with_entry s.own (interface_entry z) kept.good.sound copied_named) x z h.stands (last_at s.own (interface_entry z)).stands h.entry (slice_get-last s.own.interfaces z)
        (mapped_same f w.own x.exports z.exports (mapped_more (IsCopiedItem f w) (λ a b. item_tree w.own b ≡ item_tree f a) (λ a b k. k.same) x.exports z.exports copied_exports))

    pub interface_copied : (t : State) → AddsCopy f s t (interface_key p) (interface_entry z) → IsCopiedInto track f s t (interface_key p) (last_key s.own (interface_entry z))
    interface_copied t adds = copy_enters t (interface_key p) (interface_entry z) may adds
      where
        may : MayBeCopy f s (interface_key p) (interface_entry z)
        may = record {
          sort = refl;
          stands = h.stands;
          identifier = h.identifier ∙ sym (ap (λ o. option_map_or entry_identifier o None) (interface_at f p x h.entry));
          names = h.names ∙ sym (ap (λ o. option_map_or use_names o []) (interface_at f p x h.entry));
          named = copied_named;
          apart = copied_apart;
          parts = copied_next;
          same = copied_same;
        }

  module _ (p : Id) (x z : WorldContent) (h : WorldIsCopied f s p x z) where
    world_each : (P : Key → Type 0) → Each P (named_keys use_keys z.uses) → Each P (named_keys item_keys z.imports) → Each P (named_keys item_keys z.exports) → Each P (entry_keys (world_entry z))
    world_each P us is es =
        Each-append P (named_keys use_keys z.uses ++ named_keys item_keys z.imports) (named_keys item_keys z.exports)
        (Each-append P (named_keys use_keys z.uses) (named_keys item_keys z.imports) us is) es

    pub world_copied_named : AllStand s.own (entry_keys (world_entry z))
    world_copied_named =
        world_each (Stands s.own) (copied_each (Stands s.own) (λ i j k. k.copy.own_stands) (named_keys use_keys x.uses) (named_keys use_keys z.uses) h.uses) (mapped_keys (IsCopiedItem f s) item_keys (Stands s.own) (λ a b k. k.stands) x.imports z.imports h.imports)
        (mapped_keys (IsCopiedItem f s) item_keys (Stands s.own) (λ a b k. k.stands) x.exports z.exports h.exports)

    imports_copied_apart : AreKeysApart s.own s.shared (named_keys item_keys z.imports)
    imports_copied_apart = mapped_keys (IsCopiedItem f s) item_keys (IsKeyApart s.own s.shared) (λ a b k. k.apart) x.imports z.imports h.imports

    world_copied_apart : AreKeysApart s.own s.shared (entry_keys (world_entry z))
    world_copied_apart = world_each (IsKeyApart s.own s.shared) (copied_each (IsKeyApart s.own s.shared) (λ i j k. k.copy.apart) (named_keys use_keys x.uses) (named_keys use_keys z.uses) h.uses) imports_copied_apart (mapped_keys (IsCopiedItem f s) item_keys (IsKeyApart s.own s.shared) (λ a b k. k.apart) x.exports z.exports h.exports)

    y : State
    y = record s { own = with_entry s.own (world_entry z) }

    y_run : RunsTaking (RemembersTruly track) f s y
    unfolding y
    y_run = added_run (world_entry z) world_copied_named imports_copied_apart

    world_copied_items : (us vs : List (Text × ItemKind)) → AreMapped (IsCopiedItem f s) us vs → items_of (item_tree y.own) vs ≡ items_of (item_tree f) us
    world_copied_items us vs m =
        mapped_same f y.own us vs (mapped_more (IsCopiedItem f s) (λ a b. item_tree y.own b ≡ item_tree f a) (λ a b k. (copied_item_still track f s y kept (RemembersTruly track) f y_run a b k).same) us vs m)

    world_copied_same : SameTree f (with_entry s.own (world_entry z)) (world_key p) (last_key s.own (world_entry z))
    unfolding y
    world_copied_same =
        same_world f (with_entry s.own (world_entry z)) p (record { number = s.own.number; index = length s.own.worlds }) h.sound (IsSound-with_entry s.own (world_entry z) kept.good.sound world_copied_named) x z h.stands (last_at s.own (world_entry z)).stands h.entry (slice_get-last s.own.worlds z)
        (world_copied_items x.imports z.imports h.imports) (world_copied_items x.exports z.exports h.exports)

    pub world_copied : (t : State) → AddsCopy f s t (world_key p) (world_entry z) → IsCopiedInto track f s t (world_key p) (last_key s.own (world_entry z))
    world_copied t adds = copy_enters t (world_key p) (world_entry z) may adds
      where
        may : MayBeCopy f s (world_key p) (world_entry z)
        may = record {
          sort = refl;
          stands = h.stands;
          identifier = sym (ap (λ o. option_map_or entry_identifier o None) (world_at f p x h.entry));
          names = h.names ∙ sym (ap (λ o. option_map_or use_names o []) (world_at f p x h.entry));
          named = world_copied_named;
          apart = world_copied_apart;
          parts = subst (λ (is : List Key). AreCopiedKeys f s is (other_keys (world_entry z))) (sym (ap (optional_keys other_keys) (world_at f p x h.entry))) (copied_parts x.uses z.uses x.exports z.exports h.uses h.exports);
          same = world_copied_same;
        }
