-- One taking in after another.
use Rattle.std.proofs.Common.{◌≡◌, ◌≤◌, ◌++◌, ◌⊎◌, ℕ, IsSome, Bool, true, false, cond, List, [], ◌∷◌, Option, Some, None, slice_get, string_bytes, String, Global, inl, inr, refl, ap, sym, subst, ◌∙◌, arith}
use Rattle.std.specs.Map.{lookup, update}
use Rattle.std.specs.Option.{option_map, option_map_or, is_some}
use Rattle.wac_model.specs.Text.{Text}
use Rattle.wac_component.specs.Collection.{Collection, UseContent, InterfaceContent}
use Rattle.wac_component.specs.Entries.{entry_identifier, identifier_at, owner_at}
use Rattle.wac_component.specs.Growth.{Extends, with_entry}
use Rattle.wac_component.specs.Height.{height}
use Rattle.wac_component.specs.Id.{Id}
use Rattle.wac_component.specs.Key.{Key, Entry, Each, Stands, AllStand, item_keys, import_keys, optional_keys, resource_key, interface_key}
use Rattle.wac_aggregator_memo.specs.Memo.{AddsPair, Remembered, memo_of}
use Rattle.wac_component.specs.Open.{open_next, import_next, OpenReaches, stay, step}
use Rattle.wac_component.specs.Sound.{IsSound}
use Rattle.wac_component.specs.declared.items.ItemKind.{ItemKind}
use Rattle.wac_component.specs.declared.items.ItemKind.TheVariants.{Instance}
use Rattle.wac_component.proofs.OpenWalks.{opens_stand, OpenReaches-trans}
use Rattle.wac_component.specs.Reach.{IsAmong, here, there}
use Rattle.wac_component.proofs.Among.{among_each, each_among, among_single}
use Rattle.wac_component.proofs.Reading.{interface_at}
use Rattle.wac_names.specs.Class.{Class, class_eq, class_of}
use Rattle.wac_aggregator_narrowing.specs.Entering.{AddsEntry, IsEntered, InterfaceIsTaken}
use Rattle.wac_names.proofs.Classes.{classes_decided}
use Rattle.wac_aggregator_narrowing.specs.Last.{last_key}
use Rattle.wac_aggregator_narrowing.specs.Narrows.{AddsShared}
use Rattle.wac_aggregator_narrowing.specs.Remembers.{RemembersTruly}
use Rattle.wac_aggregator_narrowing.specs.State.{State, IsStateKept, IsOneWith, RunsTaking}
use Rattle.wac_aggregator_narrowing.specs.Taking.{IsTakenKey, IsCopiedKey, AreCopiedKeys}
use Rattle.wac_aggregator_narrowing.specs.Identified.{IsCovered}
use Rattle.wac_aggregator_narrowing.specs.Imports.{IsImportFor}
use Rattle.wac_aggregator_narrowing.proofs.Adding.{last_at}
use Rattle.wac_aggregator_narrowing.proofs.Mapped.{paired_of}
use Rattle.wac_aggregator_narrowing.proofs.Running.{RunsTaking-refl, RunsTaking-trans, RunsTaking-import, ImportsFit-refl}
use Rattle.wac_aggregator_imports.specs.Import.{ImportContent, ImportsContent, import_of, import_at, PutsImport}
use Rattle.wac_aggregator_promises.specs.Attempt.{Attempt, IsBelowImport}
use Rattle.wac_aggregator_reasons.specs.Sharing.{of_shared, of_import}
use Rattle.wac_aggregator_reasons.specs.Split.{AddsSharedOrBelow}
use Rattle.wac_aggregator_reasons.specs.Trial.{IsTrial, IsAccounted, IsOpenSource, StaysAccounted}
use Rattle.wac_aggregator_reasons.proofs.Accounts.{root_open, accounted_none, accounted_then, accounted_added, accounted_imports}
use Rattle.wac_aggregator_reasons.proofs.EntryAccounts.{IsMadeFrom, made_accounted}
use Rattle.wac_aggregator_reasons.proofs.SharedOrBelow.{adds_none, adds_then}
use Rattle.wac_aggregator_reasons.proofs.Splitting.{walk_on}
use Rattle.wac_aggregator_copies.specs.Copies.{IsState, MayCopy, IsBelowCopy, Copies}
use Rattle.wac_aggregator_memo.specs.declared.memo.Memo.{Memo}
use Rattle.wac_aggregator_taking.specs.Takes.{shared_keys, shared_in, state_of, AreFiledIn, MayTake, AreWithin, LeadsToOwner, OwnersImported, IsOwnersImport, IsSharedFrom, IsOwnerImported, AreKnown, OnlyGrows, TakesBy, AreNear, Takes}
use Rattle.wac_aggregator_taking.specs.declared.state.Merging.{Merging}
use Rattle.wac_component.proofs.Adding.{Extends-with_entry}
use Rattle.wac_component.proofs.Extended.{Extends-refl}
use Rattle.wac_component.proofs.Last.{IsLast}
use Rattle.wac_aggregator_promises.specs.PlainList.{ArePlain}
use Rattle.wac_aggregator_taking.proofs.Plain.{OnlyGrows-refl, OnlyGrows-trans, plain_within, plain_known, not_plain_owner}
use Rattle.wac_aggregator_taking.proofs.Within.{within_all, openly_within, leads_within}

-- what is found is shared
pub lookup-shared : (q : Class) (ss : List (Class × Id)) (i : Id) → lookup (class_eq q) ss ≡ Some i → IsAmong (interface_key i) (shared_keys ss)
lookup-shared q [] i h = absurd (cc)
lookup-shared q (e ∷ ss) i h = at (class_eq q e.0) h (lookup-shared q ss i)
  where
    at : (b : Bool) → cond b (Some e.1) (lookup (class_eq q) ss) ≡ Some i → (lookup (class_eq q) ss ≡ Some i → IsAmong (interface_key i) (shared_keys ss)) → IsAmong (interface_key i) (shared_keys (e ∷ ss))
    at true h rest = let same : e.1 ≡ i = cc in subst (λ j. IsAmong (interface_key j) (interface_key e.1 ∷ shared_keys ss)) same here
    at false h rest = there (rest h)

-- shared entries stand, and openly lead to shared ones alone
pub shared_stands : (s : State) → IsStateKept s → (k : Key) → IsAmong k s.shared → Stands s.own k
shared_stands s kept k among = among_each (Stands s.own) k s.shared among kept.good.shared

pub shared_covered : (s : State) → IsStateKept s → (k : Key) → IsAmong k s.shared → IsCovered s.own s.shared k
shared_covered s kept k among = among_each (IsCovered s.own s.shared) k s.shared among kept.good.covered

-- what an interface says is its identifier
pub content_identifier : (c : Collection) (p : Id) (x : InterfaceContent) → slice_get c.interfaces p.index ≡ Some x → identifier_at c (interface_key p) ≡ x.id
content_identifier c p x at = ap (λ o. option_map_or entry_identifier o None) (interface_at c p x at)

pub some_name : (o : Option (String Global)) → is_some o ≡ true → (n : Text) × (option_map string_bytes o ≡ Some n)
some_name None h = absurd (cc)
some_name (Some n) h = (string_bytes n, refl)

pub no_name : (o : Option (String Global)) → is_some o ≡ false → option_map string_bytes o ≡ None
no_name None h = refl
no_name (Some n) h = absurd (cc)

-- its parts were taken in whatever the own one's identifier is
pub taken_as : (f : Collection) (s : State) (p : Id) (x : InterfaceContent) (us : List (Text × UseContent)) (es : List (Text × ItemKind)) (o : Option Text) → InterfaceIsTaken class_of f s p x (record { id = None; uses = us; exports = es })
    → InterfaceIsTaken class_of f s p x (record { id = o; uses = us; exports = es })
taken_as f s p x us es o h = record { sound = h.sound; stands = h.stands; entry = h.entry; names = h.names; uses = h.uses; exports = h.exports }

-- ---- what is imported and shared, while more is

-- after a run, what is said of an owner's import, and of a new shared entry, is so still
module _ (f : Collection) (b c : Merging) (kept : IsStateKept (state_of b)) (run : RunsTaking (RemembersTruly class_of) f (state_of b) (state_of c)) where
  still_named : (e : Key) (n : Text) → IsAmong e (shared_keys b.shared.entries) → identifier_at b.types e ≡ Some n → identifier_at c.types e ≡ Some n
  still_named e n among is = (run.stops kept).identifiers e (shared_stands (state_of b) kept e among) ∙ is

  pub owners_import_still : (ks : List Key) (q : Class) (i : ImportContent) → IsOwnersImport f ks b q i → IsOwnersImport f ks c q i
  owners_import_still ks q i h = record {
    from = h.from;
    among = h.among;
    owner_name = h.owner_name;
    leads = h.leads;
    on_track = h.on_track;
    entry = h.entry;
    is_shared = (run.stops kept).shared (interface_key h.entry) h.is_shared;
    named = still_named (interface_key h.entry) i.0 h.is_shared h.named;
    item = h.item;
  }

  pub shared_from_still : (ks : List Key) (e : Key) → IsAmong e (shared_keys b.shared.entries) → IsSharedFrom f ks b e → IsSharedFrom f ks c e
  shared_from_still ks e among h = record { theirs = h.theirs; name = h.name; walk = h.walk; identified = h.identified; own_identified = still_named e h.name among h.own_identified }

-- the same of more ids
module _ (f : Collection) (b : Merging) (ks js : List Key) (within : AreWithin f ks js) where
  pub owners_import_within : (q : Class) (i : ImportContent) → IsOwnersImport f ks b q i → IsOwnersImport f js b q i
  owners_import_within q i h =
      let l = leads_within f h.from ks js h.owner_name within h.among h.leads in
      record { from = l.0; among = l.1; owner_name = h.owner_name; leads = l.2; on_track = h.on_track; entry = h.entry; is_shared = h.is_shared; named = h.named; item = h.item }

  pub shared_from_within : (e : Key) → IsSharedFrom f ks b e → IsSharedFrom f js b e
  shared_from_within e h = record { theirs = h.theirs; name = h.name; walk = openly_within f ks js h.theirs within h.walk; identified = h.identified; own_identified = h.own_identified }

  -- what is known of them is known of those
  pub known_within : AreKnown f b js → AreKnown f b ks
  known_within h t n walk is = h t n (openly_within f ks js t within walk) is

-- what was taken in is so still
pub known_still : (f : Collection) (a b : Merging) (ks : List Key) → RunsTaking (RemembersTruly class_of) f (state_of a) (state_of b) → AreKnown f a ks → AreKnown f b ks
known_still f a b ks run h t n walk is = let o = h t n walk is in (o.0, run.taken t o.0 o.1)

-- an interface with an identifier that was not taken in is not known
pub not_known : (f : Collection) (a : Merging) (k : Key) (n : Text) → identifier_at f k ≡ Some n → memo_of a.taken k ≡ None → AreKnown f a (k ∷ []) → ⊥
not_known f a k n is absent h =
    let o = h k n (k, here, stay) is in
    let both : None ≡ Some o.0 = sym absent ∙ o.1 in cc

-- ---- what is tried, and what is near

-- a call whose item openly reaches ids openly reaches those to which they lead
pub trial_within : (at : Attempt) (f : Collection) (ks js : List Key) → AreWithin f ks js → IsTrial at f js → IsTrial at f ks
trial_within at f ks js within h = record {
  types = h.types;
  reached = λ k m.
      let w = within k m in
      let r = h.reached w.0 w.1 in
      (r.0, r.1, OpenReaches-trans at.call.types r.0 w.0 k r.2 (subst (λ c. OpenReaches c w.0 k) (sym h.types) w.2));
  sound = h.sound;
  source = h.source;
  apart = h.apart;
}

-- what was near is so still
pub near_still : (at : Attempt) (a b : Merging) (ks : List Key) → ((k : Key) → Stands a.types k → Stands b.types k) → StaysAccounted at (state_of a) (state_of b) → AreNear at a ks → AreNear at b ks
near_still at a b ks standing stays h = record {
  stand = each_among (Stands b.types) ks (λ k m. standing k (among_each (Stands a.types) k ks m h.stand));
  opens = each_among (IsOpenSource at (state_of b)) ks (λ k m. stays.keys k (among_each (Stands a.types) k ks m h.stand) (among_each (IsOpenSource at (state_of a)) k ks m h.opens));
}

-- nothing is near
pub near_none : (at : Attempt) (a : Merging) → AreNear at a []
near_none at a = record { stand = tt; opens = tt }

-- ---- takings

module _ (f : Collection) {near : List Key} where
  pub MayTake-Takes : (a b : Merging) (top : ℕ) (ks : List Key) (Q : State → Type 0) → MayTake f a → TakesBy near f a b top ks Q → MayTake f b
  MayTake-Takes a b top ks Q may h = record { apart = λ e. may.apart (e ∙ (h.run.narrows may.kept).number); kept = h.run.kept may.kept; truly = h.run.truly may.kept f (λ e. refl) may.truly; filed = h.filed }

  -- nothing is taken in
  pub Takes-none : (a : Merging) (top : ℕ) (ks : List Key) (Q : State → Type 0) → MayTake f a → Q (state_of a) → TakesBy near f a a top ks Q
  Takes-none a top ks Q may q = record {
    low = λ k above none. none;
    run = RunsTaking-refl (RemembersTruly class_of) f (state_of a);
    filed = may.filed;
    owners = λ g one h. h;
    led = refl;
    stays = λ c i is. is;
    due = λ c i is. inl is;
    shares = λ e among. inl among;
    identified = adds_none (state_of a);
    plain = λ p. refl;
    known = λ all. OnlyGrows-refl f a;
    accounts = λ at trial all h. accounted_none at (state_of a) all;
    holds = q;
  }

  -- the same, with another fact, below a greater height, and of more ids
  pub Takes-more : (a b : Merging) (top more : ℕ) (ks js : List Key) (Q P : State → Type 0) → top ≤ more → AreWithin f ks js → MayTake f a → ((t : State) → IsStateKept t → Q t → P t) → TakesBy near f a b top ks Q → TakesBy near f a b more js P
  Takes-more a b top more ks js Q P low within may p h = record {
    low = λ k above none. h.low k (omega (arith, low, above)) none;
    run = h.run;
    filed = h.filed;
    owners = h.owners;
    led = h.led;
    stays = h.stays;
    due = λ q i is. elim (h.due q i is) [ inl was ↦ inl was | inr new ↦ inr (owners_import_within f b ks js within q i new) ];
    shares = λ e among. elim (h.shares e among) [ inl was ↦ inl was | inr new ↦ inr (shared_from_within f b ks js within e new) ];
    identified = h.identified;
    plain = λ p. h.plain (plain_within f ks js within p);
    known = λ all. h.known (known_within f a ks js within all);
    accounts = λ at trial all by. h.accounts at (trial_within at f ks js within trial) all by;
    holds = p (state_of b) (h.run.kept may.kept) h.holds;
  }

  -- one after another: a fact that every run keeps stands beside the second
  pub Takes-then : (a b c : Merging) (top more most : ℕ) (ks js ls : List Key) (Q P : State → Type 0) → top ≤ most → more ≤ most → AreWithin f ks ls → AreWithin f js ls → MayTake f a
      → ((s t : State) → IsStateKept s → RunsTaking (RemembersTruly class_of) f s t → Q s → Q t) → TakesBy near f a b top ks Q → TakesBy near f b c more js P → TakesBy near f a c most ls (λ t. Q t × P t)
  Takes-then a b c top more most ks js ls Q P low below first second may stays g h =
      let kept = g.run.kept may.kept in
      record {
        low = λ k above none. h.low k (omega (arith, below, above)) (g.low k (omega (arith, low, above)) none);
        run = RunsTaking-trans (RemembersTruly class_of) f (state_of a) (state_of b) (state_of c) g.run h.run;
        filed = h.filed;
        owners = λ e one k. h.owners e one (g.owners e one k);
        led = h.led ∙ g.led;
        stays = λ q i is. h.stays q i (g.stays q i is);
        due = λ q i is. elim (h.due q i is) [
          | inl was ↦ elim (g.due q i was) [
            | inl old ↦ inl old
            | inr new ↦ inr (owners_import_within f c ks ls first q i (owners_import_still f b c kept h.run ks q i new))
          ]
          | inr new ↦ inr (owners_import_within f c js ls second q i new)
        ];
        shares = λ e among. elim (h.shares e among) [
          | inl was ↦ elim (g.shares e was) [
            | inl old ↦ inl old
            | inr new ↦ inr (shared_from_within f c ks ls first e (shared_from_still f b c kept h.run ks e was new))
          ]
          | inr new ↦ inr (shared_from_within f c js ls second e new)
        ];
        identified = adds_then (RemembersTruly class_of) f (state_of a) (state_of b) (state_of c) kept h.run g.identified h.identified;
        plain = λ p. h.plain (plain_within f js ls second p) ∙ g.plain (plain_within f ks ls first p);
        known = λ all. OnlyGrows-trans f a b c (g.known (known_within f a ks ls first all)) (h.known (known_within f b js ls second (known_still f a b ls g.run all)));
        accounts = λ at trial all by.
            let standing = (g.run.narrows may.kept).standing in
            let one = g.accounts at (trial_within at f ks ls first trial) all by in
            accounted_then at (state_of a) (state_of b) (state_of c) standing one (h.accounts at (trial_within at f js ls second trial) one.now (near_still at a b near standing one by));
        holds = (stays (state_of b) (state_of c) kept h.run g.holds, h.holds);
      }

  -- the second alone, where nothing is asked of the first
  pub Takes-after : (a b c : Merging) (low top : ℕ) (ks ls : List Key) (Q P : State → Type 0) → low ≤ top → AreWithin f ks ls → MayTake f a → TakesBy near f a b low ks Q → TakesBy near f b c top ls P → TakesBy near f a c top ls P
  Takes-after a b c low top ks ls Q P below first may g h =
      Takes-more a c top top ls ls (λ t. Unit {0} × P t) P (omega arith) (within_all f ls) may (λ t kept q. q.1)
      (Takes-then a b c top top top ls ls ls (λ t. Unit {0}) P (omega arith) (omega arith) (within_all f ls) (within_all f ls) may (λ s t kept run q. q) (Takes-more a b low top ks ls Q (λ t. Unit {0}) below first may (λ t kept q. tt) g) h)

module _ (f : Collection) where
  -- the same, where other ids are near if these are
  pub Takes-near : (near others : List Key) (a b : Merging) (top : ℕ) (ks : List Key) (Q : State → Type 0) → ((at : Attempt) → IsAccounted at (state_of a) → AreNear at a others → AreNear at a near) → TakesBy near f a b top ks Q → TakesBy others f a b top ks Q
  Takes-near near others a b top ks Q of h = record {
    low = h.low;
    run = h.run;
    filed = h.filed;
    owners = h.owners;
    led = h.led;
    stays = h.stays;
    due = h.due;
    shares = h.shares;
    identified = h.identified;
    plain = h.plain;
    known = h.known;
    accounts = λ at trial all by. h.accounts at trial all (of at all by);
    holds = h.holds;
  }

  -- it holds where nothing is near
  pub Takes-apart : {near : List Key} (a b : Merging) (top : ℕ) (ks : List Key) (Q : State → Type 0) → Takes f a b top ks Q → TakesBy near f a b top ks Q
  Takes-apart {near} a b top ks Q h = Takes-near [] near a b top ks Q (λ at all by. near_none at a) h

  -- where the ids are plain, entries are only added
  pub only_grows : {near : List Key} (a b : Merging) (top : ℕ) (ks : List Key) (Q : State → Type 0) → TakesBy near f a b top ks Q → ArePlain f ks → OnlyGrows f a b
  only_grows a b top ks Q h p = h.known (plain_known f a ks p)

  -- shared entries stay filed where none is added
  pub AreFiledIn-run : (s t : State) (ss : List (Class × Id)) → IsStateKept s → s.shared ≡ shared_keys ss → RunsTaking (RemembersTruly class_of) f s t → AreFiledIn s.own ss → AreFiledIn t.own ss
  AreFiledIn-run s t ss kept shared run filed = record {
    on_class = λ q i at.
        let was = filed.on_class q i at in
        let stands = shared_stands s kept (interface_key i) (subst (IsAmong (interface_key i)) (sym shared) (lookup-shared q ss i at)) in
        (was.0, (run.stops kept).identifiers (interface_key i) stands ∙ was.1, was.2);
    found = filed.found;
  }

  -- copies are made of what stands below imports
  pub MayTake-copies : (a : Merging) → MayTake f a → MayCopy f a.types a.copies
  MayTake-copies a may = record { state = state_of a; is = record { own = refl; copies = refl; kept = may.kept; truly = may.truly } }

  -- what an id openly names was taken in, and its owner, if it is a
  -- resource that has one, is imported
  pub record HasOwners (s : State) (theirs : Key) : Type 0 where
    pub parts : (j : Key) → IsAmong j (open_next f theirs) → (o : Key) × (s.taken j ≡ Some o)
    pub self : (r : Id) → theirs ≡ resource_key r → IsOwnerImported f s (owner_at f r)

  -- then its owners are imported, once it is noted
  module _ (sound : IsSound f) (a c : Merging) (theirs own : Key) (stands : Stands f theirs) (has : HasOwners (state_of a) theirs) (adds : AddsPair (memo_of a.taken) (memo_of c.taken) theirs own) (same : (n : Text) → IsSome (import_at a.imports n) → IsSome (import_at c.imports n)) where
    of_theirs : (n : Text) → OwnersImported f (state_of a) → LeadsToOwner f theirs n → IsSome (import_at c.imports n)
    of_theirs n h l = by_walk theirs (resource_key l.resource) refl refl l.walk
      where
        by_walk : (k t : Key) → k ≡ theirs → t ≡ resource_key l.resource → OpenReaches f k t → IsSome (import_at c.imports n)
        by_walk k t is at stay = same n (has.self l.resource (sym is ∙ at) l.owner n l.owned l.identified)
        by_walk k t is at (step {j = j} m w) =
            let among = subst (λ x. IsAmong j (open_next f x)) is m in
            let part = has.parts j among in
            same n (h j part.0 n part.1 (opens_stand f sound theirs j stands (step among stay)).0 (record { resource = l.resource; owner = l.owner; walk = subst (λ x. OpenReaches f j x) at w; owned = l.owned; identified = l.identified }))

    pub owners_enter : (g : Collection) → IsOneWith f g → OwnersImported g (state_of a) → OwnersImported g (state_of c)
    owners_enter g one h k o n is number l = elim (adds.only k o is) [
      | inl e ↦ by_pair e.0 (one (sym number ∙ ap (λ (x : Key). x.id.number) e.0 ∙ stands.0))
      | inr was ↦ same n (h k o n was number l)
    ]
      where
        by_pair : k ≡ theirs → g ≡ f → IsSome (import_at c.imports n)
        by_pair e is_f = of_theirs n (subst (λ x. OwnersImported x (state_of a)) is_f h) (subst (λ x. LeadsToOwner f x n) e (subst (λ x. LeadsToOwner x k n) is_f l))

  -- what was noted before is, once one more is
  pub still_none : (before now : Remembered) (theirs own k : Key) → AddsPair before now theirs own → ¬ (k ≡ theirs) → before k ≡ None → (x : Option Key) → now k ≡ x → now k ≡ None
  still_none before now theirs own k adds other absent None at = at
  still_none before now theirs own k adds other absent (Some x) at = elim (adds.only k x at) [
    | inl e ↦ absurd (other e.0)
    | inr stood ↦ absurd (let both : None ≡ Some x = sym absent ∙ stood in cc)
  ]

  -- with a known id nothing is noted anew that has an identifier
  pub noted_known : (a c : Merging) (theirs own : Key) → theirs.id.number ≡ f.number → AddsPair (memo_of a.taken) (memo_of c.taken) theirs own → AreKnown f a (theirs ∷ [])
      → (k o : Key) → memo_of c.taken k ≡ Some o → (memo_of a.taken k ≡ Some o) ⊎ ((k.id.number ≡ f.number) × (identifier_at f k ≡ None))
  noted_known a c theirs own number adds all k o is = elim (adds.only k o is) [
    | inl e ↦ by (identifier_at f theirs) refl e
    | inr was ↦ inl was
  ]
    where
      by : (x : Option Text) → identifier_at f theirs ≡ x → (k ≡ theirs) × (o ≡ own) → (memo_of a.taken k ≡ Some o) ⊎ ((k.id.number ≡ f.number) × (identifier_at f k ≡ None))
      by None none e = inr (ap (λ (x : Key). x.id.number) e.0 ∙ number, ap (identifier_at f) e.0 ∙ none)
      by (Some n) named e =
          let stood = all theirs n (theirs, here, stay) named in
          let same : own ≡ stood.0 = let both : Some own ≡ Some stood.0 = sym adds.is ∙ adds.kept theirs stood.0 stood.1 in cc in
          inl (ap (memo_of a.taken) e.0 ∙ stood.1 ∙ ap (λ x. Some x) (sym same ∙ sym e.1))

  -- what was taken in entered, and nothing was imported
  pub Takes-entered : (a c : Merging) (theirs own : Key) → IsSound f → Stands f theirs → AddsPair (memo_of a.taken) (memo_of c.taken) theirs own → c.imports ≡ a.imports → AreFiledIn c.types c.shared.entries
      → ((e : Key) → IsAmong e (shared_keys c.shared.entries) → IsAmong e (shared_keys a.shared.entries) ⊎ IsSharedFrom f (theirs ∷ []) c e) → AddsSharedOrBelow (state_of a) (state_of c)
      → (AreKnown f a (theirs ∷ []) → OnlyGrows f a c) → HasOwners (state_of a) theirs → IsEntered class_of f (state_of a) (state_of c) theirs own → ((at : Attempt) → IsTrial at f (theirs ∷ []) → IsAccounted at (state_of a) → StaysAccounted at (state_of a) (state_of c))
      → Takes f a c (height f theirs) (theirs ∷ []) (λ t. IsTakenKey class_of f t theirs own)
  Takes-entered a c theirs own sound stands adds same filed shares identified known has in_to accounts = record {
    low = λ k above absent. still_none (memo_of a.taken) (memo_of c.taken) theirs own k adds (λ e. omega (arith, above, ap (height f) e)) absent (memo_of c.taken k) refl;
    run = in_to.run;
    filed = filed;
    owners = owners_enter sound a c theirs own stands has adds (λ n h. subst (λ is. IsSome (import_at is n)) (sym same) h);
    led = ap (λ (is : ImportsContent). is.led) same;
    stays = λ q i is. ap (λ s. import_of s q) same ∙ is;
    due = λ q i is. inl (ap (λ s. import_of s q) (sym same) ∙ is);
    shares = shares;
    identified = identified;
    plain = λ p. same;
    known = known;
    accounts = λ at trial all by. accounts at trial all;
    holds = in_to.taken;
  }

  -- an entry without identifier is added
  plain_added : (s t : State) (z : Entry) → t.own ≡ with_entry s.own z → entry_identifier z ≡ None → AddsSharedOrBelow s t
  plain_added s t z added plain k n stands is = elim (last.others k stands) [
    | inl was ↦ inl was
    | inr same ↦ absurd (let no : None ≡ Some n = sym plain ∙ sym (ap (λ o. option_map_or entry_identifier o None) last.at) ∙ ap (identifier_at t.own) (sym same) ∙ is in cc)
  ]
    where
      last : IsLast s.own t.own z (last_key s.own z)
      last = subst (λ c. IsLast s.own c z (last_key s.own z)) (sym added) (last_at s.own z)

  -- an entry without identifier enters, whose owners are imported, made of what was taken in
  pub record Enters (s t : State) (theirs : Key) (z : Entry) : Type 0 where
    pub plain : entry_identifier z ≡ None
    pub entered : IsEntered class_of f s t theirs (last_key s.own z)
    pub owners : HasOwners s theirs
    pub made : IsMadeFrom f s theirs z

  -- once its parts were taken in, an entry is added and noted
  pub Takes-enter : (a b c : Merging) (theirs own : Key) (z : Entry) (low : ℕ) (ks : List Key) (Q : State → Type 0) → MayTake f a → IsSound f → Stands f theirs → low ≤ height f theirs → AreWithin f ks (theirs ∷ [])
      → Takes f a b low ks Q → c ≡ record b { types = c.types; taken = c.taken } → c.types ≡ with_entry b.types z → own ≡ last_key b.types z → AddsPair (memo_of b.taken) (memo_of c.taken) theirs own
      → ((t : State) → IsStateKept (state_of b) → Q (state_of b) → AddsEntry f (state_of b) t theirs z → t.shared ≡ (state_of b).shared → Enters (state_of b) t theirs z)
      → Takes f a c (height f theirs) (theirs ∷ []) (λ t. IsTakenKey class_of f t theirs own)
  Takes-enter a b c theirs own z low ks Q may sound stands below within g same added last adds enters =
      let kept = g.run.kept may.kept in
      let adds_entry : AddsEntry f (state_of b) (state_of c) theirs z = record { own = added; imports = ap (λ (m : Merging). (state_of m).imports) same; copies = ap (λ (m : Merging). (state_of m).copies) same; number = stands.0; remembers = subst (AddsPair (memo_of b.taken) (memo_of c.taken) theirs) last adds } in
      let in_to = enters (state_of c) kept g.holds adds_entry (ap (λ (m : Merging). (state_of m).shared) same) in
      let filed : AreFiledIn c.types c.shared.entries = subst (λ (ss : List (Class × Id)). AreFiledIn c.types ss) (ap (λ (m : Merging). m.shared.entries) (sym same)) (AreFiledIn-run (state_of b) (state_of c) b.shared.entries kept refl in_to.entered.run g.filed) in
      Takes-after f a b c low (height f theirs) ks (theirs ∷ []) Q (λ t. IsTakenKey class_of f t theirs own) below within may g
      (Takes-entered b c theirs own sound stands adds (ap (λ (m : Merging). m.imports) same) filed (λ e among. inl (subst (IsAmong e) (ap (λ (m : Merging). shared_keys m.shared.entries) same) among)) (plain_added (state_of b) (state_of c) z added in_to.plain)
      (λ all. record { grows = subst (Extends b.types) (sym added) (Extends-with_entry b.types z kept.good.sound); shared = ap (λ (m : Merging). m.shared.entries) same; noted = noted_known b c theirs own stands.0 adds all }) in_to.owners
      (subst (λ k. IsEntered class_of f (state_of b) (state_of c) theirs k) (sym last) in_to.entered)
      (λ at trial all. made_accounted at f (state_of b) theirs z trial all in_to.made (state_of c) kept adds_entry (ap (λ (m : Merging). (state_of m).shared) same)))

  -- copies are made
  module _ (a : Merging) (d : Collection) (n : Memo) (ks : List Key) (Q : State → Type 0) (may : MayTake f a) (copies : Copies f a.types a.copies d n ks Q) where
    abbrev mid : Merging
    mid = record a { types = d; copies = n }

    is_state : IsState f a.types a.copies (state_of a)
    is_state = record { own = refl; copies = refl; kept = may.kept; truly = may.truly }

    pub copied_run : RunsTaking (RemembersTruly class_of) f (state_of a) (state_of mid)
    copied_run = (copies.runs (state_of a) is_state).0

    pub copied_holds : Q (state_of mid)
    copied_holds = (copies.runs (state_of a) is_state).1

    pub copied_may : MayTake f mid
    copied_may = record {
      apart = λ e. may.apart (e ∙ (copied_run.narrows may.kept).number);
      kept = copied_run.kept may.kept;
      truly = copied_run.truly may.kept f (λ e. refl) may.truly;
      filed = AreFiledIn-run (state_of a) (state_of mid) a.shared.entries may.kept refl copied_run may.filed;
    }

    -- then a world enters, below whose imports they are
    module _ (c : Merging) (theirs own : Key) (z : Entry) (added : c.types ≡ with_entry d z) (last : own ≡ last_key d z) (parts : AreCopiedKeys f (state_of mid) ks (import_keys z)) where
      below_import : (k : Key) → IsBelowCopy d n ks k → IsBelowImport c.types k
      below_import k b =
          let part = paired_of (IsCopiedKey f (state_of mid)) ks (import_keys z) b.theirs parts b.among in
          let same : part.0 ≡ b.copy = let both : Some part.0 ≡ Some b.copy = sym part.2.noted ∙ b.noted in cc in
          let is_last = subst (λ e. IsLast d e z (last_key d z)) (sym added) (last_at d z) in
          let among : IsAmong b.copy (import_next c.types own) = subst (IsAmong b.copy) (sym (ap (import_next c.types) last ∙ ap (optional_keys import_keys) is_last.at)) (subst (λ j. IsAmong j (import_keys z)) same part.1) in
          let grows : Extends d c.types = subst (Extends d) (sym added) (Extends-with_entry d z copied_may.kept.good.sound) in
          record { world = own; stands = subst (Stands c.types) (sym last) is_last.stands; reached = (b.copy, among, walk_on d c.types copied_may.kept.good.sound grows b.copy k (copied_may.kept.copies b.theirs b.copy b.noted).0 b.walk) }

      pub Takes-copied : Takes f mid c (height f theirs) (theirs ∷ []) (λ t. IsTakenKey class_of f t theirs own) → Takes f a c (height f theirs) (theirs ∷ []) (λ t. IsTakenKey class_of f t theirs own)
      Takes-copied h =
          let grows = copies.grows (state_of a) is_state in
          record {
            low = h.low;
            run = RunsTaking-trans (RemembersTruly class_of) f (state_of a) (state_of mid) (state_of c) copied_run h.run;
            filed = h.filed;
            owners = h.owners;
            led = h.led;
            stays = h.stays;
            due = h.due;
            shares = h.shares;
            identified = λ k m stands is. elim (h.identified k m stands is) [
              | inl then ↦ elim (copies.added (state_of a) is_state k then) [
                | inl was ↦ inl was
                | inr new ↦ inr (inr (below_import k new))
              ]
              | inr new ↦ inr new
            ];
            plain = h.plain;
            known = λ all. OnlyGrows-trans f a mid c (record { grows = grows; shared = refl; noted = λ k o noted. inl noted }) (h.known all);
            accounts = λ at trial all by.
                let one = accounted_added at (state_of a) (state_of mid) may.kept grows refl refl refl (copies.splits (state_of a) is_state) all in
                accounted_then at (state_of a) (state_of mid) (state_of c) (copied_run.narrows may.kept).standing one (h.accounts at trial one.now (near_none at mid));
            holds = h.holds;
          }

  -- shared entries stay filed where one is added, under the class of its identifier
  pub AreFiledIn-put : (s t : State) (ss ts : List (Class × Id)) (q : Class) (i : Id) (n : Text) → IsStateKept s → s.shared ≡ shared_keys ss → RunsTaking (RemembersTruly class_of) f s t → identifier_at t.own (interface_key i) ≡ Some n → class_of n ≡ q
      → ((r : Class) → shared_in ts r ≡ update class_eq (shared_in ss) q (Some i) r) → shared_in ss q ≡ None → AddsShared (shared_keys ss) (shared_keys ts) (interface_key i) → AreFiledIn s.own ss → AreFiledIn t.own ts
  AreFiledIn-put s t ss ts q i n kept shared run identified of puts new adds filed = record {
    on_class = λ r j at. on_class r j (class_eq q r) refl (sym (puts r) ∙ at);
    found = λ j m. elim (adds.only (interface_key j) m) [
      | inl is ↦ let same : i ≡ j = ap (λ (k : Key). k.id) (sym is) in (q, puts q ∙ ap (λ b. cond b (Some i) (shared_in ss q)) ((classes_decided q q).1 refl) ∙ ap (λ (x : Id). Some x) same)
      | inr stood ↦ let was = filed.found j stood in (was.0, puts was.0 ∙ kept_at was.0 j (class_eq q was.0) refl was.1)
    ];
  }
    where
      on_class : (r : Class) (j : Id) (b : Bool) → class_eq q r ≡ b → cond b (Some i) (shared_in ss r) ≡ Some j → (m : Text) × (identifier_at t.own (interface_key j) ≡ Some m) × (class_of m ≡ r)
      on_class r j true e h = let same : i ≡ j = cc in (n, ap (λ k. identifier_at t.own (interface_key k)) (sym same) ∙ identified, of ∙ (classes_decided q r).0 e)
      on_class r j false e h = (AreFiledIn-run s t ss kept shared run filed).on_class r j h

      kept_at : (r : Class) (j : Id) (b : Bool) → class_eq q r ≡ b → shared_in ss r ≡ Some j → cond b (Some i) (shared_in ss r) ≡ Some j
      kept_at r j true e at = let none : None ≡ Some j = sym new ∙ ap (shared_in ss) ((classes_decided q r).0 e) ∙ at in absurd (cc)
      kept_at r j false e at = at

  -- an owner is imported, under the identifier of a shared entry, where there was
  -- no import on the class of that
  module _ (a : Merging) (is : ImportsContent) (q : Class) (name : Text) (own : Id) (puts : PutsImport a.imports is q (name, Instance own)) (led : is.led ≡ a.imports.led) (new : import_of a.imports q ≡ None) where
    b : Merging
    b = record a { imports = is }

    import_now : (P : ItemKind → Type 0) → P (Instance own) → ((n : Text) (x : ItemKind) → import_at a.imports n ≡ Some x → P x) → (n : Text) (x : ItemKind) → import_at is n ≡ Some x → P x
    import_now P its before n x at = by (class_eq q (class_of n)) (ap (option_map (λ (i : ImportContent). i.1)) (sym (puts (class_of n))) ∙ at)
      where
        by : (t : Bool) → option_map (λ (i : ImportContent). i.1) (cond t (Some (name, Instance own)) (import_of a.imports (class_of n))) ≡ Some x → P x
        by true e = let same : Instance own ≡ x = cc in subst P same its
        by false e = before n x e

    -- each class keeps the import that it had
    kept_of : (r : Class) (i : ImportContent) → import_of a.imports r ≡ Some i → import_of is r ≡ Some i
    kept_of r i at = puts r ∙ by (class_eq q r) refl
      where
        by : (t : Bool) → class_eq q r ≡ t → cond t (Some (name, Instance own)) (import_of a.imports r) ≡ Some i
        by true e = absurd (let none : None ≡ Some i = sym new ∙ ap (import_of a.imports) ((classes_decided q r).0 e) ∙ at in cc)
        by false e = at

    kept_at : (n : Text) (x : ItemKind) → import_at a.imports n ≡ Some x → import_at is n ≡ Some x
    kept_at n x at = by (import_of a.imports (class_of n)) refl at
      where
        by : (o : Option ImportContent) → import_of a.imports (class_of n) ≡ o → option_map (λ (i : ImportContent). i.1) o ≡ Some x → import_at is n ≡ Some x
        by None e h = absurd (cc)
        by (Some i) e h = ap (option_map (λ (j : ImportContent). j.1)) (kept_of (class_of n) i e) ∙ h

    some_kept : (n : Text) → IsSome (import_at a.imports n) → IsSome (import_at is n)
    some_kept n h = by (import_at a.imports n) refl h
      where
        by : (o : Option ItemKind) → import_at a.imports n ≡ o → IsSome o → IsSome (import_at is n)
        by None e k = absurd (cc)
        by (Some x) e k = rw (kept_at n x e) refl

    pub Takes-imported : (ks : List Key) (from : Key) (owner_name : Text) → IsAmong from ks → LeadsToOwner f from owner_name → class_of owner_name ≡ q → class_of name ≡ q → IsAmong (interface_key own) (shared_keys a.shared.entries) → identifier_at a.types (interface_key own) ≡ Some name
        → MayTake f a → Takes f a (record a { imports = is }) 0 ks (λ t. IsSome (t.imports owner_name))
    Takes-imported ks from owner_name among leads on of shared named may = record {
      low = λ j above none. none;
      run = RunsTaking-import (RemembersTruly class_of) f (state_of a) (import_at is)
          (λ kept. import_now (λ x. AllStand a.types (item_keys x)) (shared_stands (state_of a) kept (interface_key own) shared, tt) kept.imports)
          (λ kept. import_now (λ x. Each (IsCovered a.types (shared_keys a.shared.entries)) (item_keys x)) (shared_covered (state_of a) kept (interface_key own) shared, tt) kept.imports_covered)
          (λ kept n x at. subst (λ o. IsImportFor a.types o a.types x) (at ∙ sym (kept_at n x at)) (ImportsFit-refl a.types (import_at a.imports) n x at))
          (λ g h. record { taken = h.taken; copies = h.copies; closed = h.closed });
      filed = may.filed;
      owners = λ g one h k o n taken number l. some_kept n (h k o n taken number l);
      led = led;
      stays = kept_of;
      due = due;
      shares = λ e m. inl m;
      identified = λ k n stands is. inl stands;
      plain = λ p. absurd (not_plain_owner f ks from owner_name among leads p);
      known = λ all. record { grows = Extends-refl a.types; shared = refl; noted = λ k o noted. inl noted };
      accounts = λ at trial all by. accounted_imports at (state_of a) (state_of (record a { imports = is })) may.kept refl refl refl refl (import_open at all) all;
      holds = rw (ap (λ c. option_map (λ (i : ImportContent). i.1) (import_of is c)) on ∙ ap (option_map (λ (i : ImportContent). i.1)) (puts q ∙ ap (λ t. cond t (Some (name, Instance own)) (import_of a.imports q)) ((classes_decided q q).1 refl))) refl;
    }
      where
        import_open : (at : Attempt) → IsAccounted at (state_of a) → (n : Text) (x : ItemKind) → import_at is n ≡ Some x → (k : Key) → IsAmong k (item_keys x) → IsOpenSource at (state_of a) k
        import_open at all = import_now (λ x. (k : Key) → IsAmong k (item_keys x) → IsOpenSource at (state_of a) k)
            (λ k m. subst (λ j. IsOpenSource at (state_of a) j) (sym (among_single (interface_key own) m)) (root_open at (state_of a) (interface_key own) all (of_shared shared))) (λ n x was k m. root_open at (state_of a) k all (of_import {n = n} was m))

        due : (r : Class) (i : ImportContent) → import_of is r ≡ Some i → (import_of a.imports r ≡ Some i) ⊎ IsOwnersImport f ks (record a { imports = is }) r i
        due r i at = by (class_eq q r) refl (sym (puts r) ∙ at)
          where
            by : (t : Bool) → class_eq q r ≡ t → cond t (Some (name, Instance own)) (import_of a.imports r) ≡ Some i → (import_of a.imports r ≡ Some i) ⊎ IsOwnersImport f ks (record a { imports = is }) r i
            by true e h =
                let same : (name, Instance own) ≡ i = cc in
                inr (record { from = from; among = among; owner_name = owner_name; leads = leads; on_track = on ∙ (classes_decided q r).0 e; entry = own; is_shared = shared; named = named ∙ ap (λ (j : ImportContent). Some j.0) same; item = sym (ap (λ (j : ImportContent). j.1) same) })
            by false e h = inl h

  -- there was one
  pub Takes-imported_before : (a : Merging) (ks : List Key) (owner_name : Text) → IsSome (import_at a.imports owner_name) → MayTake f a → Takes f a a 0 ks (λ t. IsSome (t.imports owner_name))
  Takes-imported_before a ks owner_name is_there may = Takes-none f a 0 ks (λ t. IsSome (t.imports owner_name)) may is_there

-- a list with one more last has one more
pub adds_last : (ks : List Key) (k : Key) → AddsShared ks (ks ++ k ∷ []) k
adds_last ks k = record { is = last ks; kept = kept ks; only = only ks }
  where
    last : (ks : List Key) → IsAmong k (ks ++ k ∷ [])
    last [] = here
    last (j ∷ ks) = there (last ks)

    kept : (ks : List Key) (t : Key) → IsAmong t ks → IsAmong t (ks ++ k ∷ [])
    kept [] t p = elim p [ ]
    kept (j ∷ ks) t here = here
    kept (j ∷ ks) t (there p) = there (kept ks t p)

    only : (ks : List Key) (t : Key) → IsAmong t (ks ++ k ∷ []) → (t ≡ k) ⊎ IsAmong t ks
    only [] t here = inl refl
    only [] t (there p) = elim p [ ]
    only (j ∷ ks) t here = inr here
    only (j ∷ ks) t (there p) = elim (only ks t p) [
      | inl e ↦ inl e
      | inr q ↦ inr (there q)
    ]

pub none_of : (o : Option ImportContent) → is_some (option_map (λ (i : ImportContent). i.1) o) ≡ false → o ≡ None
none_of None h = refl
none_of (Some i) h = absurd (cc)
