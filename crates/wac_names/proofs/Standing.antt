-- A map that stands for a list of pairs: what a look-up finds, and what a change keeps.
use Rattle.std.proofs.Common.{◌≡◌, ℕ, Bool, true, false, cond, List, [], ◌∷◌, Option, Some, None, refl, sym, ap, subst, ◌∙◌, inl, inr, is_some}
use Rattle.std.proofs.lemmas.Bool.{cases_Bool}
use Rattle.std.specs.Cmp.{IsEquivalence, IsTotalOrder, nat_cmp_total, on_total, then_total}
use Rattle.std.specs.List.{AllZip}
use Rattle.std.specs.Map.{lookup, set_value}
use Rattle.std.specs.Ordering.{is_le, is_lt, ordering_reverse}
use Rattle.std.specs.Prelude.{IsSome, MatchOption, OnErr, OnOk, Result, Ok, Err, ⊤}
use Rattle.std.specs.Borrow.{Bor}
use Rattle.std.specs.Option.{option_copied}
use Rattle.std.specs.Str.{bytes_eq}
use Rattle.std.specs.Cmp.Lexicographic.{bytes_decides}
use Rattle.std.specs.declared.cmp.Ordering.{Ordering}
use Rattle.std.specs.declared.cmp.Ordering.TheVariants.{Less, Equal, Greater}
use Rattle.indexmap.specs.IndexMap.{insert_entry}
use Rattle.semver.specs.Identifiers.{parts_of}
use Rattle.semver.specs.OrderLaws.{build_total, pre_total}
use Rattle.semver.specs.Parse.{Parts}
use Rattle.wac_names.specs.Track.{HasTrackKey, IsTracked, version_cmp}
use Rattle.wac_names.specs.Interner.{ExtendsInterning, Interning, IsKnown, IsLawful}
use Rattle.wac_names.specs.Pairs.{HasText, IsFound, value_at, with_pair}
use Rattle.wac_names.specs.Lends.{WritesAt}
use Rattle.wac_names.specs.NameMap.{InsertAnswers, IsLead, Lead, Notes, Represents}
use Rattle.wac_names.specs.Placing.{NotesName, NotesVersion, PlaceAnswers, Places, SameMaps}
use Rattle.wac_names.specs.declared.error.NameError.{NameError}
use Rattle.wac_names.specs.declared.error.NameError.TheVariants.{Memory, Twice}
use Rattle.wac_names.specs.declared.name_map.NameMap.{NameMap}
use Rattle.wac_names.proofs.PairFacts.{distinct_nil, distinct_put, has_put, has_put_here, has_put_kept, insert_agrees, lookup_agrees}
use Rattle.wac_names.proofs.Tracks.{tracked_same}

-- ---- the order of versions

pub version_total : IsTotalOrder version_cmp
version_total = then_total (on_total (λ (p : Parts). p.0) nat_cmp_total) (then_total (on_total (λ (p : Parts). p.1) nat_cmp_total)
    (then_total (on_total (λ (p : Parts). p.2) nat_cmp_total) (then_total (on_total (λ (p : Parts). p.3) pre_total) (on_total (λ (p : Parts). p.4) build_total))))

self_equal : (r : Ordering) → r ≡ ordering_reverse r → is_le r ≡ true
self_equal Less e = refl
self_equal Equal e = refl
self_equal Greater e = cc e

le_refl : (v : Parts) → is_le (version_cmp v v) ≡ true
le_refl v = self_equal (version_cmp v v) (version_total.antisymm v v)

not_lt : (r : Ordering) → is_lt r ≡ false → is_le (ordering_reverse r) ≡ true
not_lt Less e = cc e
not_lt Equal e = refl
not_lt Greater e = refl

-- what is not before another is not below it
pub le_from_not_lt : (v w : Parts) → is_lt (version_cmp v w) ≡ false → is_le (version_cmp w v) ≡ true
le_from_not_lt v w e = ap is_le (version_total.antisymm w v) ∙ not_lt (version_cmp v w) e

pub lt_le : (r : Ordering) → is_lt r ≡ true → is_le r ≡ true
lt_le Less e = refl
lt_le Equal e = refl
lt_le Greater e = cc e

pub le_trans : (u v w : Parts) → is_le (version_cmp u v) ≡ true → is_le (version_cmp v w) ≡ true → is_le (version_cmp u w) ≡ true
le_trans u v w p q = step (version_cmp u v) (version_cmp v w) refl refl p q where
  step : (r s : Ordering) → version_cmp u v ≡ r → version_cmp v w ≡ s → is_le r ≡ true → is_le s ≡ true → is_le (version_cmp u w) ≡ true
  step Less Less a b p q = ap is_le (version_total.trans u v w a b)
  step Less Equal a b p q =
      let back : version_cmp w v ≡ Equal = version_total.antisymm w v ∙ ap ordering_reverse b in
      let flip : version_cmp w u ≡ version_cmp v u = version_total.congr w v u back in
      let less : version_cmp u w ≡ Less = version_total.antisymm u w ∙ ap ordering_reverse flip ∙ sym (version_total.antisymm u v) ∙ a in
      ap is_le less
  step Less Greater a b p q = cc q
  step Equal s a b p q = ap is_le (version_total.congr u v w a ∙ b) ∙ q
  step Greater s a b p q = cc p

-- ---- look-ups in a list of entries

module _ {K X : Type 0} {eq : K → K → Bool} (same : IsEquivalence eq) where
  -- equal keys find the same
  pub lookup_same : (es : List (K × X)) (j k : K) → eq j k ≡ true → lookup (eq j) es ≡ lookup (eq k) es
  lookup_same [] j k e = refl
  lookup_same (x ∷ es) j k e = rw (same.congr j k x.0 e, lookup_same es j k e) refl

-- ---- notes of tracks

-- a note is not above a version
abbrev pub IsNoteBelow : {K : Type 0} → Option (Lead K) → Parts → Type 0
IsNoteBelow None w = Unit {0}
IsNoteBelow (Some lead) w = is_le (version_cmp (parts_of lead.1) w) ≡ true

module _ {K V : Type 0} (f : Interning K) (ps : List (List ℕ × V)) where
  below : (track : List ℕ) (o : Option (Lead K)) (w : Parts) → IsNoteBelow o w → Notes f ps track o → (other : List ℕ) (u : Parts) → HasText ps other → IsTracked other track u
      → is_le (version_cmp u w) ≡ true
  below track None w b n other u h t = absurd (n other u h t)
  below track (Some lead) w b n other u h t = le_trans u (parts_of lead.1) w (n.greatest other u h t) b

module _ {K V : Type 0} (f : Interning K) (ps : List (List ℕ × V)) (name : List ℕ) (v : V) where
  -- a note of a track that the name does not stand on
  pub note_other : (track : List ℕ) (o : Option (Lead K)) → ((w : Parts) → IsTracked name track w → ⊥) → Notes f ps track o → Notes f (with_pair ps name v) track o
  note_other track None far n = λ other w h t. elim (has_put ps name other v h) [
    | inl e ↦ far w (subst (λ (s : List ℕ). IsTracked s track w) e t)
    | inr h ↦ n other w h t
  ]
  note_other track (Some lead) far n = record {
    text = n.text;
    there = has_put_kept ps name n.text v n.there;
    key = n.key;
    tracked = n.tracked;
    greatest = λ other w h t. elim (has_put ps name other v h) [
      | inl e ↦ absurd (far w (subst (λ (s : List ℕ). IsTracked s track w) e t))
      | inr h ↦ n.greatest other w h t
    ];
  }

  -- a note of the name's track, which stays
  pub note_kept : (track : List ℕ) (lead : Lead K) (w : Parts) → IsTracked name track w → is_le (version_cmp w (parts_of lead.1)) ≡ true
      → Notes f ps track (Some lead) → Notes f (with_pair ps name v) track (Some lead)
  note_kept track lead w here le n = record {
    text = n.text;
    there = has_put_kept ps name n.text v n.there;
    key = n.key;
    tracked = n.tracked;
    greatest = λ other u h t. elim (has_put ps name other v h) [
      | inl e ↦
          let same : u ≡ w = (tracked_same name track track u w (subst (λ (s : List ℕ). IsTracked s track u) e t) here).1 in
          ap (λ (p : Parts). is_le (version_cmp p (parts_of lead.1))) same ∙ le
      | inr h ↦ n.greatest other u h t
    ];
  }

  -- the name leads its track
  pub note_new : (track : List ℕ) (o : Option (Lead K)) (lead : Lead K) → IsTracked name track (parts_of lead.1) → f name lead.0 ≡ true → IsNoteBelow o (parts_of lead.1)
      → Notes f ps track o → Notes f (with_pair ps name v) track (Some lead)
  note_new track o lead here key b n = record {
    text = name;
    there = has_put_here ps name v;
    key = key;
    tracked = here;
    greatest = λ other u h t. elim (has_put ps name other v h) [
      | inl e ↦
          let same : u ≡ parts_of lead.1 = (tracked_same name track track u (parts_of lead.1) (subst (λ (s : List ℕ). IsTracked s track u) e t) here).1 in
          ap (λ (p : Parts). is_le (version_cmp p (parts_of lead.1))) same ∙ le_refl (parts_of lead.1)
      | inr h ↦ below f ps track o (parts_of lead.1) b n other u h t
    ];
  }

-- ---- maps

module _ {K V : Type 0} {eq : K → K → Bool} (same : IsEquivalence eq) where
  note_more : {f g : Interning K} (ps : List (List ℕ × V)) (track : List ℕ) (o : Option (Lead K)) → ExtendsInterning f g → Notes f ps track o → Notes g ps track o
  note_more ps track None x n = n
  note_more ps track (Some lead) x n = record { text = n.text; there = n.there; key = x n.text lead.0 n.key; tracked = n.tracked; greatest = n.greatest }

  zip_more : {f g : Interning K} (es : List (K × V)) (ps : List (List ℕ × V)) → ExtendsInterning f g
      → AllZip (λ (e : K × V) (p : List ℕ × V). (f p.0 e.0 ≡ true) × (e.1 ≡ p.1)) es ps → AllZip (λ (e : K × V) (p : List ℕ × V). (g p.0 e.0 ≡ true) × (e.1 ≡ p.1)) es ps
  zip_more [] [] x a = a
  zip_more [] (p ∷ ps) x a = a
  zip_more (e ∷ es) [] x a = a
  zip_more (e ∷ es) (p ∷ ps) x a = ((x p.0 e.0 a.0.0, a.0.1), zip_more es ps x a.1)

  -- a map stands for its pairs under a function that has more
  pub stands_more : {f g : Interning K} (m : NameMap K V) (ps : List (List ℕ × V)) → IsLawful eq g → ExtendsInterning f g → Represents eq f m ps → Represents eq g m ps
  stands_more {f = f} {g = g} m ps law x s = record {
    defined = zip_more m.definitions.entries ps x s.defined;
    distinct = s.distinct;
    tracks_known = λ text track w h t. let k = s.tracks_known text track w h t in (k.0, x track k.0 k.1);
    notes_known = λ k h. let t = s.notes_known k h in (t.0, x t.0 k t.1);
    notes = λ track k h. note_at track k h (lookup (eq k) m.alternate_lookups.entries) refl;
  } where
    note_at : (track : List ℕ) (k : K) → g track k ≡ true → (o : Option (Lead K)) → lookup (eq k) m.alternate_lookups.entries ≡ o
        → Notes g ps track (lookup (eq k) m.alternate_lookups.entries)
    note_at track k h None e = rw e (λ other w there t.
        let known = s.tracks_known other track w there t in
        let one : eq known.0 k ≡ true = law.one_key track known.0 k (x track known.0 known.1) h in
        let none : lookup (eq known.0) m.alternate_lookups.entries ≡ None = lookup_same same m.alternate_lookups.entries known.0 k one ∙ e in
        subst (λ (o : Option (Lead K)). Notes f ps track o) none (s.notes track known.0 known.1) other w there t)
    note_at track k h (Some lead) e =
        let there : IsSome (lookup (eq k) m.alternate_lookups.entries) = ap is_some e in
        let t = s.notes_known k there in
        let text : t.0 ≡ track = law.tells_texts t.0 track k k (x t.0 k t.1) h (same.refl k) in
        note_more ps track _ x (s.notes track k (subst (λ (u : List ℕ). f u k ≡ true) text t.1))

-- ---- a change

module _ {K V : Type 0} (eq : K → K → Bool) (f : Interning K) (same : IsEquivalence eq) (law : IsLawful eq f) (m n : NameMap K V) (ps : List (List ℕ × V)) (name : List ℕ) (k : K) (v : V)
    (key : f name k ≡ true) (s : Represents eq f m ps) (put : n.definitions.entries ≡ insert_entry eq m.definitions.entries k v) where
  -- the definitions and the texts after a change
  put_with : ((track : List ℕ) (w : Parts) → IsTracked name track w → IsKnown f track)
      → ((j : K) → IsSome (lookup (eq j) n.alternate_lookups.entries) → (track : List ℕ) × (f track j ≡ true))
      → ((track : List ℕ) (j : K) → f track j ≡ true → Notes f (with_pair ps name v) track (lookup (eq j) n.alternate_lookups.entries))
      → Represents eq f n (with_pair ps name v)
  put_with tracks known notes = record {
    defined = subst (λ (es : List (K × V)). AllZip (λ (e : K × V) (p : List ℕ × V). (f p.0 e.0 ≡ true) × (e.1 ≡ p.1)) es (with_pair ps name v)) (sym put)
        (insert_agrees law m.definitions.entries ps name k v s.defined key);
    distinct = distinct_put ps name v s.distinct;
    tracks_known = λ text track w h t. elim (has_put ps name text v h) [
      | inl e ↦ tracks track w (subst (λ (u : List ℕ). IsTracked u track w) e t)
      | inr h ↦ s.tracks_known text track w h t
    ];
    notes_known = known;
    notes = notes;
  }

  -- the name stands on no track
  pub put_plain : ((track : List ℕ) (w : Parts) → IsTracked name track w → ⊥) → n.alternate_lookups.entries ≡ m.alternate_lookups.entries → Represents eq f n (with_pair ps name v)
  put_plain none stay = put_with (λ track w t. absurd (none track w t))
      (λ j h. s.notes_known j (subst (λ (es : List (K × Lead K)). IsSome (lookup (eq j) es)) stay h))
      (λ track j h. subst (λ (es : List (K × Lead K)). Notes f (with_pair ps name v) track (lookup (eq j) es)) (sym stay) (note_other f ps name v track _ (none track) (s.notes track j h)))

  module _ (track : List ℕ) (w : Parts) (j : K) (here : IsTracked name track w) (noted : f track j ≡ true) where
    tracks_at : (other : List ℕ) (u : Parts) → IsTracked name other u → IsKnown f other
    tracks_at other u t = (j, subst (λ (x : List ℕ). f x j ≡ true) (tracked_same name track other w u here t).0 noted)

    far : (other : List ℕ) → (track ≡ other → ⊥) → (u : Parts) → IsTracked name other u → ⊥
    far other ne u t = ne (tracked_same name track other w u here t).0

    -- the note of its track stays
    pub put_kept : (lead : Lead K) → lookup (eq j) m.alternate_lookups.entries ≡ Some lead → is_le (version_cmp w (parts_of lead.1)) ≡ true
        → n.alternate_lookups.entries ≡ m.alternate_lookups.entries → Represents eq f n (with_pair ps name v)
    put_kept lead at le stay = put_with tracks_at
        (λ i h. s.notes_known i (subst (λ (es : List (K × Lead K)). IsSome (lookup (eq i) es)) stay h))
        (λ other i h. subst (λ (es : List (K × Lead K)). Notes f (with_pair ps name v) other (lookup (eq i) es)) (sym stay) (elim (cases_Bool (bytes_eq track other)) [
          | inl e ↦
              let one : track ≡ other = (bytes_decides track other).0 e in
              let key_same : eq j i ≡ true = law.one_key track j i noted (subst (λ (x : List ℕ). f x i ≡ true) (sym one) h) in
              let found : lookup (eq i) m.alternate_lookups.entries ≡ Some lead = sym (lookup_same same m.alternate_lookups.entries j i key_same) ∙ at in
              let old = subst (λ (o : Option (Lead K)). Notes f ps other o) found (s.notes other i h) in
              subst (λ (o : Option (Lead K)). Notes f (with_pair ps name v) other o) (sym found)
              (note_kept f ps name v other lead w (subst (λ (x : List ℕ). IsTracked name x w) one here) le old)
          | inr d ↦ note_other f ps name v other _ (far other (λ e. cc (d, (bytes_decides track other).1 e))) (s.notes other i h)
        ]))

    -- the name becomes the note of its track
    pub put_new : (lead : Lead K) → parts_of lead.1 ≡ w → f name lead.0 ≡ true → IsNoteBelow (lookup (eq j) m.alternate_lookups.entries) w
        → ((q : K) → lookup (eq q) n.alternate_lookups.entries ≡ cond (eq j q) (Some lead) (lookup (eq q) m.alternate_lookups.entries)) → Represents eq f n (with_pair ps name v)
    put_new lead version own b change = put_with tracks_at known notes where
      known : (i : K) → IsSome (lookup (eq i) n.alternate_lookups.entries) → (t : List ℕ) × (f t i ≡ true)
      known i h = elim (cases_Bool (eq j i)) [
        | inl e ↦ (track, law.same_key track j i noted e)
        | inr d ↦ s.notes_known i (subst (λ (o : Option (Lead K)). IsSome o) (change i ∙ ap (λ (x : Bool). cond x (Some lead) (lookup (eq i) m.alternate_lookups.entries)) d) h)
      ]

      notes : (other : List ℕ) (i : K) → f other i ≡ true → Notes f (with_pair ps name v) other (lookup (eq i) n.alternate_lookups.entries)
      notes other i h = subst (λ (o : Option (Lead K)). Notes f (with_pair ps name v) other o) (sym (change i)) (elim (cases_Bool (eq j i)) [
        | inl e ↦
            let one : track ≡ other = law.tells_texts track other j i noted h e in
            let found = lookup_same same m.alternate_lookups.entries j i e in
            let tracked = subst (λ (x : List ℕ). IsTracked name x (parts_of lead.1)) one (subst (λ (p : Parts). IsTracked name track p) (sym version) here) in
            let under = subst (λ (p : Parts). IsNoteBelow (lookup (eq i) m.alternate_lookups.entries) p) (sym version) (subst (λ (o : Option (Lead K)). IsNoteBelow o w) found b) in
            rw e (note_new f ps name v other (lookup (eq i) m.alternate_lookups.entries) lead tracked own under (s.notes other i h))
        | inr d ↦
            rw d (note_other f ps name v other _ (far other (λ e. cc (d, law.one_key track j i noted (subst (λ (x : List ℕ). f x i ≡ true) (sym e) h)))) (s.notes other i h))
      ])

-- ---- a look-up

module _ {K V : Type 0} (eq : K → K → Bool) (f : Interning K) (law : IsLawful eq f) (m : NameMap K V) (ps : List (List ℕ × V)) (name : List ℕ) (s : Represents eq f m ps) where
  -- there is no value at the name itself
  pub absent_at : (k : K) → f name k ≡ true → lookup (eq k) m.definitions.entries ≡ None → value_at ps name ≡ None
  absent_at k key e = sym (lookup_agrees law m.definitions.entries ps name k s.defined key) ∙ e

  module _ (absent : value_at ps name ≡ None) where
    not_there : (other : List ℕ) → HasText ps other → name ≡ other → ⊥
    not_there other h e = cc (ap is_some absent, subst (λ (t : List ℕ). HasText ps t) (sym e) h)

    none_found : ((other track : List ℕ) (w u : Parts) → HasText ps other → IsTracked name track w → IsTracked other track u → ⊥) → IsFound ps name None
    none_found never = rw absent (λ other h. elim [ inl e ↦ not_there other h e | inr c ↦ never other c.0 c.1.0 c.2.0 h c.1.1 c.2.1 ])

    -- the name stands on no track
    pub found_alone : ((track : List ℕ) (w : Parts) → IsTracked name track w → ⊥) → IsFound ps name None
    found_alone none = none_found (λ other track w u h t x. none track w t)

    module _ (track : List ℕ) (w : Parts) (here : IsTracked name track w) where
      on_track : (other t : List ℕ) (u p : Parts) → IsTracked name t p → IsTracked other t u → IsTracked other track u
      on_track other t u p n x = subst (λ (y : List ℕ). IsTracked other y u) (sym (tracked_same name track t w p here n).0) x

      -- the track has no key
      pub found_unknown : ((k : K) → f track k ≡ false) → IsFound ps name None
      found_unknown none = none_found (λ other t p u h n x. let k = s.tracks_known other track u h (on_track other t u p n x) in cc (none k.0, k.1))

      -- nothing is noted of the track
      pub found_none : (j : K) → f track j ≡ true → lookup (eq j) m.alternate_lookups.entries ≡ None → IsFound ps name None
      found_none j key e = none_found (λ other t p u h n x.
          subst (λ (o : Option (Lead K)). Notes f ps track o) e (s.notes track j key) other u h (on_track other t u p n x))

      -- the track's note leads to the value
      pub found_lead : (j : K) (lead : Lead K) → f track j ≡ true → lookup (eq j) m.alternate_lookups.entries ≡ Some lead → IsFound ps name (lookup (eq lead.0) m.definitions.entries)
      found_lead j lead key e =
          let n = subst (λ (o : Option (Lead K)). Notes f ps track o) e (s.notes track j key) in
          rw (lookup_agrees law m.definitions.entries ps n.text lead.0 s.defined n.key) (at n (value_at ps n.text) refl n.there) where
            at : (n : IsLead f ps track lead) (o : Option V) → value_at ps n.text ≡ o → IsSome o → IsFound ps name (value_at ps n.text)
            at n None q h = cc h
            at n (Some v) q h = rw (absent, q) (record {
              text = n.text;
              there = q;
              compatible = inr (track, (w, here), (parts_of lead.1, n.tracked));
              greatest = λ other there both t u p x y. elim both [
                | inl e ↦ absurd (not_there other there e)
                | inr c ↦
                    let one : parts_of lead.1 ≡ p = (tracked_same n.text track t (parts_of lead.1) p n.tracked y).1 in
                    let two : u ≡ c.2.0 = (tracked_same other t c.0 u c.2.0 x c.2.1).1 in
                    let le = n.greatest other c.2.0 there (on_track other c.0 c.2.0 c.1.0 c.1.1 c.2.1) in
                    subst (λ (z : Parts). is_le (version_cmp u z) ≡ true) one (subst (λ (z : Parts). is_le (version_cmp z (parts_of lead.1)) ≡ true) (sym two) le)
              ];
            })

-- ---- what the code does

module _ {K V : Type 0} (eq : K → K → Bool) (g : Interning K) (same : IsEquivalence eq) (law : IsLawful eq g) (m n : NameMap K V) (ps : List (List ℕ × V)) (name : List ℕ) (s : Represents eq g m ps) where
  -- a map with the same definitions and notes
  pub stands_same : SameMaps m n → Represents eq g n ps
  stands_same e = record {
    defined = subst (λ (es : List (K × V)). AllZip (λ (e : K × V) (p : List ℕ × V). (g p.0 e.0 ≡ true) × (e.1 ≡ p.1)) es ps) (sym e.0) s.defined;
    distinct = s.distinct;
    tracks_known = s.tracks_known;
    notes_known = λ j h. s.notes_known j (subst (λ (es : List (K × Lead K)). IsSome (lookup (eq j) es)) e.1 h);
    notes = λ track j h. subst (λ (es : List (K × Lead K)). Notes g ps track (lookup (eq j) es)) (sym e.1) (s.notes track j h);
  }

  note_below : (o : Option (Lead K)) (lead : Lead K) → MatchOption o ⊤ (λ noted. is_lt (version_cmp (parts_of lead.1) (parts_of noted.1)) ≡ false) → IsNoteBelow o (parts_of lead.1)
  note_below None lead h = tt
  note_below (Some noted) lead h = le_from_not_lt (parts_of lead.1) (parts_of noted.1) h

  -- a map in which a name was placed
  pub stands_placed : (item : V) → Places eq g name item m n → Represents eq g n (with_pair ps name item)
  stands_placed item p = elim p.noted [
    | inl alone ↦ put_plain eq g same law m n ps name p.key item p.own s p.placed alone.0 alone.1
    | inr x ↦
        let lead = x.2 in
        elim x.6 [
          | inl stays ↦ put_kept eq g same law m n ps name p.key item p.own s p.placed x.0 (parts_of lead.1) x.1 x.3 x.4 stays.0 stays.1 (lt_le _ stays.2) stays.3
          | inr new ↦ put_new eq g same law m n ps name p.key item p.own s p.placed x.0 (parts_of lead.1) x.1 x.3 x.4 lead refl
              (law.same_key name p.key lead.0 p.own x.5) (note_below _ lead new.0) new.1
        ]
  ]

  no_text : (k : K) → g name k ≡ true → lookup (eq k) m.definitions.entries ≡ None → HasText ps name → ⊥
  no_text k own e h = cc (ap is_some (absent_at eq g law m ps name s k own e), h)

  has_text : (k : K) → g name k ≡ true → IsSome (lookup (eq k) m.definitions.entries) → HasText ps name
  has_text k own h = subst (λ (o : Option V). IsSome o) (lookup_agrees law m.definitions.entries ps name k s.defined own) h

  pub insert_answers : (allow : Bool) (r : Result K NameError) → PlaceAnswers eq g m name allow r → InsertAnswers ps name allow r
  insert_answers allow (Ok k) (inl a) = inl a
  insert_answers allow (Ok k) (inr x) = inr (no_text x.0 x.1 x.2)
  insert_answers allow (Err (Twice t)) x = (x.0, has_text x.2.0 x.2.1 x.2.2, x.1)
  insert_answers allow (Err Memory) x = tt

not_in_empty : false ≡ true → ⊥
not_in_empty e = cc e

-- a map without definitions and notes stands for no pairs
pub stands_empty : {K V : Type 0} (eq : K → K → Bool) (f : Interning K) (m : NameMap K V) → m.definitions.entries ≡ [] → m.alternate_lookups.entries ≡ [] → Represents eq f m []
stands_empty {K = K} {V = V} eq f m d e = record {
  defined = subst (λ (es : List (K × V)). AllZip (λ (e : K × V) (p : List ℕ × V). (f p.0 e.0 ≡ true) × (e.1 ≡ p.1)) es []) (sym d) tt;
  distinct = distinct_nil V;
  tracks_known = λ text track w h t. absurd (not_in_empty h);
  notes_known = λ j h. cc (subst (λ (es : List (K × Lead K)). IsSome (lookup (eq j) es)) e h);
  notes = λ track j h. subst (λ (es : List (K × Lead K)). Notes {V = V} f [] track (lookup (eq j) es)) (sym e) (λ other w h t. absurd (not_in_empty h));
}

-- a text without a key is not there
pub absent_unknown : {K V : Type 0} (f : Interning K) (es : List (K × V)) (ps : List (List ℕ × V)) (name : List ℕ)
    → AllZip (λ (e : K × V) (p : List ℕ × V). (f p.0 e.0 ≡ true) × (e.1 ≡ p.1)) es ps → ((k : K) → f name k ≡ false) → value_at ps name ≡ None
absent_unknown f [] [] name a h = refl
absent_unknown f [] (p ∷ ps) name a h = absurd a
absent_unknown f (e ∷ es) [] name a h = absurd a
absent_unknown f (e ∷ es) (p ∷ ps) name a h = elim (cases_Bool (bytes_eq name p.0)) [
  | inl b ↦ cc (h e.0, subst (λ (t : List ℕ). f t e.0 ≡ true) (sym ((bytes_decides name p.0).0 b)) a.0.0)
  | inr b ↦ rw b (absent_unknown f es ps name a.1 h)
]

-- ---- the same of a call's result

module _ {K V : Type 0} (eq : K → K → Bool) (g : Interning K) (same : IsEquivalence eq) (law : IsLawful eq g) (m n : NameMap K V) (ps : List (List ℕ × V)) (name : List ℕ) (s : Represents eq g m ps) where
  pub insert_ok : (item : V) (r : Result K NameError) → OnOk r (Places eq g name item m n) → OnOk r (Represents eq g n (with_pair ps name item))
  insert_ok item (Ok k) p = stands_placed eq g same law m n ps name s item p
  insert_ok item (Err e) p = tt

  pub insert_err : (r : Result K NameError) → OnErr r (SameMaps m n) → OnErr r (Represents eq g n ps)
  insert_err (Ok k) p = tt
  insert_err (Err e) p = stands_same eq g same law m n ps name s p

module _ {K T E : Type 0} (r : Result T E) where
  pub track_known_ok : (g : Interning K) (name track : List ℕ) (w : Parts) (k : K) → IsTracked name track w → g track k ≡ true
      → OnOk r ((t : List ℕ) → HasTrackKey name t → IsKnown g t)
  track_known_ok g name track w k here h = on_ok r (λ t x. (k, subst (λ (u : List ℕ). g u k ≡ true) (tracked_same name track t w x.0 here x.1).0 h)) where
    on_ok : (q : Result T E) → ((t : List ℕ) → HasTrackKey name t → IsKnown g t) → OnOk q ((t : List ℕ) → HasTrackKey name t → IsKnown g t)
    on_ok (Ok x) p = p
    on_ok (Err e) p = tt

  pub notes_name_ok : (eq : K → K → Bool) (g : Interning K) (name : List ℕ) (key : K) (old new : List (K × Lead K)) (track : List ℕ) (at : K) (lead : Lead K)
      → IsTracked name track (parts_of lead.1) → g track at ≡ true → eq key lead.0 ≡ true → OnOk r (NotesVersion eq old new at lead) → OnOk r (NotesName eq g name key old new)
  notes_name_ok eq g name key old new track at lead here h e change = step r change where
    step : (q : Result T E) → OnOk q (NotesVersion eq old new at lead) → OnOk q (NotesName eq g name key old new)
    step (Ok x) c = inr (track, at, lead, here, h, e, c)
    step (Err x) c = tt

-- what was not found at the name itself
pub absent_from : {V : Type 0} (o : Option (Bor V)) (v : Option V) → is_some o ≡ false → option_copied o ≡ v → v ≡ None
absent_from None v e h = sym h
absent_from (Some x) v e h = cc e

-- ---- a value that is written in place

set_is_insert : {K V : Type 0} (eq : K → K → Bool) (es : List (K × V)) (k : K) (w : V) → IsSome (lookup (eq k) es) → set_value (eq k) es w ≡ insert_entry eq es k w
set_is_insert eq [] k w h = absurd (not_in_empty h)
set_is_insert {K = K} {V = V} eq (e ∷ es) k w h = elim (cases_Bool (eq k e.0)) [
  | inl b ↦ rw b refl
  | inr b ↦ rw b (ap (λ (xs : List (K × V)). e ∷ xs) (set_is_insert eq es k w (rw b at h)))
]

module _ {K V : Type 0} (eq : K → K → Bool) (f : Interning K) (law : IsLawful eq f) (m n : NameMap K V) (ps : List (List ℕ × V)) (s : Represents eq f m ps) (text : List ℕ) (k : K) (w : V)
    (key : f text k ≡ true) (there : HasText ps text) (values : n.definitions.entries ≡ set_value (eq k) m.definitions.entries w)
    (notes : n.alternate_lookups.entries ≡ m.alternate_lookups.entries) where
  still : (other : List ℕ) → HasText (with_pair ps text w) other → HasText ps other
  still other h = elim (has_put ps text other w h) [
    | inl e ↦ subst (λ (t : List ℕ). HasText ps t) (sym e) there
    | inr h ↦ h
  ]

  note_still : (track : List ℕ) (o : Option (Lead K)) → Notes f ps track o → Notes f (with_pair ps text w) track o
  note_still track None x = λ other u h t. x other u (still other h) t
  note_still track (Some lead) x = record {
    text = x.text;
    there = has_put_kept ps text x.text w x.there;
    key = x.key;
    tracked = x.tracked;
    greatest = λ other u h t. x.greatest other u (still other h) t;
  }

  pub stands_overwritten : Represents eq f n (with_pair ps text w)
  stands_overwritten =
      let found : IsSome (lookup (eq k) m.definitions.entries) = subst (λ (o : Option V). IsSome o) (sym (lookup_agrees law m.definitions.entries ps text k s.defined key)) there in
      let put : n.definitions.entries ≡ insert_entry eq m.definitions.entries k w = values ∙ set_is_insert eq m.definitions.entries k w found in
      record {
        defined = subst (λ (es : List (K × V)). AllZip (λ (e : K × V) (p : List ℕ × V). (f p.0 e.0 ≡ true) × (e.1 ≡ p.1)) es (with_pair ps text w)) (sym put)
            (insert_agrees law m.definitions.entries ps text k w s.defined key);
        distinct = distinct_put ps text w s.distinct;
        tracks_known = λ other track u h t. s.tracks_known other track u (still other h) t;
        notes_known = λ j h. s.notes_known j (subst (λ (es : List (K × Lead K)). IsSome (lookup (eq j) es)) notes h);
        notes = λ track j h. subst (λ (es : List (K × Lead K)). Notes f (with_pair ps text w) track (lookup (eq j) es)) (sym notes) (note_still track _ (s.notes track j h));
      }

pub writes_at : {K V : Type 0} (eq : K → K → Bool) (k : K) (m n : NameMap K V) (w : V) → n.definitions.entries ≡ set_value (eq k) m.definitions.entries w
    → n.alternate_lookups.entries ≡ m.alternate_lookups.entries → WritesAt eq k m w n
writes_at eq k m n w values notes = record {
  values = values;
  stands = λ f ps text law s key there. stands_overwritten eq f law m n ps s text k w key there values notes;
}
