-- A clone of a map stands for clones of the pairs.
use Rattle.std.proofs.Common.{String, Global, ◌≡◌, ℕ, Bool, true, List, [], ◌∷◌, Option, Some, None, refl, sym, ap, subst, ◌∙◌, is_some, inl, inr}
use Rattle.std.proofs.lemmas.Bool.{cases_Bool}
use Rattle.std.specs.Cmp.{IsEquivalence}
use Rattle.std.specs.List.{AllZip, IsDistinct}
use Rattle.std.specs.Map.{keys_of, lookup}
use Rattle.std.specs.Ordering.{is_le}
use Rattle.std.specs.Prelude.{IsSome, ⊤}
use Rattle.std.specs.Str.{bytes_eq}
use Rattle.semver.specs.Identifiers.{parts_of, text_of}
use Rattle.semver.specs.declared.Prerelease.{Prerelease}
use Rattle.semver.specs.declared.BuildMetadata.{BuildMetadata}
use Rattle.semver.specs.Parse.{Parts}
use Rattle.semver.specs.declared.Version.{Version}
use Rattle.semver.specs.contracts.VersionClone.TheImpl as clones
use Rattle.semver.specs.contracts.PrereleaseClone.TheImpl as pre_clones
use Rattle.semver.specs.contracts.BuildMetadataClone.TheImpl as build_clones
use Rattle.wac_names.specs.Track.{IsTracked, version_cmp}
use Rattle.wac_names.specs.Interner.{Interning, IsLawful}
use Rattle.wac_names.specs.Pairs.{value_at}
use Rattle.wac_names.specs.NameMap.{ClonesPairs, Lead, Notes, Represents}
use Rattle.wac_names.specs.declared.name_map.NameMap.{NameMap}
use Rattle.wac_names.proofs.Tracks.{parts_path}

module _ {V : Type 0} (D : V → V → Type 0) where
  texts_same : (ps qs : List (List ℕ × V)) → ClonesPairs D ps qs → keys_of qs ≡ keys_of ps
  texts_same [] [] z = refl
  texts_same [] (q ∷ qs) z = absurd z
  texts_same (p ∷ ps) [] z = absurd z
  texts_same (p ∷ ps) (q ∷ qs) z = rw (z.0.0, texts_same ps qs z.1) refl

  there_same : (ps qs : List (List ℕ × V)) (t : List ℕ) → ClonesPairs D ps qs → is_some (value_at qs t) ≡ is_some (value_at ps t)
  there_same [] [] t z = refl
  there_same [] (q ∷ qs) t z = absurd z
  there_same (p ∷ ps) [] t z = absurd z
  there_same (p ∷ ps) (q ∷ qs) t z = rw z.0.0 (elim (cases_Bool (bytes_eq t p.0)) [
    | inl b ↦ rw b refl
    | inr b ↦ rw b (there_same ps qs t z.1)
  ])

module _ {K V : Type 0} (eq : K → K → Bool) (same : IsEquivalence eq) (C : K → K → Type 0) (D : V → V → Type 0) (equal : (j k : K) → C j k → eq j k ≡ true) where
  -- the clone of an entry
  abbrev pub IsEntryClone : K × V → K × V → Type 0
  IsEntryClone p q = C p.0 q.0 × D p.1 q.1

  -- the clone of a note
  abbrev pub IsLeadClone : Lead K → Lead K → Type 0
  IsLeadClone p q = C p.0 q.0 × (parts_of q.1 ≡ parts_of p.1)

  abbrev pub IsNoteClone : K × Lead K → K × Lead K → Type 0
  IsNoteClone p q = C p.0 q.0 × IsLeadClone p.1 q.1

  abbrev SameNote : Option (Lead K) → Option (Lead K) → Type 0
  SameNote None None = ⊤
  SameNote None (Some b) = ⊥
  SameNote (Some a) None = ⊥
  SameNote (Some a) (Some b) = IsLeadClone a b

  test_same : (q j k : K) → C j k → eq q k ≡ eq q j
  test_same q j k c = same.symm q k ∙ sym (same.congr j k q (equal j k c)) ∙ same.symm j q

  notes_same : (es fs : List (K × Lead K)) (q : K) → AllZip IsNoteClone es fs → SameNote (lookup (eq q) es) (lookup (eq q) fs)
  notes_same [] [] q z = tt
  notes_same [] (b ∷ fs) q z = absurd z
  notes_same (a ∷ es) [] q z = absurd z
  notes_same (a ∷ es) (b ∷ fs) q z = rw (test_same q a.0 b.0 z.0.0) (elim (cases_Bool (eq q a.0)) [
    | inl t ↦ rw t z.0.1
    | inr t ↦ rw t (notes_same es fs q z.1)
  ])

  -- the pairs, with the values of the clones
  with_values : List (K × V) → List (List ℕ × V) → List (List ℕ × V)
  with_values [] ps = []
  with_values (e ∷ es) [] = []
  with_values (e ∷ es) (p ∷ ps) = (p.0, e.1) ∷ with_values es ps

  module _ (f : Interning K) (law : IsLawful eq f) where
    abbrev IsDef : K × V → List ℕ × V → Type 0
    IsDef e p = (f p.0 e.0 ≡ true) × (e.1 ≡ p.1)

    defined_clone : (es fs : List (K × V)) (ps : List (List ℕ × V)) → AllZip IsEntryClone es fs → AllZip IsDef es ps → AllZip IsDef fs (with_values fs ps)
    unfolding with_values
    defined_clone [] [] ps z a = tt
    defined_clone [] (g ∷ fs) ps z a = absurd z
    defined_clone (e ∷ es) [] ps z a = absurd z
    defined_clone (e ∷ es) (g ∷ fs) [] z a = absurd a
    defined_clone (e ∷ es) (g ∷ fs) (p ∷ ps) z a = ((law.same_key p.0 e.0 g.0 a.0.0 (equal e.0 g.0 z.0.0), refl), defined_clone es fs ps z.1 a.1)

    pairs_clone : (es fs : List (K × V)) (ps : List (List ℕ × V)) → AllZip IsEntryClone es fs → AllZip IsDef es ps → ClonesPairs D ps (with_values fs ps)
    unfolding with_values
    pairs_clone [] [] [] z a = tt
    pairs_clone [] [] (p ∷ ps) z a = absurd a
    pairs_clone [] (g ∷ fs) ps z a = absurd z
    pairs_clone (e ∷ es) [] ps z a = absurd z
    pairs_clone (e ∷ es) (g ∷ fs) [] z a = absurd a
    pairs_clone (e ∷ es) (g ∷ fs) (p ∷ ps) z a = ((refl, subst (λ (v : V). D v g.1) a.0.1 z.0.1), pairs_clone es fs ps z.1 a.1)

    note_clone : (ps qs : List (List ℕ × V)) (track : List ℕ) (o r : Option (Lead K)) → ClonesPairs D ps qs → SameNote o r → Notes f ps track o → Notes f qs track r
    note_clone ps qs track None None z c n = λ other w h t. n other w (sym (there_same D ps qs other z) ∙ h) t
    note_clone ps qs track None (Some b) z c n = absurd c
    note_clone ps qs track (Some a) None z c n = absurd c
    note_clone ps qs track (Some a) (Some b) z c n = record {
      text = n.text;
      there = there_same D ps qs n.text z ∙ n.there;
      key = law.same_key n.text a.0 b.0 n.key (equal a.0 b.0 c.0);
      tracked = subst (λ (p : Parts). IsTracked n.text track p) (sym c.1) n.tracked;
      greatest = λ other w h t. ap (λ (p : Parts). is_le (version_cmp w p)) c.1 ∙ n.greatest other w (sym (there_same D ps qs other z) ∙ h) t;
    }

    there_from : (o r : Option (Lead K)) → SameNote o r → IsSome r → IsSome o
    there_from None None c h = h
    there_from None (Some b) c h = absurd c
    there_from (Some a) None c h = absurd c
    there_from (Some a) (Some b) c h = refl

    pub stands_clone : (m n : NameMap K V) (ps : List (List ℕ × V)) → AllZip IsEntryClone m.definitions.entries n.definitions.entries
        → AllZip IsNoteClone m.alternate_lookups.entries n.alternate_lookups.entries → Represents eq f m ps → (qs : List (List ℕ × V)) × ClonesPairs D ps qs × Represents eq f n qs
    stands_clone m n ps z a s =
        let qs = with_values n.definitions.entries ps in
        let clones = pairs_clone m.definitions.entries n.definitions.entries ps z s.defined in
        let noted = λ (q : K). notes_same m.alternate_lookups.entries n.alternate_lookups.entries q a in (
          qs,
          clones,
          record {
            defined = defined_clone m.definitions.entries n.definitions.entries ps z s.defined;
            distinct = subst (λ (ts : List (List ℕ)). IsDistinct bytes_eq ts) (sym (texts_same D ps qs clones)) s.distinct;
            tracks_known = λ text track w h t. s.tracks_known text track w (sym (there_same D ps qs text clones) ∙ h) t;
            notes_known = λ j h. s.notes_known j (there_from _ _ (noted j) h);
            notes = λ track j h. note_clone ps qs track _ _ clones (noted j) (s.notes track j h);
          },
        )

pre_clone : (v w : Prerelease) → pre_clones.ghosts.is_clone v w → text_of w.identifier ≡ text_of v.identifier
pre_clone v w h = step v.identifier w.identifier h where
  step : (o r : Option (String Global)) → pre_clones.ghosts.is_clone (record { identifier = o }) (record { identifier = r }) → text_of r ≡ text_of o
  step None None h = refl
  step None (Some b) h = absurd h
  step (Some a) None h = absurd h
  step (Some a) (Some b) h = h

build_clone : (v w : BuildMetadata) → build_clones.ghosts.is_clone v w → text_of w.identifier ≡ text_of v.identifier
build_clone v w h = step v.identifier w.identifier h where
  step : (o r : Option (String Global)) → build_clones.ghosts.is_clone (record { identifier = o }) (record { identifier = r }) → text_of r ≡ text_of o
  step None None h = refl
  step None (Some b) h = absurd h
  step (Some a) None h = absurd h
  step (Some a) (Some b) h = h

-- a clone of a version has its parts
version_clone : (v w : Version) → clones.ghosts.is_clone v w → parts_of w ≡ parts_of v
version_clone v w h = parts_path _ _ _ _ _ _ _ _ _ _ h.0 h.1.0 h.1.1.0 (pre_clone v.pre w.pre h.1.1.1.0) (build_clone v.build w.build h.1.1.1.1)

-- a clone of a list of notes
pub notes_clone : {K : Type 0} (C : K → K → Type 0) (es fs : List (K × Lead K))
    → AllZip (λ (p : K × Lead K) (q : K × Lead K). C p.0 q.0 × (C p.1.0 q.1.0 × clones.ghosts.is_clone p.1.1 q.1.1)) es fs
    → AllZip (λ (p : K × Lead K) (q : K × Lead K). C p.0 q.0 × (C p.1.0 q.1.0 × (parts_of q.1.1 ≡ parts_of p.1.1))) es fs
notes_clone C [] [] z = z
notes_clone C [] (b ∷ fs) z = z
notes_clone C (a ∷ es) [] z = z
notes_clone C (a ∷ es) (b ∷ fs) z = ((z.0.0, (z.0.1.0, version_clone a.1.1 b.1.1 z.0.1.1)), notes_clone C es fs z.1)
