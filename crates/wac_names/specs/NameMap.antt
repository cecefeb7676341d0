-- What a `NameMap` stands for under an interner's function, and what its calls answer.
use Rattle.std.specs.Prelude.{◌≡◌, ◌⊎◌, Bool, true, false, List, Option, Some, None, IsSome, MatchResult, Result, Ok, Err, string_bytes, ⊤}
use Rattle.std.specs.List.{AllZip}
use Rattle.std.specs.Map.{lookup}
use Rattle.std.specs.Ordering.{is_le}
use Rattle.semver.specs.Identifiers.{parts_of}
use Rattle.semver.specs.Parse.{Parts}
use Rattle.semver.specs.declared.Version.{Version}
use Rattle.wac_model.specs.Text.{Text}
use Rattle.wac_names.specs.Track.{HasTrackKey, IsTracked, version_cmp}
use Rattle.wac_names.specs.Interner.{ExtendsInterning, Interning, IsKnown, IsLawful}
use Rattle.wac_names.specs.Pairs.{HasDistinctTexts, HasText}
use Rattle.wac_names.specs.declared.error.NameError.{NameError}
use Rattle.wac_names.specs.declared.error.NameError.TheVariants.{Memory, Twice}
use Rattle.wac_names.specs.declared.name_map.NameMap.{NameMap}

-- what a map notes of a track: the key of the name with the greatest version, and that version
abbrev pub Lead : Type 0 → Type 0
Lead K = K × Version

module _ {K V : Type 0} (f : Interning K) (ps : List (Text × V)) where
  -- this is the greatest version on the track, of the name with this key
  pub record IsLead (track : Text) (lead : Lead K) : Type 0 where
    pub text : Text
    pub there : HasText ps text
    pub key : f text lead.0 ≡ true
    pub tracked : IsTracked text track (parts_of lead.1)
    pub greatest : (other : Text) (w : Parts) → HasText ps other → IsTracked other track w → is_le (version_cmp w (parts_of lead.1)) ≡ true

  -- what is noted of a track: its lead, or nothing where no name is on it
  abbrev pub Notes : Text → Option (Lead K) → Type 0
  Notes track None = (other : Text) (w : Parts) → HasText ps other → IsTracked other track w → ⊥
  Notes track (Some lead) = IsLead track lead

module _ {K V : Type 0} where
  -- the definitions, in order
  abbrev pub definitions : NameMap K V → List (K × V)
  definitions m = m.definitions.entries

  -- the two maps have the same definitions
  abbrev pub SameDefinitions : NameMap K V → NameMap K V → Type 0
  SameDefinitions m n = definitions n ≡ definitions m

  -- these are the keys and values of the pairs, in order
  abbrev pub AreEntriesOf : Interning K → List (Text × V) → List (K × V) → Type 0
  AreEntriesOf f ps es = AllZip (λ (e : K × V) (p : Text × V). (f p.0 e.0 ≡ true) × (e.1 ≡ p.1)) es ps

  -- the value of the pair whose text has this key
  abbrev pub value_with_key : Interning K → List (Text × V) → K → Option V
  value_with_key f ps key = lookup (λ text. f text key) ps

-- the map stands for these pairs under the function f: its definitions are the values at the texts'
-- keys, in order, and for each track it notes the name with the greatest version
pub record Represents {K V : Type 0} (eq : K → K → Bool) (f : Interning K) (m : NameMap K V) (ps : List (Text × V)) : Type 0 where
  pub defined : AreEntriesOf f ps m.definitions.entries
  pub distinct : HasDistinctTexts ps
  pub tracks_known : (text track : Text) (w : Parts) → HasText ps text → IsTracked text track w → IsKnown f track
  pub notes_known : (k : K) → IsSome (lookup (eq k) m.alternate_lookups.entries) → (track : Text) × (f track k ≡ true)
  pub notes : (track : Text) (k : K) → f track k ≡ true → Notes f ps track (lookup (eq k) m.alternate_lookups.entries)

-- ---- what `insert` answers

-- where a name may be new to the interner afterwards: at the name and at its track key
abbrev pub IsNameOrKey : Text → Text → Type 0
IsNameOrKey name text = (text ≡ name) ⊎ HasTrackKey name text

-- the fact, where the answer is that the name is there already
abbrev pub OnTwice : {K : Type 0} → Result K NameError → Type 0 → Type 0
OnTwice (Ok key) P = ⊤
OnTwice (Err (Twice text)) P = P
OnTwice (Err Memory) P = ⊤

-- why `insert` may refuse: a name that is there, where shadowing is not allowed, or a failed
-- allocation
abbrev pub IsRefusalAt : {V : Type 0} → List (Text × V) → Text → Bool → NameError → Type 0
IsRefusalAt ps name allow_shadowing (Twice text) = (allow_shadowing ≡ false) × HasText ps name × (string_bytes text ≡ name)
IsRefusalAt ps name allow_shadowing Memory = ⊤

-- what `insert` answers, memory aside: it refuses exactly a name that is there,
-- where shadowing is not allowed
abbrev pub InsertAnswers : {K V : Type 0} → List (Text × V) → Text → Bool → Result K NameError → Type 0
InsertAnswers ps name allow_shadowing r =
    MatchResult r (λ _. (allow_shadowing ≡ true) ⊎ (HasText ps name → ⊥)) (IsRefusalAt ps name allow_shadowing)

-- ---- clones

-- the texts are the same, and the values are clones by C
abbrev pub ClonesPairs : {V : Type 0} → (V → V → Type 0) → List (Text × V) → List (Text × V) → Type 0
ClonesPairs {V} C ps qs = AllZip (λ (p : Text × V) (q : Text × V). (q.0 ≡ p.0) × C p.1 q.1) ps qs

-- n is a clone of m, where a clone of a key by C equals it: it stands for
-- clones by D of what m stands for
abbrev pub IsNameMapClone : {K V : Type 0} → (K → K → Bool) → (K → K → Type 0) → (V → V → Type 0) → NameMap K V → NameMap K V → Type 0
IsNameMapClone {K} {V} eq C D m n = ((j k : K) → C j k → eq j k ≡ true) → (f : Interning K) (ps : List (Text × V)) → IsLawful eq f → Represents eq f m ps
    → (qs : List (Text × V)) × ClonesPairs D ps qs × Represents eq f n qs

-- ---- laws

-- a map stands for the same pairs where the interner's function has grown
abbrev pub StandsAsInternerGrows : {K V : Type 0} → (K → K → Bool) → NameMap K V → Type 0
StandsAsInternerGrows {K} {V} eq m = (f g : Interning K) (ps : List (Text × V)) → IsLawful eq g → ExtendsInterning f g → Represents eq f m ps → Represents eq g m ps
