-- What the parts of `NameMap::insert` do to the two maps that it keeps.
use Rattle.std.specs.Prelude.{◌≡◌, ◌⊎◌, Bool, true, false, cond, List, Some, None, IsSome, MatchOption, MatchResult, Result, string_bytes, ⊤}
use Rattle.std.specs.Map.{lookup}
use Rattle.std.specs.Ordering.{is_lt}
use Rattle.indexmap.specs.IndexMap.{insert_entry}
use Rattle.semver.specs.Identifiers.{parts_of}
use Rattle.semver.specs.Parse.{Parts}
use Rattle.wac_model.specs.Text.{Text}
use Rattle.wac_names.specs.Track.{IsTracked, version_cmp}
use Rattle.wac_names.specs.Interner.{Interning}
use Rattle.wac_names.specs.NameMap.{Lead}
use Rattle.wac_names.specs.declared.error.NameError.{NameError}
use Rattle.wac_names.specs.declared.error.NameError.TheVariants.{Memory, Twice}
use Rattle.wac_names.specs.declared.name_map.NameMap.{NameMap}

-- what a call that notes a version on a track may do to the notes: a note that is above it
-- stays, or it takes the track's place
abbrev pub NotesVersion : {K : Type 0} → (K → K → Bool) → List (K × Lead K) → List (K × Lead K) → K → Lead K → Type 0
NotesVersion {K} eq old new track lead =
    ((noted : Lead K) × (lookup (eq track) old ≡ Some noted) × (is_lt (version_cmp (parts_of lead.1) (parts_of noted.1)) ≡ true) × (new ≡ old))
    ⊎ (MatchOption (lookup (eq track) old) ⊤ (λ noted. is_lt (version_cmp (parts_of lead.1) (parts_of noted.1)) ≡ false)
    × ((k : K) → lookup (eq k) new ≡ cond (eq track k) (Some lead) (lookup (eq k) old)))

-- what a call that notes a name may do to the notes, where the name has this key and g is the
-- interner's function afterwards
abbrev pub NotesName : {K : Type 0} → (K → K → Bool) → Interning K → Text → K → List (K × Lead K) → List (K × Lead K) → Type 0
NotesName {K} eq g name key old new =
    (((track : Text) (w : Parts) → IsTracked name track w → ⊥) × (new ≡ old))
    ⊎ ((track : Text) × (at : K) × (lead : Lead K) × IsTracked name track (parts_of lead.1) × (g track at ≡ true) × (eq key lead.0 ≡ true) × NotesVersion eq old new at lead)

-- the definitions and the notes after a name was placed
pub record Places {K V : Type 0} (eq : K → K → Bool) (g : Interning K) (name : Text) (item : V) (old new : NameMap K V) : Type 0 where
  pub key : K
  pub own : g name key ≡ true
  pub placed : new.definitions.entries ≡ insert_entry eq old.definitions.entries key item
  pub noted : NotesName eq g name key old.alternate_lookups.entries new.alternate_lookups.entries

-- the two maps are alike
abbrev pub SameMaps : {K V : Type 0} → NameMap K V → NameMap K V → Type 0
SameMaps m n = (n.definitions.entries ≡ m.definitions.entries) × (n.alternate_lookups.entries ≡ m.alternate_lookups.entries)

-- why a name is not placed, where g is the interner's function afterwards
abbrev pub IsPlaceRefusal : {K V : Type 0} → (K → K → Bool) → Interning K → NameMap K V → Text → Bool → NameError → Type 0
IsPlaceRefusal {K} eq g m name allow_shadowing (Twice text) =
    (allow_shadowing ≡ false) × (string_bytes text ≡ name) × ((key : K) × (g name key ≡ true) × IsSome (lookup (eq key) m.definitions.entries))
IsPlaceRefusal eq g m name allow_shadowing Memory = ⊤

-- what a call that places a name answers
abbrev pub PlaceAnswers : {K V : Type 0} → (K → K → Bool) → Interning K → NameMap K V → Text → Bool → Result K NameError → Type 0
PlaceAnswers {K} eq g m name allow_shadowing r =
    MatchResult r (λ _. (allow_shadowing ≡ true) ⊎ ((key : K) × (g name key ≡ true) × (lookup (eq key) m.definitions.entries ≡ None)))
    (IsPlaceRefusal eq g m name allow_shadowing)
