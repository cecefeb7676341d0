-- Tracks of names. A name may be `base@version` (Component Model explainer, "Import and
-- Export Definitions"), where the version is one of SemVer 2.0.0; names whose versions are
-- compatible stand on one track.
use Rattle.std.specs.Prelude.{◌≡◌, ◌≢◌, ◌⊎◌, [], ◌∷◌, ◌++◌, Option, Some, None, EachIndex, slice_index}
use Rattle.std.specs.Fmt.{decimal}
use Rattle.std.specs.Ordering.{nat_cmp, on, then_cmp}
use Rattle.std.specs.declared.cmp.Ordering.{Ordering}
use Rattle.std.specs.declared.cmp.Ordering.TheVariants.{Equal}
use Rattle.semver.specs.Grammar.{IsValid}
use Rattle.semver.specs.Identifiers.{parts_text}
use Rattle.semver.specs.Order.{build_cmp, pre_cmp}
use Rattle.semver.specs.Parse.{Parts}
use Rattle.wac_model.specs.Text.{Text}

-- the text has no `@`
abbrev pub HasNoAt : Text → Type 0
HasNoAt text = EachIndex text (λ i. slice_index text i ≢ 64)

-- the name is `base@version`: the version is that of the parts (SemVer 2.0.0, items 2, 9 and 10,
-- with numbers of 64 bits), and the base has no `@`
pub record IsVersioned (name base : Text) (parts : Parts) : Type 0 where
  pub written : name ≡ base ++ 64 ∷ parts_text parts
  pub plain : HasNoAt base
  pub valid : IsValid parts

-- the key of a version with these numbers: `base@major`, or `base@0.minor` where the major number
-- is 0 (SemVer 2.0.0, items 4 and 8: what stays compatible)
abbrev pub IsKeyText : Text → Parts → Text → Type 0
IsKeyText base parts key = ((parts.0 ≢ 0) × (key ≡ base ++ 64 ∷ decimal parts.0))
    ⊎ ((parts.0 ≡ 0) × (parts.1 ≢ 0) × (key ≡ base ++ 64 ∷ 48 ∷ 46 ∷ decimal parts.1))

-- the name has this track key, by a version with these parts and no pre-release
pub record IsTracked (name key : Text) (parts : Parts) : Type 0 where
  pub base : Text
  pub versioned : IsVersioned name base parts
  pub release : parts.3 ≡ []
  pub key_text : IsKeyText base parts key

-- the name has this track key
abbrev pub HasTrackKey : Text → Text → Type 0
HasTrackKey name key = (parts : Parts) × IsTracked name key parts

-- the two names have one track key
abbrev pub SameKey : Text → Text → Type 0
SameKey a b = (key : Text) × HasTrackKey a key × HasTrackKey b key

-- the two names are compatible
abbrev pub IsCompatible : Text → Text → Type 0
IsCompatible a b = (a ≡ b) ⊎ SameKey a b

-- the order of versions: by major, minor and patch, then by pre-release (SemVer 2.0.0, item 11),
-- then by build metadata, which SemVer leaves out and the crate `semver` compares
abbrev pub version_cmp : Parts → Parts → Ordering
version_cmp = then_cmp (on (λ (p : Parts). p.0) nat_cmp) (then_cmp (on (λ (p : Parts). p.1) nat_cmp)
    (then_cmp (on (λ (p : Parts). p.2) nat_cmp) (then_cmp (on (λ (p : Parts). p.3) pre_cmp) (on (λ (p : Parts). p.4) build_cmp))))

-- ---- what a call that reads the track of a name may answer

-- the key is the name's, and with none the name has none
abbrev pub IsKeyOf : Text → Option Text → Type 0
IsKeyOf name (Some key) = HasTrackKey name key
IsKeyOf name None = (key : Text) → HasTrackKey name key → ⊥

-- the two names stand on one track, and the first one's version is ordered so to the second's; with
-- none they stand on no common track
abbrev pub IsVersionOrder : Text → Text → Option Ordering → Type 0
IsVersionOrder a b (Some o) = (key : Text) × (v w : Parts) × IsTracked a key v × IsTracked b key w × (o ≡ version_cmp v w)
IsVersionOrder a b None = SameKey a b → ⊥

-- the name is no `base@version`
abbrev pub HasNoVersion : Text → Type 0
HasNoVersion name = (base : Text) (parts : Parts) → IsVersioned name base parts → ⊥

-- the name's version is three numbers alone
abbrev pub HasPlainVersion : Text → Type 0
HasPlainVersion name = (base : Text) × (parts : Parts) × IsVersioned name base parts × (parts.3 ≡ []) × (parts.4 ≡ [])

-- the name takes no memory to read: it has no `@`, or no version after it, or
-- one that is three numbers alone
abbrev pub IsPlainName : Text → Type 0
IsPlainName name = HasNoAt name ⊎ (HasNoVersion name ⊎ HasPlainVersion name)

-- ---- laws

-- compatibility is an equivalence
pub record IsEquivalenceOfNames : Type 0 where
  pub reflexive : (a : Text) → IsCompatible a a
  pub symmetric : (a b : Text) → IsCompatible a b → IsCompatible b a
  pub transitive : (a b c : Text) → IsCompatible a b → IsCompatible b c → IsCompatible a c

-- a name has one track key at most, and one version
abbrev pub NamesHaveOneTrack : Type 0
NamesHaveOneTrack = (name j k : Text) (v w : Parts) → IsTracked name j v → IsTracked name k w → (j ≡ k) × (v ≡ w)

-- on one track equal versions mean equal names
abbrev pub VersionsTellNames : Type 0
VersionsTellNames = (a b key : Text) (v w : Parts) → IsTracked a key v → IsTracked b key w → version_cmp v w ≡ Equal → a ≡ b

-- the text of a track key has no track key itself
abbrev pub KeysHaveNoKey : Type 0
KeysHaveNoKey = (name key other : Text) → HasTrackKey name key → HasTrackKey key other → ⊥
