-- Lists of pairs of a text and a value, with distinct texts.
use Rattle.std.specs.Prelude.{◌≡◌, true, List, Option, Some, IsSome, MatchOption}
use Rattle.std.specs.List.{IsDistinct}
use Rattle.std.specs.Map.{keys_of, lookup}
use Rattle.std.specs.Ordering.{is_le}
use Rattle.std.specs.Str.{bytes_eq}
use Rattle.indexmap.specs.IndexMap.{insert_entry}
use Rattle.semver.specs.Parse.{Parts}
use Rattle.wac_model.specs.Text.{Text}
use Rattle.wac_names.specs.Track.{IsCompatible, IsTracked, version_cmp}

module _ {V : Type 0} where
  -- no text stands twice
  abbrev pub HasDistinctTexts : List (Text × V) → Type 0
  HasDistinctTexts ps = IsDistinct bytes_eq (keys_of ps)

  -- the value at a text
  abbrev pub value_at : List (Text × V) → Text → Option V
  value_at ps text = lookup (bytes_eq text) ps

  -- the text is there
  abbrev pub HasText : List (Text × V) → Text → Type 0
  HasText ps text = IsSome (value_at ps text)

  -- with the value at the text: a text that is there keeps its place, and a new one goes last
  abbrev pub with_pair : List (Text × V) → Text → V → List (Text × V)
  with_pair ps text v = insert_entry bytes_eq ps text v

-- on whatever track both stand, the first name's version is not above the second's
abbrev pub IsVersionAtMost : Text → Text → Type 0
IsVersionAtMost s t = (key : Text) (v w : Parts) → IsTracked s key v → IsTracked t key w → is_le (version_cmp v w) ≡ true

-- v is the value at the greatest version among the names that are compatible with this one
pub record IsGreatest {V : Type 0} (ps : List (Text × V)) (name : Text) (v : V) : Type 0 where
  pub text : Text
  pub there : value_at ps text ≡ Some v
  pub compatible : IsCompatible name text
  pub greatest : (other : Text) → HasText ps other → IsCompatible name other → IsVersionAtMost other text

module _ {V : Type 0} where
  -- no name that is there is compatible with this one
  abbrev pub NoneCompatible : List (Text × V) → Text → Type 0
  NoneCompatible ps name = (other : Text) → HasText ps other → IsCompatible name other → ⊥

  -- what is found at a name: the value at the name itself, or else the value at the greatest
  -- version among the compatible names, or else none
  abbrev pub IsFound : List (Text × V) → Text → Option V → Type 0
  IsFound ps name r = MatchOption (value_at ps name) (MatchOption r (NoneCompatible ps name) (IsGreatest ps name)) (λ v. r ≡ Some v)

-- what is found at a name is one value or none
abbrev pub FindsOne : Type 0 → Type 0
FindsOne V = (ps : List (Text × V)) (name : Text) (r q : Option V) → IsFound ps name r → IsFound ps name q → r ≡ q
