-- The class of a name: what it is compatible with, as a value.
use Rattle.std.specs.Prelude.{◌≡◌, ◌↔◌, ◌==◌, ◌∷◌, ◌++◌, Bool, false, true, IsTrue, Option, Some, None, Result, Ok, Err, ℕ, length, if◌then◌else◌}
use Rattle.std.specs.Fmt.{decimal}
use Rattle.std.specs.Hash as fed
use Rattle.std.specs.List.{after_first, before_first}
use Rattle.std.specs.Str.{bytes_eq}
use Rattle.semver.specs.declared.error.Error.{Error}
use Rattle.semver.specs.Parse.{Parts, version_parts}
use Rattle.wac_model.specs.Text.{Text}
use Rattle.wac_names.specs.Track.{IsCompatible, IsKeyOf}

-- the names on the track with a key, or one name that stands alone
pub data Class : Type 0 where
  on_track : (key : Text) → Class
  alone : (name : Text) → Class

-- whether two classes are one; a name alone is none of a track, also
-- where its text is the track's key
abbrev pub class_eq : Class → Class → Bool
class_eq (on_track k) (on_track l) = bytes_eq k l
class_eq (on_track k) (alone b) = false
class_eq (alone a) (on_track l) = false
class_eq (alone a) (alone b) = bytes_eq a b

-- the class of a track with this key, or of one name alone
abbrev pub class_from : Bool → Text → Class
class_from true key = on_track key
class_from false name = alone name

-- what a class feeds a hasher
abbrev pub class_writes : Class → fed.HashWrites
class_writes (on_track key) = fed.bool true ++ fed.str key
class_writes (alone name) = fed.bool false ++ fed.str name

-- whether a byte is `@`
abbrev pub is_at : ℕ → Bool
is_at b = b == 64

-- the key of a base with a version of these parts
abbrev pub key_of_parts : Text → Parts → Option Text
key_of_parts base p =
    if length p.3 == 0 then
    if p.0 == 0 then
    if p.1 == 0 then None
    else Some (base ++ 64 ∷ 48 ∷ 46 ∷ decimal p.1)
    else Some (base ++ 64 ∷ decimal p.0)
    else None

-- the key of a base with what was read as its version
abbrev pub key_of_version : Text → Result Parts Error → Option Text
key_of_version base (Ok p) = key_of_parts base p
key_of_version base (Err e) = None

-- the track key of a name
abbrev pub class_key : Text → Option Text
class_key name = key_of_version (before_first is_at name) (version_parts (after_first is_at name))

-- the class of a name with this track key
abbrev pub class_with : Text → Option Text → Class
class_with name (Some key) = on_track key
class_with name None = alone name

-- the class of a name
abbrev pub class_of : Text → Class
class_of name = class_with name (class_key name)

-- ---- laws

-- the key of a name is its track key, and no other is
pub record KeysAreTracks : Type 0 where
  pub is_key : (name : Text) → IsKeyOf name (class_key name)
  pub only_key : (name : Text) (key : Option Text) → IsKeyOf name key → key ≡ class_key name

-- names are compatible exactly where their classes are equal
abbrev pub ClassesTellNames : Type 0
ClassesTellNames = (a b : Text) → IsCompatible a b ↔ (class_of a ≡ class_of b)

-- equality of classes is decided
abbrev pub ClassesAreDecided : Type 0
ClassesAreDecided = (c d : Class) → IsTrue (class_eq c d) ↔ (c ≡ d)
