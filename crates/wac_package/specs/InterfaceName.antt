-- The names of interfaces (Component Model explainer, "Import and Export
-- Definitions", `interfacename`), with one namespace and no projection, and with a
-- version of SemVer 2.0.0 where there is one.
use Rattle.std.specs.Prelude.{◌≡◌, ◌⊎◌, [], ◌∷◌, ◌++◌, ◌&&◌, ◌||◌, Bool, true, false, List, ℕ, length, nat_lt}
use Rattle.std.specs.Char.{is_ascii_alphabetic, is_ascii_digit, is_ascii_lowercase, is_ascii_uppercase}
use Rattle.std.specs.List.{join_with_byte, list_all}
use Rattle.semver.specs.Parse.{Parts}
use Rattle.wac_model.specs.Text.{Text}
use Rattle.wac_names.specs.Track.{IsVersioned}

-- a byte of a word: a lower-case letter or a digit
abbrev pub is_lowercase_or_digit : ℕ → Bool
is_lowercase_or_digit b = is_ascii_lowercase b || is_ascii_digit b

-- a byte of an acronym: an upper-case letter or a digit
abbrev pub is_acronym_byte : ℕ → Bool
is_acronym_byte b = is_ascii_uppercase b || is_ascii_digit b

-- a part of a label (`fragment`): a word or an acronym, of one byte or more
abbrev pub is_label_fragment : Text → Bool
is_label_fragment part = nat_lt 0 (length part) && (list_all is_lowercase_or_digit part || list_all is_acronym_byte part)

abbrev pub begins_with_letter : Text → Bool
begins_with_letter [] = false
begins_with_letter (b ∷ rest) = is_ascii_alphabetic b

-- a label (`label`): fragments joined by `-`, of which the first begins with a letter
pub record IsLabel (text : Text) : Type 0 where
  pub fragments : List Text
  pub joined : text ≡ join_with_byte 45 fragments
  pub all_fragments : list_all is_label_fragment fragments ≡ true
  pub letter : begins_with_letter text ≡ true

-- `namespace:package/interface`
pub record IsInterfacePath (text : Text) : Type 0 where
  pub namespace : Text
  pub «package» : Text
  pub interface : Text
  pub written : text ≡ namespace ++ 58 ∷ («package» ++ 47 ∷ interface)
  pub namespace_label : IsLabel namespace
  pub package_label : IsLabel «package»
  pub interface_label : IsLabel interface

-- `namespace:package/interface`, or the same with `@` and a version of SemVer 2.0.0 (`version`)
abbrev pub IsInterfaceName : Text → Type 0
IsInterfaceName name = IsInterfacePath name ⊎ ((path : Text) × (parts : Parts) × IsInterfacePath path × IsVersioned name path parts)
