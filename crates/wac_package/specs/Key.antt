-- What a package is known by: its name, and its version if it has one (Component Model explainer,
-- "Import and Export Definitions": `pkgname` and `version`).
use Rattle.std.specs.Prelude.{◌≡◌, ◌↔◌, [], ◌∷◌, ◌++◌, ◌==◌, ◌&&◌, Bool, IsTrue, Option, None, Some}
use Rattle.std.specs.Cmp.{IsTotalOrder}
use Rattle.std.specs.Cmp.Lexicographic.{slice_cmp}
use Rattle.std.specs.Hash as fed
use Rattle.std.specs.Option.{option_cmp, option_eq, option_map}
use Rattle.std.specs.Ordering.{nat_cmp, on, then_cmp}
use Rattle.std.specs.Str.{bytes_eq}
use Rattle.std.specs.declared.cmp.Ordering.{Ordering}
use Rattle.std.specs.declared.cmp.Ordering.TheVariants.{Equal}
use Rattle.semver.specs.Identifiers.{parts_of, parts_text}
use Rattle.semver.specs.Parse.{Parts}
use Rattle.wac_model.specs.Text.{Text}
use Rattle.wac_names.specs.Track.{version_cmp}
use Rattle.wac_package.specs.declared.keys.BorrowedPackageKey.{BorrowedPackageKey}

pub record KeyContent : Type 0 where
  pub name : Text
  pub version : Option Parts

-- what a borrowed key stands for
abbrev pub borrowed_content : BorrowedPackageKey → KeyContent
borrowed_content k = record { name = k.name.now; version = option_map (λ v. parts_of v.now) k.version }

-- whether two versions are equal: their numbers, and the texts of their
-- pre-releases and of their build metadata
abbrev pub version_eq : Parts → Parts → Bool
version_eq v w = (v.0 == w.0) && ((v.1 == w.1) && ((v.2 == w.2) && (bytes_eq v.3 w.3 && bytes_eq v.4 w.4)))

-- whether two keys are equal
abbrev pub key_eq : KeyContent → KeyContent → Bool
key_eq j k = bytes_eq j.name k.name && option_eq version_eq j.version k.version

-- the order of keys: by name, byte by byte, and then by version, of which none comes first
abbrev pub key_cmp : KeyContent → KeyContent → Ordering
key_cmp = then_cmp (on (λ (k : KeyContent). k.name) (slice_cmp nat_cmp)) (on (λ (k : KeyContent). k.version) (option_cmp version_cmp))

-- what a version feeds a hasher
abbrev pub version_writes : Parts → fed.HashWrites
version_writes v = fed.u64 v.0 ++ (fed.u64 v.1 ++ (fed.u64 v.2 ++ (fed.str v.3 ++ fed.str v.4)))

-- what a key feeds a hasher
abbrev pub key_writes : KeyContent → fed.HashWrites
key_writes k = fed.str k.name ++ fed.option version_writes k.version

-- the text of a version that may be left out, after an `@`
abbrev pub version_suffix : Option Parts → Text
version_suffix None = []
version_suffix (Some v) = 64 ∷ parts_text v

-- the text of a key: `name`, or `name@version`
abbrev pub key_text : KeyContent → Text
key_text k = k.name ++ version_suffix k.version

-- ---- laws

-- equality of keys is that of their names and versions
abbrev pub KeysAreDecided : Type 0
KeysAreDecided = (j k : KeyContent) → IsTrue (key_eq j k) ↔ (j ≡ k)

-- the order of keys is total, and two keys tie exactly where they are equal
pub record KeysAreOrdered : Type 0 where
  pub total : IsTotalOrder key_cmp
  pub ties : (j k : KeyContent) → (key_cmp j k ≡ Equal) ↔ (j ≡ k)
