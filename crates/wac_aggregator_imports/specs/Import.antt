-- Imports, each under the class of its name, and the names that lead to them.
use Rattle.std.specs.Prelude.{◌≡◌, Bool, true, false, List, Option, Some}
use Rattle.std.specs.List.{IsDistinct}
use Rattle.std.specs.Map.{lookup, update, keys_of}
use Rattle.std.specs.Option.{option_map, option_and_then, option_map_or}
use Rattle.std.specs.Str.{bytes_eq}
use Rattle.std.specs.declared.cmp.Ordering.{Ordering}
use Rattle.std.specs.declared.cmp.Ordering.TheVariants.{Greater}
use Rattle.wac_model.specs.Text.{Text}
use Rattle.wac_component.specs.declared.items.ItemKind.{ItemKind}
use Rattle.wac_names.specs.Class.{Class, class_eq, class_of}
use Rattle.wac_names.specs.Track.{IsVersionOrder}

-- a name, and what is imported under it
abbrev pub ImportContent : Type 0
ImportContent = Text × ItemKind

-- the imports in order, each under a class, and the classes of other names
pub record ImportsContent : Type 0 where
  pub list : List (Class × ImportContent)
  pub led : List (Text × Class)

-- the import of a class, if there is one
abbrev pub import_of : ImportsContent → Class → Option ImportContent
import_of is c = lookup (class_eq c) is.list

-- what is imported on the class of a name
abbrev pub import_at : ImportsContent → Text → Option ItemKind
import_at is n = option_map (λ i. i.1) (import_of is (class_of n))

-- the class to which a name leads, if it leads to another name
abbrev pub led_of : ImportsContent → Text → Option Class
led_of is n = lookup (bytes_eq n) is.led

-- the name of the import to which a name leads, else the name
abbrev pub canonical : ImportsContent → Text → Text
canonical is n = option_map_or (λ i. i.0) (option_and_then (import_of is) (led_of is n)) n

-- the classes are distinct; each import is under the class of its name, and so is each other
-- name, which leads to an import
pub record AreFiled (is : ImportsContent) : Type 0 where
  pub distinct : IsDistinct class_eq (keys_of is.list)
  pub imports : (c : Class) (i : ImportContent) → import_of is c ≡ Some i → class_of i.0 ≡ c
  pub led : (n : Text) (c : Class) → led_of is n ≡ Some c → (class_of n ≡ c) × ((i : ImportContent) × (import_of is c ≡ Some i))

-- the class has this import now, and each other class what it had
abbrev pub PutsImport : ImportsContent → ImportsContent → Class → ImportContent → Type 0
PutsImport before now c i = (q : Class) → import_of now q ≡ update class_eq (import_of before) c (Some i) q

-- the name leads to the class now, and each other name where it led
abbrev pub PutsName : ImportsContent → ImportsContent → Text → Class → Type 0
PutsName before now n c = (x : Text) → led_of now x ≡ update bytes_eq (led_of before) n (Some c) x

-- whether a name has a higher version than another, on one track
pub data IsNewerBy (name than : Text) : Bool → Type 0 where
  newer : IsVersionOrder name than (Some Greater) → IsNewerBy name than true
  not_newer : (o : Option Ordering) → IsVersionOrder name than o → ¬ (o ≡ Some Greater) → IsNewerBy name than false

-- the import named `was` is this item now, for an item handed in under the name: that becomes its
-- name where it has a higher version, and else leads to it
pub data IsImportNoted (before now : ImportsContent) (c : Class) (was name : Text) (k : ItemKind) : Type 0 where
  stays : name ≡ was → PutsImport before now c (was, k) → now.led ≡ before.led → IsImportNoted before now c was name k
  leads : IsNewerBy name was false → PutsImport before now c (was, k) → PutsName before now name c → IsImportNoted before now c was name k
  raises : IsNewerBy name was true → PutsImport before now c (name, k) → PutsName before now was c → IsImportNoted before now c was name k
