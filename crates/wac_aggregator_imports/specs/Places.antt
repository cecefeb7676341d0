-- Imports in places, some of them empty, and the index that has the place of each class.
use Rattle.std.specs.Prelude.{◌≡◌, ℕ, List, Option, Some, None, slice_index_or}
use Rattle.std.specs.List.{filter_map}
use Rattle.std.specs.Map.{lookup}
use Rattle.std.specs.Option.{option_map}
use Rattle.wac_names.specs.Class.{Class, class_eq, class_of}
use Rattle.wac_aggregator_imports.specs.Import.{ImportContent}

-- the imports that stand in places, in order, each under the class of its name
abbrev pub imports_in : List (Option ImportContent) → List (Class × ImportContent)
imports_in places = filter_map (option_map (λ i. (class_of i.0, i))) places

-- the import in a place, if one stands there
abbrev pub import_in : List (Option ImportContent) → ℕ → Option ImportContent
import_in places k = slice_index_or places k None

-- the index has the place of each import under the class of its name, and nothing else
pub record ArePlaced (places : List (Option ImportContent)) (index : List (Class × ℕ)) : Type 0 where
  pub placed : (c : Class) (k : ℕ) → lookup (class_eq c) index ≡ Some k → (i : ImportContent) × (import_in places k ≡ Some i) × (class_of i.0 ≡ c)
  pub indexed : (k : ℕ) (i : ImportContent) → import_in places k ≡ Some i → lookup (class_eq (class_of i.0)) index ≡ Some k
