use Rattle.std.proofs.Common.{◌≡◌, ℕ, ◌<◌, ◌+◌, ◌*◌, Option, Some, slice_get, false}
use Rattle.std.specs.List.{flat_map}
use Rattle.std.specs.Option.{option_to_list}
use Rattle.wac_component.specs.Borrow.{has_borrow}
use Rattle.wac_component.specs.Content.{defined_content, types_of, case_types}
use Rattle.wac_component.specs.Height.{keys_height}
use Rattle.wac_component.specs.Key.{value_keys, defined_keys}
use Rattle.wac_component.specs.Tree.{value_tree}
use Rattle.wac_component.specs.declared.items.ValueType.{ValueType}
use Rattle.wac_component.proofs.AnyBorrow.{any_borrows}
use Rattle.wac_component.proofs.+borrows.Given as goal

abbrev pub decreases-items::ValueType::contains_borrow : goal.decreases-items::ValueType::contains_borrow
decreases-items::ValueType::contains_borrow l = 4 * keys_height l.types.now (value_keys l.self.now)

abbrev pub decreases-defined::DefinedType::contains_borrow : goal.decreases-defined::DefinedType::contains_borrow
decreases-defined::DefinedType::contains_borrow l = 4 * keys_height l.types.now (defined_keys (defined_content l.self.now)) + 3

abbrev pub decreases-borrows::optional_borrows : goal.decreases-borrows::optional_borrows
decreases-borrows::optional_borrows l = 4 * keys_height l.types.now (flat_map value_keys (option_to_list l.ty.now)) + 1

abbrev pub decreases-borrows::items_borrow : goal.decreases-borrows::items_borrow
decreases-borrows::items_borrow l = 4 * keys_height l.types.now (flat_map value_keys l.items.now) + 1

abbrev pub decreases-borrows::fields_borrow : goal.decreases-borrows::fields_borrow
decreases-borrows::fields_borrow l = 4 * keys_height l.types.now (flat_map value_keys (types_of l.fields.now.entries)) + 1

abbrev pub decreases-borrows::cases_borrow : goal.decreases-borrows::cases_borrow
decreases-borrows::cases_borrow l = 4 * keys_height l.types.now (flat_map value_keys (case_types l.cases.now.entries)) + 2

abbrev pub invariant-borrows::items_borrow-loop-i : goal.invariant-borrows::items_borrow-loop-i
invariant-borrows::items_borrow-loop-i l = (k : ℕ) (v : ValueType) → k < l.i → slice_get l.items k ≡ Some v → has_borrow (value_tree l.types v) ≡ false

abbrev pub invariant-borrows::fields_borrow-loop-i : goal.invariant-borrows::fields_borrow-loop-i
invariant-borrows::fields_borrow-loop-i l = (k : ℕ) (v : ValueType) → k < l.i → slice_get (types_of l.fields.entries) k ≡ Some v → has_borrow (value_tree l.types v) ≡ false

abbrev pub invariant-borrows::cases_borrow-loop-i : goal.invariant-borrows::cases_borrow-loop-i
invariant-borrows::cases_borrow-loop-i l = (k : ℕ) (t : Option ValueType) → k < l.i → slice_get (types_of l.cases.entries) k ≡ Some t → any_borrows (value_tree l.types) (option_to_list t) ≡ false
