-- What an entry names stands where all that it names does, and is no higher than the highest.
use Rattle.std.proofs.Common.{◌≡◌, ◌≤◌, ℕ, List, ◌++◌, Some, slice_get, arith}
use Rattle.std.specs.List.{flat_map}
use Rattle.wac_component.specs.Collection.{Collection, InterfaceContent, WorldContent}
use Rattle.wac_component.specs.Key.{Key, Stands, AllStand, value_keys, item_keys, use_keys, named_keys, interface_keys, world_keys}
use Rattle.wac_component.specs.Height.{height, keys_height}
use Rattle.wac_component.specs.declared.items.ValueType.{ValueType}
use Rattle.wac_component.proofs.Keys.{Each-left, Each-right, Each-flat_map_at, largest-append, largest-flat_map_at}

pub AllStand-left : (c : Collection) (xs ys : List Key) → AllStand c (xs ++ ys) → AllStand c xs
AllStand-left c = Each-left (Stands c)

pub AllStand-right : (c : Collection) (xs ys : List Key) → AllStand c (xs ++ ys) → AllStand c ys
AllStand-right c = Each-right (Stands c)

pub AllStand-member : (c : Collection) (vs : List ValueType) (i : ℕ) (v : ValueType) → slice_get vs i ≡ Some v → AllStand c (flat_map value_keys vs) → AllStand c (value_keys v)
AllStand-member c = Each-flat_map_at (Stands c) value_keys

pub keys_height-member : (c : Collection) (vs : List ValueType) (i : ℕ) (v : ValueType) → slice_get vs i ≡ Some v → keys_height c (value_keys v) ≤ keys_height c (flat_map value_keys vs)
keys_height-member c = largest-flat_map_at (height c) value_keys

-- of interfaces and worlds

pub uses_stand : (c : Collection) (e : InterfaceContent) → AllStand c (interface_keys e) → AllStand c (named_keys use_keys e.uses)
uses_stand c e h = AllStand-left c (named_keys use_keys e.uses) (named_keys item_keys e.exports) h

pub exports_stand : (c : Collection) (e : InterfaceContent) → AllStand c (interface_keys e) → AllStand c (named_keys item_keys e.exports)
exports_stand c e h = AllStand-right c (named_keys use_keys e.uses) (named_keys item_keys e.exports) h

pub exports_lower : (c : Collection) (e : InterfaceContent) → keys_height c (named_keys item_keys e.exports) ≤ keys_height c (interface_keys e)
exports_lower c e = omega (arith, largest-append (height c) (named_keys use_keys e.uses) (named_keys item_keys e.exports))

pub world_uses_stand : (c : Collection) (w : WorldContent) → AllStand c (world_keys w) → AllStand c (named_keys use_keys w.uses)
world_uses_stand c w h = AllStand-left c (named_keys use_keys w.uses) (named_keys item_keys w.imports) (AllStand-left c (named_keys use_keys w.uses ++ named_keys item_keys w.imports) (named_keys item_keys w.exports) h)

pub world_imports_stand : (c : Collection) (w : WorldContent) → AllStand c (world_keys w) → AllStand c (named_keys item_keys w.imports)
world_imports_stand c w h = AllStand-right c (named_keys use_keys w.uses) (named_keys item_keys w.imports) (AllStand-left c (named_keys use_keys w.uses ++ named_keys item_keys w.imports) (named_keys item_keys w.exports) h)

pub world_exports_stand : (c : Collection) (w : WorldContent) → AllStand c (world_keys w) → AllStand c (named_keys item_keys w.exports)
world_exports_stand c w h = AllStand-right c (named_keys use_keys w.uses ++ named_keys item_keys w.imports) (named_keys item_keys w.exports) h

pub world_imports_lower : (c : Collection) (w : WorldContent) → keys_height c (named_keys item_keys w.imports) ≤ keys_height c (world_keys w)
world_imports_lower c w = omega (arith, largest-append (height c) (named_keys use_keys w.uses ++ named_keys item_keys w.imports) (named_keys item_keys w.exports), largest-append (height c) (named_keys use_keys w.uses) (named_keys item_keys w.imports))

pub world_exports_lower : (c : Collection) (w : WorldContent) → keys_height c (named_keys item_keys w.exports) ≤ keys_height c (world_keys w)
world_exports_lower c w = omega (arith, largest-append (height c) (named_keys use_keys w.uses ++ named_keys item_keys w.imports) (named_keys item_keys w.exports))
