-- What a checker asks of two items.
use Rattle.std.specs.Prelude.{◌≡◌}
use Rattle.wac_types.specs.Collection.{Collection}
use Rattle.wac_types.specs.Key.{AllStand, item_keys}
use Rattle.wac_types.specs.declared.ItemKind.{ItemKind}

-- they stand in two collections of different numbers
abbrev pub CanBeAsked : Collection → ItemKind → Collection → ItemKind → Type 0
CanBeAsked c a d b = AllStand c (item_keys a) × AllStand d (item_keys b) × (c.number ≡ d.number → ⊥)
