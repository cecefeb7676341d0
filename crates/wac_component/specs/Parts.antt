-- What an entry names, as code lists it: in places, each of which has an item or none.
use Rattle.std.specs.Prelude.{List, [], ◌∷◌, ◌++◌, Option, Some, map}
use Rattle.std.specs.List.{flat_map}
use Rattle.std.specs.Option.{option_map, option_map_or, option_to_list}
use Rattle.wac_component.specs.Collection.{DefinedContent, alias_of, composed}
use Rattle.wac_component.specs.Content.{types_of}
use Rattle.wac_component.specs.Key.{Key, item_keys}
use Rattle.wac_component.specs.declared.items.ValueType.{ValueType}
use Rattle.wac_component.specs.declared.items.ItemKind.{ItemKind}
use Rattle.wac_component.specs.declared.items.ItemKind.TheVariants.{Instance, Value}
use Rattle.wac_component.specs.declared.parts.Parts.{Parts}
use Rattle.wac_component.specs.declared.parts.Parts.TheVariants.{Pair, Values, Fields, Cases, Uses, Items}

-- the value types that stand directly in a defined type; one that is another name has what it names
abbrev pub members_of : DefinedContent → List ValueType
members_of (alias_of of) = of ∷ []
members_of (composed label members) = members

-- the places in order
abbrev pub places : Parts → List (Option ItemKind)
places (Pair first second) = first ∷ second ∷ []
places (Values types) = map (λ v. Some (Value v)) types.now
places (Fields fields) = map (λ v. Some (Value v)) (types_of fields.now.entries)
places (Cases cases) = map (λ t. option_map Value t) (types_of cases.now.entries)
places (Uses uses) = map (λ u. Some (Instance u.interface)) (types_of uses.now.entries)
places (Items items) = map (λ k. Some k) (types_of items.now.entries)

-- those of three lists, one after another
abbrev pub all_places : Parts × Parts × Parts → List (Option ItemKind)
all_places m = places m.0 ++ (places m.1 ++ places m.2)

-- the items in places
abbrev pub placed : List (Option ItemKind) → List ItemKind
placed ps = flat_map option_to_list ps

-- the ids in the item of a place
abbrev pub place_keys : Option ItemKind → List Key
place_keys p = option_map_or item_keys p []

-- the ids in places
abbrev pub places_keys : List (Option ItemKind) → List Key
places_keys ps = flat_map place_keys ps
