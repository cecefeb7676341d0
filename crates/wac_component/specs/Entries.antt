-- What entries say of identifiers, uses, exports and owners.
use Rattle.std.specs.Prelude.{List, [], Option, None, Contains, slice_get}
use Rattle.std.specs.Option.{option_and_then, option_map_or}
use Rattle.wac_model.specs.Text.{Text}
use Rattle.wac_component.specs.Id.{Id}
use Rattle.wac_component.specs.Collection.{Collection, UseContent}
use Rattle.wac_component.specs.Key.{Key, Entry, interface_entry, world_entry, entry_at}
use Rattle.wac_component.specs.declared.items.ItemKind.{ItemKind}

-- the identifier of an interface; a world's says nothing
abbrev pub entry_identifier : Entry → Option Text
entry_identifier (interface_entry i) = i.id
entry_identifier e = None

abbrev pub identifier_at : Collection → Key → Option Text
identifier_at c k = option_map_or entry_identifier (entry_at c k) None

-- what an entry uses by name, and what it exports, which interfaces and worlds do
abbrev pub entry_uses : Entry → List (Text × UseContent)
entry_uses (interface_entry i) = i.uses
entry_uses (world_entry w) = w.uses
entry_uses e = []

abbrev pub entry_exports : Entry → List (Text × ItemKind)
entry_exports (interface_entry i) = i.exports
entry_exports (world_entry w) = w.exports
entry_exports e = []

abbrev pub uses_at : Collection → Key → List (Text × UseContent)
uses_at c k = option_map_or entry_uses (entry_at c k) []

abbrev pub exports_at : Collection → Key → List (Text × ItemKind)
exports_at c k = option_map_or entry_exports (entry_at c k) []

-- the entry uses this, under the name
abbrev pub HasUse : Collection → Key → Text → UseContent → Type 0
HasUse c k name u = Contains (uses_at c k) (name, u)

-- the interface that owns a resource, if its entry names one
abbrev pub owner_at : Collection → Id → Option Id
owner_at c r = option_and_then (λ e. option_and_then (λ a. a.owner) e.alias) (slice_get c.resources r.index)
