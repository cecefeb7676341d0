-- The interfaces from which a world uses types. It imports them without saying so
-- (WIT, "World syntax", on `use`).
use Rattle.std.specs.Prelude.{◌≡◌, List, [], ◌∷◌, ◌++◌, Option, Some, None, IsSome, MatchResult, map, slice_get, Contains, Result, codes}
use Rattle.std.specs.List.{flat_map}
use Rattle.std.specs.Option.{option_and_then, option_map_or}
use Rattle.std.specs.Str.{bytes_eq}
use Rattle.indexmap.specs.IndexMap.{insert_entry, insert_all}
use Rattle.std.specs.Borrow.{Bor}
use Rattle.wac_model.specs.Text.{Text}
use Rattle.wac_component.specs.Id.{Id}
use Rattle.wac_component.specs.Collection.{Collection, UseContent, WorldContent}
use Rattle.wac_component.specs.declared.items.ItemKind.{ItemKind}
use Rattle.wac_component.specs.declared.items.ItemKind.TheVariants.{Instance}
use Rattle.wac_component.specs.declared.implicit.TargetError.{TargetError}
use Rattle.wac_component.specs.declared.implicit.TargetError.TheVariants.{NoIdentifier, Memory}

-- the interfaces of some uses, in order
abbrev pub used_by : List (Text × UseContent) → List Id
used_by us = map (λ u. u.1.interface) us

-- those that an import uses, where it is an instance
abbrev pub used_by_import : Collection → ItemKind → List Id
used_by_import c (Instance i) = option_map_or (λ e. used_by e.uses) (slice_get c.interfaces i.index) []
used_by_import c k = []

-- the interfaces that a world uses: those of its own uses, and then those that
-- its imports use, one level deep
abbrev pub used_interfaces : Collection → WorldContent → List Id
used_interfaces c w = used_by w.uses ++ flat_map (λ e. used_by_import c e.1) w.imports

-- the identifier of an interface, if it has one
abbrev pub identifier : Collection → Id → Option Text
identifier c i = option_and_then (λ e. e.id) (slice_get c.interfaces i.index)

-- it has one
abbrev pub HasIdentifier : Collection → Id → Type 0
HasIdentifier c i = IsSome (identifier c i)

-- an interface as an instance under its identifier
abbrev pub as_instance : Collection → Id → List (Text × ItemKind)
as_instance c i = option_map_or (λ name. (name, Instance i) ∷ []) (identifier c i) []

-- the used interfaces under their identifiers: one that comes again keeps its
-- place and takes the last interface
abbrev pub implicit_imports : Collection → WorldContent → List (Text × ItemKind)
implicit_imports c w = insert_all bytes_eq [] (flat_map (as_instance c) (used_interfaces c w))

-- why they can't be told: one of these interfaces has no identifier, or an allocation failed
abbrev pub IsUntold : Collection → List Id → TargetError → Type 0
IsUntold c is (NoIdentifier i) = Contains is i × (identifier c i ≡ None)
IsUntold c is Memory = Unit {0}

-- the instances of a map by name
abbrev pub instances : List (Bor Text × ItemKind) → List (Text × ItemKind)
instances es = map (λ e. (e.0.now, e.1)) es

-- one interface more is added under its identifier, or it has none, or an allocation failed
abbrev pub AddsInstance : Collection → List (Text × ItemKind) → Id → Result (Unit {0}) TargetError → List (Text × ItemKind) → Type 0
AddsInstance c es i r es' = MatchResult r (λ u. (name : Text) × (identifier c i ≡ Some name) × (es' ≡ insert_entry bytes_eq es name (Instance i))) (IsUntold c (i ∷ []))

abbrev pub target_error_text : TargetError → Text
target_error_text (NoIdentifier i) = codes "used interface has no identifier"
target_error_text Memory = codes "out of memory"
