-- What an aggregator shows, and what its calls do to it.
use Rattle.std.specs.Prelude.{◌≡◌, ◌≢◌, List, [], ◌∷◌, Option, Some, None, Contains, map}
use Rattle.std.specs.List.{IsDistinct}
use Rattle.std.specs.Map.{keys_of}
use Rattle.std.specs.Str.{bytes_eq}
use Rattle.wac_model.specs.Text.{Text, lookup}
use Rattle.wac_model.specs.ItemTree.{ItemTree}
use Rattle.wac_model.specs.Order.{Fits}
use Rattle.wac_component.specs.Collection.{Collection}
use Rattle.wac_component.specs.Tree.{item_tree}
use Rattle.wac_component.specs.declared.items.ItemKind.{ItemKind}
use Rattle.wac_names.specs.Class.{class_of, class_eq}
use Rattle.wac_aggregator_promises.specs.Answer.{ImportTrees}
use Rattle.wac_aggregator_promises.specs.Call.{Call, call_track, call_tree}
use Rattle.wac_aggregator_promises.specs.Due.{AreImportNames}

-- its collection, its imports in order, and the name that each name leads
-- to: that of an import, or itself
pub record Aggregated : Type 0 where
  pub types : Collection
  pub imports : List (Text × ItemKind)
  pub canonical : Text → Text

-- the import that a name leads to
abbrev pub import_by_name : Aggregated → Text → Option ItemKind
import_by_name a name = lookup bytes_eq a.imports (a.canonical name)

-- the tree of the import on each track
abbrev pub track_imports : Aggregated → ImportTrees
track_imports a t = lookup class_eq (map (λ e. (class_of e.0, item_tree a.types e.1)) a.imports) t

-- the name leads to an import whose tree fits where this one is asked for
pub record LeadsBelow (a : Aggregated) (name : Text) (tree : ItemTree) : Type 0 where
  pub import : ItemKind
  pub is_import : import_by_name a name ≡ Some import
  pub fits : Fits (item_tree a.types import) tree

-- one call: each name that led to an import leads to one that is no wider, the new name to one that
-- fits where the item is asked for, and any other name to itself
pub record IsCallStep (before after : Aggregated) (call : Call) : Type 0 where
  pub kept : (name : Text) (import : ItemKind) → import_by_name before name ≡ Some import → LeadsBelow after name (item_tree before.types import)
  pub served : LeadsBelow after call.name (call_tree call)
  pub others : (name : Text) → import_by_name before name ≡ None → name ≢ call.name → after.canonical name ≡ name

-- calls one after another
pub data AreSteps : Aggregated → List Call → Aggregated → Type 0 where
  rests : {a : Aggregated} → AreSteps a [] a
  goes_on : {a b c : Aggregated} {call : Call} {calls : List Call} → IsCallStep a b call → AreSteps b calls c → AreSteps a (call ∷ calls) c

-- a name leads to one on its track, and the names of no two imports are on one track
pub record IsByTrack (a : Aggregated) : Type 0 where
  pub canonical : (name : Text) → class_of (a.canonical name) ≡ class_of name
  pub one_each : IsDistinct class_eq (map class_of (keys_of a.imports))

-- each handed-in name leads to an import that fits where any item is asked for that
-- was handed in on the name's track
abbrev pub AllAreServed : List Call → Aggregated → Type 0
AllAreServed calls a = (c d : Call) → Contains calls c → Contains calls d → call_track d ≡ call_track c → LeadsBelow a c.name (call_tree d)

-- after an accepted list
pub record IsAggregated (calls : List Call) (a : Aggregated) : Type 0 where
  pub served : AllAreServed calls a
  pub names : AreImportNames calls (keys_of a.imports)
