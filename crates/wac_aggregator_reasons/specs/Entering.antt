-- What enters a collection, or a shared entry of it, from sources.
use Rattle.std.specs.Prelude.{◌≡◌, Some, Contains}
use Rattle.std.specs.Str.{bytes_eq}
use Rattle.wac_model.specs.Text.{Text, lookup}
use Rattle.wac_component.specs.Collection.{Collection, UseContent}
use Rattle.wac_component.specs.Implicit.{HasIdentifier}
use Rattle.wac_component.specs.Key.{Key, Entry, other_keys, interface_key, Each}
use Rattle.wac_component.specs.Tree.{item_tree}
use Rattle.wac_component.specs.Entries.{entry_exports, entry_uses}
use Rattle.wac_component.specs.declared.items.ItemKind.{ItemKind}
use Rattle.wac_names.specs.Class.{class_of}
use Rattle.wac_aggregator_narrowing.specs.State.{State}
use Rattle.wac_aggregator_narrowing.specs.Taking.{IsTakenKey}
use Rattle.wac_aggregator_reasons.specs.Sourced.{IsExportFrom, IsUseFrom, IsSourced}

-- what the entry would export and use comes from these entries, and what it openly names is sourced
pub record IsFromSources (P : Collection → Key → Type 0) (c : Collection) (e : Entry) : Type 0 where
  pub parts : Each (IsSourced P c) (other_keys e)
  pub exports : (name : Text) (x : ItemKind) → lookup bytes_eq (entry_exports e) name ≡ Some x → IsExportFrom P name (item_tree c x)
  pub uses : (name : Text) (u : UseContent) → Contains (entry_uses e) (name, u) → IsUseFrom P c name u

-- a use of what was taken in, with the `name` of a foreign one, which is of
-- an interface with an identifier
pub record IsTakenIdentifiedUse (f : Collection) (s : State) (theirs own : UseContent) : Type 0 where
  pub same_name : own.name ≡ theirs.name
  pub identified : HasIdentifier f theirs.interface
  pub taken : IsTakenKey class_of f s (interface_key theirs.interface) (interface_key own.interface)
