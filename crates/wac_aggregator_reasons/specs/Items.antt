-- Named items that come from sources.
use Rattle.std.specs.Prelude.{◌≡◌, List, Some, Contains}
use Rattle.std.specs.Str.{bytes_eq}
use Rattle.wac_model.specs.Text.{Text, lookup}
use Rattle.wac_component.specs.Collection.{Collection, UseContent}
use Rattle.wac_component.specs.Key.{Key, item_keys, interface_key, Each, Stands, AllStand}
use Rattle.wac_component.specs.Tree.{item_tree}
use Rattle.wac_component.specs.declared.items.ItemKind.{ItemKind}
use Rattle.wac_aggregator_reasons.specs.Sourced.{IsExportFrom, IsUseFrom, IsSourced}

-- the item stands, may be exported under the name, and leads to what comes from sources
pub record IsSourcedItem (P : Collection → Key → Type 0) (c : Collection) (name : Text) (x : ItemKind) : Type 0 where
  pub stands : AllStand c (item_keys x)
  pub export : IsExportFrom P name (item_tree c x)
  pub keys : Each (IsSourced P c) (item_keys x)

-- each item that a name leads to in the list is such
abbrev pub AreSourcedItems : (Collection → Key → Type 0) → Collection → List (Text × ItemKind) → Type 0
AreSourcedItems P c es = (name : Text) (x : ItemKind) → lookup bytes_eq es name ≡ Some x → IsSourcedItem P c name x

-- the used interface stands, the use comes from sources, and so does what the interface leads to
pub record IsSourcedUse (P : Collection → Key → Type 0) (c : Collection) (name : Text) (u : UseContent) : Type 0 where
  pub stands : Stands c (interface_key u.interface)
  pub use_from : IsUseFrom P c name u
  pub key : IsSourced P c (interface_key u.interface)

-- each use of the list is such
abbrev pub AreSourcedUses : (Collection → Key → Type 0) → Collection → List (Text × UseContent) → Type 0
AreSourcedUses P c us = (name : Text) (u : UseContent) → Contains us (name, u) → IsSourcedUse P c name u
