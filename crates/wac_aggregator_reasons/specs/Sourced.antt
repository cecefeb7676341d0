-- What of a collection comes from entries of other ones: the sources.
use Rattle.std.specs.Prelude.{◌≡◌, Some}
use Rattle.std.specs.Str.{bytes_eq}
use Rattle.wac_model.specs.Text.{Text, lookup}
use Rattle.wac_model.specs.ItemTree.{ItemTree}
use Rattle.wac_component.specs.Collection.{Collection, UseContent}
use Rattle.wac_component.specs.Key.{Key}
use Rattle.wac_component.specs.Tree.{item_tree}
use Rattle.wac_component.specs.Entries.{HasUse, exports_at}
use Rattle.wac_component.specs.Open.{OpenReaches}
use Rattle.wac_component.specs.declared.items.ItemKind.{ItemKind}
use Rattle.wac_names.specs.Class.{Class}
use Rattle.wac_aggregator_promises.specs.Entries.{IsIdentifiedOn}
use Rattle.wac_aggregator_reasons.specs.Bare.{AreAlwaysApart}

-- an export under the name, in one of these entries, that is always apart from the tree
pub record IsExportApart (P : Collection → Key → Type 0) (name : Text) (tree : ItemTree) : Type 0 where
  pub types : Collection
  pub key : Key
  pub export : ItemKind
  pub of_these : P types key
  pub exported : lookup bytes_eq (exports_at types key) name ≡ Some export
  pub apart : AreAlwaysApart (item_tree types export) tree

-- whatever the tree is always apart from, an export under the name in
-- one of these entries is so too
abbrev pub IsExportFrom : (Collection → Key → Type 0) → Text → ItemTree → Type 0
IsExportFrom P name tree = (other : ItemTree) → AreAlwaysApart tree other → IsExportApart P name other

-- a use under the name in one of these entries has the same `name`, and is of
-- an interface on the same track
pub record IsUseFrom (P : Collection → Key → Type 0) (c : Collection) (name : Text) (u : UseContent) : Type 0 where
  pub types : Collection
  pub key : Key
  pub content : UseContent
  pub of_these : P types key
  pub has : HasUse types key name content
  pub same_name : content.name ≡ u.name
  pub track : Class
  pub source_on : IsIdentifiedOn types content.interface track
  pub is_on : IsIdentifiedOn c u.interface track

-- what the id openly leads to exports and uses only what comes from these entries
pub record IsSourced (P : Collection → Key → Type 0) (c : Collection) (k : Key) : Type 0 where
  pub exports : (t : Key) (name : Text) (x : ItemKind) → OpenReaches c k t → lookup bytes_eq (exports_at c t) name ≡ Some x → IsExportFrom P name (item_tree c x)
  pub uses : (t : Key) (name : Text) (u : UseContent) → OpenReaches c k t → HasUse c t name u → IsUseFrom P c name u
