-- Exports and uses of one name that can't stand in one entry.
use Rattle.std.specs.Prelude.{◌≡◌, ◌≢◌, Some}
use Rattle.std.specs.Str.{bytes_eq}
use Rattle.wac_model.specs.Text.{Text, lookup}
use Rattle.wac_component.specs.Collection.{Collection, UseContent}
use Rattle.wac_component.specs.Key.{Key}
use Rattle.wac_component.specs.Tree.{item_tree}
use Rattle.wac_component.specs.declared.items.ItemKind.{ItemKind}
use Rattle.wac_component.specs.Entries.{HasUse, exports_at}
use Rattle.wac_names.specs.Class.{class_of}
use Rattle.wac_aggregator_promises.specs.Entries.{IsIdentifiedOn}
use Rattle.wac_aggregator_promises.specs.TreeSets.{HaveNoLowerBound}

-- two exports of one name, each in an entry of these, have no common lower bound
pub record ExportsClash (P : Collection → Key → Type 0) : Type 0 where
  pub name : Text
  pub types : Collection
  pub key : Key
  pub export : ItemKind
  pub other_types : Collection
  pub other_key : Key
  pub other_export : ItemKind
  pub of_these : P types key
  pub other_of_these : P other_types other_key
  pub exported : lookup bytes_eq (exports_at types key) name ≡ Some export
  pub other_exported : lookup bytes_eq (exports_at other_types other_key) name ≡ Some other_export
  pub no_bound : HaveNoLowerBound (item_tree types export) (item_tree other_types other_export)

-- two uses under one name, each in an entry of these
pub record TwoUses (P : Collection → Key → Type 0) (name : Text) : Type 0 where
  pub types : Collection
  pub key : Key
  pub content : UseContent
  pub other_types : Collection
  pub other_key : Key
  pub other_content : UseContent
  pub of_these : P types key
  pub other_of_these : P other_types other_key
  pub has : HasUse types key name content
  pub other_has : HasUse other_types other_key name other_content

-- they are of interfaces on the tracks of two names, which aren't compatible
pub record InterfacesClash (P : Collection → Key → Type 0) (name expected found : Text) : Type 0 where
  pub two : TwoUses P name
  pub expected_on : IsIdentifiedOn two.types two.content.interface (class_of expected)
  pub found_on : IsIdentifiedOn two.other_types two.other_content.interface (class_of found)
  pub apart : class_of expected ≢ class_of found

-- they have unequal `name`
pub record NamesClash (P : Collection → Key → Type 0) (name : Text) : Type 0 where
  pub two : TwoUses P name
  pub unequal : two.content.name ≢ two.other_content.name
