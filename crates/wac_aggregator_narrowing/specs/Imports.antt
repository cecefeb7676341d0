-- What the imports serve.
use Rattle.std.specs.Prelude.{◌≡◌, List, Option, Some}
use Rattle.wac_model.specs.Text.{Text}
use Rattle.wac_model.specs.Order.{Fits}
use Rattle.wac_component.specs.Collection.{Collection}
use Rattle.wac_component.specs.Key.{Key, Each, AllStand, item_keys}
use Rattle.wac_component.specs.Tree.{item_tree}
use Rattle.wac_component.specs.declared.items.ItemKind.{ItemKind}
use Rattle.wac_aggregator_narrowing.specs.Identified.{IsCovered}

-- the import to which each name leads, if one does
abbrev pub NamedImports : Type 0
NamedImports = Text → Option ItemKind

-- each import stands
abbrev pub ImportsStand : Collection → NamedImports → Type 0
ImportsStand c is = (n : Text) (x : ItemKind) → is n ≡ Some x → AllStand c (item_keys x)

-- each openly leads only to shared interfaces
abbrev pub ImportsCovered : Collection → List Key → NamedImports → Type 0
ImportsCovered c ss is = (n : Text) (x : ItemKind) → is n ≡ Some x → Each (IsCovered c ss) (item_keys x)

-- a name that led to an import leads to one still, which fits where the one before was asked for
pub record IsImportFor (d : Collection) (now : Option ItemKind) (c : Collection) (before : ItemKind) : Type 0 where
  pub import : ItemKind
  pub is : now ≡ Some import
  pub fits : Fits (item_tree d import) (item_tree c before)

abbrev pub ImportsFit : Collection → NamedImports → Collection → NamedImports → Type 0
ImportsFit c before d now = (n : Text) (x : ItemKind) → before n ≡ Some x → IsImportFor d (now n) c x

-- the import to which a name leads fits where the item was asked for
abbrev pub IsServed : Collection → NamedImports → Text → Collection → ItemKind → Type 0
IsServed c is n f x = IsImportFor c (is n) f x
