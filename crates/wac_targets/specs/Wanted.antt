-- What one side wants by name, and what the other side has for it.
use Rattle.std.specs.Prelude.{◌≡◌, List, [], ◌++◌, Some, None}
use Rattle.std.specs.Str.{bytes_eq}
use Rattle.indexmap.specs.IndexMap.{insert_all}
use Rattle.wac_model.specs.Text.{Text}
use Rattle.wac_model.specs.Order.{Fits}
use Rattle.wac_component.specs.Collection.{Collection, WorldContent}
use Rattle.wac_component.specs.Implicit.{implicit_imports}
use Rattle.wac_component.specs.Items.{promoted}
use Rattle.wac_component.specs.Tree.{item_tree}
use Rattle.wac_component.specs.declared.items.ItemKind.{ItemKind}
use Rattle.wac_component.specs.declared.worlds.ExternKind.{ExternKind}
use Rattle.wac_component.specs.declared.worlds.ExternKind.TheVariants.{Import, Export}
use Rattle.wac_names.specs.Pairs.{IsFound, value_at}

-- items under their names
abbrev pub NamedItems : Type 0
NamedItems = List (Text × ItemKind)

-- b is wanted under the name, and nothing is found for it
pub record Lacks (given wanted : NamedItems) (name : Text) (b : ItemKind) : Type 0 where
  pub asked : value_at wanted name ≡ Some b
  pub found : IsFound given name None

-- b is wanted under the name, and a is found for it
pub record Has (given wanted : NamedItems) (name : Text) (a b : ItemKind) : Type 0 where
  pub asked : value_at wanted name ≡ Some b
  pub found : IsFound given name (Some a)

-- all imports of a world: the implicit ones and then its own, where a later one
-- replaces an earlier one of its name
abbrev pub all_imports : Collection → WorldContent → NamedItems
all_imports c w = insert_all bytes_eq [] (implicit_imports c w ++ w.imports)

module _ (c : Collection) (target component : WorldContent) where
  -- what each kind wants: the component its imports, and the target world its exports
  abbrev pub wanted : ExternKind → NamedItems
  wanted Import = component.imports
  wanted Export = target.exports

  -- and what there is for them: the imports of the target world, and the exports of the component
  abbrev pub given : ExternKind → NamedItems
  given Import = all_imports c target
  given Export = component.exports

-- what the target world says of a name is meant as an item of the type that it says there
abbrev pub left_item : ExternKind → ItemKind → ItemKind
left_item Import a = promoted a
left_item Export a = a

abbrev pub right_item : ExternKind → ItemKind → ItemKind
right_item Import b = b
right_item Export b = promoted b

-- what is found fits what is wanted
abbrev pub FitsAs : Collection → ExternKind → ItemKind → ItemKind → Type 0
FitsAs c k a b = Fits (item_tree c (left_item k a)) (item_tree c (right_item k b))
