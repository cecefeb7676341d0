-- That names in worlds stand for one thing (WIT.md, "Worlds" and "Union of Worlds with `include`").
use Rattle.std.specs.Prelude.{◌≡◌, ◌⊎◌, List}
use Rattle.wac_model.specs.ItemTree.{ItemTree}
use Rattle.wac_model.specs.Text.{Text}
use Rattle.wac_component.specs.declared.worlds.ExternKind.{ExternKind}
use Rattle.wac_wit_syntax.specs.declared.tree.InterfaceItem.{InterfaceItem}
use Rattle.wac_wit_scopes.specs.WitSources.{ScopeSyntax, WitSources}
use Rattle.wac_wit_validation_types.specs.Denoted.{interface_setting}
use Rattle.wac_wit_validation_types.specs.Interfaces.{IsInterfaceTree}
use Rattle.wac_wit_validation_types.specs.OneMeaning.{HasOneItem}
use Rattle.wac_wit_validation_types.specs.Placed.{PlacedWorld}
use Rattle.wac_wit_validation_types.specs.Worlds.{HasExternOf}

-- one interface denotes both trees, in which each name stands for one item: they are one, but for the order of exports
pub record AreOfOneInterface (of : WitSources) (x y : ItemTree) : Type 0 where
  pub scope : ScopeSyntax
  pub items : List InterfaceItem
  pub one : HasOneItem (interface_setting of scope items)
  pub left : IsInterfaceTree of scope items x
  pub right : IsInterfaceTree of scope items y

abbrev pub IsOneItem : WitSources → ItemTree → ItemTree → Type 0
IsOneItem of x y = (x ≡ y) ⊎ AreOfOneInterface of x y

-- the name of an import, or of an export, of a world stands for one item at most
abbrev pub HasOneExtern : WitSources → PlacedWorld → Type 0
HasOneExtern of w = (k : ExternKind) (n : Text) (x y : ItemTree) → HasExternOf of k w n x → HasExternOf of k w n y → IsOneItem of x y
