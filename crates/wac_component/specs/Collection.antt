-- What a collection holds: a number, and six lists of entries.
use Rattle.std.specs.Prelude.{ℕ, List, Option, Bool}
use Rattle.wac_model.specs.Text.{Text}
use Rattle.wac_model.specs.ValueTree.{ValueLabel}
use Rattle.wac_model.specs.CoreTree.{ModuleTree}
use Rattle.wac_component.specs.Id.{Id}
use Rattle.wac_component.specs.declared.items.ValueType.{ValueType}
use Rattle.wac_component.specs.declared.items.ItemKind.{ItemKind}

-- what a defined type says: the type that it is another name of, or its
-- label and its members in order
pub data DefinedContent : Type 0 where
  alias_of : (of : ValueType) → DefinedContent
  composed : (label : ValueLabel) → (members : List ValueType) → DefinedContent

-- what a resource that is another name of one leads to
pub record AliasContent : Type 0 where
  pub owner : Option Id
  pub source : Id

pub record ResourceContent : Type 0 where
  pub name : Text
  pub alias : Option AliasContent

pub record FuncContent : Type 0 where
  pub params : List (Text × ValueType)
  pub «result» : Option ValueType
  pub is_async : Bool

pub record UseContent : Type 0 where
  pub interface : Id
  pub name : Option Text

pub record InterfaceContent : Type 0 where
  pub id : Option Text
  pub uses : List (Text × UseContent)
  pub exports : List (Text × ItemKind)

pub record WorldContent : Type 0 where
  pub id : Option Text
  pub uses : List (Text × UseContent)
  pub imports : List (Text × ItemKind)
  pub exports : List (Text × ItemKind)

pub record Collection : Type 0 where
  pub number : ℕ
  pub defined : List DefinedContent
  pub resources : List ResourceContent
  pub funcs : List FuncContent
  pub interfaces : List InterfaceContent
  pub worlds : List WorldContent
  pub modules : List ModuleTree
