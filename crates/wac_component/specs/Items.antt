-- The type of an item, and the item that a type becomes where one of it is meant.
use Rattle.wac_component.specs.declared.items.ItemKind.{ItemKind}
use Rattle.wac_component.specs.declared.items.ItemKind.TheVariants.{«Type» as OfType, Func, Instance, Component, Module, Value}
use Rattle.wac_component.specs.declared.items.Type.{«Type» as TypeOf}
use Rattle.wac_component.specs.declared.items.Type.TheVariants.{Func as TypeFunc, Value as TypeValue, Interface as TypeInterface, World as TypeWorld, Module as TypeModule}

-- what kind of item it is, as a type
abbrev pub type_of : ItemKind → TypeOf
type_of (OfType t) = t
type_of (Func f) = TypeFunc f
type_of (Instance i) = TypeInterface i
type_of (Component w) = TypeWorld w
type_of (Module m) = TypeModule m
type_of (Value v) = TypeValue v

-- an item of the type, for the type of a function, an interface or a world; all else stays
abbrev pub promoted : ItemKind → ItemKind
promoted (OfType (TypeFunc f)) = Func f
promoted (OfType (TypeInterface i)) = Instance i
promoted (OfType (TypeWorld w)) = Component w
promoted k = k
