-- The defined types that a type refers to, in the order in which it does.
use Rattle.std.specs.Prelude.{◌≡◌, ◌⊎◌, List, [], ◌∷◌, ◌++◌, Option, slice_get, Result, Ok, Err}
use Rattle.std.specs.List.{flat_map}
use Rattle.std.specs.Option.{option_map_or}
use Rattle.std.specs.Fn.{Mut, Called, Takes}
use Rattle.std.specs.Borrow.{Bor}
use Rattle.wac_model.specs.Text.{Text}
use Rattle.wac_component.specs.Id.{Id}
use Rattle.wac_component.specs.Collection.{Collection, DefinedContent, alias_of, composed, FuncContent}
use Rattle.wac_component.specs.Key.{Key, Entry, func_entry, interface_entry, world_entry, func_key, interface_key, world_key}
use Rattle.wac_component.specs.Unfolding.{unfolded}
use Rattle.wac_component.specs.declared.items.ValueType.{ValueType}
use Rattle.wac_component.specs.declared.items.ValueType.TheVariants.{Defined}
use Rattle.wac_component.specs.declared.items.ItemKind.{ItemKind}
use Rattle.wac_component.specs.declared.items.ItemKind.TheVariants.{«Type» as OfType, Func, Instance, Component, Value}
use Rattle.wac_component.specs.declared.items.Type.{«Type» as TypeOf}
use Rattle.wac_component.specs.declared.items.Type.TheVariants.{Func as TypeFunc, Value as TypeValue, Interface as TypeInterface, World as TypeWorld}

-- the defined type that a value type is, if it is one
abbrev pub own_id : ValueType → List Id
own_id (Defined d) = d ∷ []
own_id v = []

-- the same of what is there, if anything is
abbrev pub optional_ids : Option ValueType → List Id
optional_ids t = option_map_or own_id t []

-- those among the parameters of a function in order, then that of its result
abbrev pub func_ids : FuncContent → List Id
func_ids f = flat_map (λ p. own_id p.1) f.params ++ optional_ids f.«result»

-- an import or an export: functions, instances and components are entered, and so are their types
abbrev pub extern_ids : (Key → List Id) → ItemKind → List Id
extern_ids f (OfType (TypeFunc p)) = f (func_key p)
extern_ids f (OfType (TypeValue v)) = own_id v
extern_ids f (OfType (TypeInterface i)) = f (interface_key i)
extern_ids f (OfType (TypeWorld w)) = f (world_key w)
extern_ids f (Func p) = f (func_key p)
extern_ids f (Instance i) = f (interface_key i)
extern_ids f (Component w) = f (world_key w)
extern_ids f (Value v) = own_id v
extern_ids f k = []

-- imports or exports in order
abbrev pub externs_ids : (Key → List Id) → List (Text × ItemKind) → List Id
externs_ids f es = flat_map (λ e. extern_ids f e.1) es

-- an interface gives what its exports do, and a world what its imports and then its exports do
abbrev pub entry_ids : Entry → (Key → List Id) → List Id
entry_ids (func_entry e) f = func_ids e
entry_ids (interface_entry i) f = externs_ids f i.exports
entry_ids (world_entry w) f = externs_ids f w.imports ++ externs_ids f w.exports
entry_ids e f = []

-- the defined types that the entry of a function, an interface or a world refers to
abbrev pub referred : Collection → Key → List Id
referred c k = unfolded [] entry_ids c k

-- the defined types that stand directly in a defined type; one that is another name has none
abbrev pub member_ids : DefinedContent → List Id
member_ids (alias_of of) = []
member_ids (composed label members) = flat_map own_id members

-- what a visit of a type sees: where it starts at a defined type, that
-- and what stands directly in it
abbrev pub visits : Collection → TypeOf → List Id
visits c (TypeFunc f) = referred c (func_key f)
visits c (TypeValue (Defined d)) = d ∷ option_map_or member_ids (slice_get c.defined d.index) []
visits c (TypeInterface i) = referred c (interface_key i)
visits c (TypeWorld w) = referred c (world_key w)
visits c t = []

-- a call of the visitor, on the collection and an id, which answers r and
-- takes it from one state to another
pub record CallsOn {F E : Type 0} (calls : Mut F (Bor Collection × (Id × Unit {0})) (Result (Unit {0}) E)) (c : Collection) (f : F) (id : Id) (r : Result (Unit {0}) E) (g : F) : Type 0 where
  pub shown : Bor Collection
  pub shows : shown.now ≡ c
  pub called : Called calls f (shown, (id, tt)) r g

-- calls on each id in order, up to the first refusal, which is the answer
abbrev pub VisitsEach : {F E : Type 0} → (F → Id → Result (Unit {0}) E → F → Type 0) → F → List Id → Result (Unit {0}) E → F → Type 0
VisitsEach step f [] r g = (r ≡ Ok tt) × (g ≡ f)
VisitsEach {F} {E} step f (x ∷ xs) r g = ((h : F) × step f x (Ok tt) h × VisitsEach step h xs r g) ⊎ ((e : E) × step f x (Err e) g × (r ≡ Err e))

-- the visitor may be called on the collection and each id in order, for as long as it answers Ok
abbrev pub MayVisit : {F E : Type 0} → Mut F (Bor Collection × (Id × Unit {0})) (Result (Unit {0}) E) → Collection → F → List Id → Type 0
MayVisit calls c f [] = Unit {0}
MayVisit {F} {E} calls c f (x ∷ xs) = ((shown : Bor Collection) → shown.now ≡ c → Takes calls f (shown, (x, tt))) × ((g : F) → CallsOn calls c f x (Ok tt) g → MayVisit calls c g xs)
