-- What is known of exports while they are compared with what is written.
use Rattle.std.specs.Prelude.{◌≡◌, ◌⊎◌, ℕ, true, List, Contains, Some, slice_get, length, Vec}
use Rattle.std.specs.declared.alloc.Global.{Global}
use Rattle.wac_model.specs.ItemTree.{ItemTree}
use Rattle.wac_model.specs.Text.{Text}
use Rattle.wac_model.specs.ValueTree.{FuncTree}
use Rattle.wac_component.specs.Collection.{Collection, InterfaceContent, UseContent}
use Rattle.wac_component.specs.Content.{named}
use Rattle.wac_component.specs.Id.{Id}
use Rattle.wac_component.specs.Tree.{func_tree, item_tree, root_name}
use Rattle.wac_component.specs.declared.items.ItemKind.{ItemKind}
use Rattle.wac_component.specs.declared.items.ItemKind.TheVariants.{Func, «Type» as OfType}
use Rattle.wac_component.specs.declared.items.Type.{«Type» as TypeOf}
use Rattle.wac_wit_validation_types.specs.Origins.{AreUsesOf, ComesFrom, placed_setting, use_at}
use Rattle.wac_wit_validation_types.specs.Placed.{PlacedInterface, placed_identifier}
use Rattle.wac_wit_scopes.specs.WitSources.{WitSources, ScopeSyntax, IsEnabled, HasInterface, PathLeadsTo, ident_text, given_name}
use Rattle.wac_wit_validation_types.specs.Denoted.{Denoted, NamesType, Setting, interface_setting, type_name}
use Rattle.wac_wit_validation_types.specs.Functions.{HasMethod, IsMethodOf, method_name}
use Rattle.wac_wit_validation_types.specs.Interfaces.{HasExportOf}
use Rattle.wac_wit_validation_types.specs.Reading.{IsItemNamed, Renames, StandForTypes, TypesAreNamed}
use Rattle.wac_wit_validation_types.specs.declared.progress.ExportMarks.{ExportMarks}
use Rattle.wac_wit_validation_types.specs.declared.names.NamedTypes.{NamedTypes}
use Rattle.wac_wit_syntax.specs.declared.tree.InterfaceDecl.{InterfaceDecl}
use Rattle.wac_wit_syntax.specs.declared.tree.InterfaceItem.{InterfaceItem}
use Rattle.wac_wit_syntax.specs.declared.tree.InterfaceItem.TheVariants as inside
use Rattle.wac_wit_syntax.specs.declared.tree.Method.{Method}
use Rattle.wac_wit_syntax.specs.declared.tree.Path.{Path}
use Rattle.wac_wit_syntax.specs.declared.tree.Rename.{Rename}
use Rattle.wac_wit_syntax.specs.declared.tree.TypeDef.TheVariants as def
use Rattle.wac_wit_syntax.specs.declared.tree.TypeItem.{TypeItem}

-- the names with their items
abbrev pub named_items : NamedTypes → List (Text × ItemKind)
named_items names = named (λ k. k) names.items.now.entries

-- an item has this name
pub record HasItem (es : List (Text × ItemKind)) (n : Text) : Type 0 where
  pub kind : ItemKind
  pub among : Contains es (n, kind)

-- a type has this name
pub record HasTypeItem (es : List (Text × ItemKind)) (n : Text) : Type 0 where
  pub is : TypeOf
  pub among : Contains es (n, OfType is)

-- a function has this name
pub record HasFuncItem (es : List (Text × ItemKind)) (n : Text) : Type 0 where
  pub id : Id
  pub among : Contains es (n, Func id)

-- what stands at a place is exported under its name, if the names before it stand for what they do
abbrev pub IsExportAt : Setting → Collection → List (Text × ItemKind) → ℕ → Type 0
IsExportAt s c es i = (e : Text × ItemKind) → slice_get es i ≡ Some e → TypesAreNamed s c i es → HasExportOf s e.0 (item_tree c e.1) × IsItemNamed s e.0 c e.1

-- only places of exports were marked
pub record MarksExports (s : Setting) (names : NamedTypes) (old new : ExportMarks) : Type 0 where
  pub even : length new.seen.items ≡ length old.seen.items
  pub marked : (i : ℕ) → slice_get new.seen.items i ≡ Some true → (slice_get old.seen.items i ≡ Some true) ⊎ IsExportAt s names.types.now (named_items names) i

-- a name that is used stands for what it does where it is used from
abbrev pub Brings : Setting → Setting → Rename → Type 0
Brings s from r = (m : Denoted) → NamesType from (ident_text r.name) m → NamesType s (given_name r.name r.alias) m

-- a function of a resource is one of the setting
abbrev pub Gives : Setting → Text → Method → Type 0
Gives s r m = (f : FuncTree) → IsMethodOf s m r f → HasMethod s (method_name m.kind r (ident_text m.name)) f

-- the functions of a resource have exports
abbrev pub HasMethodItem : WitSources → List (Text × ItemKind) → Text → Method → Type 0
HasMethodItem of es r m = IsEnabled of m.gates → HasFuncItem es (method_name m.kind r (ident_text m.name))

abbrev pub HasMethods : WitSources → List (Text × ItemKind) → Text → List Method → Type 0
HasMethods of es r ms = (m : Method) → Contains ms m → HasMethodItem of es r m

-- the functions of a resource have exports, if it is one
abbrev pub HasAllMethods : Setting → List (Text × ItemKind) → TypeItem → Type 0
HasAllMethods s es t = (ms : Vec Method Global) → t.def ≡ def.Resource ms → HasMethods s.sources es (type_name s t) ms.items

-- each name of an item has an export
abbrev pub IsRepresented : Setting → List (Text × ItemKind) → InterfaceItem → Type 0
IsRepresented s es (inside.Use u) = IsEnabled s.sources u.gates → (r : Rename) → Contains u.names.items r → HasTypeItem es (given_name r.name r.alias)
IsRepresented s es (inside.Type t) = IsEnabled s.sources t.gates → HasTypeItem es (ident_text t.name) × HasAllMethods s es t
IsRepresented s es (inside.Func f) = IsEnabled s.sources f.gates → HasItem es (ident_text f.name)

-- exports are those that the setting has
pub record AreExportsOf (s : Setting) (c : Collection) (es : List (Text × ItemKind)) : Type 0 where
  pub named : TypesAreNamed s c (length es) es
  pub each : (e : Text × ItemKind) → Contains es e → HasExportOf s e.0 (item_tree c e.1)
  pub all : (n : Text) (x : ItemTree) → HasExportOf s n x → HasItem es n
  pub types : (n : Text) (m : Denoted) → NamesType s n m → HasTypeItem es n
  pub methods : (n : Text) (g : FuncTree) → HasMethod s n g → HasFuncItem es n

-- an entry is that of an interface
pub record IsInterfaceEntry (of : WitSources) (c : Collection) (i : PlacedInterface) (e : InterfaceContent) : Type 0 where
  pub identified : e.id ≡ Some (placed_identifier i)
  pub uses : AreUsesOf c (placed_setting of i) e.uses
  pub exports : AreExportsOf (placed_setting of i) c e.exports

-- what is said of a name: it comes from an interface, whose entry is the one that is said
pub record HasOrigin (c : Collection) (s : Setting) (n : Text) (u : UseContent) : Type 0 where
  pub interface : PlacedInterface
  pub from : ComesFrom s n interface
  pub entry : InterfaceContent
  pub at : slice_get c.interfaces u.interface.index ≡ Some entry
  pub is : IsInterfaceEntry s.sources c interface entry

abbrev pub HaveOrigins : Collection → Setting → List (Text × UseContent) → Type 0
HaveOrigins c s us = (n : Text) (u : UseContent) → use_at us n ≡ Some u → HasOrigin c s n u

-- the names are those of an interface that a path leads to
pub record AreNamesAt (s : Setting) (path : Path) (names : NamedTypes) : Type 0 where
  pub scope : ScopeSyntax
  pub name : Text
  pub decl : InterfaceDecl
  pub leads : PathLeadsTo s.sources s.scope path scope name
  pub has : HasInterface s.sources scope name decl
  pub named : TypesAreNamed (interface_setting s.sources scope decl.items.items) names.types.now names.limit (named_items names)

-- the item is one of the setting's
abbrev pub Offers : Setting → InterfaceItem → Type 0
Offers s (inside.Use u) = Contains s.uses u
Offers s (inside.Type t) = Contains s.types t
Offers s (inside.Func f) = Contains s.funcs f

-- the functions of a resource are the setting's
abbrev pub OffersMethod : Setting → Text → Method → Type 0
OffersMethod s r m = IsEnabled s.sources m.gates → Gives s r m

abbrev pub OffersMethods : Setting → Text → List Method → Type 0
OffersMethods s r ms = (m : Method) → Contains ms m → OffersMethod s r m

-- the item is a function of which this holds
pub record IsFuncItem (c : Collection) (kind : ItemKind) (P : FuncTree → Type 0) : Type 0 where
  pub id : Id
  pub is : kind ≡ Func id
  pub holds : P (func_tree c id)

-- in a setting that has the type, exports alone were marked
abbrev pub MarksDefined : Setting → NamedTypes → TypeItem → ExportMarks → ExportMarks → Type 0
MarksDefined s names t old new = Renames names s.renames → Contains s.types t → IsEnabled s.sources t.gates → MarksExports s names old new

-- the name at the root of a resource
abbrev pub HasRootName : NamedTypes → Id → Text → Type 0
HasRootName names r n = root_name names.types.now r ≡ n

-- both names are those of one collection
abbrev pub HaveOneCollection : NamedTypes → NamedTypes → Type 0
HaveOneCollection names others = names.types.now ≡ others.types.now

-- all of the names bring what they stand for where they are used from
abbrev pub BringsAll : Setting → Setting → List Rename → Type 0
BringsAll s from rs = (r : Rename) → Contains rs r → Brings s from r

-- in a setting to which names are brought from another one, exports alone were marked
abbrev pub MarksBrought : NamedTypes → NamedTypes → (Setting → Setting → Type 0) → ExportMarks → ExportMarks → Type 0
MarksBrought names others Brought old new =
    HaveOneCollection names others → (s from : Setting) → StandForTypes others from → Brought s from → MarksExports s names old new

-- an item is a function of which this holds, if the names before it stand for what they do
abbrev pub IsFuncBehind : Setting → NamedTypes → ℕ → ItemKind → (FuncTree → Type 0) → Type 0
IsFuncBehind s names i kind P = TypesAreNamed s names.types.now i (named_items names) → IsFuncItem names.types.now kind P
