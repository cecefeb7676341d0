-- Attributes that don't go with those of what is around them (WIT.md, "Feature Gates").
use Rattle.std.specs.Prelude.{◌≡◌, ◌⊎◌, ℕ, List, Contains, Some, None, Ok, Vec, string_bytes}
use Rattle.std.specs.declared.alloc.Global.{Global}
use Rattle.std.specs.declared.cmp.Ordering.TheVariants.{Greater}
use Rattle.semver.specs.Eval.{precedence_cmp}
use Rattle.semver.specs.Identifiers.{parts_of}
use Rattle.semver.specs.Parse.{version_parts}
use Rattle.semver.specs.declared.Version.{Version}
use Rattle.wac_model.specs.Text.{Text}
use Rattle.wac_wit_scopes.specs.WitSources.{IsEnabled, IsScopeAt, PackageId, ScopeSyntax, WitSources}
use Rattle.wac_wit_syntax.specs.declared.positions.Span.{Span}
use Rattle.wac_wit_syntax.specs.declared.tree.Extern.{Extern}
use Rattle.wac_wit_syntax.specs.declared.tree.Extern.TheVariants as extern
use Rattle.wac_wit_syntax.specs.declared.tree.ExternItem.{ExternItem}
use Rattle.wac_wit_syntax.specs.declared.tree.Gate.{Gate}
use Rattle.wac_wit_syntax.specs.declared.tree.Gates.{Gates}
use Rattle.wac_wit_syntax.specs.declared.tree.Ident.{Ident}
use Rattle.wac_wit_syntax.specs.declared.tree.InterfaceDecl.{InterfaceDecl}
use Rattle.wac_wit_syntax.specs.declared.tree.InterfaceItem.{InterfaceItem}
use Rattle.wac_wit_syntax.specs.declared.tree.InterfaceItem.TheVariants as inside
use Rattle.wac_wit_syntax.specs.declared.tree.Method.{Method}
use Rattle.wac_wit_syntax.specs.declared.tree.Rename.{Rename}
use Rattle.wac_wit_syntax.specs.declared.tree.TopItem.{TopItem}
use Rattle.wac_wit_syntax.specs.declared.tree.TopItem.TheVariants as top
use Rattle.wac_wit_syntax.specs.declared.tree.TypeDef.TheVariants as type_def
use Rattle.wac_wit_syntax.specs.declared.tree.TypeItem.{TypeItem}
use Rattle.wac_wit_syntax.specs.declared.tree.WorldItem.{WorldItem}
use Rattle.wac_wit_syntax.specs.declared.tree.WorldItem.TheVariants as world_item

-- ---- since when an item is there (`@since`), and where its name or its path stands

-- attributes say that, of what stands at this place
pub record SaysSince (g : Gates) (place : Span) (since : Gate) (span : Span) : Type 0 where
  pub says : g.since ≡ Some since
  pub stands : place ≡ span

-- of a type, or of a function of a resource
pub data SinceOfType (t : TypeItem) (since : Gate) (span : Span) : Type 0 where
  of_type : SaysSince t.gates t.name.span since span → SinceOfType t since span
  of_method : (ms : Vec Method Global) (m : Method) → t.def ≡ type_def.Resource ms → Contains ms.items m → SaysSince m.gates m.name.span since span → SinceOfType t since span

-- of an item of an interface
abbrev pub SinceOfItem : InterfaceItem → Gate → Span → Type 0
SinceOfItem (inside.Use u) since span = SaysSince u.gates u.path.span since span
SinceOfItem (inside.Type t) since span = SinceOfType t since span
SinceOfItem (inside.Func f) since span = SaysSince f.gates f.name.span since span

abbrev pub SinceInside : List InterfaceItem → Gate → Span → Type 0
SinceInside is since span = (i : InterfaceItem) × Contains is i × SinceOfItem i since span

abbrev pub extern_span : Extern → Span
extern_span (extern.Path path) = path.span
extern_span (extern.Func name signature) = name.span
extern_span (extern.Inline name is) = name.span
extern_span (extern.Named name path) = path.span

-- of an import or an export, or of an item of the interface that is written there
pub data SinceOfExtern (x : ExternItem) (since : Gate) (span : Span) : Type 0 where
  of_extern : SaysSince x.gates (extern_span x.what) since span → SinceOfExtern x since span
  of_inline : (n : Ident) (is : Vec InterfaceItem Global) → x.what ≡ extern.Inline n is → SinceInside is.items since span → SinceOfExtern x since span

-- of an item of a world
abbrev pub SinceOfWorldItem : WorldItem → Gate → Span → Type 0
SinceOfWorldItem (world_item.Use u) since span = SaysSince u.gates u.path.span since span
SinceOfWorldItem (world_item.Type t) since span = SinceOfType t since span
SinceOfWorldItem (world_item.Include n) since span = SaysSince n.gates n.path.span since span
SinceOfWorldItem (world_item.Import x) since span = SinceOfExtern x since span
SinceOfWorldItem (world_item.Export x) since span = SinceOfExtern x since span

abbrev pub SinceInWorld : List WorldItem → Gate → Span → Type 0
SinceInWorld is since span = (i : WorldItem) × Contains is i × SinceOfWorldItem i since span

-- of an interface or a world, or of an item of it
abbrev pub SinceOfTop : TopItem → Gate → Span → Type 0
SinceOfTop (top.Use u) since span = ⊥
SinceOfTop (top.Interface d) since span = SaysSince d.gates d.name.span since span ⊎ SinceInside d.items.items since span
SinceOfTop (top.World d) since span = SaysSince d.gates d.name.span since span ⊎ SinceInWorld d.items.items since span

abbrev pub SinceIn : List TopItem → Gate → Span → Type 0
SinceIn ts since span = (t : TopItem) × Contains ts t × SinceOfTop t since span

-- an item is there since a version, and the package has none
pub record IsUnversionedIn (w : ScopeSyntax) (span : Span) : Type 0 where
  pub since : Gate
  pub says : SinceIn w.items since span
  pub none : w.package.version ≡ None

pub record IsUnversioned (of : WitSources) (file : ℕ) (span : Span) : Type 0 where
  pub scope : ScopeSyntax
  pub at : IsScopeAt of file scope
  pub unversioned : IsUnversionedIn scope span

-- both are versions of SemVer 2.0.0, and the first is above the second (item 11)
pub record IsVersionAbove (v w : Text) : Type 0 where
  pub above : Version
  pub reads : version_parts v ≡ Ok (parts_of above)
  pub below : Version
  pub other_reads : version_parts w ≡ Ok (parts_of below)
  pub greater : precedence_cmp above below ≡ Greater

-- the version is above that of a package
pub record IsAbovePackage (since : Gate) (p : PackageId) : Type 0 where
  pub version : Text
  pub has : p.version ≡ Some version
  pub above : IsVersionAbove (string_bytes since.text) version

-- an item is there since a version above that of its package
pub record IsYoungerIn (w : ScopeSyntax) (span : Span) : Type 0 where
  pub since : Gate
  pub says : SinceIn w.items since span
  pub above : IsAbovePackage since w.package

pub record IsYounger (of : WitSources) (file : ℕ) (span : Span) : Type 0 where
  pub scope : ScopeSyntax
  pub at : IsScopeAt of file scope
  pub younger : IsYoungerIn scope span

-- ---- types that are there in what isn't

-- the item gives a type, and no feature that is off hides it; at the place stands the type's name
abbrev pub IsTypeThere : WitSources → InterfaceItem → Span → Type 0
IsTypeThere of (inside.Use u) span = IsEnabled of u.gates × ((r : Rename) × Contains u.names.items r × (r.name.span ≡ span))
IsTypeThere of (inside.Type t) span = IsEnabled of t.gates × (t.name.span ≡ span)
IsTypeThere of (inside.Func f) span = ⊥

abbrev pub HasTypeThere : WitSources → List InterfaceItem → Span → Type 0
HasTypeThere of is span = (i : InterfaceItem) × Contains is i × IsTypeThere of i span

-- a type doesn't need the feature that its interface needs, which is off
pub record HasTypeOfHidden (of : WitSources) (ts : List TopItem) (span : Span) : Type 0 where
  pub decl : InterfaceDecl
  pub among : Contains ts (top.Interface decl)
  pub hidden : IsEnabled of decl.gates → ⊥
  pub there : HasTypeThere of decl.items.items span

pub record IsTypeOfHidden (of : WitSources) (file : ℕ) (span : Span) : Type 0 where
  pub scope : ScopeSyntax
  pub at : IsScopeAt of file scope
  pub has : HasTypeOfHidden of scope.items span
