-- Names that may stand once, and stand twice (WIT.md, "Identifiers", "Item: `interface`", "Item: `world`"; explainer, "Name
-- Uniqueness"). Names that differ in the case of letters alone are one, but for those of the functions of a resource.
use Rattle.std.specs.Prelude.{◌≡◌, ℕ, List, Some, Vec, codes, slice_get}
use Rattle.std.specs.declared.alloc.Global.{Global}
use Rattle.wac_wit_refusals_sites.specs.Sites.{BodySyntax, alias_ident, interface_items, world_items}
use Rattle.wac_wit_refusals_sites.specs.TypeSites.{AreOneName, BodyAt, HasMethodAt, HasSignature, HasType, IsTypeAt, IsUseAt}
use Rattle.wac_wit_scopes.specs.WitSources.{IsEnabled, WitSources, ident_text}
use Rattle.wac_wit_syntax.specs.declared.positions.Span.{Span}
use Rattle.wac_wit_syntax.specs.declared.tree.Case.{Case}
use Rattle.wac_wit_syntax.specs.declared.tree.Extern.{Extern}
use Rattle.wac_wit_syntax.specs.declared.tree.Extern.TheVariants as extern
use Rattle.wac_wit_syntax.specs.declared.tree.ExternItem.{ExternItem}
use Rattle.wac_wit_syntax.specs.declared.tree.Field.{Field}
use Rattle.wac_wit_syntax.specs.declared.tree.FuncItem.{FuncItem}
use Rattle.wac_wit_syntax.specs.declared.tree.Ident.{Ident}
use Rattle.wac_wit_syntax.specs.declared.tree.InterfaceItem.{InterfaceItem}
use Rattle.wac_wit_syntax.specs.declared.tree.InterfaceItem.TheVariants as inside
use Rattle.wac_wit_syntax.specs.declared.tree.Method.{Method}
use Rattle.wac_wit_syntax.specs.declared.tree.MethodKind.TheVariants.{Constructor, Method as AMethod}
use Rattle.wac_wit_syntax.specs.declared.tree.Rename.{Rename}
use Rattle.wac_wit_syntax.specs.declared.tree.Signature.{Signature}
use Rattle.wac_wit_syntax.specs.declared.tree.TypeDef.{TypeDef}
use Rattle.wac_wit_syntax.specs.declared.tree.TypeDef.TheVariants as def
use Rattle.wac_wit_syntax.specs.declared.tree.TypeItem.{TypeItem}
use Rattle.wac_wit_syntax.specs.declared.tree.UseItem.{UseItem}
use Rattle.wac_wit_syntax.specs.declared.tree.WorldItem.{WorldItem}
use Rattle.wac_wit_syntax.specs.declared.tree.WorldItem.TheVariants as world_item

-- an import or an export has a name of its own
pub data HasPlainName : Extern → Ident → Type 0 where
  plain_function : (n : Ident) (s : Signature) → HasPlainName (extern.Func n s) n
  plain_interface : (n : Ident) (is : Vec InterfaceItem Global) → HasPlainName (extern.Inline n is) n

-- names of types and functions of an interface, or of types and imports of a world, each with the index of the item that gives it
-- and its index there
pub data TakesName (of : WitSources) (b : BodySyntax) : ℕ → ℕ → Ident → Type 0 where
  a_defined : (i : ℕ) (t : TypeItem) → IsTypeAt b i t → IsEnabled of t.gates → TakesName of b i 0 t.name
  a_used : (i j : ℕ) (u : UseItem) (r : Rename) → IsUseAt b i u → IsEnabled of u.gates → slice_get u.names.items j ≡ Some r → TakesName of b i j (alias_ident r.name r.alias)
  a_function : (is : List InterfaceItem) (i : ℕ) (f : FuncItem) → b ≡ interface_items is → slice_get is i ≡ Some (inside.Func f) → IsEnabled of f.gates → TakesName of b i 0 f.name
  an_imported : (is : List WorldItem) (i : ℕ) (x : ExternItem) (n : Ident) → b ≡ world_items is → slice_get is i ≡ Some (world_item.Import x)
      → IsEnabled of x.gates → HasPlainName x.what n → TakesName of b i 0 n

-- names of exports of a world
pub data TakesExportName (of : WitSources) (b : BodySyntax) : ℕ → ℕ → Ident → Type 0 where
  an_exported : (is : List WorldItem) (i : ℕ) (x : ExternItem) (n : Ident) → b ≡ world_items is → slice_get is i ≡ Some (world_item.Export x)
      → IsEnabled of x.gates → HasPlainName x.what n → TakesExportName of b i 0 n

-- names of fields, and of parameters
pub data TakesFieldName (fs : List Field) : ℕ → ℕ → Ident → Type 0 where
  a_field_name : (i : ℕ) (f : Field) → slice_get fs i ≡ Some f → TakesFieldName fs i 0 f.name

-- names of cases
pub data TakesCaseName (cs : List Case) : ℕ → ℕ → Ident → Type 0 where
  a_case_name : (i : ℕ) (c : Case) → slice_get cs i ≡ Some c → TakesCaseName cs i 0 c.name

-- names of flags, and those of an enum
pub data TakesBareName (ns : List Ident) : ℕ → ℕ → Ident → Type 0 where
  a_bare_name : (i : ℕ) (n : Ident) → slice_get ns i ≡ Some n → TakesBareName ns i 0 n

abbrev pub TakesMemberName : TypeDef → ℕ → ℕ → Ident → Type 0
TakesMemberName (def.Record fs) = TakesFieldName fs.items
TakesMemberName (def.Variant cs) = TakesCaseName cs.items
TakesMemberName (def.Flags ns) = TakesBareName ns.items
TakesMemberName (def.Enum ns) = TakesBareName ns.items
TakesMemberName (def.Alias e) = λ i j n. ⊥
TakesMemberName (def.Resource ms) = λ i j n. ⊥

-- a name stands at a place that stands elsewhere too
pub record IsTakenTwice (Takes : ℕ → ℕ → Ident → Type 0) (span : Span) : Type 0 where
  pub item : ℕ
  pub part : ℕ
  pub name : Ident
  pub takes : Takes item part name
  pub place : name.span ≡ span
  pub other_item : ℕ
  pub other_part : ℕ
  pub other_name : Ident
  pub other_takes : Takes other_item other_part other_name
  pub apart : item ≡ other_item → part ≡ other_part → ⊥
  pub same : AreOneName (ident_text name) (ident_text other_name)

-- two functions of a resource have one name, or both make it
pub record IsMethodTwice (of : WitSources) (b : BodySyntax) (span : Span) : Type 0 where
  pub item : ℕ
  pub part : ℕ
  pub resource : TypeItem
  pub method : Method
  pub has : HasMethodAt of b item part resource method
  pub place : method.name.span ≡ span
  pub other_item : ℕ
  pub other_part : ℕ
  pub other_resource : TypeItem
  pub other_method : Method
  pub has_other : HasMethodAt of b other_item other_part other_resource other_method
  pub apart : item ≡ other_item → part ≡ other_part → ⊥
  pub same_resource : ident_text resource.name ≡ ident_text other_resource.name
  pub same_name : ident_text method.name ≡ ident_text other_method.name
  pub constructs : method.kind ≡ Constructor → other_method.kind ≡ Constructor
  pub other_constructs : other_method.kind ≡ Constructor → method.kind ≡ Constructor

-- a method says the parameter `self`, which it has
pub record IsSelfTwice (of : WitSources) (b : BodySyntax) (span : Span) : Type 0 where
  pub item : ℕ
  pub part : ℕ
  pub resource : TypeItem
  pub method : Method
  pub has : HasMethodAt of b item part resource method
  pub kind : method.kind ≡ AMethod
  pub index : ℕ
  pub param : Field
  pub at : slice_get method.signature.params.items index ≡ Some param
  pub place : param.name.span ≡ span
  pub named : AreOneName (ident_text param.name) (codes "self")

pub data IsTwiceInBody (of : WitSources) (b : BodySyntax) (span : Span) : Type 0 where
  among_items : IsTakenTwice (TakesName of b) span → IsTwiceInBody of b span
  among_exports : IsTakenTwice (TakesExportName of b) span → IsTwiceInBody of b span
  among_members : (t : TypeItem) → HasType of b t → IsTakenTwice (TakesMemberName t.def) span → IsTwiceInBody of b span
  among_params : (n : Ident) (s : Signature) → HasSignature of b n s → IsTakenTwice (TakesFieldName s.params.items) span → IsTwiceInBody of b span
  among_methods : IsMethodTwice of b span → IsTwiceInBody of b span
  beside_self : IsSelfTwice of b span → IsTwiceInBody of b span

pub record IsNameTwice (of : WitSources) (file : ℕ) (span : Span) : Type 0 where
  pub site : BodyAt of file
  pub twice : IsTwiceInBody of site.body span
