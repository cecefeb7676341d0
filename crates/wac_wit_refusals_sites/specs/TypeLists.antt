-- What stands in interfaces and worlds as the program lists it.
use Rattle.std.specs.Prelude.{◌≡◌, ℕ, Contains, List, Option, Some, Box, Vec}
use Rattle.std.specs.Borrow.{Bor}
use Rattle.std.specs.declared.alloc.Global.{Global}
use Rattle.wac_model.specs.Text.{Text}
use Rattle.wac_wit_refusals_sites.specs.Judging.{IsKnownBody, body_syntax}
use Rattle.wac_wit_refusals_sites.specs.Sites.{BodySyntax, HasTypeItemIn, HasUseIn}
use Rattle.wac_wit_refusals_sites.specs.TypeSites.{HasMethodAt, HasSignature, HasType, HasTypeExpr, IsTypeAt, IsTypeName, IsUseAt, IsWritten, TypedSyntax}
use Rattle.wac_wit_refusals_sites.specs.declared.type_items.NamedSignature.{NamedSignature}
use Rattle.wac_wit_refusals_sites.specs.declared.type_items.PlacedMethod.{PlacedMethod}
use Rattle.wac_wit_refusals_sites.specs.declared.type_items.PlacedType.{PlacedType}
use Rattle.wac_wit_refusals_sites.specs.declared.type_items.PlacedUse.{PlacedUse}
use Rattle.wac_wit_refusals_sites.specs.declared.type_parts.PlacedName.{PlacedName}
use Rattle.wac_wit_refusals_sites.specs.declared.type_parts.WrittenType.{WrittenType}
use Rattle.wac_wit_scopes.specs.WitSources.{IsEnabled, WitSources, given_name}
use Rattle.wac_wit_syntax.specs.declared.positions.Span.{Span}
use Rattle.wac_wit_syntax.specs.declared.tree.Case.{Case}
use Rattle.wac_wit_syntax.specs.declared.tree.Field.{Field}
use Rattle.wac_wit_syntax.specs.declared.tree.Ident.{Ident}
use Rattle.wac_wit_syntax.specs.declared.tree.Method.{Method}
use Rattle.wac_wit_syntax.specs.declared.tree.Rename.{Rename}
use Rattle.wac_wit_syntax.specs.declared.tree.TypeDef.TheVariants as def
use Rattle.wac_wit_syntax.specs.declared.tree.TypeExpr.{TypeExpr}
use Rattle.wac_wit_syntax.specs.declared.tree.TypeItem.{TypeItem}
use Rattle.wac_wit_syntax.specs.declared.tree.UseItem.{UseItem}

-- the types that are defined, all of them
pub record ListsType (ts : List PlacedType) (t : TypeItem) : Type 0 where
  pub placed : PlacedType
  pub among : Contains ts placed
  pub is : placed.ty.now ≡ t

pub record AreTypesOf (b : BodySyntax) (ts : List PlacedType) : Type 0 where
  pub at : (p : PlacedType) → Contains ts p → IsTypeAt b p.item p.ty.now
  pub all : (t : TypeItem) → HasTypeItemIn b t → ListsType ts t

-- what uses types, all of it
pub record ListsUse (us : List PlacedUse) (u : UseItem) : Type 0 where
  pub placed : PlacedUse
  pub among : Contains us placed
  pub is : placed.used.now ≡ u

pub record AreUseItemsOf (b : BodySyntax) (us : List PlacedUse) : Type 0 where
  pub at : (p : PlacedUse) → Contains us p → IsUseAt b p.item p.used.now
  pub all : (u : UseItem) → HasUseIn b u → ListsUse us u

-- a type that no feature hides, where it stands
pub record IsPlacedType (of : WitSources) (b : BodySyntax) (p : PlacedType) : Type 0 where
  pub at : IsTypeAt b p.item p.ty.now
  pub there : IsEnabled of p.ty.now.gates

-- types that are there
abbrev pub AreThere : WitSources → BodySyntax → List (Bor TypeItem) → Type 0
AreThere of b ts = (t : Bor TypeItem) → Contains ts t → HasType of b t.now

-- functions of resources
pub record IsResourceAt (of : WitSources) (b : BodySyntax) (p : PlacedType) (ms : List Method) : Type 0 where
  pub at : IsTypeAt b p.item p.ty.now
  pub there : IsEnabled of p.ty.now.gates
  pub methods : Vec Method Global
  pub is : p.ty.now.def ≡ def.Resource methods
  pub same : methods.items ≡ ms

abbrev pub IsPlacedMethod : WitSources → BodySyntax → PlacedMethod → Type 0
IsPlacedMethod of b p = HasMethodAt of b p.item p.part p.resource.now p.method.now

abbrev pub AreMethodsOf : WitSources → BodySyntax → List PlacedMethod → Type 0
AreMethodsOf of b ms = (p : PlacedMethod) → Contains ms p → IsPlacedMethod of b p

abbrev pub AddsMethods : WitSources → BodySyntax → List PlacedMethod → List PlacedMethod → Type 0
AddsMethods of b old new = AreMethodsOf of b old → AreMethodsOf of b new

-- functions
abbrev pub AreSignaturesOf : WitSources → BodySyntax → List NamedSignature → Type 0
AreSignaturesOf of b ss = (s : NamedSignature) → Contains ss s → HasSignature of b s.name.now s.signature.now

abbrev pub AddsSignatures : WitSources → BodySyntax → List NamedSignature → List NamedSignature → Type 0
AddsSignatures of b old new = AreSignaturesOf of b old → AreSignaturesOf of b new

-- types that are written
abbrev pub AreWritten : TypedSyntax → List (Bor TypeExpr) → Type 0
AreWritten s es = (e : Bor TypeExpr) → Contains es e → IsWritten s e.now

abbrev pub AreFieldsIn : TypedSyntax → List Field → Type 0
AreFieldsIn s fs = (f : Field) → Contains fs f → IsWritten s f.ty

abbrev pub AreCasesIn : TypedSyntax → List Case → Type 0
AreCasesIn s cs = (c : Case) → Contains cs c → (e : TypeExpr) → c.ty ≡ Some e → IsWritten s e

abbrev pub AreElementsIn : TypedSyntax → List TypeExpr → Type 0
AreElementsIn s es = (e : TypeExpr) → Contains es e → IsWritten s e

abbrev pub IsOptionalIn : TypedSyntax → Option (Box TypeExpr Global) → Type 0
IsOptionalIn s o = (e : Box TypeExpr Global) → o ≡ Some e → IsWritten s e.value

abbrev pub AreTypeExprsOf : WitSources → BodySyntax → List WrittenType → Type 0
AreTypeExprsOf of b es = (e : WrittenType) → Contains es e → HasTypeExpr of b e.name.now e.ty.now

abbrev pub AddsTypeExprs : WitSources → BodySyntax → List WrittenType → List WrittenType → Type 0
AddsTypeExprs of b old new = AreTypeExprsOf of b old → AreTypeExprsOf of b new

-- the name of a type that is written at a place
pub record IsNameAtPlace (of : WitSources) (file : ℕ) (span : Span) (p : PlacedName) : Type 0 where
  pub known : IsKnownBody of file p.placed
  pub inside : Ident
  pub written : HasTypeExpr of (body_syntax p.placed.body) inside p.ty.now
  pub is : IsTypeName p.name.now p.ty.now
  pub place : p.name.now.span ≡ span

-- names that are given to types
abbrev pub GivesLocalName : UseItem → Text → Type 0
GivesLocalName u n = (r : Rename) × Contains u.names.items r × (given_name r.name r.alias ≡ n)
