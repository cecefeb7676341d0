-- What is known while types and their names are looked at.
use Rattle.std.specs.Prelude.{◌≡◌, ℕ, Contains, List, Some, codes, slice_get}
use Rattle.std.specs.Borrow.{Bor}
use Rattle.wac_model.specs.Text.{Text}
use Rattle.wac_wit_refusals_sites.specs.Sites.{BodySyntax}
use Rattle.wac_wit_refusals_types.specs.NamesTwice.{IsTakenTwice, TakesFieldName, TakesMemberName, TakesName}
use Rattle.wac_wit_refusals_types.specs.TypeCycles.{TypeLeadsTo}
use Rattle.wac_wit_refusals_sites.specs.TypeSites.{AreOneName, HasSignature, HasType, IsTypeName, IsUseAt, IsWritten, a_definition}
use Rattle.wac_wit_refusals_types.specs.declared.taken_names.TakenName.{TakenName}
use Rattle.wac_wit_refusals_sites.specs.declared.type_items.PlacedMethod.{PlacedMethod}
use Rattle.wac_wit_refusals_sites.specs.declared.type_items.PlacedType.{PlacedType}
use Rattle.wac_wit_refusals_sites.specs.declared.type_items.PlacedUse.{PlacedUse}
use Rattle.wac_wit_scopes.specs.WitSources.{IsEnabled, WitSources, ident_text}
use Rattle.wac_wit_syntax.specs.declared.positions.Span.{Span}
use Rattle.wac_wit_syntax.specs.declared.tree.Field.{Field}
use Rattle.wac_wit_syntax.specs.declared.tree.Ident.{Ident}
use Rattle.wac_wit_syntax.specs.declared.tree.MethodKind.TheVariants.{Constructor}
use Rattle.wac_wit_syntax.specs.declared.tree.Rename.{Rename}
use Rattle.wac_wit_syntax.specs.declared.tree.Signature.{Signature}
use Rattle.wac_wit_syntax.specs.declared.tree.TypeDef.{TypeDef}
use Rattle.wac_wit_syntax.specs.declared.tree.TypeExpr.{TypeExpr}
use Rattle.wac_wit_syntax.specs.declared.tree.TypeItem.{TypeItem}
use Rattle.wac_wit_syntax.specs.declared.tree.UseItem.{UseItem}
use Rattle.wac_wit_refusals_sites.specs.TypeLists.{GivesLocalName}

-- names that may stand once
abbrev pub AreTaken : (ℕ → ℕ → Ident → Type 0) → List TakenName → Type 0
AreTaken Takes ns = (n : TakenName) → Contains ns n → Takes n.item n.part n.name.now

abbrev pub AddsItemNames : WitSources → BodySyntax → List TakenName → List TakenName → Type 0
AddsItemNames of b old new = AreTaken (TakesName of b) old → AreTaken (TakesName of b) new

-- a definition has the name of a type in it
pub record DefinitionHas (d : TypeDef) (id : Ident) : Type 0 where
  pub expr : TypeExpr
  pub written : IsWritten (a_definition d) expr
  pub is : IsTypeName id expr

-- and it stands at a place
pub record HasNameAtPlace (d : TypeDef) (n : Text) (span : Span) : Type 0 where
  pub name : Ident
  pub has : DefinitionHas d name
  pub named : ident_text name ≡ n
  pub place : name.span ≡ span

-- where names lead
abbrev pub AreNamesLedTo : WitSources → BodySyntax → Text → List (Bor Ident) → Type 0
AreNamesLedTo of b n ids = (id : Bor Ident) → Contains ids id → TypeLeadsTo of b n (ident_text id.now)

abbrev pub LeadsToNamesIn : WitSources → BodySyntax → Text → TypeDef → Type 0
LeadsToNamesIn of b n d = (id : Ident) → DefinitionHas d id → TypeLeadsTo of b n (ident_text id)

pub record LeadsBackIn (of : WitSources) (b : BodySyntax) (n : Text) (span : Span) : Type 0 where
  pub type_item : TypeItem
  pub has : HasType of b type_item
  pub names : HasNameAtPlace type_item.def n span
  pub leads : TypeLeadsTo of b n (ident_text type_item.name)

abbrev pub NoTypeGives : List PlacedType → Text → Type 0
NoTypeGives ts n = (p : PlacedType) → Contains ts p → ident_text p.ty.now.name ≡ n → ⊥

abbrev pub NoUseGives : List PlacedUse → Text → Type 0
NoUseGives us n = (p : PlacedUse) → Contains us p → GivesLocalName p.used.now n → ⊥

abbrev pub NoTypeThere : WitSources → List PlacedType → Text → Type 0
NoTypeThere of ts n = (p : PlacedType) → Contains ts p → ident_text p.ty.now.name ≡ n → IsEnabled of p.ty.now.gates → ⊥

abbrev pub NoUseThere : WitSources → List PlacedUse → Text → Type 0
NoUseThere of us n = (p : PlacedUse) → Contains us p → GivesLocalName p.used.now n → IsEnabled of p.used.now.gates → ⊥

-- something among them gives the name
pub data IsGivenAmong (ts : List PlacedType) (us : List PlacedUse) (n : Text) : Type 0 where
  type_gives : (p : PlacedType) → Contains ts p → ident_text p.ty.now.name ≡ n → IsGivenAmong ts us n
  use_gives : (p : PlacedUse) → Contains us p → GivesLocalName p.used.now n → IsGivenAmong ts us n

pub record IsNotThere (of : WitSources) (ts : List PlacedType) (us : List PlacedUse) (n : Text) : Type 0 where
  pub given : IsGivenAmong ts us n
  pub no_type : NoTypeThere of ts n
  pub no_use : NoUseThere of us n

-- names that stand twice among those that are listed
pub record AreTwice (n m : TakenName) : Type 0 where
  pub apart : n.item ≡ m.item → n.part ≡ m.part → ⊥
  pub same : AreOneName (ident_text n.name.now) (ident_text m.name.now)

pub record IsTakenAgain (ns : List TakenName) (n : TakenName) : Type 0 where
  pub other : TakenName
  pub among : Contains ns other
  pub twice : AreTwice n other

pub record StandsTwice (ns : List TakenName) (span : Span) : Type 0 where
  pub taken : TakenName
  pub among : Contains ns taken
  pub place : taken.name.now.span ≡ span
  pub again : IsTakenAgain ns taken

-- names that an item uses, which no feature hides
pub record IsUsedThere (of : WitSources) (b : BodySyntax) (item : ℕ) (rs : List Rename) : Type 0 where
  pub used : UseItem
  pub at : IsUseAt b item used
  pub there : IsEnabled of used.gates
  pub same : used.names.items ≡ rs

pub record HasMemberTwice (of : WitSources) (b : BodySyntax) (span : Span) : Type 0 where
  pub type_item : TypeItem
  pub has : HasType of b type_item
  pub twice : IsTakenTwice (TakesMemberName type_item.def) span

pub record HasParamTwice (of : WitSources) (b : BodySyntax) (span : Span) : Type 0 where
  pub name : Ident
  pub signature : Signature
  pub has : HasSignature of b name signature
  pub twice : IsTakenTwice (TakesFieldName signature.params.items) span

-- functions of resources that are listed, and have one name
pub record HaveOneMethodName (p q : PlacedMethod) : Type 0 where
  pub resource : ident_text p.resource.now.name ≡ ident_text q.resource.now.name
  pub name : ident_text p.method.now.name ≡ ident_text q.method.now.name

pub record MakeAlike (p q : PlacedMethod) : Type 0 where
  pub constructs : p.method.now.kind ≡ Constructor → q.method.now.kind ≡ Constructor
  pub other_constructs : q.method.now.kind ≡ Constructor → p.method.now.kind ≡ Constructor

pub record AreOneMethod (p q : PlacedMethod) : Type 0 where
  pub named : HaveOneMethodName p q
  pub alike : MakeAlike p q

pub record AreMethodsTwice (p q : PlacedMethod) : Type 0 where
  pub apart : p.item ≡ q.item → p.part ≡ q.part → ⊥
  pub one : AreOneMethod p q

pub record IsMethodAgain (ms : List PlacedMethod) (p : PlacedMethod) : Type 0 where
  pub other : PlacedMethod
  pub among : Contains ms other
  pub twice : AreMethodsTwice p other

-- a parameter `self` that is said
pub record SaysSelfAt (fs : List Field) (span : Span) : Type 0 where
  pub index : ℕ
  pub param : Field
  pub at : slice_get fs index ≡ Some param
  pub place : param.name.span ≡ span
  pub named : AreOneName (ident_text param.name) (codes "self")
