-- What is known while types are followed from name to name.
use Rattle.std.specs.Prelude.{◌≡◌, Box, Contains, List, Option, Some}
use Rattle.std.specs.Borrow.{Bor}
use Rattle.std.specs.declared.alloc.Global.{Global}
use Rattle.wac_wit_refusals_types.specs.Borrows.{HasBorrow, IsSent}
use Rattle.wac_wit_refusals_types.specs.CharStreams.{IsCharType}
use Rattle.wac_wit_refusals_types.specs.Definitions.{BodyPlace, NamesDefinition}
use Rattle.wac_wit_refusals_types.specs.Following.{body_place}
use Rattle.wac_wit_refusals_sites.specs.Judging.{body_syntax}
use Rattle.wac_wit_refusals_sites.specs.Sites.{BodySyntax}
use Rattle.wac_wit_refusals_sites.specs.TypeSites.{HasSignature, HasType, HasTypeExpr, TypedSyntax, a_definition}
use Rattle.wac_wit_refusals_sites.specs.declared.bodies.PlacedBody.{PlacedBody}
use Rattle.wac_wit_refusals_types.specs.declared.definitions.DefinitionSite.{DefinitionSite}
use Rattle.wac_wit_refusals_types.specs.declared.handles.FollowedName.{FollowedName}
use Rattle.wac_wit_refusals_types.specs.declared.type_sites.TypeSite.{TypeSite}
use Rattle.wac_wit_refusals_types.specs.declared.wanted.Wanted.{Wanted}
use Rattle.wac_wit_refusals_types.specs.declared.wanted.Wanted.TheVariants.{Borrow, Char}
use Rattle.wac_wit_scopes.specs.WitSources.{WitSources, ident_text}
use Rattle.wac_wit_syntax.specs.declared.positions.Span.{Span}
use Rattle.wac_wit_syntax.specs.declared.tree.Ident.{Ident}
use Rattle.wac_wit_syntax.specs.declared.tree.Signature.{Signature}
use Rattle.wac_wit_syntax.specs.declared.tree.TypeDef.TheVariants as def
use Rattle.wac_wit_syntax.specs.declared.tree.TypeExpr.{TypeExpr}
use Rattle.wac_wit_syntax.specs.declared.tree.TypeExpr.TheVariants as expr
use Rattle.wac_wit_syntax.specs.declared.tree.TypeItem.{TypeItem}

-- a type that is there has a name
pub record IsTypeOfName (of : WitSources) (b : BodySyntax) (id : Ident) (t : TypeItem) : Type 0 where
  pub has : HasType of b t
  pub named : ident_text t.name ≡ ident_text id

-- a name stands for a definition
abbrev pub IsDefinitionOf : WitSources → FollowedName → DefinitionSite → Type 0
IsDefinitionOf of f d = NamesDefinition of (body_place f.placed) (ident_text f.name.now) (body_place d.placed) d.ty.now.def

-- a type is the name of a definition
pub record IsNameOf (of : WitSources) (t : TypeSite) (d : DefinitionSite) : Type 0 where
  pub name : Ident
  pub is : t.ty.now ≡ expr.Name name
  pub defines : NamesDefinition of (body_place t.placed) (ident_text name) (body_place d.placed) d.ty.now.def

-- one that was there before, or one that is put behind those
pub data IsSitePut (old : List TypeSite) (p : PlacedBody) (E : TypeExpr → Type 0) (t : TypeSite) : Type 0 where
  put_before : Contains old t → IsSitePut old p E t
  put_now : t.placed ≡ p → E t.ty.now → IsSitePut old p E t

abbrev pub AreSitesPut : List TypeSite → PlacedBody → (TypeExpr → Type 0) → List TypeSite → Type 0
AreSitesPut old p E new = (t : TypeSite) → Contains new t → IsSitePut old p E t

abbrev pub IsAmongTypes : List (Bor TypeExpr) → TypeExpr → Type 0
IsAmongTypes es e = (b : Bor TypeExpr) × Contains es b × (b.now ≡ e)

-- a type and all that it is made of
abbrev pub as_alias : TypeExpr → TypedSyntax
as_alias e = a_definition (def.Alias e)

-- what a type is another name of
abbrev pub IsAliased : DefinitionSite → TypeExpr → Type 0
IsAliased d e = d.ty.now.def ≡ def.Alias e

-- it has a borrowed handle in it, or is `char`
abbrev pub HasWanted : WitSources → Wanted → BodyPlace → TypeExpr → Type 0
HasWanted of Borrow = HasBorrow of
HasWanted of Char = IsCharType of

abbrev pub SiteHas : WitSources → Wanted → TypeSite → Type 0
SiteHas of x t = HasWanted of x (body_place t.placed) t.ty.now

abbrev pub AnySite : (TypeSite → Type 0) → List TypeSite → Type 0
AnySite H ts = (t : TypeSite) × Contains ts t × H t

-- where that holds of one that is found, it holds of one of the first
abbrev pub LeadBack : (TypeSite → Type 0) → List TypeSite → List TypeSite → Type 0
LeadBack H first found = (t : TypeSite) → Contains found t → H t → AnySite H first

-- this stays so as others are put behind that a type names
abbrev pub AddsNamed : (TypeSite → Type 0) → TypeSite → List TypeSite → List TypeSite → Type 0
AddsNamed H t old new = (first : List TypeSite) → (H t → AnySite H first) → LeadBack H first old → LeadBack H first new

-- a function returns a borrowed handle
pub record ReturnsBorrow (of : WitSources) (p : PlacedBody) (s : Signature) : Type 0 where
  pub returned : TypeExpr
  pub returns : s.returns ≡ Some returned
  pub borrow : HasBorrow of (body_place p) returned

pub record HasBorrowReturned (of : WitSources) (p : PlacedBody) (span : Span) : Type 0 where
  pub name : Ident
  pub signature : Signature
  pub has : HasSignature of (body_syntax p.body) name signature
  pub is_at : name.span ≡ span
  pub borrow : ReturnsBorrow of p signature

-- the type in a box, if there is one
abbrev pub IsContent : Option (Box TypeExpr Global) → TypeExpr → Type 0
IsContent o e = (b : Box TypeExpr Global) × (o ≡ Some b) × (b.value ≡ e)

abbrev pub IsStreamed : TypeExpr → TypeExpr → Type 0
IsStreamed s e = (b : Box TypeExpr Global) × (s ≡ expr.Stream (Some b)) × (b.value ≡ e)

-- what a stream or a future has, or a stream alone
abbrev pub IsCarried : Wanted → TypeExpr → TypeExpr → Type 0
IsCarried Borrow = IsSent
IsCarried Char = IsStreamed

-- a stream or a future has a borrowed handle, or it is `stream<char>`
pub record Carries (of : WitSources) (x : Wanted) (p : PlacedBody) (e : TypeExpr) : Type 0 where
  pub carried : TypeExpr
  pub carries : IsCarried x e carried
  pub has : HasWanted of x (body_place p) carried

pub record HasCarrier (of : WitSources) (x : Wanted) (p : PlacedBody) (span : Span) : Type 0 where
  pub inside : Ident
  pub expr : TypeExpr
  pub has : HasTypeExpr of (body_syntax p.body) inside expr
  pub is_at : inside.span ≡ span
  pub carries : Carries of x p expr

-- where a type is such a one, that is so at a place
abbrev pub CarriesAt : WitSources → Wanted → PlacedBody → Span → TypeExpr → Type 0
CarriesAt of x p span e = Carries of x p e → HasCarrier of x p span

-- types at a place, of which one that has a borrowed handle, or is `char`, is refused
abbrev pub AreCarriedAt : WitSources → Wanted → PlacedBody → Span → List TypeSite → Type 0
AreCarriedAt of x p span ts = (t : TypeSite) → Contains ts t → SiteHas of x t → HasCarrier of x p span

abbrev pub AddsCarriedAt : WitSources → Wanted → PlacedBody → Span → List TypeSite → List TypeSite → Type 0
AddsCarriedAt of x p span old new = AreCarriedAt of x p span old → AreCarriedAt of x p span new

-- what a type has is put behind them
abbrev pub AddsCarriedBy : WitSources → Wanted → PlacedBody → TypeExpr → List TypeSite → List TypeSite → Type 0
AddsCarriedBy of x p e old new = (span : Span) → CarriesAt of x p span e → AddsCarriedAt of x p span old new
