-- Borrowed handles where they can't stand: in results of functions, and in streams and futures (explainer, "Type Definitions";
-- WIT.md, "Item: `resource`" and "Types").
use Rattle.std.specs.Prelude.{◌≡◌, ℕ, Box, Some}
use Rattle.std.specs.declared.alloc.Global.{Global}
use Rattle.wac_wit_refusals_types.specs.Definitions.{BodyPlace, NamesDefinition}
use Rattle.wac_wit_refusals_sites.specs.TypeSites.{BodyAt, HasSignature, HasTypeExpr, IsPart, IsWritten, a_definition}
use Rattle.wac_wit_scopes.specs.WitSources.{WitSources, ident_text}
use Rattle.wac_wit_syntax.specs.declared.positions.Span.{Span}
use Rattle.wac_wit_syntax.specs.declared.tree.Ident.{Ident}
use Rattle.wac_wit_syntax.specs.declared.tree.Signature.{Signature}
use Rattle.wac_wit_syntax.specs.declared.tree.TypeDef.{TypeDef}
use Rattle.wac_wit_syntax.specs.declared.tree.TypeExpr.{TypeExpr}
use Rattle.wac_wit_syntax.specs.declared.tree.TypeExpr.TheVariants as ty

-- a type has a borrowed handle in it: it is one, or one of its parts has one, or what is written in the definition that it names
pub data HasBorrow (of : WitSources) : BodyPlace → TypeExpr → Type 0 where
  is_borrowed : (p : BodyPlace) (id : Ident) → HasBorrow of p (ty.Borrow id)
  in_part : (p : BodyPlace) (e f : TypeExpr) → IsPart e f → HasBorrow of p f → HasBorrow of p e
  in_definition : (p q : BodyPlace) (id : Ident) (d : TypeDef) (e : TypeExpr) → NamesDefinition of p (ident_text id) q d → IsWritten (a_definition d) e → HasBorrow of q e → HasBorrow of p (ty.Name id)

abbrev pub place_of_site : (of : WitSources) (file : ℕ) → BodyAt of file → BodyPlace
place_of_site of file s = record { scope = s.scope; body = s.body }

-- a function that is there returns a type that has a borrowed handle in it
pub record IsBorrowReturned (of : WitSources) (file : ℕ) (span : Span) : Type 0 where
  pub site : BodyAt of file
  pub name : Ident
  pub signature : Signature
  pub has : HasSignature of site.body name signature
  pub is_at : name.span ≡ span
  pub returned : TypeExpr
  pub returns : signature.returns ≡ Some returned
  pub borrow : HasBorrow of (place_of_site of file site) returned

-- what a stream or a future has
pub data IsSent : TypeExpr → TypeExpr → Type 0 where
  by_stream : (t : Box TypeExpr Global) → IsSent (ty.Stream (Some t)) t.value
  by_future : (t : Box TypeExpr Global) → IsSent (ty.Future (Some t)) t.value

-- in a type or a function that is there, a stream or a future is written that has a borrowed handle in it
pub record IsBorrowSent (of : WitSources) (file : ℕ) (span : Span) : Type 0 where
  pub site : BodyAt of file
  pub inside : Ident
  pub expr : TypeExpr
  pub has : HasTypeExpr of site.body inside expr
  pub is_at : inside.span ≡ span
  pub sent : TypeExpr
  pub sends : IsSent expr sent
  pub borrow : HasBorrow of (place_of_site of file site) sent
