-- Streams of characters, which have no encoding (explainer, "Type Definitions"; WIT.md, "Types").
use Rattle.std.specs.Prelude.{◌≡◌, ℕ, Box, Some}
use Rattle.std.specs.declared.alloc.Global.{Global}
use Rattle.wac_model.specs.declared.primitive.PrimitiveType.TheVariants.{Char}
use Rattle.wac_wit_refusals_types.specs.Borrows.{place_of_site}
use Rattle.wac_wit_refusals_types.specs.Definitions.{BodyPlace, NamesDefinition}
use Rattle.wac_wit_refusals_sites.specs.TypeSites.{BodyAt, HasTypeExpr}
use Rattle.wac_wit_scopes.specs.WitSources.{WitSources, ident_text}
use Rattle.wac_wit_syntax.specs.declared.positions.Span.{Span}
use Rattle.wac_wit_syntax.specs.declared.tree.Ident.{Ident}
use Rattle.wac_wit_syntax.specs.declared.tree.TypeDef.TheVariants as def
use Rattle.wac_wit_syntax.specs.declared.tree.TypeExpr.{TypeExpr}
use Rattle.wac_wit_syntax.specs.declared.tree.TypeExpr.TheVariants as ty

-- `char`, or another name of it
pub data IsCharType (of : WitSources) : BodyPlace → TypeExpr → Type 0 where
  is_char : (p : BodyPlace) (span : Span) → IsCharType of p (ty.Primitive Char span)
  names_char : (p q : BodyPlace) (id : Ident) (e : TypeExpr) → NamesDefinition of p (ident_text id) q (def.Alias e) → IsCharType of q e → IsCharType of p (ty.Name id)

-- in a type or a function that is there, `stream<char>` is written
pub record IsCharStream (of : WitSources) (file : ℕ) (span : Span) : Type 0 where
  pub site : BodyAt of file
  pub inside : Ident
  pub box : Box TypeExpr Global
  pub has : HasTypeExpr of site.body inside (ty.Stream (Some box))
  pub is_at : inside.span ≡ span
  pub char : IsCharType of (place_of_site of file site) box.value
