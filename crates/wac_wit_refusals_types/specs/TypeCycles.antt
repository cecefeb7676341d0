-- Types that lead to themselves (WIT.md, "Types"; explainer, "Type Definitions": a type stands behind those that it names).
use Rattle.std.specs.Prelude.{◌≡◌, ℕ}
use Rattle.wac_model.specs.Text.{Text}
use Rattle.wac_wit_refusals_sites.specs.Sites.{BodySyntax}
use Rattle.wac_wit_refusals_sites.specs.TypeSites.{BodyAt, HasType, IsTypeName, IsWritten, a_definition}
use Rattle.wac_wit_scopes.specs.WitSources.{WitSources, ident_text}
use Rattle.wac_wit_syntax.specs.declared.positions.Span.{Span}
use Rattle.wac_wit_syntax.specs.declared.tree.Ident.{Ident}
use Rattle.wac_wit_syntax.specs.declared.tree.TypeExpr.{TypeExpr}
use Rattle.wac_wit_syntax.specs.declared.tree.TypeItem.{TypeItem}

-- the definition of a type that is there has the name of a type in it
pub record DefinitionNames (of : WitSources) (b : BodySyntax) (t : TypeItem) (id : Ident) : Type 0 where
  pub has : HasType of b t
  pub expr : TypeExpr
  pub written : IsWritten (a_definition t.def) expr
  pub is : IsTypeName id expr

-- from name to name, in as many steps as it takes
pub data TypeLeadsTo (of : WitSources) (b : BodySyntax) (n : Text) : Text → Type 0 where
  no_step : TypeLeadsTo of b n n
  a_step : (t : TypeItem) (id : Ident) → TypeLeadsTo of b n (ident_text t.name) → DefinitionNames of b t id → TypeLeadsTo of b n (ident_text id)

-- the definition of a type has a name that leads to the type
pub record IsTypeCycle (of : WitSources) (file : ℕ) (span : Span) : Type 0 where
  pub site : BodyAt of file
  pub type_item : TypeItem
  pub name : Ident
  pub names : DefinitionNames of site.body type_item name
  pub place : name.span ≡ span
  pub back : TypeLeadsTo of site.body (ident_text name) (ident_text type_item.name)
