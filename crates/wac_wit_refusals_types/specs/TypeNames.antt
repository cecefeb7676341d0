-- What is wrong with the names of types where they are written (WIT.md, "Types", "Item: `use`" and "Feature Gates").
use Rattle.std.specs.Prelude.{◌≡◌, ℕ}
use Rattle.wac_model.specs.Text.{Text}
use Rattle.wac_wit_refusals_sites.specs.Sites.{BodySyntax}
use Rattle.wac_wit_refusals_sites.specs.TypeSites.{BodyAt, HasTypeName, IsTypeGiven}
use Rattle.wac_wit_scopes.specs.WitSources.{IsEnabled, WitSources, ident_text}
use Rattle.wac_wit_syntax.specs.declared.positions.Span.{Span}
use Rattle.wac_wit_syntax.specs.declared.tree.Gates.{Gates}
use Rattle.wac_wit_syntax.specs.declared.tree.Ident.{Ident}

-- nothing gives the name to a type, whether a feature hides it or not. What another world brings that is included has no name here:
-- it comes in when all that is written here is read
abbrev pub IsNotGiven : BodySyntax → Text → Type 0
IsNotGiven b n = (g : Gates) → IsTypeGiven b n g → ⊥

-- a name is given to a type, but by what a feature hides alone
pub record IsGivenHidden (of : WitSources) (b : BodySyntax) (n : Text) : Type 0 where
  pub gates : Gates
  pub given : IsTypeGiven b n gates
  pub hidden : (g : Gates) → IsTypeGiven b n g → IsEnabled of g → ⊥

-- the name of a type that nothing gives
pub record IsUnknownType (of : WitSources) (file : ℕ) (span : Span) : Type 0 where
  pub site : BodyAt of file
  pub inside : Ident
  pub name : Ident
  pub has : HasTypeName of site.body inside name
  pub place : name.span ≡ span
  pub not_given : IsNotGiven site.body (ident_text name)

-- the name of a type that is hidden is written in the type or the function whose name stands at a place
pub record HasHiddenType (of : WitSources) (b : BodySyntax) (span : Span) : Type 0 where
  pub inside : Ident
  pub name : Ident
  pub has : HasTypeName of b inside name
  pub place : inside.span ≡ span
  pub hidden : IsGivenHidden of b (ident_text name)

pub record IsHiddenType (of : WitSources) (file : ℕ) (span : Span) : Type 0 where
  pub site : BodyAt of file
  pub has : HasHiddenType of site.body span
