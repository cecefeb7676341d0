-- What is known while it is looked for what paths lead to.
use Rattle.std.specs.Prelude.{◌≡◌, ℕ, Contains, List, None, Some}
use Rattle.wac_model.specs.Text.{Text}
use Rattle.wac_wit_refusals_sites.specs.Judging.{IsKnownBody, Judges}
use Rattle.wac_wit_refusals_sites.specs.Paths.{LeadsToItem, name_of_item}
use Rattle.wac_wit_refusals.specs.UsedReasons.{GivesTypeName, IsInsideEnabled, IsUsedAt}
use Rattle.wac_wit_refusals_sites.specs.declared.bodies.PlacedBody.{PlacedBody}
use Rattle.wac_wit_refusals_sites.specs.declared.judge.Judge.{Judge}
use Rattle.wac_wit_refusals_sites.specs.declared.paths.PlacedPath.{PlacedPath}
use Rattle.wac_wit_refusals.specs.declared.used.FoundUsed.{FoundUsed}
use Rattle.wac_wit_scopes.specs.Scopes.{scope_syntax}
use Rattle.wac_wit_scopes.specs.WitSources.{IsPackageOf, IsScopeOf, ScopeSyntax, WitSources, given_name, ident_text}
use Rattle.wac_wit_syntax.specs.declared.positions.Span.{Span}
use Rattle.wac_wit_syntax.specs.declared.tree.InterfaceItem.{InterfaceItem}
use Rattle.wac_wit_syntax.specs.declared.tree.Path.{Path}
use Rattle.wac_wit_syntax.specs.declared.tree.TopItem.{TopItem}
use Rattle.wac_wit_syntax.specs.declared.tree.TopItem.TheVariants as top
use Rattle.wac_wit_syntax.specs.declared.tree.TopUse.{TopUse}
use Rattle.wac_wit_syntax.specs.declared.tree.WorldDecl.{WorldDecl}

-- no interface or world has the name
abbrev pub LacksMember : List TopItem → Text → Type 0
LacksMember items n = (t : TopItem) → Contains items t → name_of_item t ≡ Some n → ⊥

-- no package that a path may name has what it names
abbrev pub LeadsNowhere : WitSources → ScopeSyntax → Path → Type 0
LeadsNowhere of w path = (v : ScopeSyntax) → IsScopeOf of v → IsPackageOf of w path.package v.package → LacksMember v.items (ident_text path.name)

-- a used type, whose name stands at a place
abbrev pub IsFoundUsed : WitSources → ℕ → Span → FoundUsed → Type 0
IsFoundUsed of file span u = IsUsedAt of file span u.from.now (ident_text u.name.now)

-- it is used in a body, of which something is known
abbrev pub IsUsedIf : Judge → PlacedBody → Span → Type 0 → FoundUsed → Type 0
IsUsedIf j p span H u = (of : WitSources) → Judges of j → (file : ℕ) → IsKnownBody of file p → H → IsFoundUsed of file span u

-- an item is a `use` that gives a path its name, and leads to a world of another package
pub record GivesForeign (of : WitSources) (p : PlacedPath) (t : TopItem) : Type 0 where
  pub used : TopUse
  pub is : t ≡ top.Use used
  pub gives : given_name used.path.name used.alias ≡ ident_text p.path.now.name
  pub foreign : used.path.package ≡ None → ⊥
  pub to : ScopeSyntax
  pub world : WorldDecl
  pub leads : LeadsToItem of (scope_syntax p.scope) used.path to (top.World world)

-- a type of an interface is hidden
pub record IsTypeHidden (of : WitSources) (is : List InterfaceItem) (n : Text) : Type 0 where
  pub item : InterfaceItem
  pub among : Contains is item
  pub gives : GivesTypeName item n
  pub hidden : (t : InterfaceItem) → Contains is t → GivesTypeName t n → IsInsideEnabled of t → ⊥
