-- Imports and exports that aren't supported (WIT.md, "Item: `world`").
use Rattle.std.specs.Prelude.{◌≡◌, ℕ, List, Contains}
use Rattle.wac_wit_refusals_sites.specs.Sites.{HasExternIn}
use Rattle.wac_wit_scopes.specs.WitSources.{IsEnabled, IsScopeAt, ScopeSyntax, WitSources}
use Rattle.wac_wit_syntax.specs.declared.positions.Span.{Span}
use Rattle.wac_wit_syntax.specs.declared.tree.Extern.TheVariants as extern
use Rattle.wac_wit_syntax.specs.declared.tree.ExternItem.{ExternItem}
use Rattle.wac_wit_syntax.specs.declared.tree.Ident.{Ident}
use Rattle.wac_wit_syntax.specs.declared.tree.Path.{Path}
use Rattle.wac_wit_syntax.specs.declared.tree.TopItem.{TopItem}
use Rattle.wac_wit_syntax.specs.declared.tree.TopItem.TheVariants as top
use Rattle.wac_wit_syntax.specs.declared.tree.WorldDecl.{WorldDecl}
use Rattle.wac_wit_syntax.specs.declared.tree.WorldItem.{WorldItem}

-- an import or an export gives an interface, whose path stands at this place, a name of its own
pub record IsRenamed (of : WitSources) (x : ExternItem) (span : Span) : Type 0 where
  pub there : IsEnabled of x.gates
  pub name : Ident
  pub path : Path
  pub renames : x.what ≡ extern.Named name path
  pub stands : path.span ≡ span

abbrev pub IsRenamedBy : WitSources → List WorldItem → Span → Type 0
IsRenamedBy of is span = (x : ExternItem) × HasExternIn is x × IsRenamed of x span

-- a world that is there does that
pub record IsRenamedIn (of : WitSources) (ts : List TopItem) (span : Span) : Type 0 where
  pub decl : WorldDecl
  pub among : Contains ts (top.World decl)
  pub there : IsEnabled of decl.gates
  pub by_item : IsRenamedBy of decl.items.items span

-- an interface of a package is imported or exported under a name of its own
pub record IsRenamedInterface (of : WitSources) (file : ℕ) (span : Span) : Type 0 where
  pub scope : ScopeSyntax
  pub at : IsScopeAt of file scope
  pub renamed : IsRenamedIn of scope.items span
