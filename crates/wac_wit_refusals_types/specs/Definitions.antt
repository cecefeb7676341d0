-- What the names of types stand for (WIT.md, "Item: `use`" and "Items: type").
use Rattle.std.specs.Prelude.{◌≡◌, Contains}
use Rattle.wac_model.specs.Text.{Text}
use Rattle.wac_wit_refusals_sites.specs.Paths.{LeadsToItem}
use Rattle.wac_wit_refusals_sites.specs.Sites.{BodySyntax, HasUseIn, interface_items}
use Rattle.wac_wit_refusals_sites.specs.TypeSites.{HasType}
use Rattle.wac_wit_scopes.specs.WitSources.{IsEnabled, ScopeSyntax, WitSources, given_name, ident_text}
use Rattle.wac_wit_syntax.specs.declared.tree.InterfaceDecl.{InterfaceDecl}
use Rattle.wac_wit_syntax.specs.declared.tree.Rename.{Rename}
use Rattle.wac_wit_syntax.specs.declared.tree.TopItem.TheVariants as top
use Rattle.wac_wit_syntax.specs.declared.tree.TypeDef.{TypeDef}
use Rattle.wac_wit_syntax.specs.declared.tree.TypeItem.{TypeItem}
use Rattle.wac_wit_syntax.specs.declared.tree.UseItem.{UseItem}

-- an interface or a world, and the scope that it stands in
pub record BodyPlace : Type 0 where
  pub scope : ScopeSyntax
  pub body : BodySyntax

-- a `use` that is there gives the name `n` to the type `m` of an interface that is there
pub record UsesTypeOf (of : WitSources) (p : BodyPlace) (n : Text) (q : BodyPlace) (m : Text) : Type 0 where
  pub item : UseItem
  pub among : HasUseIn p.body item
  pub there : IsEnabled of item.gates
  pub used : Rename
  pub uses : Contains item.names.items used
  pub gives : given_name used.name used.alias ≡ n
  pub interface : InterfaceDecl
  pub leads : LeadsToItem of p.scope item.path q.scope (top.Interface interface)
  pub enabled : IsEnabled of interface.gates
  pub body : q.body ≡ interface_items interface.items.items
  pub name : ident_text used.name ≡ m

-- the definition that a name stands for: one that stands beside it, or one of another interface, by way of `use`
pub data NamesDefinition (of : WitSources) : BodyPlace → Text → BodyPlace → TypeDef → Type 0 where
  defined_beside : (p : BodyPlace) (t : TypeItem) → HasType of p.body t → NamesDefinition of p (ident_text t.name) p t.def
  defined_elsewhere : (p q r : BodyPlace) (n m : Text) (d : TypeDef) → UsesTypeOf of p n q m → NamesDefinition of q m r d → NamesDefinition of p n r d
