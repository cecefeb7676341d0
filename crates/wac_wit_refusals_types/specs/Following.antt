-- What is known while names of types are followed.
use Rattle.std.specs.Prelude.{◌≡◌, Contains}
use Rattle.wac_wit_refusals_types.specs.Definitions.{BodyPlace, UsesTypeOf}
use Rattle.wac_wit_refusals_types.specs.Handles.{NamesValueType}
use Rattle.wac_wit_refusals_sites.specs.Judging.{body_syntax}
use Rattle.wac_wit_refusals_sites.specs.Sites.{HasUseIn, interface_items}
use Rattle.wac_wit_refusals_sites.specs.TypeSites.{HasType}
use Rattle.wac_wit_refusals_sites.specs.declared.bodies.PlacedBody.{PlacedBody}
use Rattle.wac_wit_refusals_types.specs.declared.handles.FollowedName.{FollowedName}
use Rattle.wac_wit_refusals_types.specs.declared.handles.NameStep.{NameStep}
use Rattle.wac_wit_refusals_types.specs.declared.handles.NameStep.TheVariants.{Another, Nowhere, Values}
use Rattle.wac_wit_refusals_sites.specs.declared.led.LedTo.{LedTo}
use Rattle.wac_wit_scopes.specs.Scopes.{IsKnownScope, scope_syntax}
use Rattle.wac_wit_scopes.specs.WitSources.{IsEnabled, WitSources, given_name, ident_text}
use Rattle.wac_wit_syntax.specs.declared.tree.Ident.{Ident}
use Rattle.wac_wit_syntax.specs.declared.tree.InterfaceDecl.{InterfaceDecl}
use Rattle.wac_wit_syntax.specs.declared.tree.Rename.{Rename}
use Rattle.wac_wit_syntax.specs.declared.tree.TopItem.TheVariants as top
use Rattle.wac_wit_syntax.specs.declared.tree.TypeItem.{TypeItem}
use Rattle.wac_wit_syntax.specs.declared.tree.UseItem.{UseItem}

abbrev pub body_place : PlacedBody → BodyPlace
body_place p = record { scope = scope_syntax p.scope; body = body_syntax p.body }

abbrev pub NamesValues : WitSources → FollowedName → Type 0
NamesValues of f = NamesValueType of (scope_syntax f.placed.scope) (body_syntax f.placed.body) (ident_text f.name.now)

-- a `use`, and a type, of what gives the name
abbrev pub HasUseFor : FollowedName → UseItem → Type 0
HasUseFor f u = HasUseIn (body_syntax f.placed.body) u

abbrev pub HasTypeFor : WitSources → FollowedName → TypeItem → Type 0
HasTypeFor of f t = HasType of (body_syntax f.placed.body) t

-- if the next name is that of a type of values, so is the one before
pub record IsNextName (of : WitSources) (f g : FollowedName) : Type 0 where
  pub known : IsKnownScope of g.placed.scope
  pub back : NamesValues of g → NamesValues of f

-- a `use` gives the name to the type of the next
pub record IsUsedName (of : WitSources) (f g : FollowedName) : Type 0 where
  pub known : IsKnownScope of g.placed.scope
  pub uses : UsesTypeOf of (body_place f.placed) (ident_text f.name.now) (body_place g.placed) (ident_text g.name.now)

abbrev pub IsNameStep : WitSources → FollowedName → NameStep → Type 0
IsNameStep of f Values = NamesValues of f
IsNameStep of f (Another g) = IsNextName of f g
IsNameStep of f Nowhere = Unit {0}

-- a `use` gives a name to a type
pub record UsesAs (u : UseItem) (n id : Ident) : Type 0 where
  pub rename : Rename
  pub among : Contains u.names.items rename
  pub gives : given_name rename.name rename.alias ≡ ident_text n
  pub is : rename.name ≡ id

-- a name in an interface that is found, and is there
pub record IsInside (of : WitSources) (l : LedTo) (id : Ident) (f : FollowedName) : Type 0 where
  pub scope : f.placed.scope ≡ l.scope
  pub interface : InterfaceDecl
  pub is : l.item.now ≡ top.Interface interface
  pub there : IsEnabled of interface.gates
  pub body : body_syntax f.placed.body ≡ interface_items interface.items.items
  pub name : f.name.now ≡ id
