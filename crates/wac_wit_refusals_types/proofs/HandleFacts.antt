-- Names of types that are followed.
use Rattle.std.proofs.Common.{◌≡◌, ◌∙◌, ap, refl, subst, sym}
use Rattle.wac_wit_refusals_types.specs.Following.{IsInside, IsNextName, IsUsedName, NamesValues, UsesAs}
use Rattle.wac_wit_refusals_types.specs.Handles.{IsHandleOf, IsNoTypeName, IsValueDef, NamesValueType, a_borrow, an_own, of_used}
use Rattle.wac_wit_refusals_sites.specs.Judging.{body_syntax}
use Rattle.wac_wit_refusals_sites.specs.Paths.{LeadsToItem}
use Rattle.wac_wit_refusals_sites.specs.Sites.{BodySyntax, HasUseIn, interface_items}
use Rattle.wac_wit_refusals_sites.specs.TypeSites.{IsTypeName, a_borrowed_handle, a_type_name, an_owned_handle}
use Rattle.wac_wit_refusals_types.specs.declared.handles.FollowedName.{FollowedName}
use Rattle.wac_wit_refusals_sites.specs.declared.led.LedTo.{LedTo}
use Rattle.wac_wit_scopes.specs.Scopes.{IsKnownScope, scope_syntax}
use Rattle.wac_wit_scopes.specs.WitSources.{IsEnabled, WitSources, ident_text}
use Rattle.wac_wit_scopes.specs.declared.scopes.ScopeItems.{ScopeItems}
use Rattle.wac_wit_syntax.specs.declared.tree.Ident.{Ident}
use Rattle.wac_wit_syntax.specs.declared.tree.Method.{Method}
use Rattle.wac_wit_syntax.specs.declared.tree.TopItem.TheVariants as top
use Rattle.wac_wit_syntax.specs.declared.tree.TypeDef.{TypeDef}
use Rattle.wac_wit_syntax.specs.declared.tree.TypeDef.TheVariants as def
use Rattle.wac_wit_syntax.specs.declared.tree.TypeExpr.{TypeExpr}
use Rattle.wac_wit_syntax.specs.declared.tree.TypeExpr.TheVariants as ty
use Rattle.wac_wit_syntax.specs.declared.tree.UseItem.{UseItem}
use Rattle.std.specs.Prelude.{Vec}
use Rattle.std.specs.declared.alloc.Global.{Global}

-- what is no name
pub no_name_of : (e : TypeExpr) → ((id : Ident) → e ≡ ty.Name id → ⊥) → IsNoTypeName e
no_name_of (ty.Name id) other = other id refl
no_name_of e other = tt

pub value_def_of : (d : TypeDef) → ((ms : Vec Method Global) → d ≡ def.Resource ms → ⊥) → ((e : TypeExpr) → d ≡ def.Alias e → ⊥) → IsValueDef d
value_def_of (def.Alias e) no_resource no_alias = absurd (no_alias e refl)
value_def_of (def.Record fs) no_resource no_alias = tt
value_def_of (def.Variant cs) no_resource no_alias = tt
value_def_of (def.Flags ns) no_resource no_alias = tt
value_def_of (def.Enum ns) no_resource no_alias = tt
value_def_of (def.Resource ms) no_resource no_alias = no_resource ms refl

-- what is written by a name and is no name alone is a handle
pub handle_of : (id : Ident) (e : TypeExpr) → ((n : Ident) → e ≡ ty.Name n → ⊥) → IsTypeName id e → IsHandleOf id e
handle_of id _ other a_type_name = absurd (other id refl)
handle_of id _ other an_owned_handle = an_own
handle_of id _ other a_borrowed_handle = a_borrow

-- a `use` gives the name to a type of the interface that is found
pub used_name : (of : WitSources) (f g : FollowedName) (u : UseItem) (l : LedTo) (id : Ident) → HasUseIn (body_syntax f.placed.body) u → IsEnabled of u.gates → UsesAs u f.name.now id → IsKnownScope of l.scope
    → LeadsToItem of (scope_syntax f.placed.scope) u.path (scope_syntax l.scope) l.item.now → IsInside of l id g → IsUsedName of f g
used_name of f g u l id among there uses known leads inside = record {
  known = subst (IsKnownScope of) (sym inside.scope) known;
  uses = record {
    item = u;
    among = among;
    there = there;
    used = uses.rename;
    uses = uses.among;
    gives = uses.gives;
    interface = inside.interface;
    leads = subst (λ (s : ScopeItems). LeadsToItem of (scope_syntax f.placed.scope) u.path (scope_syntax s) (top.Interface inside.interface)) (sym inside.scope)
        (subst (LeadsToItem of (scope_syntax f.placed.scope) u.path (scope_syntax l.scope)) inside.is leads);
    enabled = inside.there;
    body = inside.body;
    name = ap ident_text (uses.is ∙ sym inside.name);
  };
}

pub next_by_use : (of : WitSources) (f g : FollowedName) → IsUsedName of f g → IsNextName of f g
next_by_use of f g h = record { known = h.known; back = back }
  where
    within : NamesValues of g → NamesValueType of (scope_syntax g.placed.scope) (interface_items h.uses.interface.items.items) (ident_text h.uses.used.name)
    within k = subst (NamesValueType of (scope_syntax g.placed.scope) (interface_items h.uses.interface.items.items)) (sym h.uses.name)
        (subst (λ (x : BodySyntax). NamesValueType of (scope_syntax g.placed.scope) x (ident_text g.name.now)) h.uses.body k)

    back : NamesValues of g → NamesValues of f
    back k = subst (NamesValueType of (scope_syntax f.placed.scope) (body_syntax f.placed.body)) h.uses.gives
        (of_used (scope_syntax f.placed.scope) (scope_syntax g.placed.scope) (body_syntax f.placed.body) h.uses.item h.uses.used h.uses.interface h.uses.among h.uses.there h.uses.uses h.uses.leads h.uses.enabled (within k))
