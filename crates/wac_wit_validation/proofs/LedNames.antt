-- The names of an interface to which a path leads.
use Rattle.std.proofs.Common.{◌≡◌, ◌∙◌, ℕ, List, Some, sym, subst, ap, length, refl}
use Rattle.std.specs.Prelude.{slice_get}
use Rattle.std.proofs.lemmas.Option.{same_Some}
use Rattle.wac_model.specs.Text.{Text}
use Rattle.wac_component.specs.Collection.{Collection, InterfaceContent}
use Rattle.wac_component.specs.declared.items.ItemKind.{ItemKind}
use Rattle.wac_wit_syntax.specs.declared.tree.InterfaceDecl.{InterfaceDecl}
use Rattle.wac_wit_syntax.specs.declared.tree.Path.{Path}
use Rattle.wac_wit_syntax.specs.declared.tree.TopItem.TheVariants as top
use Rattle.wac_wit_validation_types.specs.Exports.{AreNamesAt, named_items}
use Rattle.wac_wit_validation.specs.Checking.{IsValidated, Knows}
use Rattle.wac_wit_scopes.proofs.PathFacts.{contains_at}
use Rattle.wac_wit_scopes.specs.Scopes.{scope_syntax}
use Rattle.wac_wit_validation_types.specs.Denoted.{Setting, interface_setting}
use Rattle.wac_wit_validation_types.specs.Reading.{TypesAreNamed}
use Rattle.wac_wit_scopes.specs.WitSources.{IsEnabled, PathLeadsTo, ident_text}
use Rattle.wac_wit_validation_types.specs.declared.names.NamedTypes.{NamedTypes}
use Rattle.wac_wit_scopes.specs.declared.scopes.ScopeItems.{ScopeItems}
use Rattle.wac_wit_validation_names.specs.declared.places.FoundInterface.{FoundInterface}
use Rattle.wac_wit_validation.specs.declared.validator.Validator.{Validator}

-- the names of the entry of an interface that was found, where a path leads
module _ (s : Setting) (v : Validator) (path : Path) (f : FoundInterface) (to : ScopeItems) (decl : InterfaceDecl) (names : NamedTypes) where
  pub AreNamesAt-found : Knows s.sources v → IsValidated s.sources v f → slice_get v.scopes.items f.place.scope ≡ Some to → slice_get to.items.now f.place.item ≡ Some (top.Interface decl)
      → PathLeadsTo s.sources s.scope path (scope_syntax to) (ident_text decl.name) → names.types.now ≡ v.types.now → (e : InterfaceContent) × (slice_get v.types.now.interfaces f.id.index ≡ Some e) × (e.exports ≡ named_items names)
      → names.limit ≡ length (named_items names) → AreNamesAt s path names
  AreNamesAt-found knows found at_scope at_item leads types entry limit = record {
    scope = scope_syntax to;
    name = ident_text decl.name;
    decl = decl;
    leads = leads;
    has = record { scope = (knows.scopes f.place.scope to at_scope).is_scope; item = contains_at to.items.now f.place.item (top.Interface decl) at_item; there = subst (λ (d : InterfaceDecl). IsEnabled s.sources d.gates) same_decl found.there; named = refl };
    named = subst (λ (k : ℕ). TypesAreNamed (setting to decl) names.types.now k (named_items names)) (sym limit)
        (subst (λ (es : List (Text × ItemKind)). TypesAreNamed (setting to decl) names.types.now (length es) es) entry.2
        (subst (λ (c : Collection). TypesAreNamed (setting to decl) c (length entry.0.exports) entry.0.exports) (sym types)
        (subst (λ (d : InterfaceDecl). TypesAreNamed (setting to d) v.types.now (length entry.0.exports) entry.0.exports) same_decl
        (subst (λ (w : ScopeItems). TypesAreNamed (setting w found.decl) v.types.now (length entry.0.exports) entry.0.exports) same_scope (found.exports entry.0 entry.1).named))));
  }
    where
      setting : ScopeItems → InterfaceDecl → Setting
      setting w d = interface_setting s.sources (scope_syntax w) d.items.items

      same_scope : found.scope ≡ to
      same_scope = same_Some _ _ (sym found.at_scope ∙ at_scope)

      same_decl : found.decl ≡ decl
      same_decl = let both = sym found.at_item ∙ ap (λ (w : ScopeItems). slice_get w.items.now f.place.item) same_scope ∙ at_item in cc
