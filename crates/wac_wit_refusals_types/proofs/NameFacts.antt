-- What gives names to types.
use Rattle.std.proofs.Common.{◌∙◌, List, Contains, ap, subst, sym}
use Rattle.wac_model.specs.Text.{Text}
use Rattle.wac_wit_refusals_sites.specs.Sites.{BodySyntax}
use Rattle.wac_wit_refusals_sites.specs.TypeLists.{AreTypesOf, AreUseItemsOf}
use Rattle.wac_wit_refusals_types.specs.TypeSteps.{IsGivenAmong, IsNotThere, NoTypeGives, NoUseGives, type_gives, use_gives}
use Rattle.wac_wit_refusals_types.specs.TypeNames.{IsGivenHidden}
use Rattle.wac_wit_refusals_sites.specs.TypeSites.{IsTypeGiven, by_type, by_used}
use Rattle.wac_wit_refusals_sites.specs.declared.type_items.PlacedType.{PlacedType}
use Rattle.wac_wit_refusals_sites.specs.declared.type_items.PlacedUse.{PlacedUse}
use Rattle.wac_wit_refusals_sites.proofs.TypeFacts.{type_among, use_among}
use Rattle.wac_wit_scopes.specs.WitSources.{IsEnabled, WitSources, ident_text}
use Rattle.wac_wit_syntax.specs.declared.tree.Gates.{Gates}
use Rattle.wac_wit_syntax.specs.declared.tree.TypeItem.{TypeItem}
use Rattle.wac_wit_syntax.specs.declared.tree.UseItem.{UseItem}

module _ (b : BodySyntax) (n : Text) (types : List PlacedType) (uses : List PlacedUse) (are_types : AreTypesOf b types) (are_uses : AreUseItemsOf b uses) where
  pub not_given : NoTypeGives types n → NoUseGives uses n → (g : Gates) → IsTypeGiven b n g → ⊥
  not_given no_type no_use _ (by_type t among named) = let l = are_types.all t among in no_type l.placed l.among (ap (λ (x : TypeItem). ident_text x.name) l.is ∙ named)
  not_given no_type no_use _ (by_used u r among inside named) = let l = are_uses.all u among in no_use l.placed l.among (r, subst (λ (x : UseItem). Contains x.names.items r) (sym l.is) inside, named)

  hidden_there : (of : WitSources) → IsNotThere of types uses n → (g : Gates) → IsTypeGiven b n g → IsEnabled of g → ⊥
  hidden_there of h _ (by_type t among named) enabled =
      let l = are_types.all t among in h.no_type l.placed l.among (ap (λ (x : TypeItem). ident_text x.name) l.is ∙ named) (subst (λ (x : TypeItem). IsEnabled of x.gates) (sym l.is) enabled)
  hidden_there of h _ (by_used u r among inside named) enabled =
      let l = are_uses.all u among in h.no_use l.placed l.among (r, subst (λ (x : UseItem). Contains x.names.items r) (sym l.is) inside, named) (subst (λ (x : UseItem). IsEnabled of x.gates) (sym l.is) enabled)

  given_among : IsGivenAmong types uses n → (g : Gates) × IsTypeGiven b n g
  given_among (type_gives p among named) = (p.ty.now.gates, by_type p.ty.now (type_among b p.item p.ty.now (are_types.at p among)) named)
  given_among (use_gives p among given) = (p.used.now.gates, by_used p.used.now given.0 (use_among b p.item p.used.now (are_uses.at p among)) given.1 given.2)

  pub given_hidden : (of : WitSources) → IsNotThere of types uses n → IsGivenHidden of b n
  given_hidden of h = let g = given_among h.given in record { gates = g.0; given = g.1; hidden = hidden_there of h }
