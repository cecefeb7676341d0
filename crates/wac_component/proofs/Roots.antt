-- Resources apart from their owners: a name, and where the aliases lead.
use Rattle.std.proofs.Common.{◌≡◌, [], ◌∷◌, Some, slice_get, refl, ap, sym, ◌∙◌, subst}
use Rattle.std.specs.Option.{option_map_or}
use Rattle.wac_component.specs.Aliases.{IsSourceOf, itself, from}
use Rattle.wac_component.specs.Collection.{Collection, AliasContent, ResourceContent}
use Rattle.wac_component.specs.Id.{Id}
use Rattle.wac_component.specs.Key.{resource_key, interface_key, alias_keys, optional_keys, Stands, AllStand}
use Rattle.wac_component.specs.Laws.{OneSourceHasOneName}
use Rattle.wac_component.specs.Sound.{IsSound}
use Rattle.wac_component.specs.Tree.{root_name, IsRoot}
use Rattle.wac_component.proofs.Members.{AllStand-right}
use Rattle.wac_component.proofs.Reading.{resource_standing}
use Rattle.wac_component.proofs.Trees.{root_name-entry}

module _ (c : Collection) (sound : IsSound c) where
  source_stands : (r : Id) (e : ResourceContent) (a : AliasContent) → Stands c (resource_key r) → slice_get c.resources r.index ≡ Some e → e.alias ≡ Some a → Stands c (resource_key a.source)
  source_stands r e a st at is =
      let named = subst (λ o. AllStand c (optional_keys alias_keys o)) is (resource_standing c r e sound st at) in
      (AllStand-right c (optional_keys (λ o. interface_key o ∷ []) a.owner) (resource_key a.source ∷ []) named).0

  pub IsSourceOf-stands : (r s : Id) → Stands c (resource_key r) → IsSourceOf c r s → Stands c (resource_key s)
  IsSourceOf-stands r s st itself = st
  IsSourceOf-stands r s st (from e a at is w) = IsSourceOf-stands a.source s (source_stands r e a st at is) w

  -- alias steps keep the name
  pub root_name-source : (r s : Id) → Stands c (resource_key r) → IsSourceOf c r s → root_name c r ≡ root_name c s
  root_name-source r s st itself = refl
  root_name-source r s st (from e a at is w) =
      root_name-entry c r e sound st at ∙ ap (λ o. option_map_or (λ (b : AliasContent). root_name c b.source) o e.name) is
      ∙ root_name-source a.source s (source_stands r e a st at is) w

pub one_source_has_one_name : OneSourceHasOneName
one_source_has_one_name c sound r s t rs ss v w = root_name-source c sound r t rs v ∙ sym (root_name-source c sound s t ss w)

-- there is one root
pub IsSourceOf-root : (c : Collection) (r s t : Id) → IsRoot c s → IsRoot c t → IsSourceOf c r s → IsSourceOf c r t → s ≡ t
IsSourceOf-root c r s t ps pt itself itself = refl
IsSourceOf-root c r s t ps pt itself (from e a at is w) = let none = ps e at in absurd (cc)
IsSourceOf-root c r s t ps pt (from e a at is v) itself = let none = pt e at in absurd (cc)
IsSourceOf-root c r s t ps pt (from e a at is v) (from x b there too w) =
    let same : a.source ≡ b.source = cc in
    IsSourceOf-root c b.source s t ps pt (subst (λ (q : Id). IsSourceOf c q s) same v) w
