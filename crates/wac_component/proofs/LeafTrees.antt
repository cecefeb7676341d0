-- What resources, values and functions stand for depends on the lists of resources,
-- defined types and functions alone.
use Rattle.std.proofs.Common.{◌≡◌, ◌<◌, ◌⊎◌, inl, inr, ℕ, suc, zero, List, [], ◌∷◌, length, map, Option, Some, None, slice_get, get_or, ◌≤◌, refl, ap, sym, ◌∙◌, subst, arith}
use Rattle.std.proofs.lemmas.List.{length-map}
use Rattle.std.proofs.lemmas.Option.{slice_get_cases}
use Rattle.std.specs.Option.{option_map_or}
use Rattle.wac_model.specs.Text.{Text}
use Rattle.wac_model.specs.ValueTree.{node, no_parts, borrow, own}
use Rattle.wac_component.specs.Id.{Id}
use Rattle.wac_component.specs.Collection.{Collection, DefinedContent, ResourceContent, AliasContent, FuncContent}
use Rattle.wac_component.specs.Key.{Key, resource_entry, defined_entry, func_entry, Each, Stands, AllStand, resource_key, defined_key, func_key, value_keys, alias_keys, resource_keys, defined_keys, optional_keys, interface_key}
use Rattle.wac_component.specs.Sound.{IsSound}
use Rattle.wac_component.specs.Height.{height, keys_height}
use Rattle.wac_component.specs.Tree.{root_name, value_tree, func_tree}
use Rattle.wac_component.specs.Laws.{HasLeavesOf, KeepsLeaves}
use Rattle.wac_component.specs.declared.items.ValueType.{ValueType}
use Rattle.wac_component.specs.declared.items.ValueType.TheVariants.{Primitive, Borrow, Own, Defined}
use Rattle.wac_component.proofs.Keys.{Each-right}
use Rattle.wac_component.proofs.Reading.{resource_standing, resource_lower, defined_standing, defined_lower, func_standing}
use Rattle.wac_component.proofs.Trees.{root_name-entry, value_tree-entry, func_tree-entry, content_tree-agree, func_content_tree-agree}

module _ (c d : Collection) (s : IsSound c) (s' : IsSound d) (same : HasLeavesOf c d) where
  resource-stands : (r : Id) → Stands c (resource_key r) → Stands d (resource_key r)
  resource-stands r h = (h.0 ∙ sym same.number, subst (λ (rs : List ResourceContent). r.index < length (map resource_entry rs)) (sym same.resources) h.1)

  defined-stands : (p : Id) → Stands c (defined_key p) → Stands d (defined_key p)
  defined-stands p h = (h.0 ∙ sym same.number, subst (λ (ds : List DefinedContent). p.index < length (map defined_entry ds)) (sym same.defined) h.1)

  -- they stand, and no walk from them passes through as many entries
  abbrev Below : ℕ → Key → Type 0
  Below n k = Stands c k × (height c k < n)

  all_below : (n : ℕ) (ks : List Key) → AllStand c ks → keys_height c ks < n → Each (Below n) ks
  all_below n [] h lower = tt
  all_below n (k ∷ ks) h lower = ((h.0, omega (arith, lower)), all_below n ks h.1 (omega (arith, lower)))

  alias_same : (n : ℕ) (name : Text) → ((r : Id) → Below n (resource_key r) → root_name c r ≡ root_name d r) → (o : Option AliasContent) → Each (Below n) (optional_keys alias_keys o) → option_map_or (λ a. root_name c a.source) o name ≡ option_map_or (λ a. root_name d a.source) o name
  alias_same n name names None all = refl
  alias_same n name names (Some a) all = names a.source (Each-right (Below n) (optional_keys (λ o. interface_key o ∷ []) a.owner) (resource_key a.source ∷ []) all).0

  names_below : (n : ℕ) (r : Id) → Below n (resource_key r) → root_name c r ≡ root_name d r
  names_below zero r h = absurd (omega (arith, h.1))
  names_below (suc n) r h = of (slice_get_cases c.resources r.index).1 (alias_same n) (names_below n) where
    of : ((e : ResourceContent) × (r.index < length c.resources) × (slice_get c.resources r.index ≡ Some e) × (get_or c.resources r.index e ≡ e)) ⊎ ((length c.resources ≤ r.index) × (slice_get c.resources r.index ≡ None))
        → ((name : Text) → ((q : Id) → Below n (resource_key q) → root_name c q ≡ root_name d q) → (o : Option AliasContent) → Each (Below n) (optional_keys alias_keys o) → option_map_or (λ a. root_name c a.source) o name ≡ option_map_or (λ a. root_name d a.source) o name)
        → ((q : Id) → Below n (resource_key q) → root_name c q ≡ root_name d q) → root_name c r ≡ root_name d r
    of (inl x) aliases names =
        let all = all_below n (resource_keys x.0) (resource_standing c r x.0 s h.0 x.2) (let lower = resource_lower c r x.0 s h.0 x.2 in omega (arith, lower, h.1)) in
        let there : slice_get d.resources r.index ≡ Some x.0 = ap (λ (rs : List ResourceContent). slice_get rs r.index) same.resources ∙ x.2 in
        root_name-entry c r x.0 s h.0 x.2 ∙ (aliases x.0.name names x.0.alias all ∙ sym (root_name-entry d r x.0 s' (resource-stands r h.0) there))
    of (inr x) aliases names = absurd (omega (arith, x.0, h.0.1, length-map c.resources resource_entry))

  pub names-same : (r : Id) → Stands c (resource_key r) → root_name c r ≡ root_name d r
  names-same r h = names_below (suc (height c (resource_key r))) r (h, omega arith)

  value_same : (n : ℕ) → ((p : Id) → Below n (defined_key p) → value_tree c (Defined p) ≡ value_tree d (Defined p)) → (v : ValueType) → Each (Below n) (value_keys v) → value_tree c v ≡ value_tree d v
  value_same n values (Primitive p) all = refl
  value_same n values (Borrow r) all = ap (λ (x : Text). node (borrow x) no_parts) (names-same r all.0.0)
  value_same n values (Own r) all = ap (λ (x : Text). node (own x) no_parts) (names-same r all.0.0)
  value_same n values (Defined p) all = values p all.0

  values_below : (n : ℕ) (p : Id) → Below n (defined_key p) → value_tree c (Defined p) ≡ value_tree d (Defined p)
  values_below zero p h = absurd (omega (arith, h.1))
  values_below (suc n) p h = of (slice_get_cases c.defined p.index).1 (value_same n (values_below n)) where
    of : ((e : DefinedContent) × (p.index < length c.defined) × (slice_get c.defined p.index ≡ Some e) × (get_or c.defined p.index e ≡ e)) ⊎ ((length c.defined ≤ p.index) × (slice_get c.defined p.index ≡ None))
        → ((v : ValueType) → Each (Below n) (value_keys v) → value_tree c v ≡ value_tree d v) → value_tree c (Defined p) ≡ value_tree d (Defined p)
    of (inl x) values =
        let all = all_below n (defined_keys x.0) (defined_standing c p x.0 s h.0 x.2) (let lower = defined_lower c p x.0 s h.0 x.2 in omega (arith, lower, h.1)) in
        let there : slice_get d.defined p.index ≡ Some x.0 = ap (λ (ds : List DefinedContent). slice_get ds p.index) same.defined ∙ x.2 in
        value_tree-entry c p x.0 s h.0 x.2 ∙ (content_tree-agree (Below n) (value_tree c) (value_tree d) values x.0 all ∙ sym (value_tree-entry d p x.0 s' (defined-stands p h.0) there))
    of (inr x) values = absurd (omega (arith, x.0, h.0.1, length-map c.defined defined_entry))

  pub values-same : (v : ValueType) → AllStand c (value_keys v) → value_tree c v ≡ value_tree d v
  values-same v h = value_same (suc (keys_height c (value_keys v))) (values_below (suc (keys_height c (value_keys v)))) v (all_below (suc (keys_height c (value_keys v))) (value_keys v) h (omega arith))

  pub funcs-same : (p : Id) → Stands c (func_key p) → func_tree c p ≡ func_tree d p
  funcs-same p h = of (slice_get_cases c.funcs p.index).1 where
    of : ((e : FuncContent) × (p.index < length c.funcs) × (slice_get c.funcs p.index ≡ Some e) × (get_or c.funcs p.index e ≡ e)) ⊎ ((length c.funcs ≤ p.index) × (slice_get c.funcs p.index ≡ None)) → func_tree c p ≡ func_tree d p
    of (inl x) =
        let there : slice_get d.funcs p.index ≡ Some x.0 = ap (λ (fs : List FuncContent). slice_get fs p.index) same.funcs ∙ x.2 in
        func_tree-entry c p x.0 x.2 ∙ (func_content_tree-agree c d (Stands c) values-same x.0 (func_standing c p x.0 s h x.2) ∙ sym (func_tree-entry d p x.0 there))
    of (inr x) = absurd (omega (arith, x.0, h.1, length-map c.funcs func_entry))

-- the same of two sound collections
pub keeps-leaves : (c d : Collection) → IsSound c → IsSound d → HasLeavesOf c d → KeepsLeaves c d
keeps-leaves c d s s' same = record { names = names-same c d s s' same; values = values-same c d s s' same; funcs = funcs-same c d s s' same }
