-- Resources, values, functions and core modules keep what they stand for.
use Rattle.std.proofs.Common.{◌≡◌, List, [], Option, None, Some, slice_get, refl, ap, sym, subst, ◌∙◌}
use Rattle.std.specs.Option.{option_map, option_map_or}
use Rattle.wac_model.specs.ItemTree.{item, core_module, resource, func, value}
use Rattle.wac_model.specs.CoreTree.{ModuleTree}
use Rattle.wac_model.specs.Text.{Text}
use Rattle.wac_model.specs.ValueTree.{ValueTree, FuncTree}
use Rattle.wac_component.specs.Id.{Id}
use Rattle.wac_component.specs.Collection.{Collection}
use Rattle.wac_component.specs.Key.{Key, module_entry, entry_keys, optional_keys, next, module_key, Stands}
use Rattle.wac_component.specs.Reach.{IsAmong, Reaches, stay, step}
use Rattle.wac_component.specs.Tree.{module_tree}
use Rattle.wac_component.specs.declared.items.ItemKind.TheVariants.{Module}
use Rattle.wac_component.specs.Entries.{entry_identifier}
use Rattle.wac_component.proofs.Lists.{slice_get-map}
use Rattle.wac_aggregator_narrowing.specs.Apart.{IsKeyApart, IsGood}
use Rattle.wac_aggregator_narrowing.specs.Narrows.{Narrows}

resource_same : (a b : Text) → resource a ≡ resource b → b ≡ a
resource_same a b q = cc

value_same : (a b : ValueTree) → value a ≡ value b → b ≡ a
value_same a b q = cc

func_same : (a b : FuncTree) → func a ≡ func b → b ≡ a
func_same a b q = cc

module_entry_keys : (o : Option ModuleTree) → optional_keys entry_keys (option_map module_entry o) ≡ []
module_entry_keys None = refl
module_entry_keys (Some m) = refl

module_identifier : (o : Option ModuleTree) → option_map_or entry_identifier (option_map module_entry o) None ≡ None
module_identifier None = refl
module_identifier (Some m) = refl

-- a core module leads nowhere, and is no shared entry
module_apart : (c : Collection) (ss : List Key) (m : Id) → IsGood c ss → IsKeyApart c ss (module_key m)
module_apart c ss m g s ms w = by_walk (module_key m) s refl ms w
  where
    nowhere : next c (module_key m) ≡ []
    nowhere = ap (optional_keys entry_keys) (slice_get-map module_entry c.modules m.index) ∙ module_entry_keys (slice_get c.modules m.index)

    not_shared : IsAmong (module_key m) ss → ⊥
    not_shared h =
        let r = g.identified (module_key m) h in
        let is : None ≡ Some r.0 = sym (ap (λ o. option_map_or entry_identifier o None) (slice_get-map module_entry c.modules m.index) ∙ module_identifier (slice_get c.modules m.index)) ∙ r.1 in absurd (cc)

    no_step : (j : Key) → IsAmong j [] → ⊥
    no_step j n = elim n [ ]

    by_walk : (k t : Key) → k ≡ module_key m → IsAmong t ss → Reaches c k t → ⊥
    by_walk k t same h stay = not_shared (subst (λ (x : Key). IsAmong x ss) same h)
    by_walk k t same h (step {j = j} n v) = no_step j (subst (λ (ks : List Key). IsAmong j ks) (ap (next c) same ∙ nowhere) n)

module_same : (a b : ModuleTree) → core_module item a ≡ core_module item b → a ≡ b
module_same a b q = cc

pub modules_stay : (c d : Collection) (ss ts : List Key) → IsGood c ss → Narrows c ss d ts → (m : Id) → Stands c (module_key m) → module_tree d m ≡ module_tree c m
modules_stay c d ss ts g n m st = module_same (module_tree d m) (module_tree c m) (n.same (Module m) (st, tt) (module_apart c ss m g, tt))
