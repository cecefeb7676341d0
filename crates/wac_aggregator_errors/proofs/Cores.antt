-- What is found of two core modules.
use Rattle.std.proofs.Common.{◌≡◌, ◌∙◌, ap, refl, sym, subst, List, Option, Some, None, string_bytes, String, Global, Bor, IsTrue}
use Rattle.std.specs.List.{list_all}
use Rattle.std.specs.Map.{lookup as lookup_by}
use Rattle.std.specs.Option.{option_map, option_copied}
use Rattle.std.specs.Str.{bytes_eq}
use Rattle.wac_model.specs.Text.{Text, lookup}
use Rattle.wac_model.specs.CoreTree.{CoreTree, ModuleContent, is_valid_extern}
use Rattle.wac_model.specs.ItemTree.{Kind, item, type_item, ItemTree, leaf, core_module, composite}
use Rattle.wac_bounds.proofs.ValidLemmas.{found_valid}
use Rattle.wac_core.specs.Content.{core_tree}
use Rattle.wac_core.specs.declared.externs.CoreExtern.{CoreExtern}
use Rattle.wac_component.specs.Id.{Id}
use Rattle.wac_component.specs.Collection.{Collection}
use Rattle.wac_component.specs.Content.{named}
use Rattle.wac_component.specs.Key.{module_key}
use Rattle.wac_component.specs.Tree.{item_tree, module_tree}
use Rattle.wac_checker_parts.proofs.Lookups.{get_named}
use Rattle.wac_merge.specs.Items.{entry_item}
use Rattle.wac_mismatch.specs.declared.error.SubtypeError.{SubtypeError}
use Rattle.wac_aggregator_errors.specs.Clashes.{AreCoresApart, HasNoCoreClash}
use Rattle.wac_aggregator_errors.specs.Found.{IsSaidOf, AreFoundInCores, IsCoreClashOf, IsSearchBeside, IsCoreSearchOf, IsCoreSearchBelow}
use Rattle.wac_aggregator_errors.specs.declared.modules.CoreClash.{CoreClash}
use Rattle.wac_aggregator_errors.proofs.Turns.{tree_at}

-- what an entry of valid externs has is valid
pub entry_valid : (es : List (String Global × CoreExtern)) (n : Text) (existing : CoreExtern) → IsTrue (list_all (λ e. is_valid_extern e.1) (named core_tree es)) → lookup bytes_eq (named (λ v. v) es) n ≡ Some existing → IsTrue (is_valid_extern (core_tree existing))
entry_valid es n existing valid there = found_valid bytes_eq (named core_tree es) valid n (core_tree existing) (tree_at core_tree es n ∙ ap (option_map core_tree) there)

-- what both have under the name of an entry
pub cores_found : (es ts : List (String Global × CoreExtern)) (name : String Global) (existing : CoreExtern) (o : Option (Bor CoreExtern)) (said : Option SubtypeError) (copy : String Global) (e : SubtypeError)
    → lookup bytes_eq (named (λ v. v) es) (string_bytes name) ≡ Some existing → option_copied o ≡ lookup_by (λ k. bytes_eq (string_bytes name) (string_bytes k)) ts → said ≡ Some e
    → IsSearchBeside (core_tree existing) (option_map core_tree (option_copied o)) said → string_bytes copy ≡ string_bytes name
    → AreFoundInCores (named core_tree es) (named core_tree ts) (record { name = copy; error = e })
cores_found es ts name existing o said copy e there gives is says same =
    let known : IsSaidOf (core_tree existing) (option_map core_tree (option_copied o)) e = subst (λ s. IsSearchBeside (core_tree existing) (option_map core_tree (option_copied o)) s) is says in
    record {
      left = core_tree existing;
      right = known.right;
      of_first = ap (lookup bytes_eq (named core_tree es)) same ∙ tree_at core_tree es (string_bytes name) ∙ ap (option_map core_tree) there;
      of_second = ap (lookup bytes_eq (named core_tree ts)) same ∙ tree_at core_tree ts (string_bytes name) ∙ ap (option_map core_tree) (sym (get_named ts (string_bytes name)) ∙ sym gives) ∙ known.there;
      apart = known.apart;
      says = known.says;
    }

-- what both export under a name, of two core modules as items or as types
pub modules_clash : (c : Collection) (x y : Id) (s t : ModuleContent) → (module_tree c x).content ≡ s → (module_tree c y).content ≡ t → (found : CoreClash) → AreFoundInCores s.exports t.exports found
    → (k : Kind) → IsCoreClashOf (item_tree c (entry_item k (module_key x))) (item_tree c (entry_item k (module_key y))) found
modules_clash c x y s t first second found clash item = record {
  left = clash.left;
  right = clash.right;
  alike = refl;
  of_first = ap (λ (m : ModuleContent). lookup bytes_eq m.exports (string_bytes found.name)) first ∙ clash.of_first;
  of_second = ap (λ (m : ModuleContent). lookup bytes_eq m.exports (string_bytes found.name)) second ∙ clash.of_second;
  apart = clash.apart;
  says = clash.says;
}
modules_clash c x y s t first second found clash type_item = record {
  left = clash.left;
  right = clash.right;
  alike = refl;
  of_first = ap (λ (m : ModuleContent). lookup bytes_eq m.exports (string_bytes found.name)) first ∙ clash.of_first;
  of_second = ap (λ (m : ModuleContent). lookup bytes_eq m.exports (string_bytes found.name)) second ∙ clash.of_second;
  apart = clash.apart;
  says = clash.says;
}

-- what isn't found beside a core extern
pub none_beside : (ts : List (String Global × CoreExtern)) (name : Text) (a : CoreTree) (o : Option (Bor CoreExtern)) (said : Option SubtypeError) → option_copied o ≡ lookup_by (λ k. bytes_eq name (string_bytes k)) ts → said ≡ None
    → IsSearchBeside a (option_map core_tree (option_copied o)) said → (y : CoreTree) → lookup bytes_eq (named core_tree ts) name ≡ Some y → ¬ (AreCoresApart a y)
none_beside ts name a o said gives is says y there =
    let none : IsSearchBeside a (option_map core_tree (option_copied o)) None = subst (λ s. IsSearchBeside a (option_map core_tree (option_copied o)) s) is says in
    none y (ap (option_map core_tree) (gives ∙ get_named ts name) ∙ sym (tree_at core_tree ts name) ∙ there)

pub modules_searched : (c : Collection) (x y : Id) (s t : ModuleContent) → (module_tree c x).content ≡ s → (module_tree c y).content ≡ t → (o : Option CoreClash) → IsCoreSearchOf s.exports t.exports o
    → (k : Kind) → IsCoreSearchBelow (item_tree c (entry_item k (module_key x))) (item_tree c (entry_item k (module_key y))) o
modules_searched c x y s t first second (Some found) clash k = modules_clash c x y s t first second found clash k
modules_searched c x y s t first second None none item = λ alike n a b f g.
    none n a b (ap (λ (m : ModuleContent). lookup bytes_eq m.exports n) (sym first) ∙ f) (ap (λ (m : ModuleContent). lookup bytes_eq m.exports n) (sym second) ∙ g)
modules_searched c x y s t first second None none type_item = λ alike n a b f g.
    none n a b (ap (λ (m : ModuleContent). lookup bytes_eq m.exports n) (sym first) ∙ f) (ap (λ (m : ModuleContent). lookup bytes_eq m.exports n) (sym second) ∙ g)

-- not both core modules, both as items or both as types
abbrev pub AreNotModules : ItemTree → ItemTree → Type 0
AreNotModules (core_module item a) (core_module item b) = ⊥
AreNotModules (core_module type_item a) (core_module type_item b) = ⊥
AreNotModules s t = Unit {0}

pub others_searched : (a b : ItemTree) → AreNotModules a b → HasNoCoreClash a b
others_searched (leaf k l) b u alike n x y f g apart = absurd (cc)
others_searched (composite k s i e) b u alike n x y f g apart = absurd (cc)
others_searched (core_module k m) (leaf k' l) u alike n x y f g apart = absurd (cc)
others_searched (core_module k m) (composite k' s i e) u alike n x y f g apart = absurd (cc)
others_searched (core_module item m) (core_module item p) u alike n x y f g apart = elim u [ ]
others_searched (core_module type_item m) (core_module type_item p) u alike n x y f g apart = elim u [ ]
others_searched (core_module item m) (core_module type_item p) u alike n x y f g apart = absurd (cc)
others_searched (core_module type_item m) (core_module item p) u alike n x y f g apart = absurd (cc)
