-- Runs that end with an entry that was made of two.
use Rattle.std.proofs.Common.{◌≡◌, refl, sym, subst, ◌⊎◌, inl, inr, ◌∷◌, [], ◌++◌, List, Some, None, slice_get, IsTrue}
use Rattle.wac_model.specs.CoreTree.{ModuleContent, ModuleTree, module_of, is_valid_module}
use Rattle.wac_model.proofs.Modules.{module_of-content}
use Rattle.std.specs.Str.{bytes_eq}
use Rattle.wac_core_merge.specs.NameOrder.{HasAllNames, HasSomeNames}
use Rattle.wac_component.specs.Id.{Id}
use Rattle.wac_component.specs.Collection.{Collection, InterfaceContent, WorldContent}
use Rattle.wac_component.specs.Growth.{Extends, with_entry}
use Rattle.wac_component.specs.Key.{Key, interface_entry, world_entry, module_entry, Stands, AllStand, interface_key, world_key, module_key}
use Rattle.wac_component.specs.Sound.{IsSound}
use Rattle.wac_component.specs.Laws.{HasLeavesOf}
use Rattle.wac_component.proofs.Keys.{Each-append}
use Rattle.wac_component.proofs.Last.{IsLast}
use Rattle.wac_merge.specs.Built.{uses_of_both, AreBuilt, IsModuleBuilt, of_interfaces, of_worlds, of_modules}
use Rattle.wac_merge.specs.Items.{ExternKinds, extern_keys, extern_list}
use Rattle.wac_merge.specs.Memo.{Made, made_of, bound_key, IsBoundOf, IsBoundMade, before, now}
use Rattle.wac_merge.specs.Reads.{imports_at, exports_at, met_at, joined_at, IsInterfaceOfBoth, IsWorldOfBoth, IsModuleAdded}
use Rattle.wac_merge.specs.Runs.{FromBuilt, Runs}
use Rattle.wac_merge.specs.Told.{HasBoundNames, AreSidesOf, AreSidesBuilt}
use Rattle.wac_merge.specs.declared.entries.WorldSides.{WorldSides}
use Rattle.wac_merge.specs.declared.memo.Asked.{Asked}
use Rattle.wac_merge.specs.declared.memo.Bound.{Bound}
use Rattle.wac_merge.specs.declared.memo.Bound.TheVariants.{Meet, Join}
use Rattle.wac_merge.specs.declared.memo.BoundId.{BoundId}
use Rattle.wac_merge.specs.declared.memo.BoundId.TheVariants.{Interface, World, Module}
use Rattle.wac_merge.specs.declared.memo.BoundMemo.{BoundMemo}
use Rattle.wac_merge.specs.declared.memo.BoundPair.TheVariants.{Interfaces, Worlds, Modules}
use Rattle.wac_merge.proofs.BuiltLemmas.{Runs-made, Runs-none}
use Rattle.wac_merge.proofs.ReadLemmas.{interface_exports_are, module_at, module_last, interface_last, world_last, world_imports_are, world_exports_are, imports_stay, exports_stay, imports_at_stand, exports_at_stand}

leaves_of_interface : (c d : Collection) (e : InterfaceContent) → d ≡ with_entry c (interface_entry e) → HasLeavesOf c d
leaves_of_interface c d e h = subst (HasLeavesOf c) (sym h) record { number = refl; resources = refl; defined = refl; funcs = refl }

leaves_of_world : (c d : Collection) (e : WorldContent) → d ≡ with_entry c (world_entry e) → HasLeavesOf c d
leaves_of_world c d e h = subst (HasLeavesOf c) (sym h) record { number = refl; resources = refl; defined = refl; funcs = refl }

leaves_of_module : (c d : Collection) (e : ModuleTree) → d ≡ with_entry c (module_entry e) → HasLeavesOf c d
leaves_of_module c d e h = subst (HasLeavesOf c) (sym h) record { number = refl; resources = refl; defined = refl; funcs = refl }

-- a run that ends with an entry which was made before, or is made now
made_in : (ks : List Key) (c e : Collection) (m n : BoundMemo) (a : Asked) (r : BoundId) (IsAdded : Type 0) → IsBoundMade c m e n a r IsAdded → (IsAdded → Runs ks c (made_of m) e (made_of m ++ (a, r) ∷ [])) → Runs ks c (made_of m) e (made_of n)
made_in ks c e m n a r IsAdded (before there here same) f = Runs-none ks c e here same.made
made_in ks c e m n a r IsAdded (now new added put same_refused same) f = subst (λ (l : Made). Runs ks c (made_of m) e l) (sym put) (f added)

-- what is built of what valid module types say is built of their modules
pub built_of : (s t m : ModuleContent) → IsTrue (is_valid_module s) → IsTrue (is_valid_module t) → IsTrue (is_valid_module m) → IsModuleBuilt s t m → IsModuleBuilt (module_of s).content (module_of t).content (module_of m).content
built_of s t m p q r h = rw (module_of-content s p, module_of-content t q, module_of-content m r) h

-- what two entries export or import stands wherever the entries stood before
pub exports_follow : (c b : Collection) (x y : Key) → IsSound b → Extends b c → AllStand b (x ∷ y ∷ []) → AllStand b (extern_keys (exports_at c x) ++ extern_keys (exports_at c y))
exports_follow c b x y sound was stand = Each-append (Stands b) (extern_keys (exports_at c x)) (extern_keys (exports_at c y)) (one x stand.0) (one y stand.1.0)
  where
    one : (k : Key) → Stands b k → AllStand b (extern_keys (exports_at c k))
    one k stands = subst (λ l. AllStand b (extern_keys l)) (sym (exports_stay b c was k stands)) (exports_at_stand b k sound stands)

pub imports_follow : (c b : Collection) (x y : Key) → IsSound b → Extends b c → AllStand b (x ∷ y ∷ []) → AllStand b (extern_keys (imports_at c x) ++ extern_keys (imports_at c y))
imports_follow c b x y sound was stand = Each-append (Stands b) (extern_keys (imports_at c x)) (extern_keys (imports_at c y)) (one x stand.0) (one y stand.1.0)
  where
    one : (k : Key) → Stands b k → AllStand b (extern_keys (imports_at c k))
    one k stands = subst (λ l. AllStand b (extern_keys l)) (sym (imports_stay b c was k stands)) (imports_at_stand b k sound stands)

pub met_follow : (u : Bound) (c b : Collection) (x y : Key) → IsSound b → Extends b c → AllStand b (x ∷ y ∷ []) → AllStand b (extern_keys (met_at u c x) ++ extern_keys (met_at u c y))
met_follow Meet c b x y sound was stand = exports_follow c b x y sound was stand
met_follow Join c b x y sound was stand = imports_follow c b x y sound was stand

pub joined_follow : (u : Bound) (c b : Collection) (x y : Key) → IsSound b → Extends b c → AllStand b (x ∷ y ∷ []) → AllStand b (extern_keys (joined_at u c x) ++ extern_keys (joined_at u c y))
joined_follow Meet c b x y sound was stand = imports_follow c b x y sound was stand
joined_follow Join c b x y sound was stand = exports_follow c b x y sound was stand

pub met_stand : (u : Bound) (c : Collection) (k : Key) → IsSound c → Stands c k → AllStand c (extern_keys (met_at u c k))
met_stand Meet c k sound stands = exports_at_stand c k sound stands
met_stand Join c k sound stands = imports_at_stand c k sound stands

pub joined_stand : (u : Bound) (c : Collection) (k : Key) → IsSound c → Stands c k → AllStand c (extern_keys (joined_at u c k))
joined_stand Meet c k sound stands = imports_at_stand c k sound stands
joined_stand Join c k sound stands = exports_at_stand c k sound stands

-- c when two entries are read, e at the end
module _ (u : Bound) (c e : Collection) (m n : BoundMemo) (r : BoundId) (more : Extends c e) (x y : Id) where
  module _ (sound : IsSound c) (sx : Stands c (interface_key x)) (sy : Stands c (interface_key y)) (fs : ExternKinds) (made : IsBoundMade c m e n (record { bound = u; pair = Interfaces x y }) r ((q : Id) × (r ≡ Interface q) × IsInterfaceOfBoth c e x y fs q))
      (bound : IsBoundOf u c e (Interfaces x y) (Some r)) (names : HasBoundNames u (exports_at c (interface_key x)) (exports_at c (interface_key y)) fs) where
    all_or_some : (t : Bound) → HasBoundNames t (exports_at c (interface_key x)) (exports_at c (interface_key y)) fs → HasAllNames bytes_eq (exports_at c (interface_key x)) (exports_at c (interface_key y)) fs ⊎ HasSomeNames bytes_eq (exports_at c (interface_key x)) fs
    all_or_some Meet h = inl h
    all_or_some Join h = inr h

    pub interface_run : FromBuilt (interface_key x ∷ interface_key y ∷ []) c (made_of m) (λ b o. AreBuilt b c o (exports_at c (interface_key x)) (exports_at c (interface_key y)) fs) → Runs (interface_key x ∷ interface_key y ∷ []) c (made_of m) e (made_of n)
    interface_run built =
        made_in (interface_key x ∷ interface_key y ∷ []) c e m n (record { bound = u; pair = Interfaces x y }) r ((q : Id) × (r ≡ Interface q) × IsInterfaceOfBoth c e x y fs q) made (λ h. added h.0 h.1 h.2)
      where
        added : (q : Id) → r ≡ Interface q → IsInterfaceOfBoth c e x y fs q → Runs (interface_key x ∷ interface_key y ∷ []) c (made_of m) e (made_of m ++ (record { bound = u; pair = Interfaces x y }, r) ∷ [])
        added q is h =
            let es_are : h.first.exports ≡ exports_at c (interface_key x) = sym (interface_exports_are c x h.first h.first_at) in
            let ts_are : h.second.exports ≡ exports_at c (interface_key y) = sym (interface_exports_are c y h.second h.second_at) in
            let entry : InterfaceContent = record { id = None; uses = uses_of_both h.first.uses h.second.uses; exports = fs } in
            Runs-made c e (record { bound = u; pair = Interfaces x y }) r (interface_entry h.first) (interface_entry h.second) (interface_entry entry) (λ b o. AreBuilt b c o (exports_at c (interface_key x)) (exports_at c (interface_key y)) fs) more
            (leaves_of_interface c e entry h.added) (subst (λ z. IsLast c e (interface_entry entry) (bound_key z)) (sym is) (interface_last c e x y q fs h)) h.first_at h.second_at
            (λ b o g. of_interfaces record { no_identifier = refl; uses = refl; exports = rw (es_are, ts_are) g; names = rw (es_are, ts_are) (all_or_some u names) }) bound (made_of m) built

  module _ (sound : IsSound c) (sx : Stands c (world_key x)) (sy : Stands c (world_key y)) (w : WorldSides) (made : IsBoundMade c m e n (record { bound = u; pair = Worlds x y }) r ((q : Id) × (r ≡ World q) × IsWorldOfBoth c e x y (extern_list w.imports) (extern_list w.exports) q))
      (bound : IsBoundOf u c e (Worlds x y) (Some r)) (sides : AreSidesOf u c (world_key x) (world_key y) w) where
    abbrev AreNamed : Type 0
    AreNamed = (HasAllNames bytes_eq (exports_at c (world_key x)) (exports_at c (world_key y)) (extern_list w.exports) × HasSomeNames bytes_eq (imports_at c (world_key x)) (extern_list w.imports))
        ⊎ (HasSomeNames bytes_eq (exports_at c (world_key x)) (extern_list w.exports) × HasAllNames bytes_eq (imports_at c (world_key x)) (imports_at c (world_key y)) (extern_list w.imports))

    side_names : (t : Bound) → AreSidesOf t c (world_key x) (world_key y) w → AreNamed
    side_names Meet s = inl (s.all, s.some)
    side_names Join s = inr (s.some, s.all)

    pub world_run : FromBuilt (world_key x ∷ world_key y ∷ []) c (made_of m) (λ b o. AreSidesBuilt b c o (world_key x) (world_key y) w) → Runs (world_key x ∷ world_key y ∷ []) c (made_of m) e (made_of n)
    world_run built =
        made_in (world_key x ∷ world_key y ∷ []) c e m n (record { bound = u; pair = Worlds x y }) r ((q : Id) × (r ≡ World q) × IsWorldOfBoth c e x y (extern_list w.imports) (extern_list w.exports) q) made (λ h. added h.0 h.1 h.2)
      where
        added : (q : Id) → r ≡ World q → IsWorldOfBoth c e x y (extern_list w.imports) (extern_list w.exports) q → Runs (world_key x ∷ world_key y ∷ []) c (made_of m) e (made_of m ++ (record { bound = u; pair = Worlds x y }, r) ∷ [])
        added q is h =
            let is_are : h.first.imports ≡ imports_at c (world_key x) = sym (world_imports_are c x h.first h.first_at) in
            let js_are : h.second.imports ≡ imports_at c (world_key y) = sym (world_imports_are c y h.second h.second_at) in
            let es_are : h.first.exports ≡ exports_at c (world_key x) = sym (world_exports_are c x h.first h.first_at) in
            let ts_are : h.second.exports ≡ exports_at c (world_key y) = sym (world_exports_are c y h.second h.second_at) in
            let entry : WorldContent = record { id = None; uses = uses_of_both h.first.uses h.second.uses; imports = extern_list w.imports; exports = extern_list w.exports } in
            Runs-made c e (record { bound = u; pair = Worlds x y }) r (world_entry h.first) (world_entry h.second) (world_entry entry) (λ b o. AreSidesBuilt b c o (world_key x) (world_key y) w) more
            (leaves_of_world c e entry h.added) (subst (λ z. IsLast c e (world_entry entry) (bound_key z)) (sym is) (world_last c e x y q (extern_list w.imports) (extern_list w.exports) h)) h.first_at h.second_at
            (λ b o g. of_worlds record { no_identifier = refl; uses = refl; imports = rw (is_are, js_are) g.0; exports = rw (es_are, ts_are) g.1; names = rw (es_are, ts_are, is_are, js_are) (side_names u sides) }) bound (made_of m) built

  pub module_run : (s t : ModuleTree) (mt : ModuleContent) → slice_get c.modules x.index ≡ Some s → slice_get c.modules y.index ≡ Some t → IsModuleBuilt s.content t.content (module_of mt).content
      → IsBoundMade c m e n (record { bound = u; pair = Modules x y }) r ((q : Id) × (r ≡ Module q) × IsModuleAdded c e mt q) → IsBoundOf u c e (Modules x y) (Some r) → Runs (module_key x ∷ module_key y ∷ []) c (made_of m) e (made_of n)
  module_run s t mt at_x at_y is_built made bound =
      made_in (module_key x ∷ module_key y ∷ []) c e m n (record { bound = u; pair = Modules x y }) r ((q : Id) × (r ≡ Module q) × IsModuleAdded c e mt q) made
      (λ h. Runs-made c e (record { bound = u; pair = Modules x y }) r (module_entry s) (module_entry t) (module_entry (module_of mt)) (λ b o. Unit {0}) more (leaves_of_module c e (module_of mt) h.2.added)
      (subst (λ z. IsLast c e (module_entry (module_of mt)) (bound_key z)) (sym h.1) (module_last c e h.0 (module_of mt) h.2.added h.2.placed)) (module_at c x s at_x) (module_at c y t at_y) (λ b o g. of_modules is_built) bound (made_of m) (λ b o sound stand only made. tt))
