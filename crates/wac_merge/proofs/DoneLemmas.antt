-- What is known of a meet or a join that was made before or is made now.
use Rattle.std.proofs.Common.{◌≡◌, ap, sym, subst, ◌∙◌, suc, Some, None}
use Rattle.wac_model.specs.CoreTree.{ModuleContent, module_of}
use Rattle.wac_component.specs.Collection.{Collection}
use Rattle.wac_component.specs.Growth.{Extends, with_entry}
use Rattle.wac_component.specs.Id.{Id}
use Rattle.wac_component.specs.Key.{Entry, interface_entry, world_entry, module_entry, Stands, interface_key, world_key, module_key}
use Rattle.wac_component.specs.Sound.{entry_count, IsSound}
use Rattle.wac_component.specs.Tree.{module_tree}
use Rattle.wac_component.proofs.Added.{Adds-with_entry}
use Rattle.wac_merge.specs.Bounded.{IsMetAs, IsJoinedAs}
use Rattle.wac_merge.specs.Built.{uses_of_both}
use Rattle.wac_merge.specs.Items.{ExternKinds, extern_list, entry_item}
use Rattle.wac_merge.specs.Memo.{bound_key, IsBoundOf, IsTrueMemo, IsBoundMade}
use Rattle.wac_merge.specs.Reads.{exports_at, IsInterfaceOfBoth, IsWorldOfBoth, IsModuleAdded}
use Rattle.wac_merge.specs.Told.{AreBound, AreSidesOf, IsModuleBoundIn}
use Rattle.wac_merge.specs.declared.entries.WorldSides.{WorldSides}
use Rattle.wac_merge.specs.declared.memo.Bound.{Bound}
use Rattle.wac_merge.specs.declared.memo.Bound.TheVariants.{Meet, Join}
use Rattle.wac_merge.specs.declared.memo.BoundId.{BoundId}
use Rattle.wac_merge.specs.declared.memo.BoundId.TheVariants.{Interface, World, Module}
use Rattle.wac_merge.specs.declared.memo.BoundMemo.{BoundMemo}
use Rattle.wac_merge.specs.declared.memo.BoundPair.TheVariants.{Interfaces, Worlds, Modules}
use Rattle.wac_merge.proofs.CompositeLemmas.{interfaces_met, interfaces_joined, worlds_met, worlds_joined, modules_met, modules_joined}
use Rattle.wac_merge.proofs.MemoLemmas.{IsDone, done}
use Rattle.wac_merge.proofs.ReadLemmas.{has_exports_at}

one_more : (c d : Collection) (e : Entry) → d ≡ with_entry c e → entry_count d ≡ suc (entry_count c)
one_more c d e h = ap entry_count h ∙ (Adds-with_entry c e).count

-- c when two entries are read, e at the end
module _ (u : Bound) (c e : Collection) (m n : BoundMemo) (r : BoundId) (known : IsTrueMemo c m) (more : Extends c e) (x y : Id) where
  module _ (sound : IsSound c) (sx : Stands c (interface_key x)) (sy : Stands c (interface_key y)) (fs : ExternKinds) (bound : AreBound u c c (exports_at c (interface_key x)) (exports_at c (interface_key y)) (Some fs)) where
    abbrev IsAdded : Type 0
    IsAdded = (q : Id) × (r ≡ Interface q) × IsInterfaceOfBoth c e x y fs q

    interface_bound : IsAdded → IsBoundOf u c e (Interfaces x y) (Some r)
    interface_bound h = go u bound
      where
        go : (t : Bound) → AreBound t c c (exports_at c (interface_key x)) (exports_at c (interface_key y)) (Some fs) → IsBoundOf t c e (Interfaces x y) (Some r)
        go Meet met = λ k. subst (λ z. IsMetAs c e (entry_item k (interface_key x)) (entry_item k (interface_key y)) (Some (entry_item k (bound_key z)))) (sym h.1) (interfaces_met c e x y k _ _ (has_exports_at c x sound sx) (has_exports_at c y sound sy) fs h.0 met h.2.tree)
        go Join joined = λ k. subst (λ z. IsJoinedAs c e (entry_item k (interface_key x)) (entry_item k (interface_key y)) (Some (entry_item k (bound_key z)))) (sym h.1) (interfaces_joined c e x y k _ _ (has_exports_at c x sound sx) (has_exports_at c y sound sy) fs h.0 joined h.2.tree)

    pub interface_done : IsBoundMade c m e n (record { bound = u; pair = Interfaces x y }) r IsAdded → IsDone u (Interfaces x y) c m e n r
    interface_done made = done u (Interfaces x y) c m e n r more sx sy known IsAdded
        (λ h. (one_more c e (interface_entry (record { id = None; uses = uses_of_both h.2.first.uses h.2.second.uses; exports = fs })) h.2.added, interface_bound h, subst (λ z. Stands e (bound_key z)) (sym h.1) h.2.stands)) made

  module _ (sound : IsSound c) (sx : Stands c (world_key x)) (sy : Stands c (world_key y)) (w : WorldSides) (bound : AreSidesOf u c (world_key x) (world_key y) w) where
    abbrev IsWorldAdded : Type 0
    IsWorldAdded = (q : Id) × (r ≡ World q) × IsWorldOfBoth c e x y (extern_list w.imports) (extern_list w.exports) q

    world_bound : IsWorldAdded → IsBoundOf u c e (Worlds x y) (Some r)
    world_bound h = go u bound
      where
        go : (t : Bound) → AreSidesOf t c (world_key x) (world_key y) w → IsBoundOf t c e (Worlds x y) (Some r)
        go Meet s = λ k. subst (λ z. IsMetAs c e (entry_item k (world_key x)) (entry_item k (world_key y)) (Some (entry_item k (bound_key z)))) (sym h.1) (worlds_met c e x y k sound sx sy (extern_list w.exports) (extern_list w.imports) h.0 s.met s.joined h.2.tree)
        go Join s = λ k. subst (λ z. IsJoinedAs c e (entry_item k (world_key x)) (entry_item k (world_key y)) (Some (entry_item k (bound_key z)))) (sym h.1) (worlds_joined c e x y k sound sx sy (extern_list w.imports) (extern_list w.exports) h.0 s.met s.joined h.2.tree)

    pub world_done : IsBoundMade c m e n (record { bound = u; pair = Worlds x y }) r IsWorldAdded → IsDone u (Worlds x y) c m e n r
    world_done made = done u (Worlds x y) c m e n r more sx sy known IsWorldAdded
        (λ h. (one_more c e (world_entry (record { id = None; uses = uses_of_both h.2.first.uses h.2.second.uses; imports = extern_list w.imports; exports = extern_list w.exports })) h.2.added, world_bound h, subst (λ z. Stands e (bound_key z)) (sym h.1) h.2.stands)) made

  module _ (sx : Stands c (module_key x)) (sy : Stands c (module_key y)) (s t mt : ModuleContent) (at_x : (module_tree c x).content ≡ s) (at_y : (module_tree c y).content ≡ t) (bound : IsModuleBoundIn u s t (Some mt)) where
    abbrev IsModuleMade : Type 0
    IsModuleMade = (q : Id) × (r ≡ Module q) × IsModuleAdded c e mt q

    module_bound : IsModuleMade → IsBoundOf u c e (Modules x y) (Some r)
    module_bound h = go u bound
      where
        go : (v : Bound) → IsModuleBoundIn v s t (Some mt) → IsBoundOf v c e (Modules x y) (Some r)
        go Meet met = λ k. subst (λ z. IsMetAs c e (entry_item k (module_key x)) (entry_item k (module_key y)) (Some (entry_item k (bound_key z)))) (sym h.1) (modules_met c e x y k s t (Some mt) (Some h.0) at_x at_y (ap (λ (o : ModuleContent). Some o) h.2.tree) met)
        go Join joined = λ k. subst (λ z. IsJoinedAs c e (entry_item k (module_key x)) (entry_item k (module_key y)) (Some (entry_item k (bound_key z)))) (sym h.1) (modules_joined c e x y k s t (Some mt) (Some h.0) at_x at_y (ap (λ (o : ModuleContent). Some o) h.2.tree) joined)

    pub module_done : IsBoundMade c m e n (record { bound = u; pair = Modules x y }) r IsModuleMade → IsDone u (Modules x y) c m e n r
    module_done made = done u (Modules x y) c m e n r more sx sy known IsModuleMade
        (λ h. (one_more c e (module_entry (module_of mt)) h.2.added, module_bound h, subst (λ z. Stands e (bound_key z)) (sym h.1) h.2.stands)) made
