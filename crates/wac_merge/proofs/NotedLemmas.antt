-- What is noted of two entries: the bound that is made of them, or that they have none.
use Rattle.std.proofs.Common.{◌≡◌, refl, sym, subst, ◌∷◌, [], Some, None}
use Rattle.wac_model.specs.CoreTree.{ModuleContent}
use Rattle.wac_component.specs.Collection.{Collection}
use Rattle.wac_component.specs.Growth.{Extends}
use Rattle.wac_component.specs.Id.{Id}
use Rattle.wac_component.specs.Key.{Stands, interface_key, world_key, module_key}
use Rattle.wac_component.specs.Sound.{IsSound}
use Rattle.wac_component.specs.Tree.{module_tree}
use Rattle.wac_merge.specs.Built.{AreBuilt}
use Rattle.wac_merge.specs.Items.{ExternKinds, extern_list}
use Rattle.wac_merge.specs.Memo.{asked_for, Made, made_of, IsBoundMade, IsTrueMemo, IsTrueRefused, Grows}
use Rattle.wac_merge.specs.Reads.{exports_at, IsInterfaceOfBoth, IsWorldOfBoth}
use Rattle.wac_merge.specs.Runs.{FromBuilt, Runs}
use Rattle.wac_merge.specs.Told.{AreBound, HasBoundNames, AreSides, AreSidesOf, AreSidesBuilt, IsModuleBoundIn}
use Rattle.wac_merge.specs.declared.entries.WorldSides.{WorldSides}
use Rattle.wac_merge.specs.declared.memo.Bound.{Bound}
use Rattle.wac_merge.specs.declared.memo.Bound.TheVariants.{Meet, Join}
use Rattle.wac_merge.specs.declared.memo.BoundId.{BoundId}
use Rattle.wac_merge.specs.declared.memo.BoundId.TheVariants.{Interface, World}
use Rattle.wac_merge.specs.declared.memo.BoundMemo.{BoundMemo}
use Rattle.wac_merge.specs.declared.memo.BoundPair.TheVariants.{Interfaces, Worlds, Modules}
use Rattle.wac_merge.proofs.CompositeLemmas.{interfaces_clash, worlds_clash, worlds_do_not_join, modules_met, modules_joined}
use Rattle.wac_merge.proofs.DoneLemmas.{interface_done, world_done}
use Rattle.wac_merge.proofs.MadeLemmas.{interface_run, world_run}
use Rattle.wac_merge.proofs.MemoLemmas.{Grows-after}
use Rattle.wac_merge.proofs.ReadLemmas.{has_exports_at}

-- c when two entries are read, and l is remembered; m with what is compared since; e and n at the end
module _ (c e : Collection) (l m n : BoundMemo) (u : Bound) (r : BoundId) (same : made_of m ≡ made_of l) (known : IsTrueMemo c m) (more : Extends c e) (sound : IsSound c) (x y : Id) where
  module _ (sx : Stands c (interface_key x)) (sy : Stands c (interface_key y)) (fs : ExternKinds) (made : IsBoundMade c m e n (asked_for u (Interfaces x y)) r ((q : Id) × (r ≡ Interface q) × IsInterfaceOfBoth c e x y fs q))
      (bound : AreBound u c c (exports_at c (interface_key x)) (exports_at c (interface_key y)) (Some fs)) where
    pub interface_grows : Grows c l e n
    interface_grows = Grows-after c e l m n same (interface_done u c e m n r known more x y sound sx sy fs bound made).grows

    pub interface_runs : HasBoundNames u (exports_at c (interface_key x)) (exports_at c (interface_key y)) fs
        → FromBuilt (interface_key x ∷ interface_key y ∷ []) c (made_of l) (λ b o. AreBuilt b c o (exports_at c (interface_key x)) (exports_at c (interface_key y)) fs) → Runs (interface_key x ∷ interface_key y ∷ []) c (made_of l) e (made_of n)
    interface_runs names built =
        subst (λ (z : Made). Runs (interface_key x ∷ interface_key y ∷ []) c z e (made_of n)) same
        (interface_run u c e m n r more x y sound sx sy fs made (interface_done u c e m n r known more x y sound sx sy fs bound made).bound names
        (subst (λ (z : Made). FromBuilt (interface_key x ∷ interface_key y ∷ []) c z (λ b o. AreBuilt b c o (exports_at c (interface_key x)) (exports_at c (interface_key y)) fs)) (sym same) built))

  module _ (sx : Stands c (world_key x)) (sy : Stands c (world_key y)) (w : WorldSides) (made : IsBoundMade c m e n (asked_for u (Worlds x y)) r ((q : Id) × (r ≡ World q) × IsWorldOfBoth c e x y (extern_list w.imports) (extern_list w.exports) q))
      (bound : AreSidesOf u c (world_key x) (world_key y) w) where
    pub world_grows : Grows c l e n
    world_grows = Grows-after c e l m n same (world_done u c e m n r known more x y sound sx sy w bound made).grows

    pub world_runs : FromBuilt (world_key x ∷ world_key y ∷ []) c (made_of l) (λ b o. AreSidesBuilt b c o (world_key x) (world_key y) w) → Runs (world_key x ∷ world_key y ∷ []) c (made_of l) e (made_of n)
    world_runs built =
        subst (λ (z : Made). Runs (world_key x ∷ world_key y ∷ []) c z e (made_of n)) same
        (world_run u c e m n r more x y sound sx sy w made (world_done u c e m n r known more x y sound sx sy w bound made).bound bound
        (subst (λ (z : Made). FromBuilt (world_key x ∷ world_key y ∷ []) c z (λ b o. AreSidesBuilt b c o (world_key x) (world_key y) w)) (sym same) built))

-- what has no bound is refused

pub interface_refused : (u : Bound) (c : Collection) (x y : Id) → IsSound c → Stands c (interface_key x) → Stands c (interface_key y) → AreBound u c c (exports_at c (interface_key x)) (exports_at c (interface_key y)) None → IsTrueRefused c (asked_for u (Interfaces x y))
interface_refused Meet c x y sound sx sy h = record { first = sx; second = sy; none = λ k. interfaces_clash c c x y k _ _ (has_exports_at c x sound sx) (has_exports_at c y sound sy) h }
interface_refused Join c x y sound sx sy h = elim h [ ]

pub world_refused : (u : Bound) (c : Collection) (x y : Id) → IsSound c → Stands c (world_key x) → Stands c (world_key y) → AreSides u c (world_key x) (world_key y) None → IsTrueRefused c (asked_for u (Worlds x y))
world_refused Meet c x y sound sx sy h = record { first = sx; second = sy; none = λ k. worlds_clash c c x y k sound sx sy h }
world_refused Join c x y sound sx sy h = record { first = sx; second = sy; none = λ k. worlds_do_not_join c c x y k sound sx sy h }

pub module_refused : (u : Bound) (c : Collection) (x y : Id) (s t : ModuleContent) → (module_tree c x).content ≡ s → (module_tree c y).content ≡ t → Stands c (module_key x) → Stands c (module_key y) → IsModuleBoundIn u s t None → IsTrueRefused c (asked_for u (Modules x y))
module_refused Meet c x y s t at_x at_y sx sy h = record { first = sx; second = sy; none = λ k. modules_met c c x y k s t None None at_x at_y refl h }
module_refused Join c x y s t at_x at_y sx sy h = record { first = sx; second = sy; none = λ k. modules_joined c c x y k s t None None at_x at_y refl h }
