-- The two cases of what a handle owns. Assumes `Logic`.
use Rattle.std.proofs.Common.{◌≡◌, ℕ, List, ◌∷◌, refl}
use seplogic.Ra.Ura.{Ura}
use mir.Raw.{raw as bare}
use base.Logic.{SProp, ent, guard, never, via, fst∗, snd∗, guard_i}
use types.Logic.{Logic, sem}
use types.Kit.{Item, Goal, Seq, ‵, given, ◌$◌, use1, learn, feq_l}
use contract.Monad.{fact_use}
use denote.RattleType.{RattleType}
use denote.Memory.{lone}
use denote.RawPtr.{Ptr, block_ptr, null_ptr, Testable, in_a_block}
use Rattle.std.specs.declared.alloc.Global.{Global}
use Rattle.std.specs.contracts.impls.GlobalAllocator.TheImpl.{ghosts}
use Rattle.std.specs.declared.option.Option.{Option}
use Rattle.std.specs.declared.option.Option.TheVariants.{None, Some}
use Rattle.std.specs.Box.Ownership.{box_owns}
use Rattle.std.specs.Ptr.{points_to}
use Rattle.std.proofs.GlobalToken.{dealloc_token-Testable}
use Rattle.wac_c_calls.specs.Ownership.{handle_owns}

module _ (R : RattleType) (a : Global) {M : Type 1} {𝓤 : Ura M} (𝓛 : Logic 𝓤) where
  -- whoever may free the block may compare its pointer with null
  tested : (p : Ptr) (x : R.Denot) → ent 𝓤 (sem 𝓛 (box_owns (ghosts.dealloc_token a) R p x)) (guard 𝓤 (Testable p) (sem 𝓛 (box_owns (ghosts.dealloc_token a) R p x)))
  tested p x =
      let B : SProp 𝓤 = sem 𝓛 (box_owns (ghosts.dealloc_token a) R p x) in
      fact_use 𝓤 (Testable p) (via 𝓤 _ (snd∗ 𝓤 (sem 𝓛 (points_to R p x)) (sem 𝓛 (ghosts.dealloc_token a (bare (lone R.mir)) p))) (dealloc_token-Testable 𝓛 a (bare (lone R.mir)) p)) (guard_i 𝓤 (Testable p) B)

module _ (R : RattleType) (a : Global) {M : Type 1} {𝓤 : Ura M} {𝓛 : Logic 𝓤} {K : Type 0} {Γ : List (Item 𝓤)} {G : Goal 𝓤 𝓛.H} where
  pub handle_cases : K → (p : Ptr) (v : Option R.Denot) → (p ≡ null_ptr → v ≡ None → Seq K 𝓛 Γ G)
      → ((b o : ℕ) (x : R.Denot) → p ≡ block_ptr b o → v ≡ Some x → Testable (block_ptr b o) → Seq K 𝓛 (‵ (box_owns (ghosts.dealloc_token a) R (block_ptr b o) x) ∷ Γ) G)
      → Seq K 𝓛 (‵ (handle_owns R a p v) ∷ Γ) G
  handle_cases t p None nothing_there box_there = feq_l t (λ e. nothing_there e refl)
  handle_cases t p (Some x) nothing_there box_there =
      in_a_block t p (λ q. box_owns (ghosts.dealloc_token a) R q x) (fst∗ 𝓤 (never 𝓤) (sem 𝓛 (ghosts.dealloc_token a (bare (lone R.mir)) null_ptr))) (λ b o e.
      use1 𝓛 (given (Testable (block_ptr b o)) (‵ (box_owns (ghosts.dealloc_token a) R (block_ptr b o) x))) (tested R a 𝓛 (block_ptr b o) x) $ learn t (λ s. box_there b o x e refl s))
