-- Refusals that are told still.
use Rattle.std.proofs.Common.{◌≡◌, ◌∙◌, List, [], ◌∷◌, ◌++◌, ap, map, refl, subst, sym}
use Rattle.std.specs.Prelude.{Vec}
use Rattle.std.specs.declared.alloc.Global.{Global}
use Rattle.wac_wit_names.specs.declared.error.WitError.{WitError}
use Rattle.wac_wit_names.specs.declared.error.WitError.TheVariants.{Memory, Missing, Refused}
use Rattle.wac_wit_names.specs.declared.error.WitRefusal.{WitRefusal}
use Rattle.wac_wit_names.specs.declared.features.Features.{Features}
use Rattle.wac_wit_names.specs.declared.sources.SourceFile.{SourceFile}
use Rattle.wac_wit_refusals.specs.Kept.{AreKeptRefusals, IsKeptRefusal, TellsStill, none_kept, of_memory, of_missing, one_kept}
use Rattle.wac_wit_refusals.specs.Reasons.{AreRefusedFor}

-- and one more
pub kept_pushed : (rs qs : List WitRefusal) (r q : WitRefusal) → AreKeptRefusals rs qs → IsKeptRefusal r q → AreKeptRefusals (rs ++ r ∷ []) (qs ++ q ∷ [])
kept_pushed _ _ r q none_kept last = one_kept r q [] [] last none_kept
kept_pushed _ _ r q (one_kept a b rs qs first rest) last = one_kept a b _ _ first (kept_pushed rs qs r q rest last)

map_itself : {A : Type 0} (xs : List A) → map (λ y. y) xs ≡ xs
map_itself [] = refl
map_itself (x ∷ xs) = ap (λ l. x ∷ l) (map_itself xs)

-- those that a walk gave are all
pub all_kept : (all rs qs : List WitRefusal) → map (λ y. y) rs ≡ all → AreKeptRefusals rs qs → AreKeptRefusals all qs
all_kept all rs qs same kept = subst (λ l. AreKeptRefusals l qs) (sym (map_itself rs) ∙ same) kept

-- an error that refuses nothing
module _ (e : WitError) (not_refused : (rs : Vec WitRefusal Global) → e ≡ Refused rs → ⊥) where
  pub tells_itself : TellsStill e e
  tells_itself = go e refl
    where
      go : (x : WitError) → e ≡ x → TellsStill x x
      go (Refused rs) is = absurd (not_refused rs is)
      go Missing is = of_missing
      go Memory is = of_memory Memory

  pub refuses_nothing : (files : List SourceFile) (features : Features) → AreRefusedFor files features e
  refuses_nothing files features = go e refl
    where
      go : (x : WitError) → e ≡ x → AreRefusedFor files features x
      go (Refused rs) is = absurd (not_refused rs is)
      go Missing is = tt
      go Memory is = tt
