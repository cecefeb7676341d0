-- What types are written, and listed.
use Rattle.std.proofs.Common.{◌≡◌, List, [], ◌∷◌, ◌++◌, Option, Some, Ok, Err, Result, sym, subst, OnOk}
use Rattle.std.specs.Borrow.{Bor}
use Rattle.std.specs.Prelude.{Box}
use Rattle.std.specs.declared.alloc.Global.{Global}
use Rattle.wac_wit_refusals_sites.specs.TypeLists.{AreWritten, IsOptionalIn}
use Rattle.wac_wit_refusals_sites.specs.TypeSites.{IsPart, IsWritten, TypedSyntax, a_part}
use Rattle.wac_wit_refusals_sites.proofs.TypeFacts.{kept_push}
use Rattle.wac_wit_syntax.specs.declared.tree.TypeExpr.{TypeExpr}

-- a part of what is written
pub written_part : (s : TypedSyntax) (e whole p inner : TypeExpr) → e ≡ whole → inner ≡ p → IsPart whole p → IsWritten s e → IsWritten s inner
written_part s e whole p inner is same part w = subst (IsWritten s) (sym same) (a_part s whole p (subst (IsWritten s) is w) part)

pub optional_part : (s : TypedSyntax) (e whole : TypeExpr) (o : Option (Box TypeExpr Global)) → e ≡ whole → ((b : Box TypeExpr Global) → o ≡ Some b → IsPart whole b.value) → IsWritten s e → IsOptionalIn s o
optional_part s e whole o is part w b at = a_part s whole b.value (subst (IsWritten s) is w) (part b at)

-- a type is put last, and then what it is made of
module _ (e : TypeExpr) (old mid : List (Bor TypeExpr)) (x : Bor TypeExpr) (pushed : mid ≡ old ++ x ∷ []) (is : x.now ≡ e) where
  after_push : (s : TypedSyntax) → IsWritten s e → AreWritten s old → AreWritten s mid
  after_push s w all = kept_push (λ (y : Bor TypeExpr). IsWritten s y.now) old mid x pushed all (subst (IsWritten s) (sym is) w)

  pub pushed_then : {T E : Type 0} (r : Result T E) (A : TypedSyntax → Type 0) (new : List (Bor TypeExpr)) → ((s : TypedSyntax) → IsWritten s e → A s) → OnOk r ((s : TypedSyntax) → A s → AreWritten s mid → AreWritten s new)
      → OnOk r ((s : TypedSyntax) → IsWritten s e → AreWritten s old → AreWritten s new)
  pushed_then (Ok u) A new parts h = λ s w all. h s (parts s w) (after_push s w all)
  pushed_then (Err u) A new parts h = h

  pub pushed_both : {T E : Type 0} (r : Result T E) (A B : TypedSyntax → Type 0) (next new : List (Bor TypeExpr)) → ((s : TypedSyntax) → IsWritten s e → A s) → ((s : TypedSyntax) → IsWritten s e → B s) → ((s : TypedSyntax) → A s → AreWritten s mid → AreWritten s next)
      → OnOk r ((s : TypedSyntax) → B s → AreWritten s next → AreWritten s new) → OnOk r ((s : TypedSyntax) → IsWritten s e → AreWritten s old → AreWritten s new)
  pushed_both (Ok u) A B next new first second g h = λ s w all. h s (second s w) (g s (first s w) (after_push s w all))
  pushed_both (Err u) A B next new first second g h = h
