-- Elements of lists, as far as a loop has come.
use Rattle.std.proofs.Common.{◌≡◌, ℕ, ◌+◌, ◌<◌, ◌≤◌, List, Contains, Option, Some, arith, get_or, length, refl, sym, subst, ◌∙◌, IfOk, Result, Ok, Err}
use Rattle.std.specs.Prelude.{IfErr, IfSome, slice_get}
use Rattle.std.specs.Result.{IsErr, IsErrAnd}
use borrow.Author.Count.{below_more}
use Rattle.std.proofs.lemmas.Option.{get_or_from_slice_get, slice_get-get_or, slice_get_within}
use Rattle.wac_wit.specs.Read.{KeepsKnowing}
use Rattle.wac_wit_validation.specs.declared.validator.Validator.{Validator}

-- the fact holds of each element before an index
abbrev pub AllBefore : {X : Type 0} → (X → Type 0) → List X → ℕ → Type 0
AllBefore {X} P xs i = (k : ℕ) (d : X) → k < i → P (get_or xs k d)

get_or-same : {X : Type 0} (xs : List X) (i : ℕ) (d e : X) → i < length xs → get_or xs i d ≡ get_or xs i e
get_or-same xs i d e below = let one = slice_get-get_or xs i d below in let other = slice_get-get_or xs i e below in cc

module _ {X : Type 0} (P : X → Type 0) (xs : List X) where
  pub AllBefore-more : (i : ℕ) (x : X) → i < length xs → x ≡ get_or xs i x → AllBefore P xs i → P x → AllBefore P xs (i + 1)
  AllBefore-more i x below at all here = λ k d h. below_more (λ j. (e : X) → P (get_or xs j e)) i (λ j g e. all j e g) (λ e. subst P (at ∙ get_or-same xs i x e below) here) k h d

  pub AllBefore-none : AllBefore P xs 0
  AllBefore-none = λ k d h. absurd (omega (arith, h))

  pub AllBefore-contains : (i : ℕ) (x : X) → length xs ≤ i → AllBefore P xs i → Contains xs x → P x
  AllBefore-contains i x past all among = subst P among.2 (all among.0 x (omega (arith, among.1)))

  pub AllBefore-next : (i : ℕ) (x : X) → slice_get xs i ≡ Some x → AllBefore P xs i → P x → AllBefore P xs (i + 1)
  AllBefore-next i x at all here = AllBefore-more i x (slice_get_within xs i x at) (sym (get_or_from_slice_get xs i x x at)) all here

pub knowing_kept : (v : Validator) → KeepsKnowing v v
knowing_kept v = record { types = refl; knows = λ of h. h }

pub knowing_then : (u v w : Validator) → KeepsKnowing u v → KeepsKnowing v w → KeepsKnowing u w
knowing_then u v w x y = record { types = y.types ∙ x.types; knows = λ of h. y.knows of (x.knows of h) }

-- what is told of a value that is there
pub some_of : {A : Type 0} (o : Option A) (x : A) (P : A → Type 0) → o ≡ Some x → IfSome o P → P x
some_of o x P is told = let both = subst (λ q. IfSome q P) is told in both

pub told_of : {A E : Type 0} (r : Result A E) (P Q : A → Type 0) → IfOk r P → ((x : A) → P x → Q x) → IfOk r Q
told_of (Ok x) P Q told f = f x told
told_of (Err e) P Q told f = tt

-- what is told of an error that is handed on
pub err_told : {T E : Type 0} (r : Result T E) (x : E) (P : E → Type 0) → IsErr r × IsErrAnd r (λ y. y ≡ x) → P x → IfErr r P
err_told (Ok v) x P e p = tt
err_told (Err y) x P e p = subst P (sym e.1) p
