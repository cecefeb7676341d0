-- Lists that are walked.
use Rattle.std.proofs.Common.{◌≡◌, ℕ, ◌<◌, Bool, true, false, IsTrue, arith, List, [], ◌∷◌, ◌++◌, Contains, Option, Some, None, is_some, not, inl, inr, length, get_or, ap, sym, subst}
use Rattle.std.specs.Prelude.{◌↔◌}
use Rattle.std.proofs.lemmas.List.Elements.{Contains-push_cases}

-- what is read at an index is one of them
pub among_at : {A : Type 0} (xs : List A) (i : ℕ) (x : A) → i < length xs → x ≡ get_or xs i x → Contains xs x
among_at xs i x within at = (i, within, sym at)

pub among_of : {A : Type 0} (xs ys : List A) (i : ℕ) (x : A) → ys ≡ xs → i < length ys → x ≡ get_or ys i x → Contains xs x
among_of xs ys i x same within at = subst (λ l. Contains l x) same (among_at ys i x within at)

-- what holds of each, and of one more
pub each_push : {A : Type 0} (P : A → Type 0) (xs ys : List A) (x : A) → ys ≡ xs ++ x ∷ [] → ((y : A) → Contains xs y → P y) → P x → (y : A) → Contains ys y → P y
each_push P xs ys x same all here y among = elim (Contains-push_cases xs x y (subst (λ l. Contains l y) same among)) [ inl h ↦ all y h | inr e ↦ subst P e here ]

-- a test that fails
pub not_so : (P : Type 0) (b : Bool) → b ≡ false → IsTrue b ↔ P → P → ⊥
not_so P b e h p = let t : b ≡ true = h.1 p in absurd (cc)

pub not_true : (b : Bool) → b ≡ false → IsTrue b → ⊥
not_true b e h = let t : b ≡ true = h in absurd (cc)

pub among_none : {A : Type 0} (xs : List A) (x : A) → xs ≡ [] → Contains xs x → ⊥
among_none xs x same among = let h = subst (λ l. Contains l x) same among in absurd (omega (arith, h.1))

pub not_both : (b : Bool) → IsTrue (not b) → IsTrue b → ⊥
not_both true n h = let e : false ≡ true = n in absurd (cc)
not_both false n h = let e : false ≡ true = h in absurd (cc)

pub is_there_some : {A : Type 0} (o : Option A) (b : Bool) → is_some o ≡ not b → b ≡ false → o ≡ None → ⊥
is_there_some None b h e none = let t : not b ≡ true = ap not e in let f : false ≡ not b = h in absurd (cc)
is_there_some (Some x) b h e none = absurd (cc)
