-- Comments that nest.
use Rattle.std.proofs.Common.{◌≡◌, ℕ, ◌+◌, ◌-◌, ◌<◌, ◌≢◌, Bool, true, false, cond, ◌&&◌, ◌⊎◌, List, [], ◌∷◌, Option, Some, None, option_map, length, get_or, drop, eqb, refl, sym, ap, ◌∙◌, inl, inr, arith}
use Rattle.std.proofs.lemmas.List.{at_drop_more}
use Rattle.wac_wit_syntax.specs.Reading.{closing_length}

pub option_map_twice : (f g : ℕ → ℕ) (o : Option ℕ) → option_map f (option_map g o) ≡ option_map (λ n. f (g n)) o
option_map_twice f g None = refl
option_map_twice f g (Some n) = refl

pub option_map_same : (f g : ℕ → ℕ) → ((n : ℕ) → f n ≡ g n) → (o : Option ℕ) → option_map f o ≡ option_map g o
option_map_same f g h None = refl
option_map_same f g h (Some n) = ap Some (h n)

-- a byte that begins nothing
pub closing_padded : (d : ℕ) (bs : List ℕ) → closing_length d (0 ∷ bs) ≡ option_map (λ n. n + 1) (closing_length d bs)
closing_padded d [] = refl
closing_padded d (c ∷ bs) = refl

pub two_on : (d : ℕ) (bs : List ℕ) → option_map (λ n. n + 2) (closing_length d bs) ≡ option_map (λ n. n + 1) (closing_length d (0 ∷ bs))
two_on d bs = sym (ap (option_map (λ n. n + 1)) (closing_padded d bs) ∙ option_map_twice (λ n. n + 1) (λ n. n + 1) (closing_length d bs) ∙ option_map_same (λ n. n + 1 + 1) (λ n. n + 2) (λ n. omega arith) (closing_length d bs))

-- so many bytes behind a place
abbrev pub behind : ℕ → Option ℕ → Option ℕ
behind i o = option_map (λ n. n + i) o

one_on : (i : ℕ) (o : Option ℕ) → behind i (option_map (λ n. n + 1) o) ≡ behind (i + 1) o
one_on i o = option_map_twice (λ n. n + i) (λ n. n + 1) o ∙ option_map_same (λ n. n + 1 + i) (λ n. n + (i + 1)) (λ n. omega arith) o

-- one byte on, with the byte before: `/*`, `*/` at the last and at another comment, and else
pub closing_opens : (d : ℕ) (text : List ℕ) (i : ℕ) → i < length text → get_or text i 0 ≡ 42 → behind i (closing_length d (47 ∷ drop i text)) ≡ behind (i + 1) (closing_length (d + 1) (0 ∷ drop (i + 1) text))
closing_opens d text i h e = at_drop_more (λ t. behind i (closing_length d (47 ∷ t))) text i 0 h
    ∙ ap (λ b. behind i (closing_length d (47 ∷ b ∷ drop (i + 1) text))) e ∙ ap (behind i) (two_on (d + 1) (drop (i + 1) text)) ∙ one_on i _

pub closing_closes : (d : ℕ) (text : List ℕ) (i : ℕ) → i < length text → get_or text i 0 ≡ 47 → eqb d 1 ≡ false → behind i (closing_length d (42 ∷ drop i text)) ≡ behind (i + 1) (closing_length (d - 1) (0 ∷ drop (i + 1) text))
closing_closes d text i h e f = at_drop_more (λ t. behind i (closing_length d (42 ∷ t))) text i 0 h
    ∙ ap (λ b. behind i (closing_length d (42 ∷ b ∷ drop (i + 1) text))) e
    ∙ ap (λ t. behind i (cond t (Some 2) (option_map (λ n. n + 2) (closing_length (d - 1) (drop (i + 1) text))))) f
    ∙ ap (behind i) (two_on (d - 1) (drop (i + 1) text)) ∙ one_on i _

pub closing_last : (text : List ℕ) (i : ℕ) → i < length text → get_or text i 0 ≡ 47 → behind i (closing_length 1 (42 ∷ drop i text)) ≡ Some (2 + i)
closing_last text i h e = at_drop_more (λ t. behind i (closing_length 1 (42 ∷ t))) text i 0 h ∙ ap (λ b. behind i (closing_length 1 (42 ∷ b ∷ drop (i + 1) text))) e

pub closing_other : (d p : ℕ) (text : List ℕ) (i : ℕ) → i < length text → (eqb p 47 && eqb (get_or text i 0) 42) ≡ false → (eqb p 42 && eqb (get_or text i 0) 47) ≡ false
    → behind i (closing_length d (p ∷ drop i text)) ≡ behind (i + 1) (closing_length d (get_or text i 0 ∷ drop (i + 1) text))
closing_other d p text i h e f = let c = get_or text i 0 in let rest = drop (i + 1) text in
    at_drop_more (λ t. behind i (closing_length d (p ∷ t))) text i 0 h
    ∙ ap (λ t. behind i (cond t (option_map (λ n. n + 2) (closing_length (d + 1) rest)) (cond (eqb p 42 && eqb c 47) (cond (eqb d 1) (Some 2) (option_map (λ n. n + 2) (closing_length (d - 1) rest))) (option_map (λ n. n + 1) (closing_length d (c ∷ rest)))))) e
    ∙ ap (λ t. behind i (cond t (cond (eqb d 1) (Some 2) (option_map (λ n. n + 2) (closing_length (d - 1) rest))) (option_map (λ n. n + 1) (closing_length d (c ∷ rest))))) f
    ∙ one_on i (closing_length d (c ∷ rest))

-- from a place to the end, where a byte that begins nothing stands before it
pub closing_start : (d from : ℕ) (text : List ℕ) → behind from (closing_length d (0 ∷ drop from text)) ≡ behind (from + 1) (closing_length d (drop from text))
closing_start d from text = ap (behind from) (closing_padded d (drop from text)) ∙ one_on from _

pub end_some : (from : ℕ) (o : Option ℕ) (i : ℕ) → Some (2 + i) ≡ behind (from + 1) o → Some (i + 1) ≡ option_map (λ n. from + n) o
end_some from None i h = cc h
end_some from (Some n) i h = ap Some (let e : 2 + i ≡ n + (from + 1) = cc in omega arith)

-- ---- the same with what the code has

pub opens : (d p : ℕ) (text : List ℕ) (i d' p' : ℕ) (x : Option ℕ) → i < length text → p ≡ 47 → get_or text i 0 ≡ 42 → d' ≡ d + 1 → p' ≡ 0
    → behind i (closing_length d (p ∷ drop i text)) ≡ x → behind (i + 1) (closing_length d' (p' ∷ drop (i + 1) text)) ≡ x
opens d p text i d' p' x h e f g k m = rw (g, k) (sym (closing_opens d text i h f) ∙ ap (λ b. behind i (closing_length d (b ∷ drop i text))) (sym e) ∙ m)

pub closes : (d p : ℕ) (text : List ℕ) (i d' p' : ℕ) (x : Option ℕ) → i < length text → p ≡ 42 → get_or text i 0 ≡ 47 → d ≢ 1 → d' ≡ d - 1 → p' ≡ 0
    → behind i (closing_length d (p ∷ drop i text)) ≡ x → behind (i + 1) (closing_length d' (p' ∷ drop (i + 1) text)) ≡ x
closes d p text i d' p' x h e f n g k m = rw (g, k) (sym (closing_closes d text i h f (not_one (eqb d 1) refl)) ∙ ap (λ b. behind i (closing_length d (b ∷ drop i text))) (sym e) ∙ m)
  where
    not_one : (t : Bool) → eqb d 1 ≡ t → t ≡ false
    not_one true e = absurd (n (grind arith))
    not_one false e = refl

fails : (p c a b : ℕ) → (p ≡ a → ⊥) ⊎ (c ≡ b → ⊥) → (eqb p a && eqb c b) ≡ false
fails p c a b h = by h (eqb p a) (eqb c b) refl refl
  where
    by : (p ≡ a → ⊥) ⊎ (c ≡ b → ⊥) → (s t : Bool) → eqb p a ≡ s → eqb c b ≡ t → (s && t) ≡ false
    by (inl n) true t e f = absurd (n (grind arith))
    by (inr n) true true e f = absurd (n (grind arith))
    by (inr n) true false e f = refl
    by h false t e f = refl

pub others : (d p : ℕ) (text : List ℕ) (i d' p' : ℕ) (x : Option ℕ) → i < length text → (p ≡ 47 → ⊥) ⊎ (get_or text i 0 ≡ 42 → ⊥) → (p ≡ 42 → ⊥) ⊎ (get_or text i 0 ≡ 47 → ⊥) → d' ≡ d → p' ≡ get_or text i 0
    → behind i (closing_length d (p ∷ drop i text)) ≡ x → behind (i + 1) (closing_length d' (p' ∷ drop (i + 1) text)) ≡ x
others d p text i d' p' x h e f g k m = rw (g, k) (sym (closing_other d p text i h (fails p (get_or text i 0) 47 42 e) (fails p (get_or text i 0) 42 47 f)) ∙ m)

pub ends : (p : ℕ) (text : List ℕ) (i d from : ℕ) (o : Option ℕ) → i < length text → p ≡ 42 → get_or text i 0 ≡ 47 → d ≡ 1 → behind i (closing_length d (p ∷ drop i text)) ≡ behind (from + 1) o → Some (i + 1) ≡ option_map (λ n. from + n) o
ends p text i d from o h e f g m = end_some from o i (sym (closing_last text i h f) ∙ ap (λ b. behind i (closing_length 1 (b ∷ drop i text))) (sym e) ∙ ap (λ k. behind i (closing_length k (p ∷ drop i text))) (sym g) ∙ m)
