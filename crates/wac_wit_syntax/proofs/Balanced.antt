-- Comments that nest: the grammar and the recursion on the text agree.
use Rattle.std.proofs.Common.{◌≡◌, ℕ, zero, suc, ◌+◌, ◌-◌, ◌≤◌, Bool, true, false, cond, ◌&&◌, List, [], ◌∷◌, ◌++◌, Option, Some, None, option_map, length, eqb, refl, sym, ap, ◌∙◌, subst, inl, inr, arith, add-one, append_assoc, length-append}
use Rattle.std.proofs.lemmas.Bool.Decides.{nat_tests}
use Rattle.wac_wit_syntax.specs.Comments.{BeginsDelimiter, Inside, IsBalanced, close, inside_text, nested, other}
use Rattle.wac_wit_syntax.specs.Reading.{closing_length}
use Rattle.wac_wit_syntax.proofs.Closing.{option_map_same, option_map_twice}
use Rattle.wac_wit_syntax.proofs.Runs.{both}

pub inside_cons : (i : Inside) → (b : ℕ) × (bs : List ℕ) × (inside_text i ≡ b ∷ bs)
inside_cons close = (42, 47 ∷ [], refl)
inside_cons (other b i) = (b, inside_text i, refl)
inside_cons (nested i j) = (47, 42 ∷ (inside_text i ++ inside_text j), refl)

-- where no delimiter begins the tests for one fail
no_delimiter : (b c : ℕ) (bs : List ℕ) → (BeginsDelimiter (b ∷ c ∷ bs) → ⊥) → ((eqb b 47 && eqb c 42) ≡ false) × ((eqb b 42 && eqb c 47) ≡ false)
no_delimiter b c bs h = (first (eqb b 47) (eqb c 42) refl refl, second (eqb b 42) (eqb c 47) refl refl)
  where
    first : (s t : Bool) → eqb b 47 ≡ s → eqb c 42 ≡ t → (s && t) ≡ false
    first true true e f = absurd (h (inl (grind arith, grind arith)))
    first true false e f = refl
    first false t e f = refl

    second : (s t : Bool) → eqb b 42 ≡ s → eqb c 47 ≡ t → (s && t) ≡ false
    second true true e f = absurd (h (inr (grind arith, grind arith)))
    second true false e f = refl
    second false t e f = refl

-- what is left of a comment, and then of so many around it
abbrev rest_of : ℕ → ℕ → List ℕ → Option ℕ
rest_of d n behind = cond (eqb d 0) (Some n) (option_map (λ m. m + n) (closing_length d behind))

rest_more : (t : Bool) (n k : ℕ) (o : Option ℕ) → option_map (λ m. m + k) (cond t (Some n) (option_map (λ m. m + n) o)) ≡ cond t (Some (n + k)) (option_map (λ m. m + (n + k)) o)
rest_more true n k o = refl
rest_more false n k o = option_map_twice (λ m. m + k) (λ m. m + n) o ∙ option_map_same (λ m. m + n + k) (λ m. m + (n + k)) (λ m. omega arith) o

one_deep : (d : ℕ) → eqb (d + 1) 1 ≡ eqb d 0
one_deep d = grind (arith, nat_tests)

deep : (d : ℕ) → eqb (d + 1) 0 ≡ false
deep d = grind (arith, nat_tests)

pub closing_inside : (i : Inside) (d : ℕ) (behind : List ℕ) → IsBalanced i → closing_length (d + 1) (inside_text i ++ behind) ≡ rest_of d (length (inside_text i)) behind
closing_inside close d behind h =
    let e : d + 1 - 1 ≡ d = omega arith in
    ap (λ t. cond t (Some 2) (option_map (λ m. m + 2) (closing_length (d + 1 - 1) behind))) (one_deep d)
    ∙ ap (λ k. cond (eqb d 0) (Some 2) (option_map (λ m. m + 2) (closing_length k behind))) e
closing_inside (other b i) d behind h = other_by (inside_text i) (inside_cons i).0 (inside_cons i).1 (inside_cons i).2 h.0 (closing_inside i d behind h.1)
  where
    other_by : (w : List ℕ) (c : ℕ) (bs : List ℕ) → w ≡ c ∷ bs → (BeginsDelimiter (b ∷ w) → ⊥) → closing_length (d + 1) (w ++ behind) ≡ rest_of d (length w) behind → closing_length (d + 1) (b ∷ (w ++ behind)) ≡ rest_of d (suc (length w)) behind
    other_by w c bs e n k =
        let m : BeginsDelimiter (b ∷ c ∷ bs) → ⊥ = rw e at n in
        let tests = no_delimiter b c bs m in
        let rest = option_map (λ n. n + 1) (closing_length (d + 1) (c ∷ (bs ++ behind))) in
        let closed = cond (eqb (d + 1) 1) (Some 2) (option_map (λ n. n + 2) (closing_length (d + 1 - 1) (bs ++ behind))) in
        let step : closing_length (d + 1) (b ∷ c ∷ (bs ++ behind)) ≡ rest =
        ap (λ t. cond t (option_map (λ n. n + 2) (closing_length (d + 1 + 1) (bs ++ behind))) (cond (eqb b 42 && eqb c 47) closed rest)) tests.0 ∙ ap (λ t. cond t closed rest) tests.1 in
        ap (λ v. closing_length (d + 1) (b ∷ (v ++ behind))) e ∙ step ∙ ap (λ v. option_map (λ n. n + 1) (closing_length (d + 1) (v ++ behind))) (sym e) ∙ ap (option_map (λ n. n + 1)) k
        ∙ rest_more (eqb d 0) (length w) 1 (closing_length d behind) ∙ ap (λ n. rest_of d n behind) (add-one (length w))
closing_inside (nested i j) d behind h =
    ap (λ v. option_map (λ n. n + 2) (closing_length (d + 1 + 1) v)) (append_assoc (inside_text i) (inside_text j) behind)
    ∙ ap (option_map (λ n. n + 2)) (closing_inside i (d + 1) (inside_text j ++ behind) h.0)
    ∙ ap (λ t. option_map (λ n. n + 2) (cond t (Some (length (inside_text i))) (option_map (λ m. m + length (inside_text i)) (closing_length (d + 1) (inside_text j ++ behind))))) (deep d)
    ∙ ap (λ o. option_map (λ n. n + 2) (option_map (λ m. m + length (inside_text i)) o)) (closing_inside j d behind h.1)
    ∙ ap (option_map (λ n. n + 2)) (rest_more (eqb d 0) (length (inside_text j)) (length (inside_text i)) (closing_length d behind))
    ∙ rest_more (eqb d 0) (length (inside_text j) + length (inside_text i)) 2 (closing_length d behind)
    ∙ ap (λ n. rest_of d n behind) (omega (arith, length-append (inside_text i) (inside_text j)))

-- what is left of a comment closes it
pub closing_comment : (i : Inside) (behind : List ℕ) → IsBalanced i → closing_length 1 (inside_text i ++ behind) ≡ Some (length (inside_text i))
closing_comment i behind h = closing_inside i 0 behind h

-- ---- and back

option_mapped : (f : ℕ → ℕ) (o : Option ℕ) (n : ℕ) → option_map f o ≡ Some n → (m : ℕ) × (o ≡ Some m) × (n ≡ f m)
option_mapped f None n h = cc h
option_mapped f (Some m) n h = (m, refl, cc h)

-- so many bytes are the rest of a comment, of this length, and of so many around it
After : ℕ → ℕ → ℕ → List ℕ → Type 0
After zero n l behind = n ≡ l
After (suc d) n l behind = (m : ℕ) × (closing_length (suc d) behind ≡ Some m) × (n ≡ m + l)

after_more : (d n l k : ℕ) (behind : List ℕ) → After d n l behind → After d (n + k) (l + k) behind
unfolding After
after_more zero n l k behind h = ap (λ x. x + k) h
after_more (suc d) n l k behind h = (h.0, h.1, omega (arith, h.2))

record Closes (d n : ℕ) (text : List ℕ) : Type 0 where
  inside : Inside
  behind : List ℕ
  balanced : IsBalanced inside
  text_is : text ≡ inside_text inside ++ behind
  after : After d n (length (inside_text inside)) behind

closes_other : (d n b c : ℕ) (bs : List ℕ) → (eqb b 47 && eqb c 42) ≡ false → (eqb b 42 && eqb c 47) ≡ false → Closes d n (c ∷ bs) → Closes d (n + 1) (b ∷ c ∷ bs)
closes_other d n b c bs e f r = record {
  inside = other b r.inside;
  behind = r.behind;
  balanced = (plain (inside_text r.inside) (inside_cons r.inside).0 (inside_cons r.inside).1 (inside_cons r.inside).2 r.text_is, r.balanced);
  text_is = ap (λ t. b ∷ t) r.text_is;
  after = subst (λ l. After d (n + 1) l r.behind) (add-one (length (inside_text r.inside))) (after_more d n (length (inside_text r.inside)) 1 r.behind r.after);
}
  where
    plain : (w : List ℕ) (x : ℕ) (xs : List ℕ) → w ≡ x ∷ xs → c ∷ bs ≡ w ++ r.behind → BeginsDelimiter (b ∷ w) → ⊥
    plain w x xs p q h =
        let k : c ∷ bs ≡ x ∷ (xs ++ r.behind) = rw p at q in
        let same : c ≡ x = cc in
        let m : BeginsDelimiter (b ∷ x ∷ xs) = rw p at h in
        begins m same
      where
        begins : BeginsDelimiter (b ∷ x ∷ xs) → c ≡ x → ⊥
        begins (inl m) same = let u : eqb b 47 ≡ true = (let v : b ≡ 47 = m.0 in grind arith) in let v : eqb c 42 ≡ true = (let w : x ≡ 42 = m.1 in grind arith) in cc (e, ap (λ t. t && eqb c 42) u, v)
        begins (inr m) same = let u : eqb b 42 ≡ true = (let v : b ≡ 42 = m.0 in grind arith) in let v : eqb c 47 ≡ true = (let w : x ≡ 47 = m.1 in grind arith) in cc (f, ap (λ t. t && eqb c 47) u, v)

closes_nested : (d n m : ℕ) (bs : List ℕ) (r : Closes (suc d) n bs) → Closes d m r.behind → closing_length (suc d) r.behind ≡ Some m → Closes d (n + 2) (47 ∷ 42 ∷ bs)
unfolding After
closes_nested d n m bs r s e = record {
  inside = nested r.inside s.inside;
  behind = s.behind;
  balanced = (r.balanced, s.balanced);
  text_is = ap (λ t. 47 ∷ 42 ∷ t) (r.text_is ∙ ap (λ t. inside_text r.inside ++ t) s.text_is ∙ sym (append_assoc (inside_text r.inside) (inside_text s.inside) s.behind));
  after = subst (λ k. After d k (suc (suc (length (inside_text r.inside ++ inside_text s.inside)))) s.behind) counted (subst (λ l. After d (m + (length (inside_text r.inside) + 2)) l s.behind) lengths (after_more d m (length (inside_text s.inside)) (length (inside_text r.inside) + 2) s.behind s.after));
}
  where
    same : m ≡ r.after.0
    same = cc (e, r.after.1)

    counted : m + (length (inside_text r.inside) + 2) ≡ n + 2
    counted = omega (arith, same, r.after.2)

    lengths : length (inside_text s.inside) + (length (inside_text r.inside) + 2) ≡ suc (suc (length (inside_text r.inside ++ inside_text s.inside)))
    lengths = omega (arith, length-append (inside_text r.inside) (inside_text s.inside))

two_deep : (d : ℕ) → eqb (suc (suc d)) 1 ≡ false
two_deep d = grind (arith, nat_tests)

is_eq : (a b : ℕ) → eqb a b ≡ true → a ≡ b
is_eq a b h = grind arith

closes_at : (d n b c : ℕ) (bs : List ℕ) → b ≡ 42 → c ≡ 47 → cond (eqb (suc d) 1) (Some 2) (option_map (λ n. n + 2) (closing_length (suc d - 1) bs)) ≡ Some n → Closes d n (b ∷ c ∷ bs)
unfolding After
closes_at zero n b c bs e f h = record { inside = close; behind = bs; balanced = tt; text_is = rw (e, f) refl; after = let k : 2 ≡ n = cc h in sym k }
closes_at (suc d) n b c bs e f h =
    let less : suc (suc d) - 1 ≡ suc d = omega arith in
    let g : option_map (λ n. n + 2) (closing_length (suc d) bs) ≡ Some n =
    sym (ap (λ t. cond t (Some 2) (option_map (λ n. n + 2) (closing_length (suc (suc d) - 1) bs))) (two_deep d) ∙ ap (λ k. option_map (λ n. n + 2) (closing_length k bs)) less) ∙ h in
    let m = option_mapped (λ n. n + 2) (closing_length (suc d) bs) n g in
    record { inside = close; behind = bs; balanced = tt; text_is = rw (e, f) refl; after = (m.0, m.1, m.2) }

closes_in : (f d n b c : ℕ) (bs : List ℕ) → length bs ≤ f → b ≡ 47 → c ≡ 42 → ((e m : ℕ) (t : List ℕ) → length t ≤ f → closing_length (suc e) t ≡ Some m → Closes e m t)
    → option_map (λ n. n + 2) (closing_length (suc d + 1) bs) ≡ Some n → Closes d n (b ∷ c ∷ bs)
unfolding After
closes_in f d n b c bs l e g ih h =
    let m = option_mapped (λ n. n + 2) (closing_length (suc d + 1) bs) n h in
    let r : Closes (suc d) m.0 bs = ih (suc d) m.0 bs l (ap (λ k. closing_length k bs) (sym (add-one (suc d))) ∙ m.1) in
    let short : length r.behind ≤ f = omega (arith, ap length r.text_is, length-append (inside_text r.inside) r.behind) in
    let s : Closes d r.after.0 r.behind = ih d r.after.0 r.behind short r.after.1 in
    let all : Closes d (m.0 + 2) (47 ∷ 42 ∷ bs) = closes_nested d m.0 r.after.0 bs r s r.after.1 in
    rw (e, g, m.2) all

closes_step : (f d n b c : ℕ) (bs : List ℕ) → suc (length bs) ≤ f → ((e m : ℕ) (t : List ℕ) → length t ≤ f → closing_length (suc e) t ≡ Some m → Closes e m t)
    → (s t : Bool) → (eqb b 47 && eqb c 42) ≡ s → (eqb b 42 && eqb c 47) ≡ t
    → cond s (option_map (λ n. n + 2) (closing_length (suc d + 1) bs)) (cond t (cond (eqb (suc d) 1) (Some 2) (option_map (λ n. n + 2) (closing_length (suc d - 1) bs))) (option_map (λ n. n + 1) (closing_length (suc d) (c ∷ bs)))) ≡ Some n
    → Closes d n (b ∷ c ∷ bs)
closes_step f d n b c bs l ih true t e g h = let k = both (eqb b 47) (eqb c 42) e in closes_in f d n b c bs (omega arith) (is_eq b 47 k.0) (is_eq c 42 k.1) ih h
closes_step f d n b c bs l ih false true e g h = let k = both (eqb b 42) (eqb c 47) g in closes_at d n b c bs (is_eq b 42 k.0) (is_eq c 47 k.1) h
closes_step f d n b c bs l ih false false e g h =
    let m = option_mapped (λ n. n + 1) (closing_length (suc d) (c ∷ bs)) n h in
    let r : Closes d m.0 (c ∷ bs) = ih d m.0 (c ∷ bs) l m.1 in
    rw m.2 (closes_other d m.0 b c bs e g r)

closes_all : (f d n : ℕ) (text : List ℕ) → length text ≤ f → closing_length (suc d) text ≡ Some n → Closes d n text
closes_all f d n [] l h = cc h
closes_all f d n (b ∷ []) l h = cc h
closes_all zero d n (b ∷ c ∷ bs) l h = absurd (omega arith)
closes_all (suc f) d n (b ∷ c ∷ bs) l h = closes_step f d n b c bs (omega arith) (λ e m t k g. closes_all f e m t k g) (eqb b 47 && eqb c 42) (eqb b 42 && eqb c 47) refl refl h

-- what closes a comment is the rest of one
pub record IsRestOf (text : List ℕ) (n : ℕ) : Type 0 where
  pub inside : Inside
  pub behind : List ℕ
  pub balanced : IsBalanced inside
  pub text_is : text ≡ inside_text inside ++ behind
  pub size : n ≡ length (inside_text inside)

pub comment_closed : (text : List ℕ) (n : ℕ) → closing_length 1 text ≡ Some n → IsRestOf text n
unfolding After
comment_closed text n h =
    let r = closes_all (length text) 0 n text (omega arith) h in
    record { inside = r.inside; behind = r.behind; balanced = r.balanced; text_is = r.text_is; size = r.after }

pub inside_size : (i : Inside) → 2 ≤ length (inside_text i)
inside_size close = omega arith
inside_size (other b i) = let h = inside_size i in omega arith
inside_size (nested i j) = omega arith
