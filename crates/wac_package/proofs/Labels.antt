-- The bytes of a label, and its parts.
use Rattle.std.proofs.Common.{◌≡◌, ◌≢◌, ◌<◌, ◌==◌, ◌&&◌, ◌||◌, ℕ, zero, suc, Bool, true, false, List, [], ◌∷◌, length, get_or, refl, sym, ap, ◌∙◌, arith, inl, inr, nat_lt}
use Rattle.std.proofs.lemmas.Bool.{cases_Bool, eqb-true}
use Rattle.std.proofs.lemmas.List.Folds.{list_all-append}
use Rattle.std.proofs.lemmas.List.Splits.{join_with_byte-slice_split, slice_split_at, slice_split_none}
use Rattle.std.specs.Cmp.{first_so, second_so}
use Rattle.std.specs.List.{All, join_with_byte, list_all, slice_split}
use Rattle.wac_package.specs.InterfaceName.{IsLabel, begins_with_letter, is_acronym_byte, is_label_fragment, is_lowercase_or_digit}

-- a byte that a label may have
abbrev pub is_label_byte : ℕ → Bool
is_label_byte b = is_lowercase_or_digit b || (is_acronym_byte b || (b == 45))

-- a byte that a fragment may have
abbrev pub is_fragment_byte : ℕ → Bool
is_fragment_byte b = is_lowercase_or_digit b || is_acronym_byte b

or_right : (a b : Bool) → b ≡ true → (a || b) ≡ true
or_right true b h = refl
or_right false b h = h

or_left : (a b : Bool) → a ≡ true → (a || b) ≡ true
or_left true b h = refl
or_left false b h = cc h

and_both : (a b : Bool) → a ≡ true → b ≡ true → (a && b) ≡ true
and_both a b p q = rw (p, q) refl

pub all_mono : (p q : ℕ → Bool) → ((b : ℕ) → p b ≡ true → q b ≡ true) → (xs : List ℕ) → list_all p xs ≡ true → list_all q xs ≡ true
all_mono p q f [] h = refl
all_mono p q f (x ∷ xs) h = and_both (q x) (list_all q xs) (f x (first_so (p x) _ h)) (all_mono p q f xs (second_so (p x) _ h))

-- a byte that doesn't pass is at no place of a list that does
pub absent : (p : ℕ → Bool) (c : ℕ) → p c ≡ false → (xs : List ℕ) → list_all p xs ≡ true → (i : ℕ) → i < length xs → get_or xs i 0 ≢ c
absent p c n [] h i b e = absurd (omega arith)
absent p c n (x ∷ xs) h zero b e = cc (first_so (p x) (list_all p xs) h, e, n)
absent p c n (x ∷ xs) h (suc i) b e = absent p c n xs (second_so (p x) (list_all p xs) h) i (omega arith) e

fragment_bytes : (part : List ℕ) → is_label_fragment part ≡ true → list_all is_fragment_byte part ≡ true
fragment_bytes part h =
    let two = second_so (nat_lt 0 (length part)) _ h in
    elim (cases_Bool (list_all is_lowercase_or_digit part)) [
      | inl w ↦ all_mono is_lowercase_or_digit is_fragment_byte (λ b k. or_left (is_lowercase_or_digit b) (is_acronym_byte b) k) part w
      | inr w ↦ all_mono is_acronym_byte is_fragment_byte (λ b k. or_right (is_lowercase_or_digit b) (is_acronym_byte b) k) part (rw w at two)
    ]

label_byte : (b : ℕ) → is_fragment_byte b ≡ true → is_label_byte b ≡ true
label_byte b h = elim (cases_Bool (is_lowercase_or_digit b)) [
  | inl w ↦ or_left (is_lowercase_or_digit b) _ w
  | inr w ↦ or_right (is_lowercase_or_digit b) _ (or_left (is_acronym_byte b) _ (rw w at h))
]

fragment_label_bytes : (part : List ℕ) → is_label_fragment part ≡ true → list_all is_label_byte part ≡ true
fragment_label_bytes part h = all_mono is_fragment_byte is_label_byte label_byte part (fragment_bytes part h)

joined_bytes : (parts : List (List ℕ)) → list_all is_label_fragment parts ≡ true → list_all is_label_byte (join_with_byte 45 parts) ≡ true
joined_bytes [] h = refl
joined_bytes (x ∷ []) h = fragment_label_bytes x (first_so (is_label_fragment x) _ h)
joined_bytes (x ∷ y ∷ zs) h =
    let one = fragment_label_bytes x (first_so (is_label_fragment x) _ h) in
    let rest = joined_bytes (y ∷ zs) (second_so (is_label_fragment x) _ h) in
    list_all-append is_label_byte x (45 ∷ join_with_byte 45 (y ∷ zs)) ∙ and_both (list_all is_label_byte x) (list_all is_label_byte (join_with_byte 45 (y ∷ zs))) one rest

-- the bytes of a label
pub label_bytes : (text : List ℕ) → IsLabel text → list_all is_label_byte text ≡ true
label_bytes text l = ap (λ (t : List ℕ). list_all is_label_byte t) l.joined ∙ joined_bytes l.fragments l.all_fragments

not_hyphen : (xs : List ℕ) → list_all is_fragment_byte xs ≡ true → All (λ x. (x == 45) ≡ false) xs
not_hyphen [] h k d b = absurd (omega arith)
not_hyphen (x ∷ xs) h zero d b = elim (cases_Bool (x == 45)) [
  | inl e ↦ cc (first_so (is_fragment_byte x) (list_all is_fragment_byte xs) h, ap is_fragment_byte (eqb-true x 45 e))
  | inr n ↦ n
]
not_hyphen (x ∷ xs) h (suc k) d b = not_hyphen xs (second_so (is_fragment_byte x) (list_all is_fragment_byte xs) h) k d (omega arith)

split_joined : (first : List ℕ) (others : List (List ℕ)) → list_all is_label_fragment (first ∷ others) ≡ true
    → slice_split (λ b. b == 45) (join_with_byte 45 (first ∷ others)) ≡ first ∷ others
split_joined first [] h = slice_split_none (λ b. b == 45) first (not_hyphen first (fragment_bytes first (first_so (is_label_fragment first) _ h)))
split_joined first (next ∷ others) h =
    slice_split_at (λ b. b == 45) first 45 (join_with_byte 45 (next ∷ others)) (not_hyphen first (fragment_bytes first (first_so (is_label_fragment first) _ h))) refl
    ∙ ap (λ (l : List (List ℕ)). first ∷ l) (split_joined next others (second_so (is_label_fragment first) _ h))

-- a text is a label by the parts between its hyphens
pub label_from_parts : (text : List ℕ) → begins_with_letter text ≡ true → list_all is_label_fragment (slice_split (λ b. b == 45) text) ≡ true → IsLabel text
label_from_parts text l h = record { fragments = slice_split (λ b. b == 45) text; joined = sym (join_with_byte-slice_split 45 text); all_fragments = h; letter = l }

parts_joined : (text : List ℕ) (fragments : List (List ℕ)) → text ≡ join_with_byte 45 fragments → begins_with_letter text ≡ true → list_all is_label_fragment fragments ≡ true
    → list_all is_label_fragment (slice_split (λ b. b == 45) text) ≡ true
parts_joined text [] e l h = cc (e, l)
parts_joined text (first ∷ others) e l h =
    ap (λ (t : List ℕ). list_all is_label_fragment (slice_split (λ b. b == 45) t)) e ∙ ap (list_all is_label_fragment) (split_joined first others h) ∙ h

pub parts_of_label : (text : List ℕ) → IsLabel text → list_all is_label_fragment (slice_split (λ b. b == 45) text) ≡ true
parts_of_label text l = parts_joined text l.fragments l.joined l.letter l.all_fragments
