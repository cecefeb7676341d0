-- What the code that reads a name cuts out of it.
use Rattle.std.proofs.Common.{◌≡◌, ◌≢◌, ◌<◌, ◌≤◌, ◌^◌, ◌+◌, ◌%◌, ℕ, zero, suc, List, [], ◌∷◌, ◌++◌, length, take, get_or, refl, sym, ap, subst, ◌∙◌, arith, inl, inr, Some, None, Option, length-append}
use Rattle.std.proofs.lemmas.Fmt.{decimal_by_steps, decimal_digit}
use Rattle.std.proofs.lemmas.List.{take_at}
use Rattle.std.proofs.lemmas.Str.Pattern.{IsSplitOnceResult, split_after}
use Rattle.std.specs.Prelude.{IsSome, MatchOption}
use Rattle.std.specs.Borrow.{Bor}
use Rattle.std.specs.Fmt.{decimal}
use Rattle.std.specs.Str.{IsCharBoundary}
use Rattle.semver.specs.Grammar.{IsValid}
use Rattle.semver.specs.Identifiers.{marked, parts_text}
use Rattle.semver.specs.Parse.{Parts}
use Rattle.wac_names.specs.Track.{HasNoAt, IsKeyText, IsTracked, IsVersioned}
use Rattle.wac_names.specs.Reading.{IsKeyFront, IsVersionText}
use Rattle.wac_names.proofs.Tracks.{split_same}

-- a text without dots
abbrev pub NoDot : List ℕ → Type 0
NoDot ds = (i : ℕ) → i < length ds → get_or ds i 0 ≢ 46

pub no_dot_one : (n : ℕ) → n < 10 → NoDot ((48 + n) ∷ [])
no_dot_one n h zero b e = absurd (omega arith)
no_dot_one n h (suc i) b e = absurd (omega arith)

no_dot_push : (ds : List ℕ) (x : ℕ) → NoDot ds → x ≢ 46 → NoDot (ds ++ x ∷ [])
no_dot_push [] x h n zero b e = n e
no_dot_push [] x h n (suc i) b e = absurd (omega arith)
no_dot_push (d ∷ ds) x h n zero b e = h 0 (omega arith) e
no_dot_push (d ∷ ds) x h n (suc i) b e = no_dot_push ds x (λ j w. h (suc j) (omega arith)) n i (omega arith) e

-- a number's text has no dot
pub no_dot : (n : ℕ) → n < 2 ^ 64 → NoDot (decimal n)
no_dot = decimal_by_steps (λ _ ds. NoDot ds) no_dot_one (λ n ds t h. no_dot_push ds (48 + n % 10) h (λ e. absurd (omega arith)))

-- what follows the major number and its dot
abbrev pub after_major : Parts → List ℕ
after_major p = decimal p.1 ++ (46 ∷ (decimal p.2 ++ (marked 45 p.3 ++ marked 43 p.4)))

-- what follows the minor number and its dot
abbrev pub after_minor : Parts → List ℕ
after_minor p = decimal p.2 ++ (marked 45 p.3 ++ marked 43 p.4)

abbrev pub Cuts : Option (Bor (List ℕ) × Bor (List ℕ)) → List ℕ → List ℕ → Type 0
Cuts r front rest = MatchOption r ⊥ (λ x. (x.0.now ≡ front) × (x.1.now ≡ rest))

pub cut_major : (text : List ℕ) (p : Parts) (r : Option (Bor (List ℕ) × Bor (List ℕ))) → IsVersionText text p
    → IsSplitOnceResult 46 text r → Cuts r (decimal p.0) (after_major p)
cut_major text p r v c = split_after 46 text (decimal p.0) (after_major p) r c (omega arith) v.0 (no_dot p.0 v.1.0)

pub cut_minor : (rest : List ℕ) (p : Parts) (r : Option (Bor (List ℕ) × Bor (List ℕ))) → IsValid p → rest ≡ after_major p
    → IsSplitOnceResult 46 rest r → Cuts r (decimal p.1) (after_minor p)
cut_minor rest p r v e c = split_after 46 rest (decimal p.1) (after_minor p) r c (omega arith) e (no_dot p.1 v.1)

pub cuts_some : (r : Option (Bor (List ℕ) × Bor (List ℕ))) (front rest : List ℕ) → Cuts r front rest → IsSome r
cuts_some None f s c = absurd c
cuts_some (Some x) f s c = refl

pub cuts_at : (r : Option (Bor (List ℕ) × Bor (List ℕ))) (x : Bor (List ℕ) × Bor (List ℕ)) (front rest : List ℕ) → Cuts r front rest
    → r ≡ Some x → (x.0.now ≡ front) × (x.1.now ≡ rest)
cuts_at r x f s c e = subst (λ (o : Option (Bor (List ℕ) × Bor (List ℕ))). Cuts o f s) e c

pub front_byte : (front rest : List ℕ) → get_or (front ++ 46 ∷ rest) (length front) 0 ≡ 46
front_byte [] rest = refl
front_byte (b ∷ front) rest = front_byte front rest

-- the front of a text up to a dot
pub front_at : (text front rest : List ℕ) (n : ℕ) → text ≡ front ++ 46 ∷ rest → n ≡ length front
    → (n ≤ length text) × IsCharBoundary text n × (take n text ≡ front)
front_at text front rest n e h =
    let len : length text ≡ length front + suc (length rest) = ap length e ∙ length-append front (46 ∷ rest) in
    let at : get_or text n 0 ≡ 46 = ap (λ (t : List ℕ). get_or t n 0) e ∙ ap (λ (k : ℕ). get_or (front ++ 46 ∷ rest) k 0) h ∙ front_byte front rest in
    let le : n ≤ length text = omega arith in
    (le, (le, λ w x. absurd (omega arith)), ap (λ (t : List ℕ). take n t) e ∙ take_at front (46 ∷ rest) n (sym h))

-- a text that begins with `0.`
pub zero_text : (text : List ℕ) (p : Parts) → text ≡ parts_text p → p.0 ≡ 0 → text ≡ (48 ∷ 46 ∷ decimal p.1) ++ 46 ∷ after_minor p
zero_text text p e z = e ∙ ap (λ (k : ℕ). decimal k ++ 46 ∷ after_major p) z ∙ ap (λ (l : List ℕ). l ++ 46 ∷ after_major p) (decimal_digit 0 (omega arith))

-- what `tracked` finds in a name
take_key : (base text : List ℕ) (n : ℕ) → take (length base + 1 + n) (base ++ 64 ∷ text) ≡ base ++ 64 ∷ take n text
take_key [] text n = let e : 0 + 1 + n ≡ suc n = omega arith in ap (λ (k : ℕ). take k (64 ∷ text)) e
take_key (b ∷ base) text n = let e : suc (length base) + 1 + n ≡ suc (length base + 1 + n) = omega arith in ap (λ (k : ℕ). take k (b ∷ base ++ 64 ∷ text)) e ∙ ap (λ (l : List ℕ). b ∷ l) (take_key base text n)

front_text : (base : List ℕ) (p : Parts) (front : List ℕ) → IsKeyFront p front → IsKeyText base p (base ++ 64 ∷ front)
front_text base p front (inl x) = inl (x.0, ap (λ (l : List ℕ). base ++ 64 ∷ l) x.1)
front_text base p front (inr x) = inr (x.0, x.1, ap (λ (l : List ℕ). base ++ 64 ∷ l) x.2)

pub tracked_at : (name base text key : List ℕ) (n : ℕ) (p : Parts) → name ≡ base ++ 64 ∷ text → HasNoAt base → IsVersionText text p
    → p.3 ≡ [] → IsKeyFront p (take n text) → key ≡ take (length base + 1 + n) name → IsTracked name key p
tracked_at name base text key n p e plain v release front k =
    let same : key ≡ base ++ 64 ∷ take n text = k ∙ ap (λ (l : List ℕ). take (length base + 1 + n) l) e ∙ take_key base text n in
    record {
      base = base;
      versioned = record { written = e ∙ ap (λ (l : List ℕ). base ++ 64 ∷ l) v.0; plain = plain; valid = v.1 };
      release = release;
      key_text = subst (λ (l : List ℕ). IsKeyText base p l) (sym same) (front_text base p (take n text) front);
    }

-- the version of a name that has one is what stands after its first `@`
pub version_after : (name base text other : List ℕ) (p : Parts) → name ≡ base ++ 64 ∷ text → HasNoAt base → IsVersioned name other p → IsVersionText text p
version_after name base text other p e plain v =
    ((split_same base other text (parts_text p) plain v.plain (sym e ∙ v.written)).1, v.valid)

-- a name with a version after its first `@`
pub versioned_at : (name base text : List ℕ) (p : Parts) → name ≡ base ++ 64 ∷ text → HasNoAt base → IsVersionText text p → IsVersioned name base p
versioned_at name base text p e plain v = record { written = e ∙ ap (λ (t : List ℕ). base ++ 64 ∷ t) v.0; plain = plain; valid = v.1 }

at_byte : (base text : List ℕ) → get_or (base ++ 64 ∷ text) (length base) 0 ≡ 64
at_byte [] text = refl
at_byte (b ∷ base) text = at_byte base text

-- a name without `@` has no version
pub no_at : (name base text : List ℕ) → HasNoAt name → name ≡ base ++ 64 ∷ text → ⊥
no_at name base text h e =
    let len : length name ≡ length base + suc (length text) = ap length e ∙ length-append base (64 ∷ text) in
    h (length base) (omega arith) (ap (λ (l : List ℕ). get_or l (length base) 0) e ∙ at_byte base text)

-- a version with no major and no minor number has no key
pub no_key : (base : List ℕ) (p : Parts) (key : List ℕ) → IsKeyText base p key → p.0 ≡ 0 → p.1 ≡ 0 → ⊥
no_key base p key (inl x) e f = x.0 e
no_key base p key (inr x) e f = x.1 f

-- what `key_front` answers, where the major number is not 0
pub front_major : (text major : List ℕ) (p : Parts) → IsVersionText text p → major ≡ decimal p.0 → p.0 ≢ 0
    → (length major ≤ length text) × IsCharBoundary text (length major) × IsKeyFront p (take (length major) text)
front_major text major p v m ne =
    let f = front_at text (decimal p.0) (after_major p) (length major) v.0 (ap length m) in
    (f.0, f.1, inl (ne, f.2))

-- what it answers, where the major number is 0
pub front_minor : (text major minor : List ℕ) (p : Parts) → IsVersionText text p → major ≡ decimal p.0 → minor ≡ decimal p.1 → p.0 ≡ 0 → p.1 ≢ 0
    → (length major + 1 + length minor ≤ length text) × IsCharBoundary text (length major + 1 + length minor) × IsKeyFront p (take (length major + 1 + length minor) text)
front_minor text major minor p v m n z ne =
    let one : length major ≡ 1 = ap length (m ∙ ap decimal z ∙ decimal_digit 0 (omega arith)) in
    let two : length minor ≡ length (decimal p.1) = ap length n in
    let size : length major + 1 + length minor ≡ suc (suc (length (decimal p.1))) = omega arith in
    let f = front_at text (48 ∷ 46 ∷ decimal p.1) (after_minor p) (length major + 1 + length minor) (zero_text text p v.0 z) size in
    (f.0, f.1, inr (z, ne, f.2))
