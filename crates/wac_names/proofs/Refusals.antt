-- The reader of versions answers a failed allocation for no text: a text that is no version is
-- refused as such.
use Rattle.std.proofs.Common.{◌≡◌, ℕ, ◌+◌, ◌*◌, ◌-◌, ◌^◌, ◌==◌, ◌∷◌, [], Bool, true, false, List, Result, Ok, Err, if◌then◌else◌, refl, sym, ap, ◌∙◌, length}
use Rattle.std.specs.Char.{is_ascii_digit}
use Rattle.std.specs.Prelude.{nat_lt, nat_le}
use Rattle.semver.specs.declared.error.Error.{Error}
use Rattle.semver.specs.declared.error.Position.{Position}
use Rattle.semver.specs.declared.error.Position.TheVariants as place
use Rattle.semver.specs.declared.Version.{Version}
use Rattle.semver.specs.Parse.{IsRefused, Parts, digits_from, dot_of, end_error, identifier_of, is_bad_zero, is_leading_zero, is_letter, is_memory, memory_error, numeric, part_end, scan, starts_zero, tail_build, tail_end, tail_pre, version_parts, ◌>>=◌}
use Rattle.semver.proofs.Grammar.{version_parts-sound}
use Rattle.wac_names.specs.Reading.{IsNoVersionText}

-- whether this is a failed allocation
abbrev is_refusal : {A : Type 0} → Result A Error → Bool
is_refusal (Ok x) = false
is_refusal (Err e) = is_memory e.kind

-- a value, or an error that is no failed allocation
record IsClean {A : Type 0} (r : Result A Error) : Type 0 where
  is : is_refusal r ≡ false

clean : {A : Type 0} {r : Result A Error} → is_refusal r ≡ false → IsClean r
clean e = record { is = e }

clean_if : {A : Type 0} (b : Bool) (x y : Result A Error) → IsClean x → IsClean y → IsClean (if b then x else y)
clean_if true x y p q = p
clean_if false x y p q = q

clean_then : {A B : Type 0} (r : Result A Error) (f : A → Result B Error) → IsClean r → ((x : A) → IsClean (f x)) → IsClean (r >>= f)
clean_then (Ok x) f p q = q x
clean_then (Err e) f p q = record { is = p.is }

clean_end_error : (at : Position) (xs : List ℕ) → IsClean (end_error at xs)
clean_end_error at [] = clean refl
clean_end_error at (b ∷ rest) = clean refl

clean_digits : (at : Position) (value n : ℕ) (xs : List ℕ) → IsClean (digits_from at value n xs)
unfolding digits_from
clean_digits at value n [] = clean_if (nat_lt 0 n) _ _ (clean refl) (clean_end_error at [])
clean_digits at value n (b ∷ rest) =
    clean_if (is_ascii_digit b) _ _
    (clean_if (is_leading_zero value n) _ _ (clean refl) (clean_if (nat_le (2 ^ 64) (value * 10 + (b - 48))) _ _ (clean refl) (clean_digits at (value * 10 + (b - 48)) (n + 1) rest)))
    (clean_if (nat_lt 0 n) _ _ (clean refl) (clean_end_error at (b ∷ rest)))

clean_dot : (at : Position) (xs : List ℕ) → IsClean (dot_of at xs)
clean_dot at [] = clean refl
clean_dot at (b ∷ rest) = clean_if (b == 46) _ _ (clean refl) (clean refl)

clean_part_end : (at : Position) (acc seg : ℕ) (nondigit lead : Bool) → IsClean (part_end at acc seg nondigit lead)
clean_part_end at acc seg nondigit lead = clean_if (seg == 0) _ _ (clean_if (acc == 0) _ _ (clean refl) (clean refl)) (clean_if (is_bad_zero at seg nondigit lead) _ _ (clean refl) (clean refl))

clean_scan : (at : Position) (acc seg : ℕ) (nondigit lead : Bool) (xs : List ℕ) → IsClean (scan at acc seg nondigit lead xs)
unfolding scan
clean_scan at acc seg nondigit lead [] = clean_part_end at acc seg nondigit lead
clean_scan at acc seg nondigit lead (b ∷ rest) =
    clean_if (is_letter b) _ _ (clean_scan at acc (seg + 1) true lead rest)
    (clean_if (is_ascii_digit b) _ _ (clean_scan at acc (seg + 1) nondigit (starts_zero lead seg b) rest)
    (clean_if (b == 46) _ _
    (clean_if (seg == 0) _ _ (clean refl) (clean_if (is_bad_zero at seg nondigit lead) _ _ (clean refl) (clean_scan at (acc + seg + 1) 0 false false rest)))
    (clean_part_end at acc seg nondigit lead)))

clean_identifier : (at : Position) (xs : List ℕ) → IsClean (identifier_of at xs)
clean_identifier at xs = clean_then (scan at 0 0 false false xs) _ (clean_scan at 0 0 false false xs) (λ n. clean_if (n == 0) _ _ (clean refl) (clean refl))

clean_tail_end : (at : Position) (a b c : ℕ) (pre build xs : List ℕ) → IsClean (tail_end at a b c pre build xs)
clean_tail_end at a b c pre build [] = clean refl
clean_tail_end at a b c pre build (x ∷ rest) = clean refl

clean_tail_build : (at : Position) (a b c : ℕ) (pre xs : List ℕ) → IsClean (tail_build at a b c pre xs)
clean_tail_build at a b c pre [] = clean refl
clean_tail_build at a b c pre (x ∷ rest) =
    clean_if (x == 43) _ _ (clean_then (identifier_of place.Build rest) _ (clean_identifier place.Build rest) (λ r. clean_tail_end place.Build a b c pre r.0 r.1)) (clean_tail_end at a b c pre [] (x ∷ rest))

clean_tail_pre : (a b c : ℕ) (xs : List ℕ) → IsClean (tail_pre a b c xs)
clean_tail_pre a b c [] = clean refl
clean_tail_pre a b c (x ∷ rest) =
    clean_if (x == 45) _ _ (clean_then (identifier_of place.Pre rest) _ (clean_identifier place.Pre rest) (λ r. clean_tail_build place.Pre a b c r.0 r.1)) (clean_tail_build place.Patch a b c [] (x ∷ rest))

clean_version : (text : List ℕ) → IsClean (version_parts text)
clean_version text =
    clean_if (length text == 0) _ _ (clean refl)
    (clean_then (numeric place.Major text) _ (clean_digits place.Major 0 0 text) (λ x.
    clean_then (dot_of place.Major x.1) _ (clean_dot place.Major x.1) (λ t.
    clean_then (numeric place.Minor t) _ (clean_digits place.Minor 0 0 t) (λ y.
    clean_then (dot_of place.Minor y.1) _ (clean_dot place.Minor y.1) (λ u.
    clean_then (numeric place.Patch u) _ (clean_digits place.Patch 0 0 u) (λ z.
    clean_tail_pre x.0 y.0 z.0 z.1))))))

-- the error of a text that is no version is not a failed allocation
pub refused_not_memory : (text : List ℕ) (e : Error) → IsRefused {T = Version} (version_parts text) (Err e) → IsNoVersionText text → e ≡ memory_error → ⊥
refused_not_memory text e refused none memory = step (version_parts text) refl (clean_version text) refused where
  step : (o : Result Parts Error) → version_parts text ≡ o → IsClean o → IsRefused {T = Version} o (Err e) → ⊥
  step (Ok p) at none_lost r = let s = version_parts-sound text p at in none p (sym s.0, s.1)
  step (Err d) at kept r =
      let same : e ≡ d = cc r in
      let kind : is_memory d.kind ≡ true = ap (λ (x : Error). is_memory x.kind) (sym same) ∙ ap (λ (x : Error). is_memory x.kind) memory in
      cc (kind, kept.is)
