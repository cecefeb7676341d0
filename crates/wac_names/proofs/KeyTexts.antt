-- The text of a track key is no `base@version`, so it has no track key.
use Rattle.std.proofs.Common.{◌≡◌, ◌+◌, ℕ, suc, List, [], ◌∷◌, ◌++◌, length, get_or, sym, ap, ◌∙◌, arith, inl, inr, length-append}
use Rattle.std.specs.Fmt.{decimal}
use Rattle.semver.specs.Grammar.{IsValid}
use Rattle.semver.specs.Identifiers.{parts_text}
use Rattle.semver.specs.Parse.{Parts}
use Rattle.wac_names.specs.Track.{HasNoAt, IsKeyText, IsVersioned, KeysHaveNoKey}
use Rattle.wac_names.proofs.Cuts.{NoDot, after_major, after_minor, front_byte, no_dot, no_dot_one}
use Rattle.wac_names.proofs.Tracks.{split_same}

-- a text without dots does not go on after a dot
dotless : (text front rest : List ℕ) → NoDot text → text ≡ front ++ 46 ∷ rest → ⊥
dotless text front rest none e =
    let len : length text ≡ length front + suc (length rest) = ap length e ∙ length-append front (46 ∷ rest) in
    none (length front) (omega arith) (ap (λ (t : List ℕ). get_or t (length front) 0) e ∙ front_byte front rest)

-- two texts cut at their first dot are cut in the same place
dot_same : (a b x y : List ℕ) → NoDot a → NoDot b → a ++ 46 ∷ x ≡ b ++ 46 ∷ y → x ≡ y
dot_same [] [] x y p q e = cc
dot_same [] (c ∷ bs) x y p q e = absurd (q 0 (omega arith) cc)
dot_same (c ∷ as_) [] x y p q e = absurd (p 0 (omega arith) cc)
dot_same (c ∷ as_) (d ∷ bs) x y p q e =
    let tails : as_ ++ 46 ∷ x ≡ bs ++ 46 ∷ y = cc in
    dot_same as_ bs x y (λ i h. p (suc i) (omega arith)) (λ i h. q (suc i) (omega arith)) tails

no_dot_zero : NoDot (48 ∷ [])
no_dot_zero = no_dot_one 0 (omega arith)

-- a key ends in no version
key_no_version : (base key other : List ℕ) (p q : Parts) → HasNoAt base → IsValid p → IsKeyText base p key → IsVersioned key other q → ⊥
key_no_version base key other p q plain valid (inl x) v =
    let cut = split_same base other (decimal p.0) (parts_text q) plain v.plain (sym x.1 ∙ v.written) in
    dotless (decimal p.0) (decimal q.0) (after_major q) (no_dot p.0 valid.0) cut.1
key_no_version base key other p q plain valid (inr x) v =
    let cut = split_same base other (48 ∷ 46 ∷ decimal p.1) (parts_text q) plain v.plain (sym x.2 ∙ v.written) in
    let rest : decimal p.1 ≡ after_major q = dot_same (48 ∷ []) (decimal q.0) (decimal p.1) (after_major q) no_dot_zero (no_dot q.0 v.valid.0) cut.1 in
    dotless (decimal p.1) (decimal q.1) (after_minor q) (no_dot p.1 valid.1) rest

pub keys_without_key : KeysHaveNoKey
keys_without_key name key other h k =
    let t = h.1 in
    key_no_version t.base key k.1.base h.0 k.0 t.versioned.plain t.versioned.valid t.key_text k.1.versioned
