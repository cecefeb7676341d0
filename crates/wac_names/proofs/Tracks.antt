-- Facts on tracks: a name has one key and one version, compatibility is an equivalence,
-- and what the code cuts is a key.
use Rattle.std.proofs.Common.{◌≡◌, ◌≢◌, ℕ, suc, Bool, List, [], ◌∷◌, ◌++◌, refl, sym, ap, subst, ◌∙◌, arith, inl, inr}
use Rattle.std.specs.Prelude.{IsTrue, false}
use Rattle.std.specs.Str.{bytes_eq}
use Rattle.std.specs.Cmp.Lexicographic.{bytes_decides}
use Rattle.std.specs.Ordering.{ordering_then}
use Rattle.std.specs.FinMap.{nat_cmp-IsAntisymmetric}
use Rattle.std.specs.declared.cmp.Ordering.{Ordering}
use Rattle.std.specs.declared.cmp.Ordering.TheVariants.{Less, Equal, Greater}
use Rattle.semver.specs.Grammar.{IsValid}
use Rattle.semver.specs.Identifiers.{parts_text}
use Rattle.semver.specs.OrderLaws.{pre-anti, build-anti}
use Rattle.semver.specs.Parse.{Parts, version_parts}
use Rattle.semver.proofs.Grammar.{version_parts-complete}
use Rattle.semver.proofs.Numerals.{ok-value}
use Rattle.wac_names.specs.Track.{HasNoAt, HasTrackKey, IsCompatible, IsEquivalenceOfNames, IsKeyText, IsTracked, SameKey, VersionsTellNames, version_cmp}

-- two texts cut at their first `@` are cut in the same place
pub split_same : (a b x y : List ℕ) → HasNoAt a → HasNoAt b → a ++ 64 ∷ x ≡ b ++ 64 ∷ y → (a ≡ b) × (x ≡ y)
split_same [] [] x y p q e = (refl, cc)
split_same [] (c ∷ bs) x y p q e = absurd (q 0 (omega arith) (cc))
split_same (c ∷ as_) [] x y p q e = absurd (p 0 (omega arith) (cc))
split_same (c ∷ as_) (d ∷ bs) x y p q e =
    let tails : as_ ++ 64 ∷ x ≡ bs ++ 64 ∷ y = cc in
    let heads : c ≡ d = cc in
    let r = split_same as_ bs x y (λ i h. p (suc i) (omega arith)) (λ i h. q (suc i) (omega arith)) tails in
    (cc (r.0, heads), r.1)

-- parts are told by their text
pub parts_same : (p q : Parts) → IsValid p → IsValid q → parts_text p ≡ parts_text q → p ≡ q
parts_same p q v w e = ok-value _ _ (sym (version_parts-complete p v) ∙ ap version_parts e ∙ version_parts-complete q w)

-- a key's text is told by the base and the parts
key_same : (base : List ℕ) (p : Parts) (k l : List ℕ) → IsKeyText base p k → IsKeyText base p l → k ≡ l
key_same base p k l (inl x) (inl y) = x.1 ∙ sym y.1
key_same base p k l (inl x) (inr y) = absurd (x.0 y.0)
key_same base p k l (inr x) (inl y) = absurd (y.0 x.0)
key_same base p k l (inr x) (inr y) = x.2 ∙ sym y.2

-- a name has one key and one version
pub tracked_same : (name k l : List ℕ) (p q : Parts) → IsTracked name k p → IsTracked name l q → (k ≡ l) × (p ≡ q)
tracked_same name k l p q s t =
    let cut = split_same s.base t.base (parts_text p) (parts_text q) s.versioned.plain t.versioned.plain (sym s.versioned.written ∙ t.versioned.written) in
    let same : p ≡ q = parts_same p q s.versioned.valid t.versioned.valid cut.1 in
    let texts = subst (λ (r : Parts). IsKeyText s.base r k) same s.key_text in
    let other = subst (λ (b : List ℕ). IsKeyText b q l) (sym cut.0) t.key_text in
    (key_same s.base q k l texts other, same)

-- the base and the front of a key
key_front : (base : List ℕ) (p : Parts) (k : List ℕ) → IsKeyText base p k → (front : List ℕ) × (k ≡ base ++ 64 ∷ front)
key_front base p k (inl x) = (_, x.1)
key_front base p k (inr x) = (_, x.2)

then_first : (r s : Ordering) → ordering_then r s ≡ Equal → r ≡ Equal
then_first Less s e = cc e
then_first Equal s e = refl
then_first Greater s e = cc e

then_second : (r s : Ordering) → ordering_then r s ≡ Equal → s ≡ Equal
then_second Less s e = cc e
then_second Equal s e = e
then_second Greater s e = cc e

pub parts_path : (a b c : ℕ) (d e : List ℕ) (k l m : ℕ) (n o : List ℕ) → a ≡ k → b ≡ l → c ≡ m → d ≡ n → e ≡ o
    → ◌≡◌ {A = Parts} (a, b, c, d, e) (k, l, m, n, o)
parts_path a b c d e k l m n o p q r s t = cc

-- versions that tie are the same
pub version_cmp-anti : (v w : Parts) → version_cmp v w ≡ Equal → v ≡ w
version_cmp-anti v w e =
    let e1 = then_second _ _ e in
    let e2 = then_second _ _ e1 in
    let e3 = then_second _ _ e2 in
    let major : v.0 ≡ w.0 = nat_cmp-IsAntisymmetric _ _ (then_first _ _ e) in
    let minor : v.1 ≡ w.1 = nat_cmp-IsAntisymmetric _ _ (then_first _ _ e1) in
    let patch : v.2 ≡ w.2 = nat_cmp-IsAntisymmetric _ _ (then_first _ _ e2) in
    let pre : v.3 ≡ w.3 = pre-anti _ _ (then_first _ _ e3) in
    let build : v.4 ≡ w.4 = build-anti _ _ (then_second _ _ e3) in
    parts_path v.0 v.1 v.2 v.3 v.4 w.0 w.1 w.2 w.3 w.4 major minor patch pre build

-- on one track equal versions mean equal names
pub versions_tell : VersionsTellNames
versions_tell a b key v w s t e =
    let same : v ≡ w = version_cmp-anti v w e in
    let f = key_front s.base v key s.key_text in
    let g = key_front t.base w key t.key_text in
    let cut = split_same s.base t.base f.0 g.0 s.versioned.plain t.versioned.plain (sym f.1 ∙ g.1) in
    let tails : parts_text v ≡ parts_text w = ap parts_text same in
    s.versioned.written ∙ cc (cut.0, tails) ∙ sym t.versioned.written

compatible_trans : (a b c : List ℕ) → IsCompatible a b → IsCompatible b c → IsCompatible a c
compatible_trans a b c (inl e) y = subst (λ (n : List ℕ). IsCompatible n c) (sym e) y
compatible_trans a b c (inr x) (inl e) = subst (λ (n : List ℕ). IsCompatible a n) e (inr x)
compatible_trans a b c (inr x) (inr y) =
    let same = (tracked_same b x.0 y.0 x.2.0 y.1.0 x.2.1 y.1.1).0 in
    inr (x.0, x.1, subst (λ (k : List ℕ). HasTrackKey c k) (sym same) y.2)

compatible_sym : (a b : List ℕ) → IsCompatible a b → IsCompatible b a
compatible_sym a b (inl e) = inl (sym e)
compatible_sym a b (inr x) = inr (x.0, x.2, x.1)

pub compatible_equivalence : IsEquivalenceOfNames
compatible_equivalence = record { reflexive = λ a. inl refl; symmetric = compatible_sym; transitive = compatible_trans }

-- two names, of which the second has no key
pub stands_alone : (a b : List ℕ) → a ≢ b → ((key : List ℕ) → HasTrackKey b key → ⊥) → IsCompatible a b → ⊥
stands_alone a b ne none (inl e) = ne e
stands_alone a b ne none (inr s) = none s.0 s.2

-- two names with keys
pub keys_compare : (a b k l : List ℕ) (r : Bool) → a ≢ b → HasTrackKey a k → HasTrackKey b l → r ≡ bytes_eq k l
    → (IsTrue r → IsCompatible a b) × (IsCompatible a b → IsTrue r)
keys_compare a b k l r ne x y e = (
  λ h. let same : k ≡ l = (bytes_decides k l).0 (sym e ∙ h) in inr (l, subst (λ (m : List ℕ). HasTrackKey a m) same x, y),
  elim [
    | inl s ↦ absurd (ne s)
    | inr s ↦
        let one = (tracked_same a k s.0 x.0 s.1.0 x.1 s.1.1).0 in
        let two = (tracked_same b l s.0 y.0 s.2.0 y.1 s.2.1).0 in
        e ∙ (bytes_decides k l).1 (one ∙ sym two)
  ],
)

pub not_same : (a b : List ℕ) → bytes_eq a b ≡ false → a ≢ b
not_same a b f e = cc (f, (bytes_decides a b).1 e)

-- names whose keys differ have no key in common
pub keys_apart : (a b k l : List ℕ) → bytes_eq k l ≡ false → HasTrackKey a k → HasTrackKey b l → SameKey a b → ⊥
keys_apart a b k l f x y s =
    let one = (tracked_same a k s.0 x.0 s.1.0 x.1 s.1.1).0 in
    let two = (tracked_same b l s.0 y.0 s.2.0 y.1 s.2.1).0 in
    cc (f, (bytes_decides k l).1 (one ∙ sym two))
