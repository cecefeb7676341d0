-- The class of a name tells what it is compatible with.
use Rattle.std.proofs.Common.{◌≡◌, ◌≢◌, ◌<◌, ◌≤◌, ◌+◌, ◌==◌, ℕ, suc, false, List, [], ◌∷◌, ◌++◌, length, drop, get_or, Option, Some, None, Result, Ok, Err, refl, sym, ap, subst, ◌∙◌, arith, inl, inr}
use Rattle.std.proofs.lemmas.Bool.{cases_Bool, eq-eqb, eqb-true, ltb-false, ltb-true}
use Rattle.std.proofs.lemmas.List.{get_or-take, length-take, nil_from_length, take_at}
use Rattle.std.proofs.lemmas.List.Sums.{fails_before_first, passes_at_first, split_at_first}
use Rattle.std.proofs.Math.ListN.{drop_of_length-le}
use Rattle.std.specs.Cmp.Lexicographic.{bytes_decides}
use Rattle.std.specs.List.{after_first, before_first, position_or_len}
use Rattle.std.specs.Prelude.{nat_lt}
use Rattle.semver.proofs.Grammar.{version_parts-complete, version_parts-sound}
use Rattle.semver.specs.declared.error.Error.{Error}
use Rattle.semver.specs.Identifiers.{parts_text}
use Rattle.semver.specs.Parse.{Parts, version_parts}
use Rattle.wac_names.specs.Track.{HasTrackKey, HasNoAt, IsCompatible, IsKeyOf, IsKeyText, IsTracked, IsVersioned}
use Rattle.wac_names.specs.Class.{ClassesAreDecided, ClassesTellNames, KeysAreTracks, alone, class_of, class_with, is_at, class_key, key_of_parts, key_of_version, on_track}

-- ---- where a name is cut

first_at : (base rest : List ℕ) → HasNoAt base → position_or_len is_at (base ++ 64 ∷ rest) ≡ length base
first_at [] rest h = refl
first_at (b ∷ base) rest h = elim (cases_Bool (b == 64)) [
  | inl e ↦ absurd (h 0 (omega arith) (eqb-true b 64 e))
  | inr f ↦
      let more : position_or_len is_at (base ++ 64 ∷ rest) ≡ length base = first_at base rest (λ i w. h (suc i) (omega arith)) in
      rw f (omega arith)
]

before_at : (base rest : List ℕ) → HasNoAt base → before_first is_at (base ++ 64 ∷ rest) ≡ base
before_at base rest h = take_at base (64 ∷ rest) _ (sym (first_at base rest h))

drop_past : (base rest : List ℕ) → drop (length base + 1) (base ++ 64 ∷ rest) ≡ rest
drop_past [] rest = refl
drop_past (b ∷ base) rest =
    let e : suc (length base) + 1 ≡ suc (length base + 1) = omega arith in
    ap (λ (n : ℕ). drop n (b ∷ base ++ 64 ∷ rest)) e ∙ drop_past base rest

after_at : (base rest : List ℕ) → HasNoAt base → after_first is_at (base ++ 64 ∷ rest) ≡ rest
after_at base rest h = ap (λ (n : ℕ). drop (n + 1) (base ++ 64 ∷ rest)) (first_at base rest h) ∙ drop_past base rest

-- ---- the key of a name

not_zero : (n : ℕ) → n ≢ 0 → (n == 0) ≡ false
not_zero n ne = elim (cases_Bool (n == 0)) [
  | inl e ↦ absurd (ne (eqb-true n 0 e))
  | inr f ↦ f
]

is_zero : (n : ℕ) → (n == 0) ≡ false → n ≢ 0
is_zero n f e = cc (f, eq-eqb n 0 e)

parts_key : (base key : List ℕ) (p : Parts) → p.3 ≡ [] → IsKeyText base p key → key_of_parts base p ≡ Some key
parts_key base key p pre (inl x) = let none = eq-eqb (length p.3) 0 (ap length pre) in rw (none, not_zero p.0 x.0) (ap Some (sym x.1))
parts_key base key p pre (inr x) = let none = eq-eqb (length p.3) 0 (ap length pre) in rw (none, eq-eqb p.0 0 x.0, not_zero p.1 x.1) (ap Some (sym x.2))

key_parts : (base key : List ℕ) (p : Parts) → key_of_parts base p ≡ Some key → (p.3 ≡ []) × IsKeyText base p key
key_parts base key p e = elim (cases_Bool (length p.3 == 0)) [
  | inl pre ↦ elim (cases_Bool (p.0 == 0)) [
    | inl z ↦ elim (cases_Bool (p.1 == 0)) [
      | inl y ↦ cc (rw (pre, z, y) at e)
      | inr n ↦ (nil_from_length _ (eqb-true _ _ pre), inr (eqb-true _ _ z, is_zero _ n, some_same (sym (rw (pre, z, n) at e))))
    ]
    | inr n ↦ (nil_from_length _ (eqb-true _ _ pre), inl (is_zero _ n, some_same (sym (rw (pre, n) at e))))
  ]
  | inr pre ↦ cc (rw pre at e)
] where
  some_same : {k l : List ℕ} → ◌≡◌ {A = Option (List ℕ)} (Some k) (Some l) → k ≡ l
  some_same e = cc e

key_of-complete : (name key : List ℕ) (p : Parts) → IsTracked name key p → class_key name ≡ Some key
key_of-complete name key p t =
    let base = t.base in
    let text = parts_text p in
    let front : before_first is_at name ≡ base = ap (λ (n : List ℕ). before_first is_at n) t.versioned.written ∙ before_at base text t.versioned.plain in
    let back : after_first is_at name ≡ text = ap (λ (n : List ℕ). after_first is_at n) t.versioned.written ∙ after_at base text t.versioned.plain in
    let reads : version_parts (after_first is_at name) ≡ Ok p = ap version_parts back ∙ version_parts-complete p t.versioned.valid in
    ap (λ (o : Result Parts Error). key_of_version (before_first is_at name) o) reads ∙ ap (λ (b : List ℕ). key_of_parts b p) front ∙ parts_key base key p t.release t.key_text

-- what is read as a version stands after an `@`
read_after_at : (name : List ℕ) (p : Parts) → version_parts (after_first is_at name) ≡ Ok p → IsVersioned name (before_first is_at name) p
read_after_at name p e = elim (cases_Bool (nat_lt (position_or_len is_at name) (length name))) [
  | inl lt ↦
      let less = ltb-true _ _ lt in
      let sound = version_parts-sound (after_first is_at name) p e in
      let byte : get_or name (position_or_len is_at name) 0 ≡ 64 = eqb-true _ _ (passes_at_first is_at name 0 less) in
      let cut = split_at_first is_at name 0 less in
      let tail : get_or name (position_or_len is_at name) 0 ∷ after_first is_at name ≡ 64 ∷ parts_text p = cc (byte, sound.0) in
      record {
        written = cut ∙ ap (λ (t : List ℕ). before_first is_at name ++ t) tail;
        plain = λ i h same.
            let le : length (before_first is_at name) ≤ position_or_len is_at name = simp length-take (omega arith) in
            let below : i < position_or_len is_at name = omega arith in
            let at : get_or (before_first is_at name) i 0 ≡ get_or name i 0 = get_or-take _ name i 0 below in
            cc (fails_before_first is_at name i 0 below, eq-eqb _ 64 (sym at ∙ same));
        valid = sound.1;
      }
  | inr ge ↦
      let le = ltb-false _ _ ge in
      let long : length name ≤ position_or_len is_at name + 1 = omega arith in
      let nothing : after_first is_at name ≡ [] = drop_of_length-le name long in
      cc (ap version_parts nothing, e)
]

key_of-sound : (name key : List ℕ) → class_key name ≡ Some key → HasTrackKey name key
key_of-sound name key e = step (version_parts (after_first is_at name)) refl e where
  step : (o : Result Parts Error) → version_parts (after_first is_at name) ≡ o → key_of_version (before_first is_at name) o ≡ Some key → HasTrackKey name key
  step (Err d) at h = cc h
  step (Ok p) at h =
      let k = key_parts (before_first is_at name) key p h in
      (p, record { base = before_first is_at name; versioned = read_after_at name p at; release = k.0; key_text = k.1 })

key_of-is : (name : List ℕ) → IsKeyOf name (class_key name)
key_of-is name = at (class_key name) refl where
  at : (o : Option (List ℕ)) → class_key name ≡ o → IsKeyOf name o
  at (Some key) e = key_of-sound name key e
  at None e = λ key h. cc (key_of-complete name key h.0 h.1, e)

key_of-only : (name : List ℕ) (o : Option (List ℕ)) → IsKeyOf name o → o ≡ class_key name
key_of-only name (Some key) h = sym (key_of-complete name key h.0 h.1)
key_of-only name None none = at (class_key name) refl where
  at : (o : Option (List ℕ)) → class_key name ≡ o → ◌≡◌ {A = Option (List ℕ)} None (class_key name)
  at (Some key) e = absurd (none key (key_of-sound name key e))
  at None e = sym e

pub keys_are_tracks : KeysAreTracks
keys_are_tracks = record { is_key = key_of-is; only_key = key_of-only }

-- ---- classes

-- the class of a name with this track key, and of a name without one
pub class_of-keyed : (name key : List ℕ) → HasTrackKey name key → on_track key ≡ class_of name
class_of-keyed name key h = ap (class_with name) (key_of-only name (Some key) h)

pub class_of-alone : (name : List ℕ) → ((key : List ℕ) → HasTrackKey name key → ⊥) → alone name ≡ class_of name
class_of-alone name none = ap (class_with name) (key_of-only name None none)

class_complete : (a b : List ℕ) → IsCompatible a b → class_of a ≡ class_of b
class_complete a b (inl e) = ap class_of e
class_complete a b (inr s) =
    ap (λ (o : Option (List ℕ)). class_with a o) (key_of-complete a s.0 s.1.0 s.1.1) ∙ sym (ap (λ (o : Option (List ℕ)). class_with b o) (key_of-complete b s.0 s.2.0 s.2.1))

class_sound : (a b : List ℕ) → class_of a ≡ class_of b → IsCompatible a b
class_sound a b e = at (class_key a) (class_key b) refl refl e where
  at : (o r : Option (List ℕ)) → class_key a ≡ o → class_key b ≡ r → class_with a o ≡ class_with b r → IsCompatible a b
  at (Some k) (Some l) x y e =
      let same : k ≡ l = cc e in
      inr (l, subst (λ (t : List ℕ). HasTrackKey a t) same (key_of-sound a k x), key_of-sound b l y)
  at (Some k) None x y e = cc e
  at None (Some l) x y e = cc e
  at None None x y e = inl cc

pub classes_tell : ClassesTellNames
classes_tell a b = (class_complete a b, class_sound a b)

pub classes_decided : ClassesAreDecided
classes_decided (on_track k) (on_track l) = (λ h. ap on_track ((bytes_decides k l).0 h), λ e. (bytes_decides k l).1 cc)
classes_decided (on_track k) (alone b) = (λ h. cc h, λ e. cc e)
classes_decided (alone a) (on_track l) = (λ h. cc h, λ e. cc e)
classes_decided (alone a) (alone b) = (λ h. ap alone ((bytes_decides a b).0 h), λ e. (bytes_decides a b).1 cc)
