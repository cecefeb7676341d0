-- When two ids are one.
use Rattle.std.proofs.Common.{◌≡◌, ◌==◌, ◌&&◌, Bool, true, false, refl, eqb-true, rules}
use Rattle.wac_component.specs.Id.{Id, is_same}

both_left : (a b : Bool) → (a && b) ≡ true → a ≡ true
both_left true b h = refl
both_left false b h = absurd (cc)

both_right : (a b : Bool) → (a && b) ≡ true → b ≡ true
both_right true b h = h
both_right false b h = absurd (cc)

pub is_same-refl : (p : Id) → is_same p p ≡ true
is_same-refl p = search rules

pub is_same-true : (p q : Id) → is_same p q ≡ true → p ≡ q
is_same-true p q h =
    let n = eqb-true p.number q.number (both_left (p.number == q.number) (p.index == q.index) h) in
    let i = eqb-true p.index q.index (both_right (p.number == q.number) (p.index == q.index) h) in
    λ j. record { number = n j; index = i j }
