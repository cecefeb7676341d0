-- Lists that answer each other, place by place.
use Rattle.std.proofs.Common.{List, [], ◌∷◌, ◌++◌}
use Rattle.std.specs.List.{AllZip}

-- one more on both sides
pub AllZip-one_more : {A B : Type 0} (R : A → B → Type 0) (xs : List A) (ys : List B) (x : A) (y : B) → AllZip R xs ys → R x y → AllZip R (xs ++ x ∷ []) (ys ++ y ∷ [])
AllZip-one_more R [] [] x y h r = (r, tt)
AllZip-one_more R [] (b ∷ ys) x y h r = absurd h
AllZip-one_more R (a ∷ xs) [] x y h r = absurd h
AllZip-one_more R (a ∷ xs) (b ∷ ys) x y h r = (h.0, AllZip-one_more R xs ys x y h.1 r)
