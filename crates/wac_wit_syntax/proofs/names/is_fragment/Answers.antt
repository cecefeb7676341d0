-- Both tests go over the whole word.
use Rattle.std.proofs.Common.{◌≡◌, ℕ, List, [], ◌∷◌, Bool, true, false, not, ◌&&◌, ◌||◌, eqb, length, refl, rules, tests}
use Rattle.std.specs.List.{list_all}
use Rattle.std.proofs.lemmas.Iterator.{YieldsList-from_slice}
use Rattle.std.proofs.lemmas.Iterator.Search.{all_from_yields_List}
use Rattle.wac_wit_syntax.specs.Bytes.{is_lower_or_digit, is_nonempty, is_upper_or_digit}
use Rattle.wac_wit_syntax.proofs.names.is_fragment.Goals as goal

nonempty : (w : List ℕ) → not (eqb (length w) 0) ≡ true → is_nonempty w ≡ true
nonempty [] h = h
nonempty (b ∷ bs) h = refl

answered : (n r s l u : Bool) → n ≡ true → r ≡ l → r ≡ true → r ≡ (n && (l || u))
answered false r s l u h e f = cc h
answered true r s true u h e f = f
answered true r s false u h e f = cc (e, f)

other_answered : (n r s l u : Bool) → n ≡ true → r ≡ l → r ≡ false → s ≡ u → s ≡ (n && (l || u))
other_answered false r s l u h e f g = cc h
other_answered true r s true u h e f g = cc (e, f)
other_answered true r s false u h e f g = g

pub returns-then-all : goal.returns-then-all
returns-then-all c =
    let w = c.args.word.now in
    let lower : c.all.result ≡ list_all is_lower_or_digit w = all_from_yields_List is_lower_or_digit _ _ c.all.result c.all.ensures.ran (YieldsList-from_slice w cc) (λ x b q k. search (rules, tests)) in
    let some : is_nonempty w ≡ true = nonempty w (search rules) in
    answered (is_nonempty w) _ true _ (list_all is_upper_or_digit w) some lower c.if-all.true

pub returns-else-all : goal.returns-else-all
returns-else-all c =
    let w = c.args.word.now in
    let lower : c.all.result ≡ list_all is_lower_or_digit w = all_from_yields_List is_lower_or_digit _ _ c.all.result c.all.ensures.ran (YieldsList-from_slice w cc) (λ x b q k. search (rules, tests)) in
    let upper : c.all-else-all.result ≡ list_all is_upper_or_digit w = all_from_yields_List is_upper_or_digit _ _ c.all-else-all.result c.all-else-all.ensures.ran (YieldsList-from_slice w cc) (λ x b q k. search (rules, tests)) in
    let some : is_nonempty w ≡ true = nonempty w (search rules) in
    other_answered (is_nonempty w) _ _ _ _ some lower c.if-all.false upper
