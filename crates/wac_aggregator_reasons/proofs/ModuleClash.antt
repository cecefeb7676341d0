-- Modules that have no common lower bound export externs under one name that
-- have none. Where the meet of two has none with a third, one of the two has
-- none with it: limits of which each two have a meet have one all together.
use Rattle.std.specs.Str.{bytes_eq}
use Rattle.std.proofs.Common.{◌≡◌, ◌≤◌, ◌⊎◌, inl, inr, refl, sym, subst, ◌∙◌, ℕ, max, arith, true, Option, Some, None, List, []}
use Rattle.std.proofs.lemmas.Bool.{le-leb, leb-true}
use Rattle.std.proofs.lemmas.Slice.Eq.{bytes_eq-Decides}
use Rattle.wac_model.specs.Text.{Text, lookup}
use Rattle.wac_model.specs.CoreTree.{Limits, CoreLabel, CoreTree, plain, limited, ModuleTree, Serves, LimitsFit, CoreFits, ModuleFits, is_within}
use Rattle.wac_model.proofs.CoreOrder.{CoreFits-refl, CoreFits-antisym}
use Rattle.wac_model.proofs.Serves.{Serves-refl, Serves-antisym}
use Rattle.wac_bounds.specs.MeetIn.{IsMeetIn}
use Rattle.wac_bounds.specs.Valid.{ValidFits}
use Rattle.wac_bounds.proofs.CoreMeet.{limited_meet, within_wider, valid_above, valid_meet, valid_meet_is}
use Rattle.wac_bounds.proofs.Entries.{IsMeetByName}
use Rattle.wac_bounds.proofs.LimitsMeet.{smaller, limits_meet, limits_meet_is}
use Rattle.wac_bounds.proofs.ModuleMeet.{externs_meet, externs_meet_is, externs_meet-valid}
use Rattle.wac_bounds.proofs.ValidLemmas.{from_valid, to_valid, exports_valid, export_valid}

within_max : (i j : ℕ) (o : Option ℕ) → is_within i o ≡ true → is_within j o ≡ true → is_within (max i j) o ≡ true
within_max i j None h g = refl
within_max i j (Some m) h g = let a = leb-true i m h in let b = leb-true j m g in le-leb (max i j) m (omega arith)

within_smaller : (i : ℕ) (o p : Option ℕ) → is_within i o ≡ true → is_within i p ≡ true → is_within i (smaller o p) ≡ true
within_smaller i None p h g = g
within_smaller i (Some m) None h g = h
within_smaller i (Some m) (Some n) h g = let a = leb-true i m h in let b = leb-true i n g in le-leb i _ (omega arith)

same_most : (o : Option ℕ) → Serves (λ m n. m ≤ n) o o
same_most o = Serves-refl (λ m n. m ≤ n) o (λ v _. omega arith)

-- limits that meet two by two meet all together: m is as wide as the meet of
-- a and b, p is below a and u, and q below b and u
limits_meet_all : (a b m u p q : Limits) → LimitsFit (limits_meet a b) m → LimitsFit p a → LimitsFit p u → LimitsFit q b → LimitsFit q u
    → is_within m.initial m.maximum ≡ true → is_within u.initial u.maximum ≡ true → is_within p.initial p.maximum ≡ true → is_within q.initial q.maximum ≡ true
    → is_within (limits_meet m u).initial (limits_meet m u).maximum ≡ true
limits_meet_all a b m u p q over pa pu qb qu vm vu vp vq =
    let a_u = within_wider p.initial a.initial p.maximum u.maximum pa.0 pu.1 vp in
    let b_u = within_wider q.initial b.initial q.maximum u.maximum qb.0 qu.1 vq in
    let u_a = within_wider p.initial u.initial p.maximum a.maximum pu.0 pa.1 vp in
    let u_b = within_wider q.initial u.initial q.maximum b.maximum qu.0 qb.1 vq in
    let m_u = within_wider (max a.initial b.initial) m.initial u.maximum u.maximum over.0 (same_most u.maximum) (within_max a.initial b.initial u.maximum a_u b_u) in
    let u_m = within_wider u.initial u.initial (smaller a.maximum b.maximum) m.maximum (omega arith) over.1 (within_smaller u.initial a.maximum b.maximum u_a u_b) in
    within_smaller (max m.initial u.initial) m.maximum u.maximum (within_max m.initial u.initial m.maximum vm u_m) (within_max m.initial u.initial u.maximum m_u vu)

-- what fits where an extern without limits is asked for is that one
plain_same : (k : CoreLabel) (z : CoreTree) → CoreFits z (plain k) → z ≡ plain k
plain_same k (plain j) h = h
plain_same k (limited j m) h = h

-- the same of externs: c is below x and w, d below y and w, and z is the meet of x and y
externs_meet_all : (x y z w c d : CoreTree) → IsMeetIn ValidFits x y (Some z) → ValidFits c x → ValidFits c w → ValidFits d y → ValidFits d w → (e : CoreTree) × ValidFits e z × ValidFits e w
externs_meet_all (plain k) y z w c d h cx cw dy dw =
    let to_z = plain_same k z h.0.2 in
    let to_c = plain_same k c cx.2 in
    (c, subst (λ t. ValidFits c t) (to_c ∙ sym to_z) (cx.0, cx.0, CoreFits-refl c), cw)
externs_meet_all (limited k a) (limited l b) (limited j m) (limited i u) (limited r p) (limited s q) h cx cw dy dw =
    let same : k ≡ l = sym h.0.2.0 ∙ h.1.2.0 in
    let raw = limited_meet k l same a b (limits_meet a b) (limits_meet_is a b) in
    let below = raw.2 (limited j m) h.0.2 h.1.2 in
    let valid = valid_above (limited j m) (limited k (limits_meet a b)) below h.0.0 in
    let over = h.2 (limited k (limits_meet a b)) (valid, h.0.1, raw.0) (valid, h.1.1, raw.1) in
    let fits = limited_meet j i (h.0.2.0 ∙ sym cx.2.0 ∙ cw.2.0) m u (limits_meet m u) (limits_meet_is m u) in
    let is = limits_meet_all a b m u p q over.2.1 cx.2.1 cw.2.1 dy.2.1 dw.2.1 h.0.0 cw.1 cx.0 dy.0 in
    (limited j (limits_meet m u), (is, h.0.0, fits.0), (is, cw.1, fits.1))
externs_meet_all (limited k a) y (plain j) w c d h cx cw dy dw = let e : plain j ≡ limited k a = h.0.2 in absurd (cc)
externs_meet_all (limited k a) (plain l) (limited j m) w c d h cx cw dy dw = let e : limited j m ≡ plain l = h.1.2 in absurd (cc)
externs_meet_all (limited k a) (limited l b) (limited j m) w (plain r) d h cx cw dy dw = let e : plain r ≡ limited k a = cx.2 in absurd (cc)
externs_meet_all (limited k a) (limited l b) (limited j m) (plain i) (limited r p) d h cx cw dy dw = let e : limited r p ≡ plain i = cw.2 in absurd (cc)
externs_meet_all (limited k a) (limited l b) (limited j m) (limited i u) (limited r p) (plain s) h cx cw dy dw = let e : plain s ≡ limited l b = dy.2 in absurd (cc)

one_apart : (x y z w : CoreTree) → IsMeetIn ValidFits x y (Some z) → IsMeetIn ValidFits z w None → IsMeetIn ValidFits x w None ⊎ IsMeetIn ValidFits y w None
one_apart x y z w h none = go (valid_meet x w) (valid_meet y w) (valid_meet_is x w) (valid_meet_is y w)
  where
    go : (o p : Option CoreTree) → IsMeetIn ValidFits x w o → IsMeetIn ValidFits y w p → IsMeetIn ValidFits x w None ⊎ IsMeetIn ValidFits y w None
    go None p f g = inl f
    go (Some c) None f g = inr g
    go (Some c) (Some d) f g = let e = externs_meet_all x y z w c d h f.0 f.1 g.0 g.1 in absurd (none e.0 e.1 e.2)

abbrev pub NoBound : ModuleTree → ModuleTree → Type 0
NoBound a b = (c : ModuleTree) → ModuleFits c.content a.content → ModuleFits c.content b.content → ⊥

-- exports of one name without a common lower bound
record ModuleNameClash (a b : ModuleTree) : Type 0 where
  pub name : Text
  pub first : CoreTree
  pub second : CoreTree
  pub first_at : lookup bytes_eq a.content.exports name ≡ Some first
  pub second_at : lookup bytes_eq b.content.exports name ≡ Some second
  pub apart : IsMeetIn ValidFits first second None

-- the exports that two modules have, met
module _ (a b : ModuleTree) where
  abbrev met : Option (List (Text × CoreTree))
  met = externs_meet bytes_eq a.content.exports (lookup bytes_eq b.content.exports) b.content.exports

  abbrev MetByName : Option (List (Text × CoreTree)) → Type 0
  MetByName o = IsMeetByName ValidFits (lookup bytes_eq) (lookup bytes_eq a.content.exports) (lookup bytes_eq b.content.exports) o

  met_is : MetByName met
  met_is = externs_meet_is bytes_eq bytes_eq-Decides a.content.exports b.content.exports (exports_valid a.content a.valid) (exports_valid b.content b.valid)

  -- a module that exports these alone
  abbrev exporting : (es : List (Text × CoreTree)) → met ≡ Some es → ModuleTree
  exporting es is = record {
    content = record { imports = []; exports = es };
    valid = externs_meet-valid bytes_eq a.content.exports (lookup bytes_eq b.content.exports) b.content.exports (exports_valid a.content a.valid) (exports_valid b.content b.valid) es is;
  }

  found_apart : (n : Text) → IsMeetIn (Serves ValidFits) (lookup bytes_eq a.content.exports n) (lookup bytes_eq b.content.exports n) None → ModuleNameClash a b
  found_apart n h = go (lookup bytes_eq a.content.exports n) (lookup bytes_eq b.content.exports n) refl refl h
    where
      go : (x y : Option CoreTree) → lookup bytes_eq a.content.exports n ≡ x → lookup bytes_eq b.content.exports n ≡ y → IsMeetIn (Serves ValidFits) x y None → ModuleNameClash a b
      go None None p q g = absurd (g None tt tt)
      go None (Some y) p q g = let v = export_valid b.content b.valid n y q in absurd (g (Some y) tt (v, v, CoreFits-refl y))
      go (Some x) None p q g = let v = export_valid a.content a.valid n x p in absurd (g (Some x) (v, v, CoreFits-refl x) tt)
      go (Some x) (Some y) p q g = record { name = n; first = x; second = y; first_at = p; second_at = q; apart = λ c. g (Some c) }

  clash_found : NoBound a b → ModuleNameClash a b
  clash_found h = go met refl met_is
    where
      go : (o : Option (List (Text × CoreTree))) → met ≡ o → MetByName o → ModuleNameClash a b
      go None is g = found_apart g.0 g.1
      go (Some es) is g = absurd (h (exporting es is) (record { exports = λ n. from_valid _ _ (g n).0; imports = λ n. tt }) (record { exports = λ n. from_valid _ _ (g n).1; imports = λ n. tt }))

  clash_no_bound : ModuleNameClash a b → NoBound a b
  clash_no_bound u c p q =
      let x = to_valid _ _ (export_valid c.content c.valid u.name) (export_valid a.content a.valid u.name) (p.exports u.name) in
      let y = to_valid _ _ (export_valid c.content c.valid u.name) (export_valid b.content b.valid u.name) (q.exports u.name) in
      go (lookup bytes_eq c.content.exports u.name) (subst (λ o. Serves ValidFits (lookup bytes_eq c.content.exports u.name) o) u.first_at x) (subst (λ o. Serves ValidFits (lookup bytes_eq c.content.exports u.name) o) u.second_at y)
    where
      go : (o : Option CoreTree) → Serves ValidFits o (Some u.first) → Serves ValidFits o (Some u.second) → ⊥
      go None r s = r
      go (Some z) r s = u.apart z r s

module _ (a b m : ModuleTree) (is : IsMeetIn (λ x y. ModuleFits x.content y.content) a b (Some m)) where
  -- what the meet exports under a name is the meet of what the two have there
  met_there : (n : Text) → IsMeetIn (Serves ValidFits) (lookup bytes_eq a.content.exports n) (lookup bytes_eq b.content.exports n) (Some (lookup bytes_eq m.content.exports n))
  met_there n = go (met a b) refl (met_is a b)
    where
      below_a : (k : Text) → Serves ValidFits (lookup bytes_eq m.content.exports k) (lookup bytes_eq a.content.exports k)
      below_a k = to_valid _ _ (export_valid m.content m.valid k) (export_valid a.content a.valid k) (is.0.exports k)

      below_b : (k : Text) → Serves ValidFits (lookup bytes_eq m.content.exports k) (lookup bytes_eq b.content.exports k)
      below_b k = to_valid _ _ (export_valid m.content m.valid k) (export_valid b.content b.valid k) (is.1.exports k)

      go : (o : Option (List (Text × CoreTree))) → met a b ≡ o → MetByName a b o
          → IsMeetIn (Serves ValidFits) (lookup bytes_eq a.content.exports n) (lookup bytes_eq b.content.exports n) (Some (lookup bytes_eq m.content.exports n))
      go None q g = absurd (g.1 (lookup bytes_eq m.content.exports g.0) (below_a g.0) (below_b g.0))
      go (Some es) q g =
          let over = is.2 (exporting a b es q) (record { exports = λ k. from_valid _ _ (g k).0; imports = λ k. tt }) (record { exports = λ k. from_valid _ _ (g k).1; imports = λ k. tt }) in
          let under = (g n).2 (lookup bytes_eq m.content.exports n) (below_a n) (below_b n) in
          let same : lookup bytes_eq es n ≡ lookup bytes_eq m.content.exports n = Serves-antisym CoreFits _ _ CoreFits-antisym (over.exports n) (from_valid _ _ under) in
          subst (λ o. IsMeetIn (Serves ValidFits) (lookup bytes_eq a.content.exports n) (lookup bytes_eq b.content.exports n) (Some o)) same (g n)

  pub one_clashes : (u : ModuleTree) → NoBound m u → NoBound a u ⊎ NoBound b u
  one_clashes u h = let w = clash_found m u h in
      at w (lookup bytes_eq a.content.exports w.name) (lookup bytes_eq b.content.exports w.name) refl refl
      (subst (λ o. IsMeetIn (Serves ValidFits) (lookup bytes_eq a.content.exports w.name) (lookup bytes_eq b.content.exports w.name) (Some o)) w.first_at (met_there w.name))
    where
      from_a : (w : ModuleNameClash m u) (x : CoreTree) → lookup bytes_eq a.content.exports w.name ≡ Some x → IsMeetIn ValidFits x w.second None → NoBound a u ⊎ NoBound b u
      from_a w x p g = inl (clash_no_bound a u (record { name = w.name; first = x; second = w.second; first_at = p; second_at = w.second_at; apart = g }))

      from_b : (w : ModuleNameClash m u) (y : CoreTree) → lookup bytes_eq b.content.exports w.name ≡ Some y → IsMeetIn ValidFits y w.second None → NoBound a u ⊎ NoBound b u
      from_b w y q g = inr (clash_no_bound b u (record { name = w.name; first = y; second = w.second; first_at = q; second_at = w.second_at; apart = g }))

      alone : (x z s : CoreTree) → ValidFits z x → ValidFits x z → IsMeetIn ValidFits z s None → IsMeetIn ValidFits x s None
      alone x z s p q g = subst (λ t. IsMeetIn ValidFits t s None) (CoreFits-antisym z x p.2 q.2) g

      at : (w : ModuleNameClash m u) (o p : Option CoreTree) → lookup bytes_eq a.content.exports w.name ≡ o → lookup bytes_eq b.content.exports w.name ≡ p
          → IsMeetIn (Serves ValidFits) o p (Some (Some w.first)) → NoBound a u ⊎ NoBound b u
      at w None None p q h = absurd (h.2 None tt tt)
      at w (Some x) None p q h = from_a w x p (alone x w.first w.second h.0 (h.2 (Some x) (h.0.1, h.0.1, CoreFits-refl x) tt) w.apart)
      at w None (Some y) p q h = from_b w y q (alone y w.first w.second h.1 (h.2 (Some y) tt (h.1.1, h.1.1, CoreFits-refl y)) w.apart)
      at w (Some x) (Some y) p q h = elim (one_apart x y w.first w.second (h.0, h.1, λ c. h.2 (Some c)) w.apart) [ inl g ↦ from_a w x p g | inr g ↦ from_b w y q g ]
