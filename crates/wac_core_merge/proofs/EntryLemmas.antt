-- Lists of named values whose values are replaced or left out: what a look-up finds there.
use Rattle.std.proofs.Common.{◌≡◌, refl, sym, ap, subst, ◌∙◌, Bool, true, false, cond, List, [], ◌∷◌, ◌++◌, map, filter, is_some, Option, None, Some, option_map, All}
use Rattle.std.specs.Bool.{Decides}
use Rattle.std.specs.Cmp.{IsEquivalence}
use Rattle.std.specs.List.{IsDistinct, AllByRecursion}
use Rattle.std.specs.Map.{keys_of}
use Rattle.std.proofs.lemmas.List.{append_assoc}
use Rattle.std.proofs.lemmas.List.Elements.{All-nil, All-cons, All-head, All-tail, All-weaker}
use Rattle.std.proofs.lemmas.Map.Keys.{IsDistinct-head, IsDistinct-tail}
use Rattle.wac_model.specs.Text.{lookup}
use Rattle.wac_core_merge.specs.Names.{put, with_new}
use Rattle.wac_core_merge.specs.Entries.{ReplacesEach}
use Rattle.wac_core_merge.specs.NameOrder.{HasSomeNames}
use Rattle.wac_core_merge.proofs.NameLemmas.{absent_before, with_new-absent}

module _ {K V : Type 0} where
  put-append : (n : K) (o : Option V) (es ts : List (K × V)) → put n o es ++ ts ≡ put n o (es ++ ts)
  put-append n None es ts = refl
  put-append n (Some v) es ts = refl

  -- what replaces each value keeps the names
  pub Replaces-names : (R : K → V → Option V → Type 0) → ((k : K) (v : V) → R k v None → ⊥) → (es ms : List (K × V)) → ReplacesEach R es ms → keys_of ms ≡ keys_of es
  Replaces-names R kept [] ms h = ap keys_of h
  Replaces-names R kept (e ∷ es) ms h = go h.0 h.2 h.4 (Replaces-names R kept es h.1 h.3)
    where
      go : (o : Option V) → R e.0 e.1 o → ms ≡ put e.0 o h.1 → keys_of h.1 ≡ keys_of es → keys_of ms ≡ e.0 ∷ keys_of es
      go None r is names = absurd (kept e.0 e.1 r)
      go (Some v) r is names = ap keys_of is ∙ ap (λ ns. e.0 ∷ ns) names

  Replaces-push : (R : K → V → Option V → Type 0) (es ms : List (K × V)) (e : K × V) (o : Option V) → ReplacesEach R es ms → R e.0 e.1 o → ReplacesEach R (es ++ e ∷ []) (ms ++ put e.0 o [])
  Replaces-push R [] ms e o h r = (o, [], r, refl, ap (λ l. l ++ put e.0 o []) h)
  Replaces-push R (x ∷ es) ms e o h r =
      (h.0, h.1 ++ put e.0 o [], h.2, Replaces-push R es h.1 e o h.3 r, ap (λ l. l ++ put e.0 o []) h.4 ∙ put-append x.0 h.0 h.1 (put e.0 o []))

  module _ (is_same : K → K → Bool) where
    lookup-put_past : (n m : K) (o : Option V) (es : List (K × V)) → is_same m n ≡ false → lookup is_same (put n o es) m ≡ lookup is_same es m
    lookup-put_past n m None es h = refl
    lookup-put_past n m (Some v) es h = rw h refl

    -- a name that isn't in a list isn't in what replaces it
    pub Replaces-absent : (R : K → V → Option V → Type 0) (es ms : List (K × V)) (n : K) → ReplacesEach R es ms → lookup is_same es n ≡ None → lookup is_same ms n ≡ None
    Replaces-absent R [] ms n h g = ap (λ l. lookup is_same l n) h
    Replaces-absent R (e ∷ es) ms n h g = go (is_same n e.0) refl g (Replaces-absent R es h.1 n h.3)
      where
        go : (b : Bool) → is_same n e.0 ≡ b → cond b (Some e.1) (lookup is_same es n) ≡ None → (lookup is_same es n ≡ None → lookup is_same h.1 n ≡ None) → lookup is_same ms n ≡ None
        go true p g f = absurd (cc)
        go false p g f = ap (λ l. lookup is_same l n) h.4 ∙ lookup-put_past e.0 n h.0 h.1 p ∙ f g

    absent_from : (n : K) (es : List (K × V)) → AllByRecursion (λ m. is_same n m ≡ false) (keys_of es) → lookup is_same es n ≡ None
    absent_from n [] h = refl
    absent_from n (e ∷ es) h = rw h.0 (absent_from n es h.1)

    -- what holds of each value in its place holds of each entry
    pub Replaces-All : (R : K → V → Option V → Type 0) (P : K × V → Type 0) (es ms : List (K × V)) → ReplacesEach R es ms → All (λ e. (v : V) → R e.0 e.1 (Some v) → P (e.0, v)) es → All P ms
    Replaces-All R P [] ms h a = rw h (All-nil P)
    Replaces-All R P (e ∷ es) ms h a =
        rw h.4 (go h.0 h.2 (Replaces-All R P es h.1 h.3 (All-tail (λ e. (v : V) → R e.0 e.1 (Some v) → P (e.0, v)) e es a)))
      where
        go : (o : Option V) → R e.0 e.1 o → All P h.1 → All P (put e.0 o h.1)
        go None r f = f
        go (Some v) r f = All-cons P (e.0, v) h.1 (All-head (λ e. (v : V) → R e.0 e.1 (Some v) → P (e.0, v)) e es a v r) f

  -- one more of a list that is taken entry by entry, put last if it is kept
  pub Replaces-turn : {eq : K → K → Bool} → IsEquivalence eq → (R : K → V → Option V → Type 0) (all done rest left so_far new : List (K × V)) (e : K × V) (o : Option V)
      → IsDistinct eq (keys_of all) → all ≡ done ++ rest → rest ≡ e ∷ left → ReplacesEach R done so_far → R e.0 e.1 o → new ≡ with_new eq so_far (put e.0 o [])
      → (all ≡ (done ++ e ∷ []) ++ left) × ReplacesEach R (done ++ e ∷ []) new
  Replaces-turn {eq} laws R all done rest left so_far new e o distinct split here h r new_is =
      let whole : all ≡ done ++ e ∷ left = split ∙ ap (λ l. done ++ l) here in
      let absent = Replaces-absent eq R done so_far e.0 h (absent_before laws done e left (subst (λ l. IsDistinct eq (keys_of l)) whole distinct)) in
      (whole ∙ sym (append_assoc done (e ∷ []) left), subst (ReplacesEach R (done ++ e ∷ [])) (sym (new_is ∙ pushed o absent)) (Replaces-push R done so_far e o h r))
    where
      pushed : (o : Option V) → lookup eq so_far e.0 ≡ None → with_new eq so_far (put e.0 o []) ≡ so_far ++ put e.0 o []
      pushed None h = refl
      pushed (Some v) h = with_new-absent eq so_far e.0 v h

apart_turned : {K : Type 0} (is_same : K → K → Bool) → ((m n : K) → Decides (is_same m n) (m ≡ n)) → (m n : K) → is_same m n ≡ false → is_same n m ≡ false
apart_turned is_same decides m n h = go (is_same n m) refl
  where
    go : (b : Bool) → is_same n m ≡ b → b ≡ false
    go false p = refl
    go true p = let there : is_same m n ≡ true = (decides m n).1 (sym ((decides n m).0 p)) in absurd (cc)

module _ {K V : Type 0} (is_same : K → K → Bool) (decides : (m n : K) → Decides (is_same m n) (m ≡ n)) where
  lookup-put_here : (n : K) (o : Option V) (es : List (K × V)) → lookup is_same es n ≡ None → lookup is_same (put n o es) n ≡ o
  lookup-put_here n None es h = h
  lookup-put_here n (Some v) es h = rw ((decides n n).1 refl) refl

  -- each name has what it had, replaced
  pub Replaces-at : (R : K → V → Option V → Type 0) (es ms : List (K × V)) → IsDistinct is_same (keys_of es) → ReplacesEach R es ms → (n : K) (v : V) → lookup is_same es n ≡ Some v → R n v (lookup is_same ms n)
  Replaces-at R [] ms d h n v g = absurd (cc)
  Replaces-at R (e ∷ es) ms d h n v g = go (is_same n e.0) refl g (Replaces-at R es h.1 (IsDistinct-tail is_same e.0 (keys_of es) d) h.3 n v)
    where
      go : (b : Bool) → is_same n e.0 ≡ b → cond b (Some e.1) (lookup is_same es n) ≡ Some v → (lookup is_same es n ≡ Some v → R n v (lookup is_same h.1 n)) → R n v (lookup is_same ms n)
      go true p g f =
          let same : n ≡ e.0 = (decides n e.0).0 p in
          let value : e.1 ≡ v = cc in
          let absent = Replaces-absent is_same R es h.1 e.0 h.3 (absent_from is_same e.0 es (IsDistinct-head is_same e.0 (keys_of es) d)) in
          let found : lookup is_same ms e.0 ≡ h.0 = ap (λ l. lookup is_same l e.0) h.4 ∙ lookup-put_here e.0 h.0 h.1 absent in
          subst (λ m. R m v (lookup is_same ms m)) (sym same) (subst (λ o. R e.0 v o) (sym found) (subst (λ u. R e.0 u h.0) value h.2))
      go false p g f = subst (R n v) (sym (ap (λ l. lookup is_same l n) h.4 ∙ lookup-put_past is_same e.0 n h.0 h.1 p)) (f g)

  filter-put : (n : K) (o : Option V) (es : List (K × V)) (ns : List K) → AllByRecursion (λ m. is_same n m ≡ false) ns
      → filter (λ m. is_some (lookup is_same es m)) ns ≡ filter (λ m. is_some (lookup is_same (put n o es) m)) ns
  filter-put n o es [] h = refl
  filter-put n o es (m ∷ ns) h =
      λ i. cond (is_some (sym (lookup-put_past is_same n m o es (apart_turned is_same decides n m h.0)) i)) (m ∷ filter-put n o es ns h.1 i) (filter-put n o es ns h.1 i)

  -- what replaces a list has some of its names, in the same order
  pub Replaces-some_names : (R : K → V → Option V → Type 0) (es ms : List (K × V)) → IsDistinct is_same (keys_of es) → ReplacesEach R es ms → HasSomeNames is_same es ms
  Replaces-some_names R [] ms d h = ap keys_of h
  Replaces-some_names R (e ∷ es) ms d h =
      let apart = IsDistinct-head is_same e.0 (keys_of es) d in
      let absent = Replaces-absent is_same R es h.1 e.0 h.3 (absent_from is_same e.0 es apart) in
      let rest = Replaces-some_names R es h.1 (IsDistinct-tail is_same e.0 (keys_of es) d) h.3 in
      subst (HasSomeNames is_same (e ∷ es)) (sym h.4) (go h.0 (lookup-put_here e.0 h.0 h.1 absent) (rest ∙ filter-put e.0 h.0 h.1 (keys_of es) apart))
    where
      go : (o : Option V) → lookup is_same (put e.0 o h.1) e.0 ≡ o → keys_of h.1 ≡ filter (λ n. is_some (lookup is_same (put e.0 o h.1) n)) (keys_of es)
          → keys_of (put e.0 o h.1) ≡ filter (λ n. is_some (lookup is_same (put e.0 o h.1) n)) (e.0 ∷ keys_of es)
      go None p g = g ∙ ap (λ x. cond (is_some x) (e.0 ∷ filter (λ n. is_some (lookup is_same h.1 n)) (keys_of es)) (filter (λ n. is_some (lookup is_same h.1 n)) (keys_of es))) (sym p)
      go (Some v) p g =
          let kept : List K = filter (λ n. is_some (lookup is_same ((e.0, v) ∷ h.1) n)) (keys_of es) in
          ap (λ ns. e.0 ∷ ns) g ∙ ap (λ x. cond (is_some x) (e.0 ∷ kept) kept) (sym p)

  -- a look-up of each entry's name finds that entry
  pub All-found : (es : List (K × V)) → IsDistinct is_same (keys_of es) → All (λ e. lookup is_same es e.0 ≡ Some e.1) es
  All-found [] d = All-nil (λ e. lookup {V = V} is_same [] e.0 ≡ Some e.1)
  All-found (e ∷ es) d =
      All-cons (λ x. lookup is_same (e ∷ es) x.0 ≡ Some x.1) e es (rw ((decides e.0 e.0).1 refl) refl)
      (All-weaker (λ x. lookup is_same es x.0 ≡ Some x.1) (λ x. lookup is_same (e ∷ es) x.0 ≡ Some x.1) past es (All-found es (IsDistinct-tail is_same e.0 (keys_of es) d)))
    where
      past : (x : K × V) → lookup is_same es x.0 ≡ Some x.1 → lookup is_same (e ∷ es) x.0 ≡ Some x.1
      past x h = go (is_same x.0 e.0) refl
        where
          go : (b : Bool) → is_same x.0 e.0 ≡ b → cond b (Some e.1) (lookup is_same es x.0) ≡ Some x.1
          go true p =
              let absent = absent_from is_same e.0 es (IsDistinct-head is_same e.0 (keys_of es) d) in
              let there : lookup is_same es e.0 ≡ Some x.1 = subst (λ m. lookup is_same es m ≡ Some x.1) ((decides x.0 e.0).0 p) h in
              absurd (cc)
          go false p = h

-- what replaces a list shows what replaces what that list shows
module _ {K L V W : Type 0} (show_key : K → L) (show : V → W) (R : K → V → Option V → Type 0) (S : L → W → Option W → Type 0) (says : (k : K) (v : V) (o : Option V) → R k v o → S (show_key k) (show v) (option_map show o)) where
  abbrev shown : K × V → L × W
  shown e = (show_key e.0, show e.1)

  put-shown : (n : K) (o : Option V) (es : List (K × V)) → map shown (put n o es) ≡ put (show_key n) (option_map show o) (map shown es)
  put-shown n None es = refl
  put-shown n (Some v) es = refl

  pub Replaces-shown : (es ms : List (K × V)) → ReplacesEach R es ms → ReplacesEach S (map {A = K × V} {B = L × W} (λ e. (show_key e.0, show e.1)) es) (map (λ e. (show_key e.0, show e.1)) ms)
  Replaces-shown [] ms h = ap (map shown) h
  Replaces-shown (e ∷ es) ms h = (option_map show h.0, map shown h.1, says e.0 e.1 h.0 h.2, Replaces-shown es h.1 h.3, ap (map shown) h.4 ∙ put-shown e.0 h.0 h.1)
