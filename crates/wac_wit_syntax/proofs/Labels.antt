-- Texts that are cut at a separator, and the runs that they are.
use Rattle.std.proofs.Common.{◌≡◌, ℕ, suc, ◌≤◌, Bool, true, false, cond, ◌⊎◌, List, [], ◌∷◌, ◌++◌, length, get_or, take, eqb, refl, ap, ◌∙◌, inl, inr, arith}
use Rattle.std.specs.List.{AllByRecursion, list_all, onto_first, slice_split}
use Rattle.std.proofs.lemmas.List.Splits.{slice_split-cons_yes, slice_split-cons_no}
use Rattle.wac_wit_syntax.specs.Reading.{goes_on, run_length}
use Rattle.wac_wit_syntax.specs.declared.scanning.Run.{Run}
use Rattle.wac_wit_syntax.proofs.Runs.{Stops, both, run_more, run_stopped, together}

module _ (class : ℕ → Bool) where
  -- at least one byte, and each of the class
  abbrev pub IsPiece : List ℕ → Type 0
  IsPiece [] = ⊥
  IsPiece (b ∷ bs) = (class b ≡ true) × (list_all class bs ≡ true)

  -- the parts of a text that something may stand before: the first may be empty
  abbrev pub ArePieces : List (List ℕ) → Type 0
  ArePieces [] = Unit {0}
  ArePieces (p ∷ ps) = (list_all class p ≡ true) × AllByRecursion IsPiece ps

  pieces_all : (p : List ℕ) → IsPiece p → list_all class p ≡ true
  pieces_all [] h = absurd h
  pieces_all (b ∷ bs) h = together (class b) (list_all class bs) h.0 h.1

  pub pieces_from_all : (ps : List (List ℕ)) → AllByRecursion IsPiece ps → ArePieces ps
  pieces_from_all [] h = tt
  pieces_from_all (p ∷ ps) h = (pieces_all p h.0, h.1)

  pieces_onto : (b : ℕ) (ps : List (List ℕ)) → ArePieces (onto_first b ps) → (class b ≡ true) × ArePieces ps
  pieces_onto b [] h = ((both (class b) true h.0).0, tt)
  pieces_onto b (p ∷ ps) h = let k = both (class b) (list_all class p) h.0 in (k.0, (k.1, h.1))

  onto_pieces : (b : ℕ) (ps : List (List ℕ)) → class b ≡ true → ArePieces ps → AllByRecursion IsPiece (onto_first b ps)
  onto_pieces b [] h k = ((h, refl), tt)
  onto_pieces b (p ∷ ps) h k = ((h, k.0), k.1)

  -- what stands before other pieces begins with a byte of the class
  head_onto : (b : ℕ) (ps : List (List ℕ)) → AllByRecursion IsPiece (onto_first b ps) → class b ≡ true
  head_onto b [] h = h.0.0
  head_onto b (p ∷ ps) h = h.0.0

module _ (class : ℕ → Bool) (sep : ℕ) where
  abbrev pub cut_at : List ℕ → List (List ℕ)
  cut_at w = slice_split (λ b. eqb b sep) w

  head_by : (b : ℕ) (bs : List ℕ) (t : Bool) → AllByRecursion (IsPiece class) (cond t ([] ∷ cut_at bs) (onto_first b (cut_at bs))) → class b ≡ true
  head_by b bs true h = absurd h.0
  head_by b bs false h = head_onto class b (cut_at bs) h

  pub head_class : (w behind : List ℕ) → AllByRecursion (IsPiece class) (cut_at w) → class (get_or (w ++ behind) 0 0) ≡ true
  head_class [] behind h = absurd h.0
  head_class (b ∷ bs) behind h = head_by b bs (eqb b sep) h

  module _ (r : Run) (byte : (b n : ℕ) → class b ≡ true → goes_on r b n ≡ true) (separator : (n : ℕ) → class n ≡ true → goes_on r sep n ≡ true) where
    eq_is : (b : ℕ) → eqb b sep ≡ true → b ≡ sep
    eq_is b h = grind arith

    run_by : (b : ℕ) (bs behind : List ℕ) (t : Bool) → eqb b sep ≡ t → (ArePieces class (cut_at bs) → run_length r (bs ++ behind) ≡ length bs) → ArePieces class (cond t ([] ∷ cut_at bs) (onto_first b (cut_at bs))) → run_length r (b ∷ (bs ++ behind)) ≡ suc (length bs)
    run_by b bs behind true e f h =
        run_more r b (bs ++ behind) (ap (λ x. goes_on r x (get_or (bs ++ behind) 0 0)) (eq_is b e) ∙ separator _ (head_class bs behind h.1)) ∙ ap suc (f (pieces_from_all class (cut_at bs) h.1))
    run_by b bs behind false e f h = let k = pieces_onto class b (cut_at bs) h in run_more r b (bs ++ behind) (byte b _ k.0) ∙ ap suc (f k.1)

    -- pieces with separators between them are a run, if it stops behind them
    pub run_of_pieces : (w behind : List ℕ) → ArePieces class (cut_at w) → Stops r behind → run_length r (w ++ behind) ≡ length w
    run_of_pieces [] behind h s = run_stopped r behind s
    run_of_pieces (b ∷ bs) behind h s = run_by b bs behind (eqb b sep) refl (λ k. run_of_pieces bs behind k s) h

    least_by : (b : ℕ) (bs behind : List ℕ) (t : Bool) → eqb b sep ≡ t → (ArePieces class (cut_at bs) → length bs ≤ run_length r (bs ++ behind)) → ArePieces class (cond t ([] ∷ cut_at bs) (onto_first b (cut_at bs))) → suc (length bs) ≤ run_length r (b ∷ (bs ++ behind))
    least_by b bs behind true e f h =
        let on = run_more r b (bs ++ behind) (ap (λ x. goes_on r x (get_or (bs ++ behind) 0 0)) (eq_is b e) ∙ separator (get_or (bs ++ behind) 0 0) (head_class bs behind h.1)) in
        let more = f (pieces_from_all class (cut_at bs) h.1) in omega (arith, on, more)
    least_by b bs behind false e f h =
        let k = pieces_onto class b (cut_at bs) h in
        let on = run_more r b (bs ++ behind) (byte b (get_or (bs ++ behind) 0 0) k.0) in
        let more = f k.1 in omega (arith, on, more)

    -- a run has all of such pieces, whatever stands behind them
    pub least_of_pieces : (w behind : List ℕ) → ArePieces class (cut_at w) → length w ≤ run_length r (w ++ behind)
    least_of_pieces [] behind h = omega arith
    least_of_pieces (b ∷ bs) behind h = least_by b bs behind (eqb b sep) refl (λ k. least_of_pieces bs behind k) h

  module _ (r : Run) (apart : class sep ≡ false) (nothing : class 0 ≡ false) (byte : (b n : ℕ) → class b ≡ true → goes_on r b n ≡ true)
      (goes : (b n : ℕ) → goes_on r b n ≡ true → (class b ≡ true) ⊎ ((b ≡ sep) × (class n ≡ true))) where
    other : (b : ℕ) → class b ≡ true → eqb b sep ≡ false
    other b h = other_by b h (eqb b sep) refl
      where
        other_by : (b : ℕ) → class b ≡ true → (t : Bool) → eqb b sep ≡ t → t ≡ false
        other_by b h true e = let k : b ≡ sep = grind arith in cc (ap class k)
        other_by b h false e = refl

    -- a run behind its first byte
    taken : (b : ℕ) (bs : List ℕ) → class b ≡ true → take (run_length r (b ∷ bs)) (b ∷ bs) ≡ b ∷ take (run_length r bs) bs
    taken b bs h = ap (λ n. take n (b ∷ bs)) (run_more r b bs (byte b (get_or bs 0 0) h))

    pub full : (bs : List ℕ) → class (get_or bs 0 0) ≡ true → ArePieces class (cut_at (take (run_length r bs) bs)) → AllByRecursion (IsPiece class) (cut_at (take (run_length r bs) bs))
    full [] h k = cc (h, nothing)
    full (b ∷ bs) h k =
        let e : cut_at (take (run_length r (b ∷ bs)) (b ∷ bs)) ≡ onto_first b (cut_at (take (run_length r bs) bs)) =
        ap cut_at (taken b bs h) ∙ slice_split-cons_no (λ x. eqb x sep) b (take (run_length r bs) bs) (other b h) in
        let m : ArePieces class (onto_first b (cut_at (take (run_length r bs) bs))) = rw e at k in
        let n : AllByRecursion (IsPiece class) (onto_first b (cut_at (take (run_length r bs) bs))) = onto_pieces class b (cut_at (take (run_length r bs) bs)) h (pieces_onto class b (cut_at (take (run_length r bs) bs)) m).1 in
        rw e n

    more_pieces : (b : ℕ) (bs : List ℕ) → (class b ≡ true) ⊎ ((b ≡ sep) × (class (get_or bs 0 0) ≡ true)) → ArePieces class (cut_at (take (run_length r bs) bs)) → ArePieces class (cut_at (b ∷ take (run_length r bs) bs))
    more_pieces b bs (inl h) k = rw (slice_split-cons_no (λ x. eqb x sep) b (take (run_length r bs) bs) (other b h)) (pieces_from_all class _ (onto_pieces class b (cut_at (take (run_length r bs) bs)) h k))
    more_pieces b bs (inr h) k = rw (slice_split-cons_yes (λ x. eqb x sep) b (take (run_length r bs) bs) (same b h.0)) (refl, full bs h.1 k)
      where
        same : (b : ℕ) → b ≡ sep → eqb b sep ≡ true
        same b h = grind arith

    pieces_by : (b : ℕ) (bs : List ℕ) (t : Bool) → goes_on r b (get_or bs 0 0) ≡ t → ArePieces class (cut_at (take (run_length r bs) bs)) → ArePieces class (cut_at (take (cond t (suc (run_length r bs)) 0) (b ∷ bs)))
    pieces_by b bs true e h = more_pieces b bs (goes b (get_or bs 0 0) e) h
    pieces_by b bs false e h = (refl, tt)

    -- a run is pieces with separators between them
    pub pieces_of_run : (text : List ℕ) → ArePieces class (cut_at (take (run_length r text) text))
    pieces_of_run [] = (refl, tt)
    pieces_of_run (b ∷ bs) = pieces_by b bs (goes_on r b (get_or bs 0 0)) refl (pieces_of_run bs)
