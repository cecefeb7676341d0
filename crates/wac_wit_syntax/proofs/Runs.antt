-- Runs of bytes.
use Rattle.std.proofs.Common.{◌≡◌, ℕ, suc, ◌+◌, ◌<◌, ◌≤◌, Bool, true, false, cond, ◌&&◌, ◌||◌, ◌⊎◌, List, [], ◌∷◌, ◌++◌, length, get_or, take, drop, refl, ap, ◌∙◌, inl, inr, arith, add-zero}
use Rattle.std.specs.List.{list_all}
use Rattle.std.proofs.lemmas.List.{at_drop_more, get_or-drop}
use Rattle.wac_wit_syntax.specs.Reading.{goes_on, run_length}
use Rattle.wac_wit_syntax.specs.declared.scanning.Run.{Run}

-- a test that is passed as a whole is passed in both parts
pub both : (a b : Bool) → (a && b) ≡ true → (a ≡ true) × (b ≡ true)
both true b h = (refl, h)
both false b h = cc h

pub together : (a b : Bool) → a ≡ true → b ≡ true → (a && b) ≡ true
together true b h k = k
together false b h k = cc h

pub either : (a b : Bool) → (a || b) ≡ true → (a ≡ true) ⊎ (b ≡ true)
either true b h = inl refl
either false b h = inr h

pub neither : (a b : Bool) → (a || b) ≡ false → (a ≡ false) × (b ≡ false)
neither true b h = cc h
neither false b h = (refl, h)

pub all_weaker : (p q : ℕ → Bool) → ((b : ℕ) → p b ≡ true → q b ≡ true) → (w : List ℕ) → list_all p w ≡ true → list_all q w ≡ true
all_weaker p q f [] h = refl
all_weaker p q f (b ∷ bs) h = let k = both (p b) (list_all p bs) h in together (q b) (list_all q bs) (f b k.0) (all_weaker p q f bs k.1)

-- what follows doesn't go on with a run
abbrev pub Stops : Run → List ℕ → Type 0
Stops r [] = Unit {0}
Stops r (b ∷ bs) = goes_on r b (get_or bs 0 0) ≡ false

pub run_stopped : (r : Run) (text : List ℕ) → Stops r text → run_length r text ≡ 0
run_stopped r [] h = refl
run_stopped r (b ∷ bs) h = ap (λ t. cond t (suc (run_length r bs)) 0) h

pub run_more : (r : Run) (b : ℕ) (bs : List ℕ) → goes_on r b (get_or bs 0 0) ≡ true → run_length r (b ∷ bs) ≡ suc (run_length r bs)
run_more r b bs h = ap (λ t. cond t (suc (run_length r bs)) 0) h

-- a run at an index, one byte on
pub run_step : (r : Run) (text : List ℕ) (i : ℕ) → i < length text → goes_on r (get_or text i 0) (get_or text (i + 1) 0) ≡ true → run_length r (drop i text) ≡ suc (run_length r (drop (i + 1) text))
run_step r text i h g =
    let next : get_or (drop (i + 1) text) 0 0 ≡ get_or text (i + 1) 0 = get_or-drop (i + 1) text 0 0 ∙ ap (λ k. get_or text k 0) (add-zero (i + 1)) in
    at_drop_more (run_length r) text i 0 h ∙ run_more r (get_or text i 0) (drop (i + 1) text) (ap (goes_on r (get_or text i 0)) next ∙ g)

-- a run at an index where no byte goes on
pub run_end : (r : Run) (text : List ℕ) (i : ℕ) → i < length text → goes_on r (get_or text i 0) (get_or text (i + 1) 0) ≡ false → run_length r (drop i text) ≡ 0
run_end r text i h g =
    let next : get_or (drop (i + 1) text) 0 0 ≡ get_or text (i + 1) 0 = get_or-drop (i + 1) text 0 0 ∙ ap (λ k. get_or text k 0) (add-zero (i + 1)) in
    at_drop_more (run_length r) text i 0 h ∙ run_stopped r (get_or text i 0 ∷ drop (i + 1) text) (ap (goes_on r (get_or text i 0)) next ∙ g)

more_or_none : (t : Bool) (m n : ℕ) → m ≤ n → cond t (suc m) 0 ≤ suc n
more_or_none true m n h = omega arith
more_or_none false m n h = omega arith

pub run_within : (r : Run) (text : List ℕ) → run_length r text ≤ length text
run_within r [] = omega arith
run_within r (b ∷ bs) = more_or_none (goes_on r b (get_or bs 0 0)) (run_length r bs) (length bs) (run_within r bs)

-- behind a run it stops
stops_behind : (r : Run) (b : ℕ) (bs : List ℕ) (t : Bool) → goes_on r b (get_or bs 0 0) ≡ t → Stops r (drop (run_length r bs) bs) → Stops r (drop (cond t (suc (run_length r bs)) 0) (b ∷ bs))
stops_behind r b bs true e h = h
stops_behind r b bs false e h = e

pub run_stops : (r : Run) (text : List ℕ) → Stops r (drop (run_length r text) text)
run_stops r [] = tt
run_stops r (b ∷ bs) = stops_behind r b bs (goes_on r b (get_or bs 0 0)) refl (run_stops r bs)

-- bytes that go on whatever follows them are a run, if it stops behind them
pub run_of_all : (r : Run) (p : ℕ → Bool) → ((b n : ℕ) → p b ≡ true → goes_on r b n ≡ true) → (w behind : List ℕ) → list_all p w ≡ true → Stops r behind → run_length r (w ++ behind) ≡ length w
run_of_all r p f [] behind h s = run_stopped r behind s
run_of_all r p f (b ∷ bs) behind h s =
    let parts = both (p b) (list_all p bs) h in
    run_more r b (bs ++ behind) (f b (get_or (bs ++ behind) 0 0) parts.0) ∙ ap suc (run_of_all r p f bs behind parts.1 s)

pub least_of_all : (r : Run) (p : ℕ → Bool) → ((b n : ℕ) → p b ≡ true → goes_on r b n ≡ true) → (w behind : List ℕ) → list_all p w ≡ true → length w ≤ run_length r (w ++ behind)
least_of_all r p f [] behind h = omega arith
least_of_all r p f (b ∷ bs) behind h =
    let parts = both (p b) (list_all p bs) h in
    let on = run_more r b (bs ++ behind) (f b (get_or (bs ++ behind) 0 0) parts.0) in
    let more = least_of_all r p f bs behind parts.1 in
    omega (arith, on, more)

-- the bytes of a run have what each that goes on has
all_of_run : (r : Run) (p : ℕ → Bool) (b : ℕ) (bs : List ℕ) (t : Bool) → goes_on r b (get_or bs 0 0) ≡ t → (t ≡ true → p b ≡ true) → list_all p (take (run_length r bs) bs) ≡ true → list_all p (take (cond t (suc (run_length r bs)) 0) (b ∷ bs)) ≡ true
all_of_run r p b bs true e f h = together (p b) (list_all p (take (run_length r bs) bs)) (f refl) h
all_of_run r p b bs false e f h = refl

pub run_all : (r : Run) (p : ℕ → Bool) → ((b n : ℕ) → goes_on r b n ≡ true → p b ≡ true) → (text : List ℕ) → list_all p (take (run_length r text) text) ≡ true
run_all r p f [] = refl
run_all r p f (b ∷ bs) = all_of_run r p b bs (goes_on r b (get_or bs 0 0)) refl (λ e. f b (get_or bs 0 0) e) (run_all r p f bs)
