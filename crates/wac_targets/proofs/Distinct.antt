-- Maps have distinct names, so putting their items one after another gives them all.
use Rattle.std.proofs.Common.{◌≡◌, ◌+◌, ℕ, suc, zero, add-one, Bool, true, false, cond, List, [], ◌∷◌, ◌++◌, take, slice_get, Some, None, String, Global, string_bytes, refl, ap, sym, ◌∙◌, subst}
use Rattle.std.proofs.lemmas.List.Sums.{fold-append}
use Rattle.std.proofs.lemmas.Map.Keys.{IsDistinct-head, IsDistinct-tail, IsDistinct-cons}
use Rattle.std.specs.Cmp.Lexicographic.{bytes_decides, nat_list_eq_equiv}
use Rattle.std.specs.List.{AllByRecursion, IsDistinct}
use Rattle.std.specs.Map.{keys_of, lookup}
use Rattle.std.specs.Str.{bytes_eq}
use Rattle.std.specs.String.{string_eq}
use Rattle.indexmap.specs.IndexMap.{insert_entry, insert_all}
use Rattle.wac_model.specs.Text.{Text}
use Rattle.wac_component.specs.Content.{named}
use Rattle.wac_names.specs.Pairs.{HasDistinctTexts, value_at}

module _ {V : Type 0} where
  -- the names of a map are distinct as texts
  pub distinct-named : (es : List (String Global × V)) → IsDistinct string_eq (keys_of es) → HasDistinctTexts (named (λ k. k) es)
  unfolding IsDistinct
  distinct-named [] u = tt
  distinct-named (e ∷ es) u = IsDistinct-cons bytes_eq (string_bytes e.0) (keys_of (named (λ k. k) es)) (apart es (IsDistinct-head string_eq e.0 (keys_of es) u)) (distinct-named es (IsDistinct-tail string_eq e.0 (keys_of es) u)) where
    apart : (ds : List (String Global × V)) → AllByRecursion (λ y. string_eq e.0 y ≡ false) (keys_of ds) → AllByRecursion (λ y. bytes_eq (string_bytes e.0) y ≡ false) (keys_of (named (λ k. k) ds))
    apart [] h = tt
    apart (d ∷ ds) h = (h.0, apart ds h.1)

  -- what a map finds under a text
  pub value_at-named : (es : List (String Global × V)) (n : Text) → lookup (λ k. bytes_eq n (string_bytes k)) es ≡ value_at (named (λ k. k) es) n
  value_at-named [] n = refl
  value_at-named (e ∷ es) n = ap (λ o. cond (bytes_eq n (string_bytes e.0)) (Some e.1) o) (value_at-named es n)

  -- a name that is apart from all is not there
  pub value_at-apart : (ps : List (Text × V)) (n : Text) → AllByRecursion (λ y. bytes_eq n y ≡ false) (keys_of ps) → value_at ps n ≡ None
  value_at-apart [] n h = refl
  value_at-apart (p ∷ ps) n h = rw h.0 (value_at-apart ps n h.1)

  -- what stands after an item of distinct names is apart from it
  apart-at : (es : List (Text × V)) (n : Text) (p : Text × V) (ps : List (Text × V)) → AllByRecursion (λ y. bytes_eq n y ≡ false) (keys_of (es ++ p ∷ ps)) → bytes_eq n p.0 ≡ false
  apart-at [] n p ps h = h.0
  apart-at (e ∷ es) n p ps h = apart-at es n p ps h.1

  -- an item with a new name goes last
  insert_entry-new : (es : List (Text × V)) (p : Text × V) (ps : List (Text × V)) → HasDistinctTexts (es ++ p ∷ ps) → insert_entry bytes_eq es p.0 p.1 ≡ (es ++ p ∷ [])
  insert_entry-new [] p ps u = refl
  insert_entry-new (e ∷ es) p ps u =
      let other : bytes_eq p.0 e.0 ≡ false = nat_list_eq_equiv.symm p.0 e.0 ∙ apart-at es e.0 p ps (IsDistinct-head bytes_eq e.0 (keys_of (es ++ p ∷ ps)) u) in
      rw other (ap (λ xs. e ∷ xs) (insert_entry-new es p ps (IsDistinct-tail bytes_eq e.0 (keys_of (es ++ p ∷ ps)) u)))

  append-one : (es : List (Text × V)) (p : Text × V) (ps : List (Text × V)) → ((es ++ p ∷ []) ++ ps) ≡ (es ++ p ∷ ps)
  append-one [] p ps = refl
  append-one (e ∷ es) p ps = ap (λ xs. e ∷ xs) (append-one es p ps)

  append-none : (es : List (Text × V)) → (es ++ []) ≡ es
  append-none [] = refl
  append-none (e ∷ es) = ap (λ xs. e ∷ xs) (append-none es)

  insert_all-after : (es ps : List (Text × V)) → HasDistinctTexts (es ++ ps) → insert_all bytes_eq es ps ≡ (es ++ ps)
  insert_all-after es [] u = sym (append-none es)
  insert_all-after es (p ∷ ps) u =
      let moved : HasDistinctTexts ((es ++ p ∷ []) ++ ps) = subst (λ xs. HasDistinctTexts xs) (sym (append-one es p ps)) u in
      ap (λ xs. insert_all bytes_eq xs ps) (insert_entry-new es p ps u) ∙ (insert_all-after (es ++ p ∷ []) ps moved ∙ append-one es p ps)

  -- items of distinct names, put one after another
  pub insert_all-distinct : (ps : List (Text × V)) → HasDistinctTexts ps → insert_all bytes_eq [] ps ≡ ps
  insert_all-distinct ps u = insert_all-after [] ps u

  put-more : (es ps : List (Text × V)) (i : ℕ) (n : Text) (k : V) → slice_get ps i ≡ Some (n, k) → insert_entry bytes_eq (insert_all bytes_eq es (take i ps)) n k ≡ insert_all bytes_eq es (take (suc i) ps)
  put-more es [] i n k at = absurd (cc)
  put-more es (p ∷ ps) zero n k at = let same : p ≡ (n, k) = cc in ap (λ (x : Text × V). insert_entry bytes_eq es x.0 x.1) (sym same)
  put-more es (p ∷ ps) (suc i) n k at = put-more (insert_entry bytes_eq es p.0 p.1) ps i n k at

  -- one more is put
  pub insert_all-more : (es ps : List (Text × V)) (i : ℕ) (n : Text) (k : V) → slice_get ps i ≡ Some (n, k) → insert_entry bytes_eq (insert_all bytes_eq es (take i ps)) n k ≡ insert_all bytes_eq es (take (i + 1) ps)
  insert_all-more es ps i n k at = rw add-one (put-more es ps i n k at)

  -- what stands before an item of distinct names has another name
  pub before-apart : (ps : List (Text × V)) (i : ℕ) (n : Text) (k : V) → HasDistinctTexts ps → slice_get ps i ≡ Some (n, k) → value_at (take i ps) n ≡ None
  before-apart [] i n k u at = absurd (cc)
  before-apart (p ∷ ps) zero n k u at = refl
  before-apart (p ∷ ps) (suc i) n k u at =
      let other : bytes_eq n p.0 ≡ false = nat_list_eq_equiv.symm n p.0 ∙ there ps i (IsDistinct-head bytes_eq p.0 (keys_of ps) u) at in
      rw other (before-apart ps i n k (IsDistinct-tail bytes_eq p.0 (keys_of ps) u) at) where
        there : (qs : List (Text × V)) (j : ℕ) → AllByRecursion (λ y. bytes_eq p.0 y ≡ false) (keys_of qs) → slice_get qs j ≡ Some (n, k) → bytes_eq p.0 n ≡ false
        there [] j h e = absurd (cc)
        there (q ∷ qs) zero h e = let same : q ≡ (n, k) = cc in subst (λ (x : Text × V). bytes_eq p.0 x.0 ≡ false) same h.0
        there (q ∷ qs) (suc j) h e = there qs j h.1 e

  look-more : (ps : List (Text × V)) (i : ℕ) (n : Text) (k : V) (m : Text) → slice_get ps i ≡ Some (n, k) → value_at (take i ps) n ≡ None → value_at (take (suc i) ps) m ≡ cond (bytes_eq n m) (Some k) (value_at (take i ps) m)
  look-more [] i n k m at none = absurd (cc)
  look-more (p ∷ ps) zero n k m at none =
      let same : p ≡ (n, k) = cc in
      ap (λ (x : Text × V). cond (bytes_eq m x.0) (Some x.1) None) same ∙ ap (λ b. cond b (Some k) None) (nat_list_eq_equiv.symm m n)
  look-more (p ∷ ps) (suc i) n k m at none = passed (bytes_eq n p.0) (bytes_eq n m) refl refl none (look-more ps i n k m at) where
    passed : (b d : Bool) → bytes_eq n p.0 ≡ b → bytes_eq n m ≡ d → cond b (Some p.1) (value_at (take i ps) n) ≡ None → (value_at (take i ps) n ≡ None → value_at (take (suc i) ps) m ≡ cond (bytes_eq n m) (Some k) (value_at (take i ps) m)) → value_at (p ∷ take (suc i) ps) m ≡ cond d (Some k) (value_at (p ∷ take i ps) m)
    passed true d x y h rest = absurd (cc (h))
    passed false true x y h rest =
        let same = (bytes_decides n m).0 y in
        let other : bytes_eq m p.0 ≡ false = ap (λ (t : Text). bytes_eq t p.0) (sym same) ∙ x in
        rw other (rest h ∙ ap (λ b. cond b (Some k) (value_at (take i ps) m)) y)
    passed false false x y h rest = ap (λ o. cond (bytes_eq m p.0) (Some p.1) o) (rest h ∙ ap (λ b. cond b (Some k) (value_at (take i ps) m)) y)

  -- one item more is looked through
  pub value_at-more : (ps : List (Text × V)) (i : ℕ) (n : Text) (k : V) (m : Text) → slice_get ps i ≡ Some (n, k) → value_at (take i ps) n ≡ None → value_at (take (i + 1) ps) m ≡ cond (bytes_eq n m) (Some k) (value_at (take i ps) m)
  value_at-more ps i n k m at none = rw add-one (look-more ps i n k m at none)

  -- items put after others that are put first
  pub put-all : (own es ps : List (Text × V)) → es ≡ ps → insert_all bytes_eq (insert_all bytes_eq [] es) own ≡ insert_all bytes_eq [] (ps ++ own)
  put-all own es ps same = ap (λ xs. insert_all bytes_eq (insert_all bytes_eq [] xs) own) same ∙ sym (fold-append (λ (done : List (Text × V)) (p : Text × V). insert_entry bytes_eq done p.0 p.1) [] ps own)
