-- Lists of named values, put together: what a look-up finds there, and which entries there are.
use Rattle.std.proofs.Common.{◌≡◌, ◌⊎◌, inl, inr, refl, sym, ap, subst, ◌∙◌, Bool, true, false, not, cond, List, [], ◌∷◌, ◌++◌, map, filter, Option, None, Some, is_some, option_map, Contains, All}
use Rattle.std.specs.Bool.{Decides}
use Rattle.std.specs.Cmp.{IsEquivalence}
use Rattle.std.specs.List.{IsDistinct, AllByRecursion, list_any}
use Rattle.std.specs.Option.{option_or}
use Rattle.std.specs.Map.{keys_of, lookup as lookup_by}
use Rattle.std.proofs.lemmas.List.{append_assoc, append-nil, map-append}
use Rattle.std.proofs.lemmas.List.Elements.{filter-append, filter_agree, All-append, All-filter, All-weaker, All-contains, All-contains_itself}
use Rattle.std.proofs.lemmas.Map.Entries.{lookup-filter-keys}
use Rattle.std.proofs.lemmas.Map.Made.{is_some-lookup}
use Rattle.std.proofs.lemmas.Map.Keys.{IsDistinct-head, IsDistinct-tail}
use Rattle.indexmap.specs.IndexMap.{IndexMap, get, insert_entry}
use Rattle.indexmap.proofs.CallerLemmas.{insert_entry-new}
use Rattle.wac_model.specs.Text.{lookup}
use Rattle.wac_model.proofs.Lookups.{lookup-shown}
use Rattle.wac_core_merge.specs.Names.{is_new, with_new}

option_or-none : {V : Type 0} (o : Option V) → option_or o None ≡ o
option_or-none None = refl
option_or-none (Some v) = refl

none : {V : Type 0} (o : Option V) → is_some o ≡ false → o ≡ None
none None h = refl
none (Some v) h = absurd (cc)

module _ {K V : Type 0} (is_same : K → K → Bool) where
  -- a look-up by a name is one by the test for that name
  pub lookup-by_test : (es : List (K × V)) (n : K) → lookup is_same es n ≡ lookup_by (is_same n) es
  lookup-by_test [] n = refl
  lookup-by_test (e ∷ es) n = ap (λ o. cond (is_same n e.0) (Some e.1) o) (lookup-by_test es n)

  -- one value, of a name that is there or that is new
  pub with_new-present : (es : List (K × V)) (n : K) (v : V) → is_some (lookup_by (is_same n) es) ≡ true → with_new is_same es ((n, v) ∷ []) ≡ es
  with_new-present es n v h = ap (λ b. es ++ cond (not b) ((n, v) ∷ []) []) (ap is_some (lookup-by_test es n) ∙ h) ∙ append-nil es

  pub with_new-absent : (es : List (K × V)) (n : K) (v : V) → lookup is_same es n ≡ None → with_new is_same es ((n, v) ∷ []) ≡ es ++ (n, v) ∷ []
  with_new-absent es n v h = ap (λ (o : Option V). es ++ cond (not (is_some o)) ((n, v) ∷ []) []) h

  pub lookup-append : (es ts : List (K × V)) (n : K) → lookup is_same (es ++ ts) n ≡ option_or (lookup is_same es n) (lookup is_same ts n)
  lookup-append [] ts n = refl
  lookup-append (e ∷ es) ts n = go (is_same n e.0) (lookup-append es ts n)
    where
      go : (b : Bool) → lookup is_same (es ++ ts) n ≡ option_or (lookup is_same es n) (lookup is_same ts n)
          → cond b (Some e.1) (lookup is_same (es ++ ts) n) ≡ option_or (cond b (Some e.1) (lookup is_same es n)) (lookup is_same ts n)
      go true h = refl
      go false h = h

  -- what isn't found among all isn't among some
  lookup-filter_none : (p : K × V → Bool) (es : List (K × V)) (n : K) → lookup is_same es n ≡ None → lookup is_same (filter p es) n ≡ None
  lookup-filter_none p [] n h = refl
  lookup-filter_none p (e ∷ es) n h = go (is_same n e.0) refl (p e) h (lookup-filter_none p es n)
    where
      go : (b : Bool) → is_same n e.0 ≡ b → (kept : Bool) → cond b (Some e.1) (lookup is_same es n) ≡ None → (lookup is_same es n ≡ None → lookup is_same (filter p es) n ≡ None)
          → lookup is_same (cond kept (e ∷ filter p es) (filter p es)) n ≡ None
      go true g kept h f = absurd (cc)
      go false g true h f = rw g (f h)
      go false g false h f = f h

  -- one more of the second list, of a name that isn't among those before it
  pub with_new-push : (es ts : List (K × V)) (t : K × V) → lookup is_same ts t.0 ≡ None → with_new is_same (with_new is_same es ts) (t ∷ []) ≡ with_new is_same es (ts ++ t ∷ [])
  with_new-push es ts t h =
      let p : K × V → Bool = λ s. is_new is_same es s.0 in
      let same : lookup is_same (with_new is_same es ts) t.0 ≡ lookup is_same es t.0
      = lookup-append es (filter p ts) t.0 ∙ ap (option_or (lookup is_same es t.0)) (lookup-filter_none p ts t.0 h) ∙ option_or-none (lookup is_same es t.0) in
      ap (λ o. with_new is_same es ts ++ cond (not (is_some o)) (t ∷ []) []) same ∙ append_assoc es (filter p ts) (filter p (t ∷ [])) ∙ ap (λ l. es ++ l) (sym (filter-append p ts (t ∷ [])))

  -- each entry is one of the first list or of the second
  pub All-with_new : (P : K × V → Type 0) (es ts : List (K × V)) → All P es → All P ts → All P (with_new is_same es ts)
  All-with_new P es ts h g = All-append P es (filter (λ t. is_new is_same es t.0) ts) h (All-filter (λ t. is_new is_same es t.0) P ts g)

  pub Contains-with_new : (es ts : List (K × V)) (e : K × V) → Contains (with_new is_same es ts) e → Contains es e ⊎ Contains ts e
  Contains-with_new es ts e =
      let P : K × V → Type 0 = λ x. Contains es x ⊎ Contains ts x in
      All-contains P (with_new is_same es ts) e (All-with_new P es ts (All-weaker (Contains es) P (λ x. inl) es (All-contains_itself es)) (All-weaker (Contains ts) P (λ x. inr) ts (All-contains_itself ts)))

module _ {K V : Type 0} (is_same : K → K → Bool) (decides : (m n : K) → Decides (is_same m n) (m ≡ n)) where
  -- at each name what the first list has, or else what the second has
  pub lookup-with_new : (es ts : List (K × V)) (n : K) → lookup is_same (with_new is_same es ts) n ≡ option_or (lookup is_same es n) (lookup is_same ts n)
  lookup-with_new es ts n = lookup-append is_same es news n ∙ go (lookup is_same es n) refl
    where
      news : List (K × V)
      news = filter (λ t. is_new is_same es t.0) ts

      kept : lookup is_same es n ≡ None → (m : K) → is_same n m ≡ true → is_new is_same es m ≡ true
      kept h m g = ap (λ o. not (is_some o)) (ap (lookup is_same es) (sym ((decides n m).0 g)) ∙ h)

      go : (o : Option V) → lookup is_same es n ≡ o → option_or o (lookup is_same news n) ≡ option_or o (lookup is_same ts n)
      go (Some v) h = refl
      go None h = lookup-by_test is_same news n ∙ lookup-filter-keys (is_same n) (is_new is_same es) true (kept h) ts ∙ sym (lookup-by_test is_same ts n)

module _ {K V : Type 0} (is_same : K → K → Bool) where
  is_new-names : (es : List (K × V)) (n : K) → is_new is_same es n ≡ not (list_any (is_same n) (keys_of es))
  is_new-names es n = ap not (ap is_some (lookup-by_test is_same es n) ∙ is_some-lookup (is_same n) es)

  -- which names are new depends on the names alone
  pub keys-with_new : (es fs ts : List (K × V)) → keys_of es ≡ keys_of fs → keys_of (with_new is_same es ts) ≡ keys_of (with_new is_same fs ts)
  keys-with_new es fs ts h =
      let new_of : List (K × V) → K × V → Bool = λ l t. is_new is_same l t.0 in
      let agree : (t : K × V) → new_of es t ≡ new_of fs t = λ t. is_new-names es t.0 ∙ ap (λ ks. not (list_any (is_same t.0) ks)) h ∙ sym (is_new-names fs t.0) in
      map-append (λ e. e.0) es (filter (new_of es) ts) ∙ (λ i. h i ++ keys_of (filter_agree (new_of es) (new_of fs) agree ts i)) ∙ sym (map-append (λ e. e.0) fs (filter (new_of fs) ts))

-- the keys of a list, none of which is equal to another
module _ {K V : Type 0} {eq : K → K → Bool} (laws : IsEquivalence eq) where
  ByRecursion-middle : (P : K → Type 0) (es : List (K × V)) (e : K × V) (rest : List (K × V)) → AllByRecursion P (keys_of (es ++ e ∷ rest)) → P e.0
  ByRecursion-middle P [] e rest h = h.0
  ByRecursion-middle P (x ∷ es) e rest h = ByRecursion-middle P es e rest h.1

  -- a name isn't among those before it
  pub absent_before : (es : List (K × V)) (e : K × V) (rest : List (K × V)) → IsDistinct eq (keys_of (es ++ e ∷ rest)) → lookup eq es e.0 ≡ None
  absent_before [] e rest h = refl
  absent_before (x ∷ es) e rest h =
      let apart : eq e.0 x.0 ≡ false = laws.symm e.0 x.0 ∙ ByRecursion-middle (λ k. eq x.0 k ≡ false) es e rest (IsDistinct-head eq x.0 (keys_of (es ++ e ∷ rest)) h) in
      rw apart (absent_before es e rest (IsDistinct-tail eq x.0 (keys_of (es ++ e ∷ rest)) h))

  -- a look-up of a name finds what it has
  pub lookup_at_turn : (all done rest left : List (K × V)) (e : K × V) → IsDistinct eq (keys_of all) → all ≡ done ++ rest → rest ≡ e ∷ left → lookup eq all e.0 ≡ Some e.1
  lookup_at_turn all done rest left e distinct split here =
      let whole : all ≡ done ++ e ∷ left = split ∙ ap (λ l. done ++ l) here in
      let absent = absent_before done e left (subst (λ l. IsDistinct eq (keys_of l)) whole distinct) in
      ap (λ l. lookup eq l e.0) whole ∙ lookup-append eq done (e ∷ left) e.0 ∙ ap (λ o. option_or o (lookup eq (e ∷ left) e.0)) absent ∙ ap (λ b. cond b (Some e.1) (lookup eq left e.0)) (laws.refl e.0)

  -- one more of a list that is taken entry by entry
  pub with_new-turn : (all done rest left es so_far new : List (K × V)) (e : K × V) → IsDistinct eq (keys_of all) → all ≡ done ++ rest → rest ≡ e ∷ left
      → so_far ≡ with_new eq es done → new ≡ with_new eq so_far (e ∷ []) → (all ≡ (done ++ e ∷ []) ++ left) × (new ≡ with_new eq es (done ++ e ∷ []))
  with_new-turn all done rest left es so_far new e distinct split here so_far_is new_is =
      let whole : all ≡ done ++ e ∷ left = split ∙ ap (λ l. done ++ l) here in
      let absent = absent_before done e left (subst (λ l. IsDistinct eq (keys_of l)) whole distinct) in
      (whole ∙ sym (append_assoc done (e ∷ []) left), new_is ∙ ap (λ l. with_new eq l (e ∷ [])) so_far_is ∙ with_new-push eq es done e absent)

-- a value that is inserted under a name that is new
pub insert_entry-with_new : {K V S : Type 0} (eq : K → K → Bool) (m : IndexMap K V S) (n : K) (v : V) (new : List (K × V)) → is_some (get eq m n) ≡ false → new ≡ insert_entry eq m.entries n v → new ≡ with_new eq m.entries ((n, v) ∷ [])
insert_entry-with_new eq m n v new h is =
    let absent = none (get eq m n) h in
    is ∙ insert_entry-new eq m n v absent ∙ sym (with_new-absent eq m.entries n v (lookup-by_test eq m.entries n ∙ absent))

-- a list of keys and values, and the list of what they show
module _ {K L V W : Type 0} (show_key : K → L) (show : V → W) (eq : K → K → Bool) (is_same : L → L → Bool) (agree : (k l : K) → eq k l ≡ is_same (show_key k) (show_key l)) where
  abbrev shown : K × V → L × W
  shown e = (show_key e.0, show e.1)

  is_some-map : (o : Option V) → is_some (option_map show o) ≡ is_some o
  is_some-map None = refl
  is_some-map (Some v) = refl

  is_new-shown : (es : List (K × V)) (k : K) → is_new eq es k ≡ is_new is_same (map shown es) (show_key k)
  is_new-shown es k =
      let found : option_map show (lookup eq es k) ≡ lookup is_same (map shown es) (show_key k)
      = ap (option_map show) (lookup-by_test eq es k) ∙ lookup-shown show_key show (eq k) is_same (show_key k) (λ l. agree k l) es in
      ap not (sym (is_some-map (lookup eq es k)) ∙ ap is_some found)

  filter-shown : (p : K × V → Bool) (q : L × W → Bool) → ((e : K × V) → p e ≡ q (shown e)) → (ts : List (K × V)) → map shown (filter p ts) ≡ filter q (map shown ts)
  filter-shown p q same [] = refl
  filter-shown p q same (t ∷ ts) = rw (same t) (go (q (shown t)) (filter-shown p q same ts))
    where
      go : (b : Bool) → map shown (filter p ts) ≡ filter q (map shown ts) → map shown (cond b (t ∷ filter p ts) (filter p ts)) ≡ cond b (shown t ∷ filter q (map shown ts)) (filter q (map shown ts))
      go true h = ap (λ l. shown t ∷ l) h
      go false h = h

  -- what two lists show, put together, is what they show when put together
  pub with_new-shown : (es ts : List (K × V)) → map {A = K × V} {B = L × W} (λ e. (show_key e.0, show e.1)) (with_new eq es ts)
      ≡ with_new is_same (map (λ e. (show_key e.0, show e.1)) es) (map (λ e. (show_key e.0, show e.1)) ts)
  with_new-shown es ts =
      map-append shown es (filter (λ t. is_new eq es t.0) ts)
      ∙ ap (λ l. map shown es ++ l) (filter-shown (λ t. is_new eq es t.0) (λ t. is_new is_same (map shown es) t.0) (λ t. is_new-shown es t.0) ts)
