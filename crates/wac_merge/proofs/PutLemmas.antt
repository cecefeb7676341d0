-- Items put under names, one after another.
use Rattle.std.proofs.Common.{◌≡◌, refl, ap, sym, subst, ◌∙◌, Bool, true, false, cond, List, [], ◌∷◌, ◌++◌, Option, Some, None, string_bytes, String, Global, All}
use Rattle.std.specs.Cmp.{IsEquivalence}
use Rattle.std.specs.List.{IsDistinct}
use Rattle.std.specs.Map.{keys_of}
use Rattle.std.specs.Option.{option_or}
use Rattle.std.specs.Str.{bytes_eq}
use Rattle.std.proofs.lemmas.List.Elements.{All-cons, All-head, All-tail}
use Rattle.std.proofs.lemmas.Slice.Eq.{bytes_eq-Decides}
use Rattle.indexmap.specs.IndexMap.{insert_entry}
use Rattle.wac_model.specs.Text.{Text, lookup}
use Rattle.wac_component.specs.Content.{named}
use Rattle.wac_component.specs.declared.items.ItemKind.{ItemKind}
use Rattle.wac_checker_parts.proofs.Lookups.{get_named}
use Rattle.wac_core_merge.proofs.NameLemmas.{lookup-append, lookup-by_test, absent_before}
use Rattle.wac_merge.specs.Items.{ExternKinds}

-- a look-up after an item is put under a name
pub lookup-insert_entry : (es : ExternKinds) (k : Text) (v : ItemKind) (n : Text) → lookup bytes_eq (insert_entry bytes_eq es k v) n ≡ cond (bytes_eq n k) (Some v) (lookup bytes_eq es n)
lookup-insert_entry [] k v n = refl
lookup-insert_entry (e ∷ es) k v n = go (bytes_eq k e.0) refl (lookup-insert_entry es k v n)
  where
    twice : (b : Bool) (l : Option ItemKind) → cond b (Some v) l ≡ cond b (Some v) (cond b (Some e.1) l)
    twice true l = refl
    twice false l = refl

    past : (b d : Bool) → (b ≡ true → d ≡ true → ⊥) → (l : Option ItemKind) → cond b (Some e.1) (cond d (Some v) l) ≡ cond d (Some v) (cond b (Some e.1) l)
    past true true h l = elim (h refl refl) [ ]
    past true false h l = refl
    past false d h l = refl

    go : (b : Bool) → bytes_eq k e.0 ≡ b → lookup bytes_eq (insert_entry bytes_eq es k v) n ≡ cond (bytes_eq n k) (Some v) (lookup bytes_eq es n)
        → lookup bytes_eq (cond b ((e.0, v) ∷ es) (e ∷ insert_entry bytes_eq es k v)) n ≡ cond (bytes_eq n k) (Some v) (cond (bytes_eq n e.0) (Some e.1) (lookup bytes_eq es n))
    go true h ih =
        let same : k ≡ e.0 = (bytes_eq-Decides k e.0).0 h in
        subst (λ m. cond (bytes_eq n e.0) (Some v) (lookup bytes_eq es n) ≡ cond (bytes_eq n m) (Some v) (cond (bytes_eq n e.0) (Some e.1) (lookup bytes_eq es n))) (sym same) (twice (bytes_eq n e.0) (lookup bytes_eq es n))
    go false h ih =
        let apart : bytes_eq n e.0 ≡ true → bytes_eq n k ≡ true → ⊥ = λ p q.
        let met : k ≡ e.0 = sym ((bytes_eq-Decides n k).0 q) ∙ (bytes_eq-Decides n e.0).0 p in
        let yes : bytes_eq k e.0 ≡ true = (bytes_eq-Decides k e.0).1 met in cc in
        ap (λ o. cond (bytes_eq n e.0) (Some e.1) o) ih ∙ past (bytes_eq n e.0) (bytes_eq n k) apart (lookup bytes_eq es n)

pub All-insert_entry : (P : Text × ItemKind → Type 0) (es : ExternKinds) (k : Text) (v : ItemKind) → All P es → P (k, v) → All P (insert_entry bytes_eq es k v)
All-insert_entry P [] k v h p = All-cons P (k, v) [] p h
All-insert_entry P (e ∷ es) k v h p = go (bytes_eq k e.0) refl (All-insert_entry P es k v (All-tail P e es h) p)
  where
    go : (b : Bool) → bytes_eq k e.0 ≡ b → All P (insert_entry bytes_eq es k v) → All P (cond b ((e.0, v) ∷ es) (e ∷ insert_entry bytes_eq es k v))
    go true g ih = All-cons P (e.0, v) es (subst (λ m. P (m, v)) ((bytes_eq-Decides k e.0).0 g) p) (All-tail P e es h)
    go false g ih = All-cons P e (insert_entry bytes_eq es k v) (All-head P e es h) ih

-- what a map shows once an item is put under a name
pub named-insert_entry : (es : List (String Global × ItemKind)) (k : String Global) (v : ItemKind)
    → named (λ i. i) (insert_entry (λ s t. bytes_eq (string_bytes s) (string_bytes t)) es k v) ≡ insert_entry bytes_eq (named (λ i. i) es) (string_bytes k) v
named-insert_entry [] k v = refl
named-insert_entry (e ∷ es) k v = go (bytes_eq (string_bytes k) (string_bytes e.0)) (named-insert_entry es k v)
  where
    eq : String Global → String Global → Bool
    eq s t = bytes_eq (string_bytes s) (string_bytes t)

    go : (b : Bool) → named (λ i. i) (insert_entry (λ s t. bytes_eq (string_bytes s) (string_bytes t)) es k v) ≡ insert_entry bytes_eq (named (λ i. i) es) (string_bytes k) v
        → named (λ i. i) (cond b ((e.0, v) ∷ es) (e ∷ insert_entry (λ s t. bytes_eq (string_bytes s) (string_bytes t)) es k v)) ≡ cond b ((string_bytes e.0, v) ∷ named (λ i. i) es) ((string_bytes e.0, e.1) ∷ insert_entry bytes_eq (named (λ i. i) es) (string_bytes k) v)
    go true h = refl
    go false h = ap (λ (l : ExternKinds). (string_bytes e.0, e.1) ∷ l) h

or_none : (o : Option ItemKind) → option_or o None ≡ o
or_none None = refl
or_none (Some k) = refl

-- a fact of what stands under each name among the entries before a new name, one entry more
module _ (P : Option ItemKind → Option ItemKind → Option ItemKind → Type 0) (done ts : ExternKinds) (n : Text) (a : ItemKind) (absent : lookup bytes_eq done n ≡ None) (ms : ExternKinds)
    (before : (q : Text) → P (lookup bytes_eq done q) (lookup bytes_eq ts q) (lookup bytes_eq ms q)) where
  more : ExternKinds
  more = done ++ (n, a) ∷ []

  more_here : lookup bytes_eq more n ≡ Some a
  unfolding more
  more_here =
      let same : bytes_eq n n ≡ true = (bytes_eq-Decides n n).1 refl in
      lookup-append bytes_eq done ((n, a) ∷ []) n ∙ ap (λ o. option_or o (lookup bytes_eq ((n, a) ∷ []) n)) absent ∙ ap (λ b. cond b (Some a) None) same

  more_past : (q : Text) → bytes_eq q n ≡ false → lookup bytes_eq more q ≡ lookup bytes_eq done q
  unfolding more
  more_past q g = lookup-append bytes_eq done ((n, a) ∷ []) q ∙ ap (λ b. option_or (lookup bytes_eq done q) (cond b (Some a) None)) g ∙ or_none (lookup bytes_eq done q)

  pub turn_put : (m : ItemKind) (fs : ExternKinds) → fs ≡ insert_entry bytes_eq ms n m → P (Some a) (lookup bytes_eq ts n) (Some m)
      → (q : Text) → P (lookup bytes_eq (done ++ (n, a) ∷ []) q) (lookup bytes_eq ts q) (lookup bytes_eq fs q)
  unfolding more
  turn_put m fs put here q = go (bytes_eq q n) refl
    where
      found : lookup bytes_eq fs q ≡ cond (bytes_eq q n) (Some m) (lookup bytes_eq ms q)
      found = ap (λ l. lookup bytes_eq l q) put ∙ lookup-insert_entry ms n m q

      go : (b : Bool) → bytes_eq q n ≡ b → P (lookup bytes_eq (done ++ (n, a) ∷ []) q) (lookup bytes_eq ts q) (lookup bytes_eq fs q)
      go true g =
          let same : q ≡ n = (bytes_eq-Decides q n).0 g in
          let first : lookup bytes_eq (done ++ (n, a) ∷ []) q ≡ Some a = subst (λ r. lookup bytes_eq (done ++ (n, a) ∷ []) r ≡ Some a) (sym same) more_here in
          let new : lookup bytes_eq fs q ≡ Some m = found ∙ ap (λ b. cond b (Some m) (lookup bytes_eq ms q)) g in
          rw (first, new) (subst (λ r. P (Some a) (lookup bytes_eq ts r) (Some m)) (sym same) here)
      go false g =
          let old : lookup bytes_eq fs q ≡ lookup bytes_eq ms q = found ∙ ap (λ b. cond b (Some m) (lookup bytes_eq ms q)) g in
          rw (more_past q g, old) (before q)

  pub turn_dropped : ((b m : Option ItemKind) → P None b m → m ≡ None) → P (Some a) (lookup bytes_eq ts n) None
      → (q : Text) → P (lookup bytes_eq (done ++ (n, a) ∷ []) q) (lookup bytes_eq ts q) (lookup bytes_eq ms q)
  unfolding more
  turn_dropped lacking here q = go (bytes_eq q n) refl
    where
      none : lookup bytes_eq ms n ≡ None
      none = lacking (lookup bytes_eq ts n) (lookup bytes_eq ms n) (subst (λ o. P o (lookup bytes_eq ts n) (lookup bytes_eq ms n)) absent (before n))

      go : (b : Bool) → bytes_eq q n ≡ b → P (lookup bytes_eq (done ++ (n, a) ∷ []) q) (lookup bytes_eq ts q) (lookup bytes_eq ms q)
      go true g =
          let same : n ≡ q = sym ((bytes_eq-Decides q n).0 g) in
          subst (λ r. P (lookup bytes_eq (done ++ (n, a) ∷ []) r) (lookup bytes_eq ts r) (lookup bytes_eq ms r)) same
          (rw (more_here, none) here)
      go false g = rw (more_past q g) (before q)

-- texts as keys

text_eq : String Global → String Global → Bool
text_eq s t = bytes_eq (string_bytes s) (string_bytes t)

symmetric : (x y : Text) → bytes_eq x y ≡ bytes_eq y x
symmetric x y = go (bytes_eq x y) refl (bytes_eq y x) refl
  where
    go : (b : Bool) → bytes_eq x y ≡ b → (d : Bool) → bytes_eq y x ≡ d → b ≡ d
    go true h true g = refl
    go false h false g = refl
    go true h false g = let yes : bytes_eq y x ≡ true = (bytes_eq-Decides y x).1 (sym ((bytes_eq-Decides x y).0 h)) in absurd (cc)
    go false h true g = let yes : bytes_eq x y ≡ true = (bytes_eq-Decides x y).1 (sym ((bytes_eq-Decides y x).0 g)) in absurd (cc)

text_laws : IsEquivalence text_eq
unfolding text_eq
text_laws = record {
  refl = λ s. (bytes_eq-Decides (string_bytes s) (string_bytes s)).1 refl;
  symm = λ s t. symmetric (string_bytes s) (string_bytes t);
  congr = λ s t u h. ap (λ x. bytes_eq x (string_bytes u)) ((bytes_eq-Decides (string_bytes s) (string_bytes t)).0 h);
}

-- the name of an entry isn't among those before it, where names are distinct
pub name_is_new : (done left : List (String Global × ItemKind)) (k : String Global) (v : ItemKind) → IsDistinct (λ s t. bytes_eq (string_bytes s) (string_bytes t)) (keys_of (done ++ (k, v) ∷ left))
    → lookup bytes_eq (named (λ i. i) done) (string_bytes k) ≡ None
unfolding text_eq
name_is_new done left k v distinct = sym (get_named done (string_bytes k)) ∙ sym (lookup-by_test text_eq done k) ∙ absent_before text_laws done (k, v) left distinct
