-- The order of names while items are put under them.
use Rattle.std.proofs.Common.{◌≡◌, refl, ap, sym, ◌∙◌, Bool, true, false, cond, [], ◌∷◌, ◌++◌, filter, Some, None, is_some}
use Rattle.std.specs.Map.{keys_of}
use Rattle.std.specs.Str.{bytes_eq}
use Rattle.std.proofs.lemmas.List.{map-append, append-nil}
use Rattle.std.proofs.lemmas.List.Elements.{filter-append}
use Rattle.std.proofs.lemmas.Slice.Eq.{bytes_eq-Decides}
use Rattle.indexmap.specs.IndexMap.{insert_entry}
use Rattle.wac_model.specs.Text.{Text, lookup}
use Rattle.wac_component.specs.declared.items.ItemKind.{ItemKind}
use Rattle.wac_core_merge.specs.Names.{with_new}
use Rattle.wac_core_merge.specs.NameOrder.{HasAllNames, HasSomeNames}
use Rattle.wac_core_merge.proofs.NameLemmas.{keys-with_new}
use Rattle.wac_merge.specs.Items.{ExternKinds}
use Rattle.wac_merge.proofs.PutLemmas.{lookup-insert_entry}

-- under a new name an item is put last
insert_entry-new : (es : ExternKinds) (n : Text) (v : ItemKind) → lookup bytes_eq es n ≡ None → insert_entry bytes_eq es n v ≡ es ++ (n, v) ∷ []
insert_entry-new [] n v h = refl
insert_entry-new (e ∷ es) n v h = go (bytes_eq n e.0) h (insert_entry-new es n v)
  where
    go : (b : Bool) → cond b (Some e.1) (lookup bytes_eq es n) ≡ None → (lookup bytes_eq es n ≡ None → insert_entry bytes_eq es n v ≡ es ++ (n, v) ∷ [])
        → cond b ((e.0, v) ∷ es) (e ∷ insert_entry bytes_eq es n v) ≡ e ∷ es ++ (n, v) ∷ []
    go true g ih = absurd (cc)
    go false g ih = ap (λ (l : ExternKinds). e ∷ l) (ih g)

keys-more : (es : ExternKinds) (n : Text) (v : ItemKind) → keys_of (es ++ (n, v) ∷ []) ≡ keys_of es ++ n ∷ []
keys-more es n v = map-append (λ (e : Text × ItemKind). e.0) es ((n, v) ∷ [])

-- tests that agree on all other names agree on the names before a new one
filter-others : (done : ExternKinds) (n : Text) → lookup bytes_eq done n ≡ None → (p q : Text → Bool) → ((m : Text) → bytes_eq m n ≡ false → p m ≡ q m) → filter p (keys_of done) ≡ filter q (keys_of done)
filter-others [] n absent p q agree = refl
filter-others (e ∷ es) n absent p q agree = go (bytes_eq n e.0) refl absent (filter-others es n)
  where
    go : (b : Bool) → bytes_eq n e.0 ≡ b → cond b (Some e.1) (lookup bytes_eq es n) ≡ None
        → (lookup bytes_eq es n ≡ None → (p q : Text → Bool) → ((m : Text) → bytes_eq m n ≡ false → p m ≡ q m) → filter p (keys_of es) ≡ filter q (keys_of es))
        → filter p (keys_of (e ∷ es)) ≡ filter q (keys_of (e ∷ es))
    go true g h ih = absurd (cc)
    go false g h ih = rw (agree e.0 (apart (bytes_eq e.0 n) refl), ih h p q agree) refl
      where
        apart : (b : Bool) → bytes_eq e.0 n ≡ b → b ≡ false
        apart true f = let same : bytes_eq n e.0 ≡ true = (bytes_eq-Decides n e.0).1 (sym ((bytes_eq-Decides e.0 n).0 f)) in absurd (cc)
        apart false f = refl

module _ (done : ExternKinds) (n : Text) (a : ItemKind) (absent : lookup bytes_eq done n ≡ None) (ms : ExternKinds) (new : lookup bytes_eq ms n ≡ None) where
  -- all names, one more
  pub all_names_put : (m : ItemKind) (fs : ExternKinds) → fs ≡ insert_entry bytes_eq ms n m → keys_of ms ≡ keys_of done → keys_of fs ≡ keys_of (done ++ (n, a) ∷ [])
  all_names_put m fs put h = ap keys_of (put ∙ insert_entry-new ms n m new) ∙ keys-more ms n m ∙ ap (λ ks. ks ++ n ∷ []) h ∙ sym (keys-more done n a)

  -- some names, of which the next is one
  pub some_names_put : (m : ItemKind) (fs : ExternKinds) → fs ≡ insert_entry bytes_eq ms n m → HasSomeNames bytes_eq done ms → HasSomeNames bytes_eq (done ++ (n, a) ∷ []) fs
  some_names_put m fs put h =
      let found : (q : Text) → lookup bytes_eq fs q ≡ cond (bytes_eq q n) (Some m) (lookup bytes_eq ms q) = λ q. ap (λ l. lookup bytes_eq l q) put ∙ lookup-insert_entry ms n m q in
      let same : bytes_eq n n ≡ true = (bytes_eq-Decides n n).1 refl in
      let here : is_some (lookup bytes_eq fs n) ≡ true = ap is_some (found n) ∙ ap (λ b. is_some (cond b (Some m) (lookup bytes_eq ms n))) same in
      let others : (q : Text) → bytes_eq q n ≡ false → is_some (lookup bytes_eq ms q) ≡ is_some (lookup bytes_eq fs q) = λ q g. sym (ap is_some (found q) ∙ ap (λ b. is_some (cond b (Some m) (lookup bytes_eq ms q))) g) in
      ap keys_of (put ∙ insert_entry-new ms n m new) ∙ keys-more ms n m
      ∙ ap (λ ks. ks ++ n ∷ []) (h ∙ filter-others done n absent (λ q. is_some (lookup bytes_eq ms q)) (λ q. is_some (lookup bytes_eq fs q)) others)
      ∙ ap (λ b. filter (λ q. is_some (lookup bytes_eq fs q)) (keys_of done) ++ cond b (n ∷ []) []) (sym here)
      ∙ sym (filter-append (λ q. is_some (lookup bytes_eq fs q)) (keys_of done) (n ∷ []))
      ∙ ap (filter (λ q. is_some (lookup bytes_eq fs q))) (sym (keys-more done n a))

  -- some names, of which the next is none
  pub some_names_dropped : HasSomeNames bytes_eq done ms → HasSomeNames bytes_eq (done ++ (n, a) ∷ []) ms
  some_names_dropped h =
      h ∙ sym (append-nil (filter (λ q. is_some (lookup bytes_eq ms q)) (keys_of done)))
      ∙ ap (λ o. filter (λ q. is_some (lookup bytes_eq ms q)) (keys_of done) ++ cond (is_some o) (n ∷ []) []) (sym new)
      ∙ sym (filter-append (λ q. is_some (lookup bytes_eq ms q)) (keys_of done) (n ∷ []))
      ∙ ap (filter (λ q. is_some (lookup bytes_eq ms q))) (sym (keys-more done n a))

-- all names of the first, then the others
pub all_names_with : (es ts ms fs : ExternKinds) → fs ≡ with_new bytes_eq ms ts → keys_of ms ≡ keys_of es → HasAllNames bytes_eq es ts fs
all_names_with es ts ms fs is h = ap keys_of is ∙ keys-with_new bytes_eq ms es ts h
