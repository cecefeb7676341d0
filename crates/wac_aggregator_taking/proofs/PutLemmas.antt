-- Items that are put under their names one after another.
use Rattle.std.proofs.Common.{◌≡◌, ◌++◌, All, Bool, true, false, cond, List, [], ◌∷◌, Option, Some, None, inl, inr, refl, ap, sym, subst, ◌∙◌}
use Rattle.std.proofs.lemmas.List.Elements.{All-cons, All-head, All-nil, All-tail, All-weaker}
use Rattle.std.proofs.lemmas.Slice.Eq.{bytes_eq-Decides}
use Rattle.std.specs.Option.{option_or}
use Rattle.std.specs.Str.{bytes_eq}
use Rattle.indexmap.specs.IndexMap.{insert_entry}
use Rattle.wac_model.specs.Text.{Text, lookup}
use Rattle.wac_component.specs.Collection.{Collection, UseContent}
use Rattle.wac_component.specs.Key.{Key, Each, item_keys, named_keys, use_keys}
use Rattle.wac_component.specs.Reach.{IsAmong}
use Rattle.wac_component.specs.Replacing.{NamesReach}
use Rattle.wac_component.specs.declared.items.ItemKind.{ItemKind}
use Rattle.wac_component.proofs.Among.{among_each, among_either, among_left, among_right, each_among, each_append, each_filter, each_found, each_named}
use Rattle.wac_component.proofs.Keys.{Each-left, Each-right}
use Rattle.wac_core_merge.proofs.NameLemmas.{lookup-append}
use Rattle.wac_merge.specs.Built.{uses_of_both}
use Rattle.wac_merge.specs.Items.{ExternKinds, extern_keys}
use Rattle.wac_merge.proofs.PutLemmas.{All-insert_entry, lookup-insert_entry}
use Rattle.wac_aggregator_taking.specs.Growing.{AreAllPut, with_put}
use Rattle.wac_aggregator_taking.proofs.GrowLemmas.{each_put}

-- one more
pub with_put-more : (es ms : ExternKinds) (n : Text) (m : ItemKind) → with_put es (ms ++ (n, m) ∷ []) ≡ insert_entry bytes_eq (with_put es ms) n m
with_put-more es [] n m = refl
with_put-more es (x ∷ ms) n m = with_put-more (insert_entry bytes_eq es x.0 x.1) ms n m

-- what is put under a new name goes last
put_new : (ms : ExternKinds) (n : Text) (m : ItemKind) → lookup bytes_eq ms n ≡ None → insert_entry bytes_eq ms n m ≡ ms ++ (n, m) ∷ []
put_new [] n m none = refl
put_new (x ∷ ms) n m none = by_test (bytes_eq n x.0) none (λ g. put_new ms n m g)
  where
    by_test : (b : Bool) → cond b (Some x.1) (lookup bytes_eq ms n) ≡ None → (lookup bytes_eq ms n ≡ None → insert_entry bytes_eq ms n m ≡ ms ++ (n, m) ∷ []) → cond b ((x.0, m) ∷ ms) (x ∷ insert_entry bytes_eq ms n m) ≡ x ∷ (ms ++ (n, m) ∷ [])
    by_test true h g = absurd (cc)
    by_test false h g = ap (λ (l : ExternKinds). x ∷ l) (g h)

pub with_put-put : (es ms : ExternKinds) (n : Text) (m : ItemKind) → lookup bytes_eq ms n ≡ None → with_put es (insert_entry bytes_eq ms n m) ≡ insert_entry bytes_eq (with_put es ms) n m
with_put-put es ms n m none = ap (λ (l : ExternKinds). with_put es l) (put_new ms n m none) ∙ with_put-more es ms n m

-- under a name of none of them there is what was there
pub with_put-absent : (es ms : ExternKinds) (n : Text) → lookup bytes_eq ms n ≡ None → lookup bytes_eq (with_put es ms) n ≡ lookup bytes_eq es n
with_put-absent es [] n none = refl
with_put-absent es (x ∷ ms) n none = by_test (bytes_eq n x.0) refl none (λ g. with_put-absent (insert_entry bytes_eq es x.0 x.1) ms n g)
  where
    by_test : (b : Bool) → bytes_eq n x.0 ≡ b → cond b (Some x.1) (lookup bytes_eq ms n) ≡ None → (lookup bytes_eq ms n ≡ None → lookup bytes_eq (with_put (insert_entry bytes_eq es x.0 x.1) ms) n ≡ lookup bytes_eq (insert_entry bytes_eq es x.0 x.1) n)
        → lookup bytes_eq (with_put (insert_entry bytes_eq es x.0 x.1) ms) n ≡ lookup bytes_eq es n
    by_test true e h g = absurd (cc)
    by_test false e h g = g h ∙ lookup-insert_entry es x.0 x.1 n ∙ ap (λ (b : Bool). cond b (Some x.1) (lookup bytes_eq es n)) e

-- where only names of others are among these, so it is once one of both is put
pub names_put : (done ms : ExternKinds) (n : Text) (a m : ItemKind) → ((q : Text) → lookup bytes_eq done q ≡ None → lookup bytes_eq ms q ≡ None) → (q : Text) → lookup bytes_eq (done ++ (n, a) ∷ []) q ≡ None → lookup bytes_eq (insert_entry bytes_eq ms n m) q ≡ None
names_put done ms n a m before q none = lookup-insert_entry ms n m q ∙ by_parts (lookup bytes_eq done q) (bytes_eq q n) refl (sym (lookup-append bytes_eq done ((n, a) ∷ []) q) ∙ none)
  where
    by_parts : (o : Option ItemKind) (b : Bool) → lookup bytes_eq done q ≡ o → option_or o (cond b (Some a) None) ≡ None → cond b (Some m) (lookup bytes_eq ms q) ≡ None
    by_parts (Some y) b is h = absurd (cc)
    by_parts None true is h = absurd (cc)
    by_parts None false is h = before q is

-- each of these is what stands under its name, where one more is put under a new one
module _ (es ms : ExternKinds) (n : Text) (m : ItemKind) where
  abbrev is_put : Text × ItemKind → Type 0
  is_put x = lookup bytes_eq (with_put es ms) x.0 ≡ Some x.1

  abbrev is_put_now : Text × ItemKind → Type 0
  is_put_now x = lookup bytes_eq (insert_entry bytes_eq (with_put es ms) n m) x.0 ≡ Some x.1

  other : (q : Text) → bytes_eq n q ≡ false → bytes_eq q n ≡ false
  other q apart = by_test (bytes_eq q n) refl
    where
      by_test : (b : Bool) → bytes_eq q n ≡ b → b ≡ false
      by_test true e = let same : q ≡ n = (bytes_eq-Decides q n).0 e in let yes : bytes_eq n q ≡ true = (bytes_eq-Decides n q).1 (sym same) in absurd (cc)
      by_test false e = refl

  still : (xs : ExternKinds) → lookup bytes_eq xs n ≡ None → All is_put xs → All is_put_now xs
  still [] none h = All-nil is_put_now
  still (x ∷ xs) none h = by_test (bytes_eq n x.0) refl none (λ g. still xs g (All-tail is_put x xs h))
    where
      by_test : (b : Bool) → bytes_eq n x.0 ≡ b → cond b (Some x.1) (lookup bytes_eq xs n) ≡ None → (lookup bytes_eq xs n ≡ None → All is_put_now xs) → All is_put_now (x ∷ xs)
      by_test true e k g = absurd (cc)
      by_test false e k g = All-cons is_put_now x xs (lookup-insert_entry (with_put es ms) n m x.0 ∙ ap (λ (b : Bool). cond b (Some m) (lookup bytes_eq (with_put es ms) x.0)) (other x.0 e) ∙ All-head is_put x xs h) (g k)

  here : is_put_now (n, m)
  here = lookup-insert_entry (with_put es ms) n m n ∙ ap (λ (b : Bool). cond b (Some m) (lookup bytes_eq (with_put es ms) n)) ((bytes_eq-Decides n n).1 refl)

  pub all_put : lookup bytes_eq ms n ≡ None → AreAllPut es ms → AreAllPut es (insert_entry bytes_eq ms n m)
  all_put none h =
      subst (λ (l : ExternKinds). All (λ (x : Text × ItemKind). lookup bytes_eq l x.0 ≡ Some x.1) (insert_entry bytes_eq ms n m)) (sym (with_put-put es ms n m none))
      (All-insert_entry is_put_now ms n m (still ms none h) here)

-- ---- what is named

module _ (P : Key → Type 0) where
  -- after these are put, and of these alone
  pub each_with_put : (es ms : ExternKinds) → Each P (extern_keys es) → Each P (extern_keys ms) → Each P (extern_keys (with_put es ms))
  each_with_put es [] h g = h
  each_with_put es (x ∷ ms) h g = each_with_put (insert_entry bytes_eq es x.0 x.1) ms (each_put P es x.0 x.1 h (Each-left P (item_keys x.1) (extern_keys ms) g)) (Each-right P (item_keys x.1) (extern_keys ms) g)

  pub each_was_put : (es ms : ExternKinds) → AreAllPut es ms → Each P (extern_keys (with_put es ms)) → Each P (extern_keys ms)
  each_was_put es ms all h =
      each_named P item_keys ms (All-weaker (λ (x : Text × ItemKind). lookup bytes_eq (with_put es ms) x.0 ≡ Some x.1) (λ (x : Text × ItemKind). Each P (item_keys x.1)) (λ x is. each_found P (with_put es ms) x.0 x.1 is h) ms all)

pub among_put : (es ms : ExternKinds) → AreAllPut es ms → (j : Key) → IsAmong j (extern_keys ms) → IsAmong j (extern_keys (with_put es ms))
among_put es ms all j q =
    let there : Key → Type 0 = λ k. IsAmong k (extern_keys (with_put es ms)) in
    among_each there j (extern_keys ms) q (each_was_put there es ms all (each_among there (extern_keys (with_put es ms)) (λ k r. r)))

-- a walk that leads from what is put leads from all that is there then
pub reach_put : (d : Collection) (us : List (Text × UseContent)) (es ms : ExternKinds) (k : Key) → AreAllPut es ms → NamesReach d (named_keys use_keys us ++ extern_keys ms) k → NamesReach d (named_keys use_keys us ++ extern_keys (with_put es ms)) k
reach_put d us es ms k all n = (
  n.0,
  elim (among_either (named_keys use_keys us) (extern_keys ms) n.1) [
    | inl first ↦ among_left (named_keys use_keys us) (extern_keys (with_put es ms)) first
    | inr second ↦ among_right (named_keys use_keys us) (extern_keys (with_put es ms)) (among_put es ms all n.0 second)
  ],
  n.2,
)

-- what two lists of uses name, put together
pub each_uses : (P : Key → Type 0) (us vs : List (Text × UseContent)) → Each P (named_keys use_keys us) → Each P (named_keys use_keys vs) → Each P (named_keys use_keys (uses_of_both us vs))
each_uses P us vs h g =
    let keys : Text × UseContent → List Key = λ u. use_keys u.1 in
    each_append P keys us _ h (each_filter P keys _ vs g)
