-- One turn of a loop over what the first of two sides has, name by name.
use Rattle.std.proofs.Common.{◌≡◌, refl, ap, sym, subst, ◌∙◌, Bool, true, false, cond, List, [], ◌∷◌, ◌++◌, map, Option, Some, None, string_bytes, String, Global}
use Rattle.std.specs.Iterator.{Yields}
use Rattle.std.specs.List.{IsDistinct}
use Rattle.std.specs.Map.{keys_of}
use Rattle.std.specs.Map.Iter.{TakesFirst}
use Rattle.std.specs.Option.{option_or}
use Rattle.std.specs.Str.{bytes_eq}
use Rattle.std.proofs.lemmas.List.{map-append}
use Rattle.std.proofs.lemmas.Map.Iter.{rest_so_far, rest_more}
use Rattle.std.proofs.lemmas.Slice.Eq.{bytes_eq-Decides}
use Rattle.indexmap.specs.IndexMap.{insert_entry}
use Rattle.wac_model.specs.Text.{Text, lookup}
use Rattle.wac_component.specs.Collection.{Collection}
use Rattle.wac_component.specs.Content.{named}
use Rattle.wac_component.specs.Key.{Stands, AllStand, item_keys, optional_keys}
use Rattle.wac_component.specs.declared.items.ItemKind.{ItemKind}
use Rattle.wac_component.proofs.Keys.{Each-left, Each-right, Each-append}
use Rattle.wac_checker_parts.proofs.ExternLemmas.{named_stands}
use Rattle.wac_core_merge.proofs.NameLemmas.{lookup-append}
use Rattle.wac_core_merge.specs.NameOrder.{HasSomeNames}
use Rattle.wac_merge.specs.Bounded.{IsMetWith, IsJoinedWith, IsFirstMetAt, IsJoinedAt, AreJoined}
use Rattle.wac_merge.specs.Built.{Origins, IsBuiltWith, IsBuiltAt, of_first, of_both, AreBuilt}
use Rattle.wac_merge.specs.Items.{ExternKinds, extern_keys}
use Rattle.wac_merge.specs.Memo.{Made}
use Rattle.wac_merge.specs.Runs.{FromBuilt}
use Rattle.wac_merge.specs.Told.{IsBoundWith, AreFirstBound, HasFirstNames, LacksOnly}
use Rattle.wac_merge.specs.declared.memo.Bound.{Bound}
use Rattle.wac_merge.specs.declared.memo.Bound.TheVariants.{Meet, Join}
use Rattle.wac_merge.specs.declared.memo.Untold.{Untold}
use Rattle.wac_merge.proofs.BuiltLemmas.{LacksOnly-from}
use Rattle.wac_merge.proofs.ExternLemmas.{found_stands}
use Rattle.wac_merge.proofs.OrderLemmas.{all_names_put, some_names_put, some_names_dropped}
use Rattle.wac_merge.proofs.PutLemmas.{name_is_new, turn_put, turn_dropped, All-insert_entry}

-- a `for` over all entries, which has yielded ys and yields x now
module _ {A : Type 0} (shows : A → String Global × ItemKind) (all : List (String Global × ItemKind)) (ys : List A) (s t u : List (String Global × ItemKind)) (r : Option A) (x : A)
    (start : s ≡ all) (y : Yields (TakesFirst shows) s ys t) (is : r ≡ Some x) (step : TakesFirst shows t r u) (distinct : IsDistinct (λ j k. bytes_eq (string_bytes j) (string_bytes k)) (keys_of all)) where
  whole : all ≡ map shows ys ++ shows x ∷ u
  whole = sym start ∙ rest_so_far shows ys s t y ∙ ap (λ l. map shows ys ++ l) (rest_more shows t u r x is step)

  pub name_not_done : lookup bytes_eq (named (λ k. k) (map shows ys)) (string_bytes (shows x).0) ≡ None
  name_not_done = name_is_new (map shows ys) u (shows x).0 (shows x).1 (subst (λ l. IsDistinct (λ j k. bytes_eq (string_bytes j) (string_bytes k)) (keys_of l)) whole distinct)

  pub name_has : lookup bytes_eq (named (λ k. k) all) (string_bytes (shows x).0) ≡ Some (shows x).1
  name_has =
      let n : Text = string_bytes (shows x).0 in
      let rest : ExternKinds = named (λ k. k) u in
      let same : bytes_eq n n ≡ true = (bytes_eq-Decides n n).1 refl in
      ap (λ l. lookup bytes_eq (named (λ k. k) l) n) whole
      ∙ ap (λ l. lookup bytes_eq l n) (map-append (λ (e : String Global × ItemKind). (string_bytes e.0, e.1)) (map shows ys) (shows x ∷ u))
      ∙ lookup-append bytes_eq (named (λ k. k) (map shows ys)) ((n, (shows x).1) ∷ rest) n
      ∙ ap (λ o. option_or o (lookup bytes_eq ((n, (shows x).1) ∷ rest) n)) name_not_done
      ∙ ap (λ b. cond b (Some (shows x).1) (lookup bytes_eq rest n)) same

  pub done_more : named (λ k. k) (map shows (ys ++ x ∷ [])) ≡ named (λ k. k) (map shows ys) ++ (string_bytes (shows x).0, (shows x).1) ∷ []
  done_more = ap (named (λ k. k)) (map-append shows ys (x ∷ [])) ∙ map-append (λ (e : String Global × ItemKind). (string_bytes e.0, e.1)) (map shows ys) (shows x ∷ [])

-- what is put stands with all else
pub stands_put : (c : Collection) (es : ExternKinds) (k : Text) (v : ItemKind) → AllStand c (extern_keys es) → AllStand c (item_keys v) → AllStand c (extern_keys (insert_entry bytes_eq es k v))
stands_put c [] k v h g = Each-append (Stands c) (item_keys v) [] g tt
stands_put c (e ∷ es) k v h g = go (bytes_eq k e.0) (stands_put c es k v (Each-right (Stands c) (item_keys e.1) (extern_keys es) h) g)
  where
    go : (b : Bool) → AllStand c (extern_keys (insert_entry bytes_eq es k v)) → AllStand c (extern_keys (cond b ((e.0, v) ∷ es) (e ∷ insert_entry bytes_eq es k v)))
    go true ih = Each-append (Stands c) (item_keys v) (extern_keys es) g (Each-right (Stands c) (item_keys e.1) (extern_keys es) h)
    go false ih = Each-append (Stands c) (item_keys e.1) (extern_keys (insert_entry bytes_eq es k v)) (Each-left (Stands c) (item_keys e.1) (extern_keys es) h) ih

-- one turn, in c
module _ (c : Collection) (es ts done : ExternKinds) (n : Text) (a : ItemKind) (o : Option ItemKind) (absent : lookup bytes_eq done n ≡ None) (other : o ≡ lookup bytes_eq ts n) (ms : ExternKinds) where
  pub bound_turn : (u : Bound) (m : ItemKind) (fs : ExternKinds) → AreFirstBound u c c done ts (Some ms) → IsBoundWith u c c a o (Some m) → fs ≡ insert_entry bytes_eq ms n m → AreFirstBound u c c (done ++ (n, a) ∷ []) ts (Some fs)
  bound_turn Meet m fs before here put = turn_put (IsFirstMetAt c c) done ts n a absent ms before m fs put (subst (λ x. IsMetWith c c a x (Some m)) other here)
  bound_turn Join m fs before here put = turn_put (IsJoinedAt c c) done ts n a absent ms before m fs put (subst (λ x. IsJoinedWith c c a x (Some m)) other here)

  pub dropped_turn : AreJoined c c done ts ms → IsJoinedWith c c a o None → AreJoined c c (done ++ (n, a) ∷ []) ts ms
  dropped_turn before here = turn_dropped (IsJoinedAt c c) done ts n a absent ms before (λ x m h. h) (subst (λ x. IsJoinedWith c c a x None) other here)

  -- nothing is put under a name before its turn
  not_yet : (u : Bound) → AreFirstBound u c c done ts (Some ms) → lookup bytes_eq ms n ≡ None
  not_yet Meet before = subst (λ x. IsFirstMetAt c c x (lookup bytes_eq ts n) (lookup bytes_eq ms n)) absent (before n)
  not_yet Join before = subst (λ x. IsJoinedAt c c x (lookup bytes_eq ts n) (lookup bytes_eq ms n)) absent (before n)

  pub names_turn : (u : Bound) → AreFirstBound u c c done ts (Some ms) → (m : ItemKind) (fs : ExternKinds) → fs ≡ insert_entry bytes_eq ms n m → HasFirstNames u done ms → HasFirstNames u (done ++ (n, a) ∷ []) fs
  names_turn Meet before m fs put names = all_names_put done n a absent ms (not_yet Meet before) m fs put names
  names_turn Join before m fs put names = some_names_put done n a absent ms (not_yet Join before) m fs put names

  pub names_dropped : AreJoined c c done ts ms → HasSomeNames bytes_eq done ms → HasSomeNames bytes_eq (done ++ (n, a) ∷ []) ms
  names_dropped before names = some_names_dropped done n a absent ms (not_yet Join before) names

pub standing_turn : (c : Collection) (ms fs : ExternKinds) (n : Text) (m : ItemKind) → AllStand c (extern_keys ms) → AllStand c (item_keys m) → fs ≡ insert_entry bytes_eq ms n m → AllStand c (extern_keys fs)
standing_turn c ms fs n m standing here put = rw put (stands_put c ms n m standing here)

-- what two lists have under a name stands where the lists do
pub named_stand : (c : Collection) (es ts : ExternKinds) (n : Text) (a : ItemKind) (o : Option ItemKind) → lookup bytes_eq es n ≡ Some a → o ≡ lookup bytes_eq ts n → AllStand c (extern_keys es ++ extern_keys ts) → AllStand c (item_keys a ++ optional_keys item_keys o)
named_stand c es ts n a o there other stand =
    Each-append (Stands c) (item_keys a) (optional_keys item_keys o)
    (named_stands c es n a there (Each-left (Stands c) (extern_keys es) (extern_keys ts) stand))
    (subst (λ x. AllStand c (optional_keys item_keys x)) (sym other) (found_stands c ts n (Each-right (Stands c) (extern_keys es) (extern_keys ts) stand)))

-- what the turn builds
module _ (d : Collection) (es ts : ExternKinds) (n : Text) (a : ItemKind) (o : Option ItemKind) (there : lookup bytes_eq es n ≡ Some a) (other : o ≡ lookup bytes_eq ts n) where
  at_name : (c : Collection) (q : Origins) (m : ItemKind) → IsBuiltWith c d q a o m → IsBuiltAt c d q es ts n m
  at_name c q m h = go o other h
    where
      go : (x : Option ItemKind) → x ≡ lookup bytes_eq ts n → IsBuiltWith c d q a x m → IsBuiltAt c d q es ts n m
      go None g h = of_first (there ∙ ap (λ (k : ItemKind). Some k) (sym h))
      go (Some x) g h = of_both there (sym g) h

  pub built_turn : {ms : Made} (xs fs : ExternKinds) (m : ItemKind) → fs ≡ insert_entry bytes_eq xs n m → FromBuilt (extern_keys es ++ extern_keys ts) d ms (λ c q. AreBuilt c d q es ts xs)
      → FromBuilt (item_keys a ++ optional_keys item_keys o) d ms (λ c q. IsBuiltWith c d q a o m) → FromBuilt (extern_keys es ++ extern_keys ts) d ms (λ c q. AreBuilt c d q es ts fs)
  built_turn xs fs m put before here = λ c q sound stand only made.
      rw put (All-insert_entry (λ z. IsBuiltAt c d q es ts z.0 z.1) xs n m (before c q sound stand only made) (at_name c q m (here c q sound (named_stand c es ts n a o there other stand) only made)))

-- what an item under a name lacks, two lists do
pub lacks_under : (d : Collection) (es ts : ExternKinds) (n : Text) (a : ItemKind) (o : Option ItemKind) → lookup bytes_eq es n ≡ Some a → o ≡ lookup bytes_eq ts n → (u : Untold) → LacksOnly d (item_keys a ++ optional_keys item_keys o) u → LacksOnly d (extern_keys es ++ extern_keys ts) u
lacks_under d es ts n a o there other u h = LacksOnly-from d (extern_keys es ++ extern_keys ts) (item_keys a ++ optional_keys item_keys o) (λ b sound was stand. named_stand b es ts n a o there other stand) u h
