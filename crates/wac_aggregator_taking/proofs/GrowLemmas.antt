-- Exports that are met one by one, and the shared entry that grows by them.
use Rattle.std.proofs.Common.{◌≡◌, ◌++◌, arith, inl, inr, All, Contains, Ok, Bool, true, false, cond, filter, List, [], ◌∷◌, map, Option, Some, None, IfSome, String, Global, string_bytes, refl, ap, sym, subst, ◌∙◌}
use Rattle.std.proofs.lemmas.Slice.Eq.{bytes_eq-Decides}
use Rattle.std.proofs.lemmas.List.{map-append}
use Rattle.std.proofs.lemmas.Map.Iter.{rest_so_far, rest_more}
use Rattle.std.specs.Iterator.{Yields}
use Rattle.std.specs.List.{IsDistinct}
use Rattle.std.specs.Map.{keys_of}
use Rattle.std.specs.Map.Iter.{TakesFirst}
use Rattle.std.proofs.lemmas.List.Elements.{Contains-append_left, Contains-append_right, All-cons, All-head, All-nil, All-tail}
use Rattle.std.specs.Option.{option_or, option_map, option_map_or}
use Rattle.std.specs.Str.{bytes_eq}
use Rattle.indexmap.specs.IndexMap.{insert_entry}
use Rattle.wac_model.specs.Text.{Text, lookup}
use Rattle.wac_model.specs.CoreTree.{Serves}
use Rattle.wac_model.specs.ItemTree.{ItemTree}
use Rattle.wac_model.specs.Order.{Fits}
use Rattle.wac_bounds.specs.Bounds.{IsLowerBound, IsMeetIfAny}
use Rattle.wac_component.specs.Growth.{Extends}
use Rattle.wac_model.proofs.ItemOrder.{Fits-refl, Fits-trans}
use Rattle.wac_model.proofs.Serves.{Serves-trans}
use Rattle.wac_bounds.specs.MeetIn.{IsMeetIn}
use Rattle.wac_model.proofs.Lookups.{IsDistinct-shown}
use Rattle.wac_component.specs.Collection.{Collection}
use Rattle.wac_component.specs.Content.{named, use_content}
use Rattle.wac_component.specs.Entries.{entry_identifier, identifier_at}
use Rattle.wac_component.specs.Key.{Key, Each, Stands, AllStand, item_keys, named_keys, use_keys}
use Rattle.wac_component.specs.Sound.{IsSound}
use Rattle.wac_component.specs.Tree.{item_tree}
use Rattle.wac_component.specs.declared.interfaces.UsedType.{UsedType}
use Rattle.wac_component.specs.declared.items.ItemKind.{ItemKind}
use Rattle.wac_component.proofs.Among.{each_found, Contains-first, Contains-cases}
use Rattle.wac_component.proofs.Extended.{Extends-refl, Extends-trans, AllStand-Extends}
use Rattle.wac_component.proofs.Keys.{Each-left, Each-right, Each-append}
use Rattle.wac_checker_parts.specs.Externs.{AreServed}
use Rattle.wac_core_merge.specs.Names.{with_new}
use Rattle.wac_core_merge.proofs.EntryLemmas.{All-found}
use Rattle.wac_core_merge.proofs.NameLemmas.{lookup-append, with_new-shown}
use Rattle.wac_merge.specs.Bounded.{KeepsFitting as IsKeptOf}
use Rattle.wac_merge.specs.Built.{Origins, OnlyBuilds, AreOnes, IsBuilt, uses_of_both}
use Rattle.wac_merge.specs.Items.{ExternKinds, AreUnhidden, extern_keys}
use Rattle.wac_merge.proofs.PutLemmas.{lookup-insert_entry}
use Rattle.wac_aggregator_narrowing.specs.Apart.{IsGood}
use Rattle.wac_aggregator_narrowing.specs.Identified.{IsCovered}
use Rattle.wac_aggregator_narrowing.proofs.Building.{built_covered, added_unidentified}
use Rattle.wac_aggregator_narrowing.proofs.Contents.{served_same}
use Rattle.wac_aggregator_narrowing.proofs.Mapped.{AreServed-trans}
use Rattle.wac_aggregator_narrowing.proofs.Steps.{IsGoodStep-refl, IsGoodStep-trans, building_steps}
use Rattle.wac_names.specs.Class.{Class, class_of}
use Rattle.wac_aggregator_promises.specs.Attempt.{Attempt}
use Rattle.wac_aggregator_promises.specs.WitList.{IsLeafItem}
use Rattle.wac_aggregator_narrowing.specs.Remembers.{RemembersTruly}
use Rattle.wac_aggregator_narrowing.specs.State.{State, IsStateKept}
use Rattle.wac_aggregator_narrowing.specs.Traced.{Root, Arrows, LeadsAlongArrows}
use Rattle.wac_aggregator_narrowing.proofs.Remembered.{RemembersTruly-step}
use Rattle.wac_aggregator_narrowing.proofs.Running.{RunsTaking-step}
use Rattle.wac_aggregator_narrowing.proofs.Tracing.{along_added}
use Rattle.wac_aggregator_reasons.specs.Trial.{IsAccounted, IsOpenItem, AreOpenItems, StaysAccounted}
use Rattle.wac_aggregator_reasons.proofs.Accounts.{accounted_none, accounted_then, none_roots, then_roots}
use Rattle.wac_aggregator_reasons.proofs.Reasons.{items_stay, item_stays}
use Rattle.wac_aggregator_taking.specs.Growing.{StepsOn, IsOwnMeet, IsMetIfAny, AreMetWith, with_own, AreAllOpen, StaysAlong}

-- ---- collections that are only added to

pub StepsOn-refl : (c : Collection) → StepsOn c c
StepsOn-refl c = record { grows = Extends-refl c; identified = λ k n stands is. stands; steps = λ ss g. IsGoodStep-refl c ss g }

pub StepsOn-trans : (c d e : Collection) → StepsOn c d → StepsOn d e → StepsOn c e
StepsOn-trans c d e g h = record { grows = Extends-trans c d e g.grows h.grows; identified = λ k n stands is. let then = h.identified k n stands is in g.identified k n then (ap (λ o. option_map_or entry_identifier o None) (sym (h.grows.same_entry k then)) ∙ is); steps = λ ss k. IsGoodStep-trans c d e ss ss ss (g.steps ss k) (h.steps ss (g.steps ss k).good) }

module _ (c d : Collection) (on : StepsOn c d) where
  -- what openly led to shared interfaces alone does so still
  pub covered_on : (ss : List Key) → IsGood c ss → (ks : List Key) → AllStand c ks → Each (IsCovered c ss) ks → Each (IsCovered d ss) ks
  covered_on ss good [] st h = tt
  covered_on ss good (k ∷ ks) st h = ((on.steps ss good).stops.covered k st.0 h.0, covered_on ss good ks st.1 h.1)

  -- what is asked for has the tree that it had
  pub served_on : (b : Collection) (es ts : ExternKinds) → AllStand c (extern_keys ts) → AreServed b c es ts → AreServed b d es ts
  served_on b es ts st h n = at (lookup bytes_eq es n) (lookup bytes_eq ts n) (λ y is. on.grows.trees y (each_found (Stands c) ts n y is st)) (h n)
    where
      at : (o q : Option ItemKind) → ((y : ItemKind) → q ≡ Some y → item_tree d y ≡ item_tree c y) → Serves (λ x y. Fits (item_tree b x) (item_tree c y)) o q → Serves (λ x y. Fits (item_tree b x) (item_tree d y)) o q
      at o None same g = tt
      at None (Some y) same g = absurd g
      at (Some x) (Some y) same g = subst (λ t. Fits (item_tree b x) t) (sym (same y refl)) g

  pub served_from : (b : Collection) (es ts : ExternKinds) → AllStand c (extern_keys ts) → AreServed b d es ts → AreServed b c es ts
  served_from b es ts st h n = at (lookup bytes_eq es n) (lookup bytes_eq ts n) (λ y is. on.grows.trees y (each_found (Stands c) ts n y is st)) (h n)
    where
      at : (o q : Option ItemKind) → ((y : ItemKind) → q ≡ Some y → item_tree d y ≡ item_tree c y) → Serves (λ x y. Fits (item_tree b x) (item_tree d y)) o q → Serves (λ x y. Fits (item_tree b x) (item_tree c y)) o q
      at o None same g = tt
      at None (Some y) same g = absurd g
      at (Some x) (Some y) same g = subst (λ t. Fits (item_tree b x) t) (same y refl) g

-- names of two lists are served where those of each are
pub served_append : (c d : Collection) (es xs ys : ExternKinds) → AreServed c d es xs → AreServed c d es ys → AreServed c d es (xs ++ ys)
served_append c d es xs ys h g n = rw (lookup-append bytes_eq xs ys n) (at (lookup bytes_eq xs n) (h n))
  where
    at : (o : Option ItemKind) → Serves (λ x y. Fits (item_tree c x) (item_tree d y)) (lookup bytes_eq es n) o → Serves (λ x y. Fits (item_tree c x) (item_tree d y)) (lookup bytes_eq es n) (option_or o (lookup bytes_eq ys n))
    at None k = g n
    at (Some y) k = k

-- ---- what is named

module _ (P : Key → Type 0) where
  -- ids in the first of two lists of items, and in the second
  pub first_externs : (xs ys : ExternKinds) → Each P (extern_keys (xs ++ ys)) → Each P (extern_keys xs)
  first_externs [] ys h = tt
  first_externs (x ∷ xs) ys h = Each-append P (item_keys x.1) (extern_keys xs) (Each-left P (item_keys x.1) (extern_keys (xs ++ ys)) h) (first_externs xs ys (Each-right P (item_keys x.1) (extern_keys (xs ++ ys)) h))

  pub last_externs : (xs ys : ExternKinds) → Each P (extern_keys (xs ++ ys)) → Each P (extern_keys ys)
  last_externs [] ys h = h
  last_externs (x ∷ xs) ys h = last_externs xs ys (Each-right P (item_keys x.1) (extern_keys (xs ++ ys)) h)

  -- after an item is put under a name
  pub each_put : (es : ExternKinds) (n : Text) (m : ItemKind) → Each P (extern_keys es) → Each P (item_keys m) → Each P (extern_keys (insert_entry bytes_eq es n m))
  each_put [] n m h p = Each-append P (item_keys m) [] p tt
  each_put (e ∷ es) n m h p = at (bytes_eq n e.0) (each_put es n m (Each-right P (item_keys e.1) (extern_keys es) h) p)
    where
      at : (b : Bool) → Each P (extern_keys (insert_entry bytes_eq es n m)) → Each P (extern_keys (cond b ((e.0, m) ∷ es) (e ∷ insert_entry bytes_eq es n m)))
      at true g = Each-append P (item_keys m) (extern_keys es) p (Each-right P (item_keys e.1) (extern_keys es) h)
      at false g = Each-append P (item_keys e.1) (extern_keys (insert_entry bytes_eq es n m)) (Each-left P (item_keys e.1) (extern_keys es) h) g

  -- after some of other uses are put last
  each_used : (p : String Global × UsedType → Bool) (us vs : List (String Global × UsedType)) → Each P (named_keys use_keys (named use_content us)) → Each P (named_keys use_keys (named use_content vs)) → Each P (named_keys use_keys (named use_content (us ++ filter p vs)))
  each_used p [] [] h g = tt
  each_used p [] (v ∷ vs) h g = at (p v) (each_used p [] vs tt g.1)
    where
      at : (b : Bool) → Each P (named_keys use_keys (named use_content (filter p vs))) → Each P (named_keys use_keys (named use_content (cond b (v ∷ filter p vs) (filter p vs))))
      at true k = (g.0, k)
      at false k = k
  each_used p (u ∷ us) vs h g = (h.0, each_used p us vs h.1 g)

-- exports that a `for` has yielded, and the one that it yields, are in the list
pub done_inside : {A : Type 0} (shows : A → String Global × ItemKind) (all : List (String Global × ItemKind)) (ys : List A) (s t u : List (String Global × ItemKind)) (r : Option A) (x : A) → s ≡ all → Yields (TakesFirst shows) s ys t → r ≡ Some x → TakesFirst shows t r u
    → ((p : Text × ItemKind) → Contains (named (λ k. k) (map shows ys)) p → Contains (named (λ k. k) all) p) × Contains (named (λ k. k) all) (string_bytes (shows x).0, (shows x).1)
done_inside {A} shows all ys s t u r x start y is step =
    let e : named (λ k. k) all ≡ named (λ k. k) (map shows ys) ++ (string_bytes (shows x).0, (shows x).1) ∷ named (λ k. k) u =
    ap (named (λ k. k)) (sym start ∙ rest_so_far shows ys s t y ∙ ap (λ l. map shows ys ++ l) (rest_more shows t u r x is step)) ∙ map-append (λ (e : String Global × ItemKind). (string_bytes e.0, e.1)) (map shows ys) (shows x ∷ u) in (
      λ p m. subst (λ l. Contains l p) (sym e) (Contains-append_left (named (λ k. k) (map shows ys)) ((string_bytes (shows x).0, (shows x).1) ∷ named (λ k. k) u) p m),
      subst (λ l. Contains l (string_bytes (shows x).0, (shows x).1)) (sym e) (Contains-append_right (named (λ k. k) (map shows ys)) ((string_bytes (shows x).0, (shows x).1) ∷ named (λ k. k) u) (string_bytes (shows x).0, (shows x).1) (Contains-first (string_bytes (shows x).0, (shows x).1) (named (λ k. k) u))),
    )

-- what holds of one item holds of each of a list of it alone
pub one_all : (n : Text) (a : ItemKind) → IsLeafItem a → All (λ (t : Text × ItemKind). IsLeafItem t.1) ((n, a) ∷ [])
one_all n a h = All-cons (λ (t : Text × ItemKind). IsLeafItem t.1) (n, a) [] h (All-nil (λ (t : Text × ItemKind). IsLeafItem t.1))

-- ---- what is accounted for

-- what stood stands
on_standing : (c d : Collection) → StepsOn c d → (k : Key) → Stands c k → Stands d k
on_standing c d on = on.grows.standing

-- a state in order is so with what was added
pub kept_on : (c d : Collection) → StepsOn c d → (s : State) → IsStateKept (with_own s c) → IsStateKept (with_own s d)
kept_on c d on s kept =
    (RunsTaking-step (RemembersTruly class_of) d (with_own s c) d s.shared (λ h. on.steps s.shared h.good) (λ h g k. RemembersTruly-step class_of g (with_own s c) d s.shared (on.steps s.shared h.good).narrows (on.steps s.shared h.good).stops k)).kept kept

-- one open item, as a list
pub one_open : (at : Attempt) (s : State) (n : Text) (a : ItemKind) → IsOpenItem at s n a → AreAllOpen at s ((n, a) ∷ [])
one_open at s n a h q x m =
    elim (Contains-cases (q, x) (n, a) [] m) [
      | inl same ↦ subst (λ (p : Text × ItemKind). IsOpenItem at s p.0 p.1) same h
      | inr none ↦ absurd (omega (arith, none.1))
    ]

-- an open item is one still
pub item_on : (c d : Collection) (on : StepsOn c d) (at : Attempt) (s : State) → IsStateKept (with_own s c) → StaysAccounted at (with_own s c) (with_own s d) → (n : Text) (a : ItemKind) → IsOpenItem at (with_own s c) n a → IsOpenItem at (with_own s d) n a
item_on c d on at s kept stays n a h = item_stays at (with_own s c) (with_own s d) kept (on.steps s.shared kept.good).narrows stays.keys n a h

-- what leads along arrows does so still
pub along_on : (c d : Collection) → Extends c d → (ss : List Key) (rs : List Root) (from : Class) → IsGood c ss → (ks : List Key) → AllStand c ks → Each (LeadsAlongArrows c ss rs from) ks → Each (LeadsAlongArrows d ss rs from) ks
along_on c d grows ss rs from good [] st h = tt
along_on c d grows ss rs from good (k ∷ ks) st h = (along_added class_of (Arrows class_of rs) c d ss from k good grows st.0 h.0, along_on c d grows ss rs from good ks st.1 h.1)

-- ---- meets

-- what is built has no identifier
built_identified : (c d : Collection) (o : Origins) → IsSound c → OnlyBuilds c d o → (k : Key) (n : Text) → Stands d k → identifier_at d k ≡ Some n → Stands c k
built_identified c d o sound only k n stands is = elim (only.added k stands) [
  | inl was ↦ was
  | inr new ↦ absurd (let no : None ≡ Some n = sym (added_unidentified c d o sound only k new) ∙ is in cc)
]

-- of two items, what was built of them
pub built_met : (c d : Collection) (o : Origins) (a b m : ItemKind) → IsSound c → IsSound d → OnlyBuilds c d o → AreOnes c d o → IsBuilt c d o a b m → AllStand c (item_keys a) → AllStand c (item_keys b) → AllStand d (item_keys m)
    → Fits (item_tree d m) (item_tree c a) → Fits (item_tree d m) (item_tree c b) → ((t : ItemTree) → Fits t (item_tree c a) → Fits t (item_tree c b) → Fits t (item_tree d m)) → (Fits (item_tree c a) (item_tree c b) → m ≡ a) → IsOwnMeet c d a b m
built_met c d o a b m sound sound_too only ones built sa sb sm fa fb greatest kept = record {
  on = record { grows = only.extends; identified = built_identified c d o sound only; steps = λ ss g. building_steps c d ss o g sound_too only };
  stands = sm;
  answer = Ok (Some m);
  builds = record { origins = o; only = only; ones = ones; built = built };
  built = built;
  fits_first = fa;
  fits_second = fb;
  greatest = greatest;
  kept = kept;
  covered = λ ss g ha hb. built_covered c d o sound only sound_too ss a b m built sa sb ha hb;
}

-- what fits where either of two is asked for
pub below_both : (t a b : ItemTree) → Fits t a → Fits t b → IsLowerBound t (a ∷ b ∷ [])
below_both t a b x y = All-cons (Fits t) a (b ∷ []) x (All-cons (Fits t) b [] y (All-nil (Fits t)))

-- where there is one, and where there is none
pub built_if_any : (c d : Collection) (o : Origins) (a b : ItemKind) (r : Option ItemKind) → IsSound c → IsSound d → OnlyBuilds c d o → AreOnes c d o → Extends c d → AllStand c (item_keys a) → AllStand c (item_keys b) → IfSome r (IsBuilt c d o a b) → IfSome r (λ m. AllStand d (item_keys m))
    → IsMeetIfAny (option_map (item_tree d) r) (item_tree c a ∷ item_tree c b ∷ []) → IsKeptOf (item_tree c a) (item_tree c b) a b r → IsMetIfAny c d a b r
built_if_any c d o a b None sound sound_too only ones grows sa sb built st none kept =
    (grows, λ t low. none t (subst (IsLowerBound t) (ap (λ x. x ∷ item_tree d b ∷ []) (grows.trees a sa) ∙ ap (λ x. item_tree c a ∷ x ∷ []) (grows.trees b sb)) low))
built_if_any c d o a b (Some m) sound sound_too only ones grows sa sb built st meet kept =
    let fits : ItemTree → Type 0 = λ t. Fits (item_tree d m) t in
    built_met c d o a b m sound sound_too only ones built sa sb st
    (All-head fits (item_tree c a) (item_tree c b ∷ []) meet.is_below)
    (All-head fits (item_tree c b) [] (All-tail fits (item_tree c a) (item_tree c b ∷ []) meet.is_below))
    (λ t x y. meet.is_greatest t (below_both t (item_tree c a) (item_tree c b) x y))
    (λ fits. let same : Some m ≡ Some a = kept.0 fits in cc)

-- ---- greatest lower bounds, where nothing is asked under a name or something is

-- what is asked of a name is served by the same
serves_same : (o : Option ItemTree) → Serves Fits o o
serves_same None = tt
serves_same (Some t) = Fits-refl t

serves_trans : (a b c : Option ItemTree) → Serves Fits a b → Serves Fits b c → Serves Fits a c
serves_trans a b c h k = Serves-trans Fits a b c (λ v is x z g i. Fits-trans x v z g i) h k

-- of what stands, and nothing else
meet_alone : (o : Option ItemTree) → IsMeetIn (Serves Fits) o None (Some o)
meet_alone o = (serves_same o, tt, λ t x y. x)

-- of what stands and of one item
meet_one : (c : Collection) (o : Option ItemKind) (a m : ItemTree) → Fits m a → ((b : ItemKind) → o ≡ Some b → Fits m (item_tree c b)) → ((t : ItemTree) → ((b : ItemKind) → o ≡ Some b → Fits t (item_tree c b)) → Fits t a → Fits t m)
    → IsMeetIn (Serves Fits) (option_map (item_tree c) o) (Some a) (Some (Some m))
meet_one c None a m fits before greatest = (tt, fits, λ t x y. by t y)
  where
    by : (t : Option ItemTree) → Serves Fits t (Some a) → Serves Fits t (Some m)
    by None y = absurd y
    by (Some t) y = greatest t (λ b is. absurd (cc)) y
meet_one c (Some b) a m fits before greatest = (before b refl, fits, by)
  where
    by : (t : Option ItemTree) → Serves Fits t (Some (item_tree c b)) → Serves Fits t (Some a) → Serves Fits t (Some m)
    by None x y = absurd x
    by (Some t) x y = greatest t (λ other is. let same : b ≡ other = cc in subst (λ k. Fits t (item_tree c k)) same x) y

-- of what was met with one, and then with another where there was none
meet_then : (a x z m n : Option ItemTree) → IsMeetIn (Serves Fits) a x (Some m) → IsMeetIn (Serves Fits) m z (Some n) → ((t : ItemTree) → x ≡ Some t → z ≡ None) → IsMeetIn (Serves Fits) a (option_or x z) (Some n)
meet_then a None z m n g h new = (serves_trans n m a h.0 g.0, h.1, λ t p q. h.2 t (g.2 t p tt) q)
meet_then a (Some x) z m n g h new = (serves_trans n m a h.0 g.0, serves_trans n m (Some x) h.0 g.1, λ t p q. h.2 t (g.2 t p q) (subst (Serves Fits t) (sym (new x refl)) tt))

-- of exports with no others, with one, and with one more
pub met_none : (c : Collection) (es : ExternKinds) → AllStand c (extern_keys es) → AreMetWith c c es [] es
met_none c es st = record {
  on = StepsOn-refl c;
  stand = st;
  serve_first = served_same c c es (λ n y is. Fits-refl (item_tree c y));
  serve_second = λ n. tt;
  meets = λ n. meet_alone (option_map (item_tree c) (lookup bytes_eq es n));
  others = λ n none. refl;
  covered = λ ss g h k. h;
  accounts = λ at s kept all hx hy. (record { stays = accounted_none at (with_own s c) all; roots = none_roots at (with_own s c) all }, hx);
  along = λ ss rs from g h k. h;
}

pub met_put : (c d : Collection) (es ms : ExternKinds) (n : Text) (a m : ItemKind) → StepsOn c d → AllStand c (extern_keys es) → AllStand d (item_keys m) → Fits (item_tree d m) (item_tree c a)
    → ((b : ItemKind) → lookup bytes_eq es n ≡ Some b → Fits (item_tree d m) (item_tree c b))
    → ((t : ItemTree) → ((b : ItemKind) → lookup bytes_eq es n ≡ Some b → Fits t (item_tree c b)) → Fits t (item_tree c a) → Fits t (item_tree d m))
    → ((ss : List Key) → IsGood c ss → Each (IsCovered c ss) (extern_keys es) → Each (IsCovered c ss) (item_keys a) → Each (IsCovered d ss) (item_keys m))
    → ((at : Attempt) (s : State) → IsStateKept (with_own s c) → (all : IsAccounted at (with_own s c)) → AreOpenItems at (with_own s c) es → IsOpenItem at (with_own s c) n a → StaysAlong at (with_own s c) (with_own s d) all × IsOpenItem at (with_own s d) n m)
    → ((ss : List Key) (rs : List Root) (from : Class) → IsGood c ss → Each (LeadsAlongArrows c ss rs from) (extern_keys es) → Each (LeadsAlongArrows c ss rs from) (item_keys a) → Each (LeadsAlongArrows d ss rs from) (item_keys m))
    → ms ≡ insert_entry bytes_eq es n m → AreMetWith c d es ((n, a) ∷ []) ms
met_put c d es ms n a m on st sm fits before greatest covers opens leads put = record {
  on = on;
  stand = rw put (each_put (Stands d) es n m (AllStand-Extends c d on.grows (extern_keys es) st) sm);
  serve_first = λ q. rw (found q) (first q (bytes_eq q n) refl (lookup bytes_eq es q) refl);
  serve_second = λ q. rw (found q) (second (bytes_eq q n) (lookup bytes_eq es q));
  meets = λ q. rw (found q) (met q (bytes_eq q n) refl);
  others = λ q none. found q ∙ other (bytes_eq q n) (lookup bytes_eq es q) none;
  covered = λ ss g h k. rw put (each_put (IsCovered d ss) es n m (covered_on c d on ss g (extern_keys es) st h) (covers ss g h (Each-left (IsCovered c ss) (item_keys a) [] k)));
  accounts = λ at s kept all hx hy.
      let r = opens at s kept all hx (hy n a (Contains-first (n, a) [])) in
      (r.0, λ q x is. placed at s kept all hx r.0.stays r.1 q x (bytes_eq q n) refl (sym (found q) ∙ is));
  along = λ ss rs from g h k. rw put (each_put (LeadsAlongArrows d ss rs from) es n m (along_on c d on.grows ss rs from g (extern_keys es) st h) (leads ss rs from g h (Each-left (LeadsAlongArrows c ss rs from) (item_keys a) [] k)));
}
  where
    -- what stands under a name is what was put there, or what stood
    placed : (at : Attempt) (s : State) → IsStateKept (with_own s c) → IsAccounted at (with_own s c) → AreOpenItems at (with_own s c) es → StaysAccounted at (with_own s c) (with_own s d) → IsOpenItem at (with_own s d) n m
        → (q : Text) (x : ItemKind) (b : Bool) → bytes_eq q n ≡ b → cond b (Some m) (lookup bytes_eq es q) ≡ Some x → IsOpenItem at (with_own s d) q x
    placed at s kept all hx stays new q x true e is =
        let same : m ≡ x = cc in
        subst (λ y. IsOpenItem at (with_own s d) q y) same (subst (λ r. IsOpenItem at (with_own s d) r m) (sym ((bytes_eq-Decides q n).0 e)) new)
    placed at s kept all hx stays new q x false e is =
        items_stay at (with_own s c) (with_own s d) kept (on.steps s.shared kept.good).narrows stays.keys es hx q x is

    found : (q : Text) → lookup bytes_eq ms q ≡ cond (bytes_eq q n) (Some m) (lookup bytes_eq es q)
    found q = ap (λ l. lookup bytes_eq l q) put ∙ lookup-insert_entry es n m q

    first : (q : Text) (b : Bool) → bytes_eq q n ≡ b → (o : Option ItemKind) → lookup bytes_eq es q ≡ o → Serves (λ x y. Fits (item_tree d x) (item_tree c y)) (cond b (Some m) o) o
    first q true e None is = tt
    first q true e (Some y) is = before y (subst (λ r. lookup bytes_eq es r ≡ Some y) ((bytes_eq-Decides q n).0 e) is)
    first q false e None is = tt
    first q false e (Some y) is = subst (λ t. Fits t (item_tree c y)) (sym (on.grows.trees y (each_found (Stands c) es q y is st))) (Fits-refl (item_tree c y))

    same_trees : (q : Text) (o : Option ItemKind) → lookup bytes_eq es q ≡ o → option_map (item_tree d) o ≡ option_map (item_tree c) o
    same_trees q None is = refl
    same_trees q (Some y) is = ap (λ t. Some t) (on.grows.trees y (each_found (Stands c) es q y is st))

    met : (q : Text) (b : Bool) → bytes_eq q n ≡ b → IsMeetIn (Serves Fits) (option_map (item_tree c) (lookup bytes_eq es q)) (option_map (item_tree c) (cond b (Some a) None)) (Some (option_map (item_tree d) (cond b (Some m) (lookup bytes_eq es q))))
    met q true e = subst (λ r. IsMeetIn (Serves Fits) (option_map (item_tree c) (lookup bytes_eq es r)) (Some (item_tree c a)) (Some (Some (item_tree d m)))) (sym ((bytes_eq-Decides q n).0 e))
        (meet_one c (lookup bytes_eq es n) (item_tree c a) (item_tree d m) fits before greatest)
    met q false e = subst (λ o. IsMeetIn (Serves Fits) (option_map (item_tree c) (lookup bytes_eq es q)) None (Some o)) (sym (same_trees q (lookup bytes_eq es q) refl)) (meet_alone (option_map (item_tree c) (lookup bytes_eq es q)))

    other : (b : Bool) (o : Option ItemKind) → cond b (Some a) None ≡ None → cond b (Some m) o ≡ o
    other true o none = absurd (cc)
    other false o none = refl

    second : (b : Bool) (o : Option ItemKind) → Serves (λ x y. Fits (item_tree d x) (item_tree c y)) (cond b (Some m) o) (cond b (Some a) None)
    second true o = fits
    second false o = tt

pub met_then : (c d e : Collection) (es xs ms ns : ExternKinds) (n : Text) (a : ItemKind) → lookup bytes_eq xs n ≡ None → AllStand c (extern_keys es) → AllStand c (item_keys a) → AreMetWith c d es xs ms → AreMetWith d e ms ((n, a) ∷ []) ns → AreMetWith c e es (xs ++ (n, a) ∷ []) ns
met_then c d e es xs ms ns n a absent st sa g h = record {
  on = StepsOn-trans c d e g.on h.on;
  stand = h.stand;
  serve_first = AreServed-trans e d c ns ms es h.serve_first g.serve_first;
  serve_second = served_append e c ns xs ((n, a) ∷ []) (AreServed-trans e d c ns ms xs h.serve_first g.serve_second) (served_from c d g.on e ns ((n, a) ∷ []) (Each-append (Stands c) (item_keys a) [] sa tt) h.serve_second);
  meets = λ q.
      rw (lookup-append bytes_eq xs ((n, a) ∷ []) q)
      (subst (λ o. IsMeetIn (Serves Fits) (option_map (item_tree c) (lookup bytes_eq es q)) o (Some (option_map (item_tree e) (lookup bytes_eq ns q)))) (map_or (lookup bytes_eq xs q) (lookup bytes_eq ((n, a) ∷ []) q))
      (meet_then (option_map (item_tree c) (lookup bytes_eq es q)) (option_map (item_tree c) (lookup bytes_eq xs q)) (option_map (item_tree c) (lookup bytes_eq ((n, a) ∷ []) q)) (option_map (item_tree d) (lookup bytes_eq ms q)) (option_map (item_tree e) (lookup bytes_eq ns q))
      (g.meets q) (subst (λ o. IsMeetIn (Serves Fits) (option_map (item_tree d) (lookup bytes_eq ms q)) o (Some (option_map (item_tree e) (lookup bytes_eq ns q)))) (one_tree q) (h.meets q)) (new q)));
  others = λ q none.
      let parts = none_or (lookup bytes_eq xs q) (lookup bytes_eq ((n, a) ∷ []) q) (sym (lookup-append bytes_eq xs ((n, a) ∷ []) q) ∙ none) in
      h.others q parts.1 ∙ g.others q parts.0;
  covered = λ ss good k j.
      h.covered ss (g.on.steps ss good).good (g.covered ss good k (first_externs (IsCovered c ss) xs ((n, a) ∷ []) j))
      (covered_on c d g.on ss good (item_keys a ++ []) (Each-append (Stands c) (item_keys a) [] sa tt) (last_externs (IsCovered c ss) xs ((n, a) ∷ []) j));
  accounts = λ at s kept all hx hy.
      let first = g.accounts at s kept all hx (λ q x m. hy q x (Contains-append_left xs ((n, a) ∷ []) (q, x) m)) in
      let kept_too = kept_on c d g.on s kept in
      let one = item_on c d g.on at s kept first.0.stays n a (hy n a (Contains-append_right xs ((n, a) ∷ []) (n, a) (Contains-first (n, a) []))) in
      let then = h.accounts at s kept_too first.0.stays.now first.1 (one_open at (with_own s d) n a one) in
      (record { stays = accounted_then at (with_own s c) (with_own s d) (with_own s e) (on_standing c d g.on) first.0.stays then.0.stays; roots = then_roots at (with_own s c) (with_own s d) (with_own s e) (on_standing c d g.on) first.0.stays then.0.stays ∙ then.0.roots ∙ first.0.roots }, then.1);
  along = λ ss rs from good k j.
      h.along ss rs from (g.on.steps ss good).good (g.along ss rs from good k (first_externs (LeadsAlongArrows c ss rs from) xs ((n, a) ∷ []) j))
      (along_on c d g.on.grows ss rs from good (item_keys a ++ []) (Each-append (Stands c) (item_keys a) [] sa tt) (last_externs (LeadsAlongArrows c ss rs from) xs ((n, a) ∷ []) j));
}
  where
    -- the item has its tree
    one_tree : (q : Text) → option_map (item_tree d) (lookup bytes_eq ((n, a) ∷ []) q) ≡ option_map (item_tree c) (lookup bytes_eq ((n, a) ∷ []) q)
    one_tree q = by (bytes_eq q n)
      where
        by : (b : Bool) → option_map (item_tree d) (cond b (Some a) None) ≡ option_map (item_tree c) (cond b (Some a) None)
        by true = ap (λ t. Some t) (g.on.grows.trees a sa)
        by false = refl

    -- where there was one, this isn't it
    new : (q : Text) (t : ItemTree) → option_map (item_tree c) (lookup bytes_eq xs q) ≡ Some t → option_map (item_tree c) (lookup bytes_eq ((n, a) ∷ []) q) ≡ None
    new q t is = by (bytes_eq q n) refl
      where
        by : (b : Bool) → bytes_eq q n ≡ b → option_map (item_tree c) (cond b (Some a) None) ≡ None
        by true same = absurd (let none : None ≡ Some t = sym (ap (option_map (item_tree c)) (ap (lookup bytes_eq xs) ((bytes_eq-Decides q n).0 same) ∙ absent)) ∙ is in cc)
        by false other = refl

    map_or : (x z : Option ItemKind) → option_or (option_map (item_tree c) x) (option_map (item_tree c) z) ≡ option_map (item_tree c) (option_or x z)
    map_or None z = refl
    map_or (Some y) z = refl

    none_or : (x z : Option ItemKind) → option_or x z ≡ None → (x ≡ None) × (z ≡ None)
    none_or None z h = (refl, h)
    none_or (Some y) z h = absurd (cc)

-- what stands under distinct names is found by them
pub found_among : (es : ExternKinds) → IsDistinct bytes_eq (keys_of es) → AreUnhidden es
found_among es h = All-found bytes_eq bytes_eq-Decides es h

-- names of a map are distinct
pub found_by : (es : List (String Global × ItemKind)) → IsDistinct (λ s t. bytes_eq (string_bytes s) (string_bytes t)) (keys_of es) → AreUnhidden (named (λ k. k) es)
found_by es h = found_among (named (λ k. k) es) (IsDistinct-shown string_bytes (λ s t. bytes_eq (string_bytes s) (string_bytes t)) bytes_eq (λ k l. refl) (λ k. k) es h)

-- uses that were put last
pub uses_put : (us vs : List (String Global × UsedType)) → named use_content (with_new (λ s t. bytes_eq (string_bytes s) (string_bytes t)) us vs) ≡ uses_of_both (named use_content us) (named use_content vs)
uses_put us vs = with_new-shown string_bytes use_content (λ s t. bytes_eq (string_bytes s) (string_bytes t)) bytes_eq (λ k l. refl) us vs
