-- Lists of named core externs, met and joined: what stands at each name there,
-- and where each entry comes from. What comes from valid externs is valid.
use Rattle.std.proofs.Common.{◌≡◌, true, refl, sym, ap, subst, ◌∙◌, Bool, List, [], ◌∷◌, ◌++◌, map, Option, None, Some, option_map, All, String, Global, string_bytes}
use Rattle.std.specs.Bool.{Decides}
use Rattle.std.specs.Cmp.{IsEquivalence}
use Rattle.std.specs.Option.{option_or}
use Rattle.std.specs.List.{IsDistinct, list_all}
use Rattle.std.specs.Map.{keys_of, lookup as lookup_by}
use Rattle.std.proofs.lemmas.List.Elements.{All-head, All-tail, All-weaker}
use Rattle.std.proofs.lemmas.List.Folds.{list_all-append}
use Rattle.std.specs.Str.{bytes_eq}
use Rattle.wac_model.specs.Text.{Text, ImportName, lookup, import_name_eq}
use Rattle.wac_model.specs.CoreTree.{CoreTree, Serves, is_valid_extern, ModuleContent, is_valid_module}
use Rattle.wac_model.proofs.CoreOrder.{CoreFits-refl, CoreFits-antisym}
use Rattle.wac_model.proofs.Lookups.{lookup-shown, IsDistinct-shown}
use Rattle.wac_model.proofs.Serves.{Serves-refl}
use Rattle.wac_bounds.specs.MeetIn.{IsMeetIn}
use Rattle.wac_bounds.specs.Valid.{ValidFits}
use Rattle.wac_bounds.proofs.CoreMeet.{valid_above}
use Rattle.wac_bounds.proofs.ValidLemmas.{and_first, and_second, and_both, are_valid, IsValidAt, found_valid, valid_refl, export_valid, import_valid}
use Rattle.indexmap.specs.IndexMap.{IndexMap, IsClone}
use Rattle.wac_core.specs.Content.{core_tree, import_name}
use Rattle.wac_core.proofs.CloneLemmas.{entries-clones, import_name-same}
use Rattle.wac_core.specs.declared.externs.CoreExtern.{CoreExtern}
use Rattle.wac_core_merge.specs.Names.{put, with_new}
use Rattle.wac_core_merge.specs.Entries.{AreValid, IsMeetAt, IsJoinAt, ReplacesEach, core_extern_at, IsEachMet, IsEachJoined, HasNoMeet, AreAllMet}
use Rattle.wac_core_merge.specs.NameOrder.{HasAllNames, HasSomeNames}
use Rattle.wac_core_merge.specs.Origin.{IsFrom, from_first, from_second, from_meet, from_join, IsModuleFrom}
use Rattle.wac_core_merge.proofs.NameLemmas.{lookup-by_test, lookup_at_turn, All-with_new, lookup-with_new, with_new-shown, keys-with_new}
use Rattle.wac_core_merge.proofs.EntryLemmas.{Replaces-turn, Replaces-absent, Replaces-All, Replaces-at, Replaces-names, Replaces-some_names, All-found, Replaces-shown}

met_from : (a b : Option CoreTree) (v w : CoreTree) → a ≡ Some v → IsMeetAt (Some v) b (Some w) → IsFrom a b w
met_from a None v w at m = from_first (at ∙ ap Some (CoreFits-antisym v w (m.2 (Some v) (m.0.1, m.0.1, CoreFits-refl v) tt).2 m.0.2))
met_from a (Some u) v w at m = from_meet v u at refl (m.0, m.1, λ c. m.2 (Some c))

joined_from : (a b : Option CoreTree) (v w : CoreTree) → a ≡ Some v → IsJoinAt (Some v) b (Some w) → IsFrom a b w
joined_from a None v w at m = absurd m.1
joined_from a (Some u) v w at m = from_join v u at refl (m.0, m.1, λ c. m.2 (Some c))

module _ {K : Type 0} (is_same : K → K → Bool) (decides : (m n : K) → Decides (is_same m n) (m ≡ n)) (es ts : List (K × CoreTree)) (distinct : IsDistinct is_same (keys_of es)) where
  abbrev MeetHere : K → CoreTree → Option CoreTree → Type 0
  MeetHere n v o = IsMeetAt (Some v) (lookup is_same ts n) o

  abbrev JoinHere : K → CoreTree → Option CoreTree → Type 0
  JoinHere n v o = IsJoinAt (Some v) (lookup is_same ts n) o

  abbrev ComesFrom : K × CoreTree → Type 0
  ComesFrom e = IsFrom (lookup is_same es e.0) (lookup is_same ts e.0) e.1

  meets_at : are_valid ts ≡ true → (each : List (K × CoreTree)) → ReplacesEach MeetHere es each → (n : K) → IsMeetAt (lookup is_same es n) (lookup is_same ts n) (lookup is_same (with_new is_same each ts) n)
  meets_at valid each h n = subst (IsMeetAt (lookup is_same es n) (lookup is_same ts n)) (sym (lookup-with_new is_same decides each ts n)) (go (lookup is_same es n) refl)
    where
      kept : (v : CoreTree) (o : Option CoreTree) → IsMeetAt (Some v) (lookup is_same ts n) o → IsMeetAt (Some v) (lookup is_same ts n) (option_or o (lookup is_same ts n))
      kept v None r = absurd r.0
      kept v (Some w) r = r

      go : (o : Option CoreTree) → lookup is_same es n ≡ o → IsMeetAt o (lookup is_same ts n) (option_or (lookup is_same each n) (lookup is_same ts n))
      go (Some v) p = kept v (lookup is_same each n) (Replaces-at is_same decides MeetHere es each distinct h n v p)
      go None p = rw (Replaces-absent is_same MeetHere es each n h p) (tt, Serves-refl ValidFits (lookup is_same ts n) (valid_refl (lookup is_same ts n) (found_valid is_same ts valid n)), λ c p q. q)

  joins_at : (ms : List (K × CoreTree)) → ReplacesEach JoinHere es ms → (n : K) → IsJoinAt (lookup is_same es n) (lookup is_same ts n) (lookup is_same ms n)
  joins_at ms h n = go (lookup is_same es n) refl
    where
      go : (o : Option CoreTree) → lookup is_same es n ≡ o → IsJoinAt o (lookup is_same ts n) (lookup is_same ms n)
      go (Some v) p = Replaces-at is_same decides JoinHere es ms distinct h n v p
      go None p = rw (Replaces-absent is_same JoinHere es ms n h p) (tt, tt, λ c p q. p)

  meets_from : (each : List (K × CoreTree)) → ReplacesEach MeetHere es each → IsDistinct is_same (keys_of ts) → All ComesFrom (with_new is_same each ts)
  meets_from each h distinct_too =
      All-with_new is_same ComesFrom each ts
      (Replaces-All is_same MeetHere ComesFrom es each h
      (All-weaker (λ e. lookup is_same es e.0 ≡ Some e.1) (λ e. (v : CoreTree) → MeetHere e.0 e.1 (Some v) → ComesFrom (e.0, v)) (λ e at v m. met_from _ _ e.1 v at m) es (All-found is_same decides es distinct)))
      (All-weaker (λ t. lookup is_same ts t.0 ≡ Some t.1) ComesFrom (λ t. from_second) ts (All-found is_same decides ts distinct_too))

  meets_names : (each : List (K × CoreTree)) → ReplacesEach MeetHere es each → HasAllNames is_same es ts (with_new is_same each ts)
  meets_names each h = keys-with_new is_same each es ts (Replaces-names MeetHere (λ k v m. m.0) es each h)

  joins_from : (ms : List (K × CoreTree)) → ReplacesEach JoinHere es ms → All ComesFrom ms
  joins_from ms h =
      Replaces-All is_same JoinHere ComesFrom es ms h
      (All-weaker (λ e. lookup is_same es e.0 ≡ Some e.1) (λ e. (v : CoreTree) → JoinHere e.0 e.1 (Some v) → ComesFrom (e.0, v)) (λ e at v m. joined_from _ _ e.1 v at m) es (All-found is_same decides es distinct))

-- what comes from valid externs is valid
origin_valid : (a b : Option CoreTree) (v : CoreTree) → IsValidAt a → IsValidAt b → IsFrom a b v → is_valid_extern v ≡ true
origin_valid a b v va vb (from_first e) = va v e
origin_valid a b v va vb (from_second e) = vb v e
origin_valid a b v va vb (from_meet x y e f m) = m.0.0
origin_valid a b v va vb (from_join x y e f m) = valid_above x v m.0 (va x e)

module _ {K : Type 0} (a b : K → Option CoreTree) (va : (n : K) → IsValidAt (a n)) (vb : (n : K) → IsValidAt (b n)) where
  all_valid : (es : List (K × CoreTree)) → All (λ e. IsFrom (a e.0) (b e.0) e.1) es → are_valid es ≡ true
  all_valid [] h = refl
  all_valid (e ∷ es) h =
      and_both (is_valid_extern e.1) (are_valid es) (origin_valid (a e.0) (b e.0) e.1 (va e.0) (vb e.0) (All-head (λ e. IsFrom (a e.0) (b e.0) e.1) e es h))
      (all_valid es (All-tail (λ e. IsFrom (a e.0) (b e.0) e.1) e es h))

pub module_from_valid : (a b m : ModuleContent) → is_valid_module a ≡ true → is_valid_module b ≡ true → IsModuleFrom a b m → is_valid_module m ≡ true
module_from_valid a b m va vb h =
    and_both (are_valid m.imports) (are_valid m.exports)
    (all_valid (lookup import_name_eq a.imports) (lookup import_name_eq b.imports) (import_valid a va) (import_valid b vb) m.imports h.imports)
    (all_valid (lookup bytes_eq a.exports) (lookup bytes_eq b.exports) (export_valid a va) (export_valid b vb) m.exports h.exports)

-- the extern whose turn it is, of a list of valid ones
pub valid_turn : {K : Type 0} (all done rest left : List (K × CoreExtern)) (n : K) (v : CoreExtern) → AreValid all → all ≡ done ++ rest → rest ≡ (n, v) ∷ left → is_valid_extern (core_tree v) ≡ true
valid_turn {K} all done rest left n v valid split here =
    let test : K × CoreExtern → Bool = λ e. is_valid_extern (core_tree e.1) in
    let whole : list_all test (done ++ (n, v) ∷ left) ≡ true = subst (λ l. list_all test l ≡ true) (split ∙ ap (λ l. done ++ l) here) valid in
    and_first (is_valid_extern (core_tree v)) (list_all test left) (and_second (list_all test done) (list_all test ((n, v) ∷ left)) (sym (list_all-append test done ((n, v) ∷ left)) ∙ whole))

-- what is shown of externs is valid where they are
pub shown_are_valid : {K L : Type 0} (show_key : K → L) (es : List (K × CoreExtern)) → are_valid (map {A = K × CoreExtern} {B = L × CoreTree} (λ e. (show_key e.0, core_tree e.1)) es) ≡ true → AreValid es
shown_are_valid show_key [] h = refl
shown_are_valid show_key (e ∷ es) h =
    and_both (is_valid_extern (core_tree e.1)) _ (and_first (is_valid_extern (core_tree e.1)) _ h) (shown_are_valid show_key es (and_second (is_valid_extern (core_tree e.1)) _ h))

-- one more extern of a list that is taken entry by entry
module _ {K : Type 0} {eq : K → K → Bool} (laws : IsEquivalence eq) (all done rest left ts : List (K × CoreExtern)) (n : K) (v : CoreExtern)
    (distinct : IsDistinct eq (keys_of all)) (split : all ≡ done ++ rest) (here : rest ≡ (n, v) ∷ left) (there : Option CoreExtern) (found : there ≡ lookup_by (eq n) ts) (o : Option CoreExtern) where
  at : option_map core_tree there ≡ core_extern_at eq ts n
  at = ap (option_map core_tree) found

  module _ (met : IsMeetIn (Serves ValidFits) (Some (core_tree v)) (option_map core_tree there) (option_map Some (option_map core_tree o))) where
    pub meet_turn : (w : CoreExtern) → o ≡ Some w → (so_far new : List (K × CoreExtern)) → IsEachMet eq done ts so_far → new ≡ with_new eq so_far ((n, w) ∷ [])
        → (all ≡ (done ++ (n, v) ∷ []) ++ left) × IsEachMet eq (done ++ (n, v) ∷ []) ts new
    meet_turn w is so_far new h new_is =
        Replaces-turn laws (λ n v o. IsMeetAt (Some (core_tree v)) (core_extern_at eq ts n) (option_map core_tree o)) all done rest left so_far new (n, v) (Some w) distinct split here h
        (subst (λ x. IsMeetAt (Some (core_tree v)) x (Some (core_tree w))) at (subst (λ p. IsMeetIn (Serves ValidFits) (Some (core_tree v)) (option_map core_tree there) (option_map Some (option_map core_tree p))) is met)) new_is

    pub no_meet_turn : o ≡ None → HasNoMeet eq all ts
    no_meet_turn is =
        let first : core_extern_at eq all n ≡ Some (core_tree v) = ap (option_map core_tree) (sym (lookup-by_test eq all n) ∙ lookup_at_turn laws all done rest left (n, v) distinct split here) in (
          n,
          subst (λ x. IsMeetIn (Serves ValidFits) x (core_extern_at eq ts n) None) (sym first)
              (subst (λ x. IsMeetIn (Serves ValidFits) (Some (core_tree v)) x None) at (subst (λ p. IsMeetIn (Serves ValidFits) (Some (core_tree v)) (option_map core_tree there) (option_map Some (option_map core_tree p))) is met)),
        )

  pub join_turn : IsJoinAt (Some (core_tree v)) (option_map core_tree there) (option_map core_tree o) → (so_far new : List (K × CoreExtern)) → IsEachJoined eq done ts so_far → new ≡ with_new eq so_far (put n o [])
      → (all ≡ (done ++ (n, v) ∷ []) ++ left) × IsEachJoined eq (done ++ (n, v) ∷ []) ts new
  join_turn joined so_far new h new_is =
      Replaces-turn laws (λ n v o. IsJoinAt (Some (core_tree v)) (core_extern_at eq ts n) (option_map core_tree o)) all done rest left so_far new (n, v) o distinct split here h
      (subst (λ x. IsJoinAt (Some (core_tree v)) x (option_map core_tree o)) at joined) new_is

-- the same of the trees of two lists of externs, whose names are shown
module _ {K L : Type 0} (show_key : K → L) (eq : K → K → Bool) (is_same : L → L → Bool) (agree : (k l : K) → eq k l ≡ is_same (show_key k) (show_key l)) (decides : (m n : L) → Decides (is_same m n) (m ≡ n)) where
  abbrev shown : List (K × CoreExtern) → List (L × CoreTree)
  shown = map {A = K × CoreExtern} {B = L × CoreTree} (λ e. (show_key e.0, core_tree e.1))

  same_at : (es : List (K × CoreExtern)) (k : K) → core_extern_at eq es k ≡ lookup is_same (shown es) (show_key k)
  same_at es k = lookup-shown show_key core_tree (eq k) is_same (show_key k) (λ l. agree k l) es

  module _ (es ts : List (K × CoreExtern)) where
    each_met : (each : List (K × CoreExtern)) → IsEachMet eq es ts each → ReplacesEach (λ n v o. IsMeetAt (Some v) (lookup is_same (shown ts) n) o) (shown es) (shown each)
    each_met each h = Replaces-shown show_key core_tree _ _ (λ k v o. subst (λ x. IsMeetAt (Some (core_tree v)) x (option_map core_tree o)) (same_at ts k)) es each h

    each_joined : (ms : List (K × CoreExtern)) → IsEachJoined eq es ts ms → ReplacesEach (λ n v o. IsJoinAt (Some v) (lookup is_same (shown ts) n) o) (shown es) (shown ms)
    each_joined ms h = Replaces-shown show_key core_tree _ _ (λ k v o. subst (λ x. IsJoinAt (Some (core_tree v)) x (option_map core_tree o)) (same_at ts k)) es ms h

    module _ (xs ys : List (L × CoreTree)) (first : shown es ≡ xs) (second : shown ts ≡ ys) where
      pub no_meet_at : HasNoMeet eq es ts → (n : L) × IsMeetIn (Serves ValidFits) (lookup is_same xs n) (lookup is_same ys n) None
      no_meet_at h =
          let n = show_key h.0 in
          let at_first : core_extern_at eq es h.0 ≡ lookup is_same xs n = same_at es h.0 ∙ ap (λ l. lookup is_same l n) first in
          let at_second : core_extern_at eq ts h.0 ≡ lookup is_same ys n = same_at ts h.0 ∙ ap (λ l. lookup is_same l n) second in
          (n, subst (λ x. IsMeetIn (Serves ValidFits) x (lookup is_same ys n) None) at_first (subst (λ y. IsMeetIn (Serves ValidFits) (core_extern_at eq es h.0) y None) at_second h.1))

      module _ (distinct : IsDistinct eq (keys_of es)) (ms : List (K × CoreExtern)) where
        distinct_names : IsDistinct is_same (keys_of (shown es))
        distinct_names = IsDistinct-shown show_key eq is_same agree core_tree es distinct

        pub meet_at : are_valid ys ≡ true → AreAllMet eq es ts (Some ms) → (n : L) → IsMeetAt (lookup is_same xs n) (lookup is_same ys n) (lookup is_same (shown ms) n)
        meet_at valid h n =
            let is : shown ms ≡ with_new is_same (shown h.0) (shown ts) = ap shown h.2 ∙ with_new-shown show_key core_tree eq is_same agree h.0 ts in
            subst (λ l. IsMeetAt (lookup is_same l n) (lookup is_same ys n) (lookup is_same (shown ms) n)) first
            (subst (λ l. IsMeetAt (lookup is_same (shown es) n) (lookup is_same l n) (lookup is_same (shown ms) n)) second
            (subst (λ l. IsMeetAt (lookup is_same (shown es) n) (lookup is_same (shown ts) n) (lookup is_same l n)) (sym is)
            (meets_at is_same decides (shown es) (shown ts) distinct_names (rw second valid) (shown h.0) (each_met h.0 h.1) n)))

        pub meet_from : IsDistinct eq (keys_of ts) → AreAllMet eq es ts (Some ms) → All (λ e. IsFrom (lookup is_same xs e.0) (lookup is_same ys e.0) e.1) (shown ms)
        meet_from distinct_too h =
            let is : shown ms ≡ with_new is_same (shown h.0) (shown ts) = ap shown h.2 ∙ with_new-shown show_key core_tree eq is_same agree h.0 ts in
            subst (λ l. All (λ e. IsFrom (lookup is_same l e.0) (lookup is_same ys e.0) e.1) (shown ms)) first
            (subst (λ l. All (λ e. IsFrom (lookup is_same (shown es) e.0) (lookup is_same l e.0) e.1) (shown ms)) second
            (subst (All (λ e. IsFrom (lookup is_same (shown es) e.0) (lookup is_same (shown ts) e.0) e.1)) (sym is)
            (meets_from is_same decides (shown es) (shown ts) distinct_names (shown h.0) (each_met h.0 h.1) (IsDistinct-shown show_key eq is_same agree core_tree ts distinct_too))))

        pub meet_names : AreAllMet eq es ts (Some ms) → HasAllNames is_same xs ys (shown ms)
        meet_names h =
            let is : shown ms ≡ with_new is_same (shown h.0) (shown ts) = ap shown h.2 ∙ with_new-shown show_key core_tree eq is_same agree h.0 ts in
            subst (λ l. HasAllNames is_same l ys (shown ms)) first
            (subst (λ l. HasAllNames is_same (shown es) l (shown ms)) second
            (subst (HasAllNames is_same (shown es) (shown ts)) (sym is)
            (meets_names is_same decides (shown es) (shown ts) distinct_names (shown h.0) (each_met h.0 h.1))))

        pub join_names : IsEachJoined eq es ts ms → HasSomeNames is_same xs (shown ms)
        join_names h =
            subst (λ l. HasSomeNames is_same l (shown ms)) first
            (Replaces-some_names is_same decides (λ n v o. IsJoinAt (Some v) (lookup is_same (shown ts) n) o) (shown es) (shown ms) distinct_names (each_joined ms h))

        pub join_at : IsEachJoined eq es ts ms → (n : L) → IsJoinAt (lookup is_same xs n) (lookup is_same ys n) (lookup is_same (shown ms) n)
        join_at h n =
            subst (λ l. IsJoinAt (lookup is_same l n) (lookup is_same ys n) (lookup is_same (shown ms) n)) first
            (subst (λ l. IsJoinAt (lookup is_same (shown es) n) (lookup is_same l n) (lookup is_same (shown ms) n)) second
            (joins_at is_same decides (shown es) (shown ts) distinct_names (shown ms) (each_joined ms h) n))

        pub join_from : IsEachJoined eq es ts ms → All (λ e. IsFrom (lookup is_same xs e.0) (lookup is_same ys e.0) e.1) (shown ms)
        join_from h =
            subst (λ l. All (λ e. IsFrom (lookup is_same l e.0) (lookup is_same ys e.0) e.1) (shown ms)) first
            (subst (λ l. All (λ e. IsFrom (lookup is_same (shown es) e.0) (lookup is_same l e.0) e.1) (shown ms)) second
            (joins_from is_same decides (shown es) (shown ts) distinct_names (shown ms) (each_joined ms h)))

-- clones show what their sources show
pub exports_cloned : {S : Type 0} (m n : IndexMap (String Global) CoreExtern S) → IsClone (λ k l. string_bytes l ≡ string_bytes k) (λ u v. core_tree v ≡ core_tree u) m n
    → map {A = String Global × CoreExtern} {B = Text × CoreTree} (λ e. (string_bytes e.0, core_tree e.1)) n.entries ≡ map (λ e. (string_bytes e.0, core_tree e.1)) m.entries
exports_cloned m n h = entries-clones string_bytes core_tree (λ k l same. same) (λ u v same. same) m n h

pub imports_cloned : {S : Type 0} (m n : IndexMap (String Global × String Global) CoreExtern S)
    → IsClone (λ k l. (string_bytes l.0 ≡ string_bytes k.0) × (string_bytes l.1 ≡ string_bytes k.1)) (λ u v. core_tree v ≡ core_tree u) m n
    → map {A = (String Global × String Global) × CoreExtern} {B = ImportName × CoreTree} (λ e. (import_name e.0, core_tree e.1)) n.entries ≡ map (λ e. (import_name e.0, core_tree e.1)) m.entries
imports_cloned m n h = entries-clones import_name core_tree (λ k l same. import_name-same k l same.0 same.1) (λ u v same. same) m n h
