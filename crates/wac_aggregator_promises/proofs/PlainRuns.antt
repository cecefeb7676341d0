-- Plain items that are met one after another.
use Rattle.std.proofs.Common.{◌≡◌, ◌≢◌, ◌⊎◌, inl, inr, refl, subst, sym, ap, ◌∙◌, ℕ, suc, arith, IsSome, List, [], ◌∷◌, ◌++◌, length, Option, Some, None, Contains, append_assoc, append-nil}
use Rattle.std.proofs.lemmas.Bool.{cases_Bool}
use Rattle.std.proofs.lemmas.List.{length-append}
use Rattle.std.proofs.lemmas.List.Elements.{Contains-append_left, Contains-push, Contains-push_cases, All-contains}
use Rattle.wac_model.specs.ItemTree.{ItemTree, item, leaf, resource}
use Rattle.wac_component.specs.Key.{resource_key}
use Rattle.wac_names.specs.Class.{Class, class_eq}
use Rattle.wac_names.proofs.Classes.{classes_decided}
use Rattle.wac_aggregator_promises.specs.Answer.{ImportTrees, CallsAnswer, accepted, AreMeets, IsFirstRefused, IsPlainAnswer}
use Rattle.wac_aggregator_promises.specs.Call.{Call, IsCallOn, IsItemOn, call_track, call_tree}
use Rattle.wac_aggregator_promises.specs.Due.{IsDue, of_name, of_owner}
use Rattle.wac_aggregator_promises.specs.Laws.{PlainRunsAnswer}
use Rattle.wac_aggregator_promises.specs.PlainList.{IsPlain, IsPlainList, IsCompatiblePlainList}
use Rattle.wac_aggregator_promises.specs.PlainRun.{IsTreeMetWith, IsPlainStep, IsPlainRefusal, IsPlainRun, ends, goes_on, stops, no_import_trees}
use Rattle.wac_aggregator_promises.specs.TreeSets.{IsMeetOf, HaveLowerBound}
use Rattle.wac_aggregator_promises.proofs.Among.{take_front, take_with}
use Rattle.wac_aggregator_promises.proofs.Opened.{item_reaches}
use Rattle.wac_aggregator_promises.proofs.Sets.{meet_moves, meet_of_more, no_bound_of_more, meet_of_one}

-- any tree, for a set without trees
pub some_tree : ItemTree
some_tree = leaf item (resource [])

-- what stands on a track: the meet of these trees, or nothing where there are none
abbrev pub StandsOnTrack : (ItemTree → Type 0) → Option ItemTree → Type 0
StandsOnTrack P None = (x : ItemTree) → ¬ P x
StandsOnTrack P (Some m) = IsMeetOf m P × ((x : ItemTree) × P x)

pub bound_standing : (P : ItemTree → Type 0) (o : Option ItemTree) → StandsOnTrack P o → HaveLowerBound P
bound_standing P None h = (some_tree, λ x p. absurd (h x p))
bound_standing P (Some m) h = (m, h.0.is_below)

stands_moves : (P Q : ItemTree → Type 0) → ((x : ItemTree) → P x → Q x) → ((x : ItemTree) → Q x → P x) → (o : Option ItemTree) → StandsOnTrack P o → StandsOnTrack Q o
stands_moves P Q to from None h = λ x q. h x (from x q)
stands_moves P Q to from (Some m) h = (meet_moves P Q to from m h.0, (h.1.0, to h.1.0 h.1.1))

-- one tree more
stands_more : (P Q : ItemTree → Type 0) (t : ItemTree) → ((x : ItemTree) → P x → Q x) → Q t → ((x : ItemTree) → Q x → P x ⊎ (x ≡ t))
    → (before after : Option ItemTree) → StandsOnTrack P before → IsTreeMetWith before t after → StandsOnTrack Q after
stands_more P Q t old new cases None None h g = absurd g
stands_more P Q t old new cases (Some b) None h g = absurd g
stands_more P Q t old new cases None (Some a) h g =
    subst (λ y. StandsOnTrack Q (Some y)) (sym g) (meet_of_one Q t new (λ x q. only x (cases x q)), (t, new))
  where
    only : (x : ItemTree) → P x ⊎ (x ≡ t) → x ≡ t
    only x (inl p) = absurd (h x p)
    only x (inr e) = e
stands_more P Q t old new cases (Some b) (Some a) h g = (meet_of_more P Q t old new cases b a h.0 g, (t, new))

-- the items of a track after one call more
module _ (front : List Call) (c : Call) where
  old_item : (t : Class) (x : ItemTree) → IsItemOn front t x → IsItemOn (front ++ c ∷ []) t x
  old_item t x k = record { call = k.call; is_on = record { among = Contains-append_left front (c ∷ []) k.call k.is_on.among; on_track = k.is_on.on_track }; is_tree = k.is_tree }

  new_item : IsItemOn (front ++ c ∷ []) (call_track c) (call_tree c)
  new_item = record { call = c; is_on = record { among = Contains-push front c; on_track = refl }; is_tree = refl }

  item_cases : (t : Class) (x : ItemTree) → IsItemOn (front ++ c ∷ []) t x → IsItemOn front t x ⊎ ((call_track c ≡ t) × (x ≡ call_tree c))
  item_cases t x k = by_cases (Contains-push_cases front c k.call k.is_on.among)
    where
      by_cases : Contains front k.call ⊎ (c ≡ k.call) → IsItemOn front t x ⊎ ((call_track c ≡ t) × (x ≡ call_tree c))
      by_cases (inl m) = inl record { call = k.call; is_on = record { among = m; on_track = k.is_on.on_track }; is_tree = k.is_tree }
      by_cases (inr e) = inr (ap call_track e ∙ k.is_on.on_track, k.is_tree ∙ ap call_tree (sym e))

  here_cases : (x : ItemTree) → IsItemOn (front ++ c ∷ []) (call_track c) x → IsItemOn front (call_track c) x ⊎ (x ≡ call_tree c)
  here_cases x k = by_cases (item_cases (call_track c) x k)
    where
      by_cases : IsItemOn front (call_track c) x ⊎ ((call_track c ≡ call_track c) × (x ≡ call_tree c)) → IsItemOn front (call_track c) x ⊎ (x ≡ call_tree c)
      by_cases (inl p) = inl p
      by_cases (inr q) = inr q.1

  elsewhere_item : (t : Class) → t ≢ call_track c → (x : ItemTree) → IsItemOn (front ++ c ∷ []) t x → IsItemOn front t x
  elsewhere_item t ne x k = by_cases (item_cases t x k)
    where
      by_cases : IsItemOn front t x ⊎ ((call_track c ≡ t) × (x ≡ call_tree c)) → IsItemOn front t x
      by_cases (inl p) = p
      by_cases (inr q) = absurd (ne (sym q.0))

-- on each track stands what its items are met to
abbrev pub Standing : List Call → ImportTrees → Type 0
Standing front is = (t : Class) → StandsOnTrack (IsItemOn front t) (is t)

pub standing_none : Standing [] no_import_trees
standing_none t x k = absurd (omega (arith, k.is_on.among.1))

pub same_track : (s t : Class) → (s ≡ t) ⊎ (s ≢ t)
same_track s t = elim (cases_Bool (class_eq s t)) [
  | inl e ↦ inl ((classes_decided s t).0 e)
  | inr f ↦ inr (λ e. let yes' = (classes_decided s t).1 e in cc (yes', f))
]

pub standing_more : (front : List Call) (c : Call) (is js : ImportTrees) → Standing front is → IsPlainStep is js c → Standing (front ++ c ∷ []) js
standing_more front c is js h s t = by_cases (same_track t (call_track c))
  where
    by_cases : (t ≡ call_track c) ⊎ (t ≢ call_track c) → StandsOnTrack (IsItemOn (front ++ c ∷ []) t) (js t)
    by_cases (inl e) = subst (λ x. StandsOnTrack (IsItemOn (front ++ c ∷ []) x) (js x)) (sym e)
        (stands_more (IsItemOn front (call_track c)) (IsItemOn (front ++ c ∷ []) (call_track c)) (call_tree c) (old_item front c (call_track c)) (new_item front c) (here_cases front c) (is (call_track c)) (js (call_track c)) (h (call_track c)) s.here)
    by_cases (inr ne) = subst (λ o. StandsOnTrack (IsItemOn (front ++ c ∷ []) t) o) (sym (s.elsewhere t ne))
        (stands_moves (IsItemOn front t) (IsItemOn (front ++ c ∷ []) t) (old_item front c t) (elsewhere_item front c t ne) (is t) (h t))

-- a refused call
pub refused_with : (front : List Call) (c : Call) (is : ImportTrees) → Standing front is → IsPlainRefusal is c → ¬ IsCompatiblePlainList (front ++ c ∷ [])
refused_with front c is h r k =
    let m = subst (λ o. StandsOnTrack (IsItemOn front (call_track c)) o) r.stood (h (call_track c)) in
    no_bound_of_more (IsItemOn front (call_track c)) (IsItemOn (front ++ c ∷ []) (call_track c)) (call_tree c) (old_item front c (call_track c)) (new_item front c) (here_cases front c) r.tree m.0 r.no_bound (k (call_track c))

-- the imports of a plain list stand on its due tracks
module _ (calls : List Call) (is : ImportTrees) (p : IsPlainList calls) (h : Standing calls is) where
  no_owner : (t : Class) → IsDue calls t → (c : Call) × IsCallOn calls t c
  no_owner t (of_name c k) = (c, k)
  no_owner t (of_owner c m o) =
      let q = All-contains (λ (x : Call). IsPlain x.types x.kind) calls c p m in
      let none = q.no_owner o.resource (item_reaches c.types c.kind (resource_key o.resource) o.reached) in
      let some = o.owned in
      absurd (cc (none, some))

  is_due : (t : Class) (o : Option ItemTree) → StandsOnTrack (IsItemOn calls t) o → IsDue calls t → IsSome o
  is_due t None none d = let k = no_owner t d in absurd (none (call_tree k.0) record { call = k.0; is_on = k.1; is_tree = refl })
  is_due t (Some m) s d = refl

  due_of : (t : Class) (o : Option ItemTree) → StandsOnTrack (IsItemOn calls t) o → IsSome o → IsDue calls t
  due_of t None none e = absurd (cc e)
  due_of t (Some m) s e = of_name s.1.1.call s.1.1.is_on

  pub plain_meets : AreMeets (IsItemOn calls) calls is
  plain_meets = record {
    due = λ t. (is_due t (is t) (h t), due_of t (is t) (h t));
    meets = λ t m e. (subst (λ o. StandsOnTrack (IsItemOn calls t) o) e (h t)).0;
  }

  pub plain_compatible : IsCompatiblePlainList calls
  plain_compatible t = bound_standing (IsItemOn calls t) (is t) (h t)

run_from : {n : ℕ} {is : ImportTrees} {cs : List Call} {a : CallsAnswer} (front : List Call) → IsPlainRun n is cs a → n ≡ length front → IsPlainList (front ++ cs) → Standing front is → IsPlainAnswer (front ++ cs) a
run_from {is = is} front ends e p h =
    let same = append-nil front in
    let p' = subst (λ (l : List Call). IsPlainList l) same p in
    subst (λ (l : List Call). IsPlainAnswer l (accepted is)) (sym same) (plain_compatible front is p' h, plain_meets front is p' h)
run_from {a = a} front (goes_on {n} {is} {js} {c} {cs} s r) e p h =
    let same : (front ++ c ∷ []) ++ cs ≡ front ++ c ∷ cs = append_assoc front (c ∷ []) cs in
    let long : suc n ≡ length (front ++ c ∷ []) = omega (arith, e, length-append front (c ∷ [])) in
    subst (λ (l : List Call). IsPlainAnswer l a) same (run_from (front ++ c ∷ []) r long (subst (λ (l : List Call). IsPlainList l) (sym same) p) (standing_more front c is js h s))
run_from front (stops {n} {is} {c} {cs} r) e p h = subst (λ m. IsFirstRefused IsCompatiblePlainList (front ++ c ∷ cs) m) (sym e) record {
  is_call = omega (arith, length-append front (c ∷ cs));
  before = subst (λ (l : List Call). IsCompatiblePlainList l) (sym (take_front front (c ∷ cs))) (λ t. bound_standing (IsItemOn front t) (is t) (h t));
  with_it = subst (λ (l : List Call). ¬ IsCompatiblePlainList l) (sym (take_with front c cs)) (refused_with front c is h r);
}

pub plain_runs_answer : PlainRunsAnswer
plain_runs_answer calls a p r = run_from [] r refl p standing_none
