-- Plain items can be met one after another.
use Rattle.std.proofs.Common.{◌≡◌, ◌≢◌, inl, inr, refl, subst, sym, ℕ, suc, List, [], ◌∷◌, Option, Some, None}
use Rattle.std.proofs.lemmas.Bool.{cases_Bool}
use Rattle.wac_model.specs.ItemTree.{ItemTree}
use Rattle.wac_model.specs.Order.{Fits}
use Rattle.wac_bounds.specs.MeetIn.{IsMeetIn}
use Rattle.wac_bounds.proofs.TreeMeet.{tree_meet}
use Rattle.wac_bounds.proofs.TreeMeetIs.{tree_meet_is}
use Rattle.wac_names.specs.Class.{Class, class_eq}
use Rattle.wac_names.proofs.Classes.{classes_decided}
use Rattle.wac_aggregator_promises.specs.Answer.{ImportTrees, CallsAnswer, accepted, refused}
use Rattle.wac_aggregator_promises.specs.Call.{Call, call_track, call_tree}
use Rattle.wac_aggregator_promises.specs.Laws.{PlainRunsExist}
use Rattle.wac_aggregator_promises.specs.PlainRun.{IsTreeMetWith, IsPlainStep, IsPlainRun, ends, goes_on, stops, no_import_trees, with_import}

-- what stands on the track, and on others
at_track : (is : ImportTrees) (t : Class) (m : ItemTree) → with_import is t m t ≡ Some m
at_track is t m = rw ((classes_decided t t).1 refl) refl

off_track : (is : ImportTrees) (t : Class) (m : ItemTree) (s : Class) → s ≢ t → with_import is t m s ≡ is s
off_track is t m s ne = elim (cases_Bool (class_eq s t)) [
  | inl e ↦ absurd (ne ((classes_decided s t).0 e))
  | inr f ↦ rw f refl
]

step_with : (is : ImportTrees) (c : Call) (m : ItemTree) → IsTreeMetWith (is (call_track c)) (call_tree c) (Some m) → IsPlainStep is (with_import is (call_track c) m) c
step_with is c m h = record {
  here = subst (λ (o : Option ItemTree). IsTreeMetWith (is (call_track c)) (call_tree c) o) (sym (at_track is (call_track c) m)) h;
  elsewhere = off_track is (call_track c) m;
}

run_after : (calls : List Call) (n : ℕ) (is : ImportTrees) → (a : CallsAnswer) × IsPlainRun n is calls a
run_after [] n is = (accepted is, ends)
run_after (c ∷ calls) n is = at_import (λ js. run_after calls (suc n) js) (is (call_track c)) refl
  where
    with_meet : ((js : ImportTrees) → (a : CallsAnswer) × IsPlainRun (suc n) js calls a) → (t : ItemTree) → is (call_track c) ≡ Some t → (o : Option ItemTree) → IsMeetIn Fits t (call_tree c) o → (a : CallsAnswer) × IsPlainRun n is (c ∷ calls) a
    with_meet rest t e None h = (refused n, stops record { tree = t; stood = e; no_bound = h })
    with_meet rest t e (Some m) h =
        let r = rest (with_import is (call_track c) m) in
        (r.0, goes_on (step_with is c m (subst (λ (o : Option ItemTree). IsTreeMetWith o (call_tree c) (Some m)) (sym e) h)) r.1)

    at_import : ((js : ImportTrees) → (a : CallsAnswer) × IsPlainRun (suc n) js calls a) → (o : Option ItemTree) → is (call_track c) ≡ o → (a : CallsAnswer) × IsPlainRun n is (c ∷ calls) a
    at_import rest None e =
        let r = rest (with_import is (call_track c) (call_tree c)) in
        (r.0, goes_on (step_with is c (call_tree c) (subst (λ (o : Option ItemTree). IsTreeMetWith o (call_tree c) (Some (call_tree c))) (sym e) refl)) r.1)
    at_import rest (Some t) e = with_meet rest t e (tree_meet t (call_tree c)) (tree_meet_is t (call_tree c))

pub plain_runs_exist : PlainRunsExist
plain_runs_exist calls = run_after calls 0 no_import_trees
