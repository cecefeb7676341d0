-- A call of a plain item: one step of a plain list, or its refusal.
use Rattle.std.proofs.Common.{◌≡◌, ◌≢◌, ℕ, suc, drop, slice_get, Bool, true, false, cond, List, [], ◌∷◌, Option, Some, None, if◌then◌else◌, map, refl, ap, sym, ◌∙◌, subst}
use Rattle.std.proofs.Math.Seq.{drop-cons}
use Rattle.std.proofs.lemmas.Option.{slice_get_within, get_or_from_slice_get}
use Rattle.std.specs.Map.{lookup as lookup_by, keys_of}
use Rattle.std.specs.Option.{option_map}
use Rattle.wac_model.specs.Text.{lookup}
use Rattle.wac_model.specs.Order.{Fits}
use Rattle.wac_component.specs.Height.{keys_height}
use Rattle.wac_component.specs.Key.{Key, AllStand, item_keys}
use Rattle.wac_component.specs.Tree.{item_tree}
use Rattle.wac_component.proofs.Extended.{AllStand-Extends}
use Rattle.wac_names.specs.Class.{Class, class_eq, class_of}
use Rattle.wac_names.proofs.Classes.{classes_decided}
use Rattle.wac_aggregator_promises.specs.Aggregated.{track_imports}
use Rattle.wac_aggregator_promises.specs.Call.{Call, call_track, call_tree}
use Rattle.wac_aggregator_promises.specs.PlainList.{IsPlain}
use Rattle.wac_aggregator_promises.specs.Answer.{ImportTrees, CallsAnswer, accepted, refused}
use Rattle.wac_aggregator_promises.specs.PlainRun.{IsTreeMetWith, IsPlainStep, IsPlainRefusal, IsPlainRun, goes_on, stops, ends, no_import_trees}
use Rattle.wac_aggregator_narrowing.specs.Taking.{IsTakenItem}
use Rattle.wac_aggregator_imports.specs.Import.{ImportContent, ImportsContent, import_of, AreFiled}
use Rattle.wac_aggregator_imports.specs.Left.{listed_imports}
use Rattle.wac_aggregator_imports.proofs.Listed.{classes_listed}
use Rattle.wac_aggregator_taking.specs.Takes.{MayTake, OnlyGrows}
use Rattle.wac_aggregator_taking.specs.declared.state.Merging.{Merging}
use Rattle.wac_aggregator_taking.proofs.Plain.{plain_quiet}
use Rattle.wac_aggregator_taking.proofs.TakeLemmas.{only_grows}
use Rattle.wac_aggregator.specs.Advances.{Advances, CallHasNoMeet}
use Rattle.wac_aggregator.specs.Content.{shown, content_of}
use Rattle.wac_aggregator.proofs.Advancing.{placing, at_of}
use Rattle.wac_aggregator.proofs.Leading.{placed_here, placed_other}

-- what is imported on a track is the import of the class
module _ {V : Type 0} (g : ImportContent → V) where
  pub on_class : (es : List (Class × ImportContent)) (t : Class) → map class_of (keys_of (map (λ (e : Class × ImportContent). e.1) es)) ≡ keys_of es
      → lookup class_eq (map {B = Class × V} (λ (i : ImportContent). (class_of i.0, g i)) (map (λ (e : Class × ImportContent). e.1) es)) t ≡ option_map g (lookup_by (class_eq t) es)
  on_class [] t same = refl
  on_class (e ∷ es) t same =
      let first : class_of e.1.0 ≡ e.0 = cc in
      let rest : map class_of (keys_of (map (λ (x : Class × ImportContent). x.1) es)) ≡ keys_of es = cc in
      rw first (by (class_eq t e.0) (on_class es t rest))
    where
      others : Option V
      others = lookup class_eq (map {B = Class × V} (λ (i : ImportContent). (class_of i.0, g i)) (map (λ (x : Class × ImportContent). x.1) es)) t

      by : (b : Bool) → others ≡ option_map g (lookup_by (class_eq t) es) → (if b then Some (g e.1) else others) ≡ option_map g (cond b (Some e.1) (lookup_by (class_eq t) es))
      by true k = refl
      by false k = k

pub track_import : (a : Merging) (t : Class) → AreFiled a.imports → track_imports (shown (content_of a)) t ≡ option_map (λ (i : ImportContent). item_tree a.types i.1) (import_of a.imports t)
track_import a t filed = on_class (λ (i : ImportContent). item_tree a.types i.1) a.imports.list t (classes_listed a.imports filed)

-- an accepted call
module _ (call : Call) (a b : Merging) (may : MayTake call.types a) (filed_a : AreFiled a.imports) (filed_b : AreFiled b.imports) (h : Advances call a b) (plain : IsPlain call.types call.kind) where
  only : OnlyGrows call.types a h.taken
  only = only_grows call.types a h.taken (keys_height call.types (item_keys call.kind)) (item_keys call.kind) (λ t. IsTakenItem class_of call.types t call.kind h.own) h.takes plain

  own_same : item_tree h.taken.types h.own ≡ call_tree call
  own_same = h.takes.holds.quiet (plain_quiet call.types (item_keys call.kind) plain)

  -- imports that stood keep their trees
  kept_tree : (q : Class) (i : ImportContent) → import_of a.imports q ≡ Some i → (item_tree h.taken.types i.1 ≡ item_tree a.types i.1) × (item_tree b.types i.1 ≡ item_tree a.types i.1)
  kept_tree q i at =
      let name : class_of i.0 ≡ q = filed_a.imports q i at in
      let stands : AllStand a.types (item_keys i.1) = may.kept.imports i.0 i.1 (at_of a.imports i.0 i (ap (import_of a.imports) name ∙ at)) in
      let first = only.grows.trees i.1 stands in
      (first, h.on.grows.trees i.1 (stood (item_keys i.1) stands) ∙ first)
    where
      stood : (ks : List Key) → AllStand a.types ks → AllStand h.taken.types ks
      stood ks st = AllStand-Extends a.types h.taken.types only.grows ks st

  here : IsTreeMetWith (track_imports (shown (content_of a)) (call_track call)) (call_tree call) (track_imports (shown (content_of b)) (call_track call))
  here =
      let now : track_imports (shown (content_of b)) (call_track call) ≡ Some (item_tree b.types h.import)
      = track_import b (call_track call) filed_b ∙ ap (option_map (λ (i : ImportContent). item_tree b.types i.1)) (placed_here a.imports h.taken.imports b.imports call.name h.import (placing call a b may filed_a filed_b h) h.takes.stays) in
      rw now (rw (track_import a (call_track call) filed_a) (by (import_of a.imports (call_track call)) refl))
    where
      by : (o : Option ImportContent) → import_of a.imports (call_track call) ≡ o → IsTreeMetWith (option_map (λ (i : ImportContent). item_tree a.types i.1) o) (call_tree call) (Some (item_tree b.types h.import))
      by None at = h.alone_tree at ∙ own_same
      by (Some i) at =
          let same = (kept_tree (call_track call) i at).0 in (
            subst (Fits (item_tree b.types h.import)) same (h.existing i at),
            subst (Fits (item_tree b.types h.import)) own_same h.fits,
            λ t x y. h.greatest i at t (subst (Fits t) (sym same) x) (subst (Fits t) (sym own_same) y),
          )

  elsewhere : (t : Class) → t ≢ call_track call → track_imports (shown (content_of b)) t ≡ track_imports (shown (content_of a)) t
  elsewhere t ne = track_import b t filed_b ∙ by (class_eq (call_track call) t) refl ∙ sym (track_import a t filed_a)
    where
      same_trees : (o : Option ImportContent) → import_of a.imports t ≡ o → option_map (λ (i : ImportContent). item_tree b.types i.1) o ≡ option_map (λ (i : ImportContent). item_tree a.types i.1) o
      same_trees None at = refl
      same_trees (Some i) at = ap (λ x. Some x) (kept_tree t i at).1

      by : (x : Bool) → class_eq (call_track call) t ≡ x → option_map (λ (i : ImportContent). item_tree b.types i.1) (import_of b.imports t) ≡ option_map (λ (i : ImportContent). item_tree a.types i.1) (import_of a.imports t)
      by true e = absurd (ne (sym ((classes_decided (call_track call) t).0 e)))
      by false e =
          let same : import_of b.imports t ≡ import_of a.imports t
          = placed_other a.imports h.taken.imports b.imports call.name h.import (placing call a b may filed_a filed_b h) h.takes.stays t e ∙ ap (λ is. import_of is t) (h.takes.plain plain) in
          ap (option_map (λ (i : ImportContent). item_tree b.types i.1)) same ∙ same_trees (import_of a.imports t) refl

  pub plain_step : IsPlainStep (track_imports (shown (content_of a))) (track_imports (shown (content_of b))) call
  plain_step = record { here = here; elsewhere = elsewhere }

-- a refused one
pub plain_refusal : (call : Call) (a : Merging) → AreFiled a.imports → CallHasNoMeet call a → IsPlainRefusal (track_imports (shown (content_of a))) call
plain_refusal call a filed h = record {
  tree = item_tree a.types h.import.1;
  stood = track_import a (call_track call) filed ∙ ap (option_map (λ (i : ImportContent). item_tree a.types i.1)) h.stood;
  no_bound = h.no_bound;
}

-- ---- lists

-- the calls from a number on
module _ (calls : List Call) (at : ℕ) (call : Call) (found : slice_get calls at ≡ Some call) where
  rest_at : drop at calls ≡ call ∷ drop (suc at) calls
  rest_at = drop-cons calls at call (slice_get_within calls at call found) ∙ ap (λ x. x ∷ drop (suc at) calls) (get_or_from_slice_get calls at call call found)

  -- one is accepted
  pub run_on : (is js : ImportTrees) → IsPlainStep is js call → ((x : CallsAnswer) → IsPlainRun at is (drop at calls) x → IsPlainRun 0 no_import_trees calls x) → (x : CallsAnswer) → IsPlainRun (suc at) js (drop (suc at) calls) x → IsPlainRun 0 no_import_trees calls x
  run_on is js step before x run = before x (subst (λ cs. IsPlainRun at is cs x) (sym rest_at) (goes_on step run))

  -- or refused
  pub run_stops : (is : ImportTrees) → IsPlainRefusal is call → ((x : CallsAnswer) → IsPlainRun at is (drop at calls) x → IsPlainRun 0 no_import_trees calls x) → IsPlainRun 0 no_import_trees calls (refused at)
  run_stops is refusal before = before (refused at) (subst (λ cs. IsPlainRun at is cs (refused at)) (sym rest_at) (stops refusal))

-- all are accepted
pub run_ends : (calls : List Call) (at : ℕ) (is : ImportTrees) → drop at calls ≡ [] → ((x : CallsAnswer) → IsPlainRun at is (drop at calls) x → IsPlainRun 0 no_import_trees calls x) → IsPlainRun 0 no_import_trees calls (accepted is)
run_ends calls at is none before = before (accepted is) (subst (λ cs. IsPlainRun at is cs (accepted is)) (sym none) ends)

-- before the first there are no imports
pub run_starts : (calls : List Call) (a : Merging) → a.imports ≡ record { list = []; led = [] } → (x : CallsAnswer) → IsPlainRun 0 (track_imports (shown (content_of a))) calls x → IsPlainRun 0 no_import_trees calls x
run_starts calls a none x run = subst (λ (is : ImportsContent). IsPlainRun 0 (λ t. lookup class_eq (map (λ (i : ImportContent). (class_of i.0, item_tree a.types i.1)) (listed_imports is)) t) calls x) none run
