-- A call that hands in an instance of an interface as WIT gives it, under its identifier.
use Rattle.std.proofs.Common.{◌≡◌, [], ◌∷◌, List, Option, Some, None, Result, Ok, Err, ℕ, inl, refl, ap, sym, ◌∙◌, subst}
use Rattle.std.proofs.lemmas.Result.{MatchResult-weaker}
use Rattle.std.specs.Result.{MatchResult, IfErr}
use Rattle.std.specs.Option.{option_map}
use Rattle.wac_model.proofs.ItemOrder.{Fits-refl}
use Rattle.wac_component.specs.Collection.{Collection}
use Rattle.wac_component.specs.Height.{keys_height}
use Rattle.wac_component.specs.Id.{Id}
use Rattle.wac_component.specs.Key.{AllStand, item_keys, interface_key}
use Rattle.wac_component.specs.Reach.{IsAmong}
use Rattle.wac_component.specs.Sound.{IsSound}
use Rattle.wac_component.specs.Tree.{item_tree}
use Rattle.wac_component.specs.declared.items.ItemKind.{ItemKind}
use Rattle.wac_component.specs.declared.items.ItemKind.TheVariants.{Instance}
use Rattle.wac_component.proofs.Extended.{Extends-refl}
use Rattle.wac_merge.specs.Built.{OnlyBuilds, AreOnes, first}
use Rattle.wac_merge.specs.declared.memo.Bound.TheVariants.{Meet}
use Rattle.wac_names.specs.Class.{Class, class_of}
use Rattle.wac_aggregator_promises.specs.Call.{Call, call_track}
use Rattle.wac_aggregator_promises.specs.Shared.{TakenIds}
use Rattle.wac_aggregator_promises.proofs.TakenIn.{sharing_goes_on}
use Rattle.wac_aggregator_imports.specs.Import.{ImportContent, import_of}
use Rattle.wac_aggregator_narrowing.specs.State.{IsStateKept}
use Rattle.wac_aggregator_narrowing.specs.Taking.{IsTakenKey, IsTakenItem, AreTakenKeys}
use Rattle.wac_aggregator_narrowing.specs.Traced.{Arrows}
use Rattle.wac_aggregator_narrowing.proofs.Tracing.{traced_added}
use Rattle.wac_aggregator_taking.specs.Growing.{StepsOn, IsOwnMeet}
use Rattle.wac_aggregator_promises.specs.Reason.{CallRefusal}
use Rattle.wac_aggregator_errors.specs.declared.error.AggregateError.{AggregateError}
use Rattle.wac_aggregator_errors.specs.declared.error.AggregateError.TheVariants.{Memory}
use Rattle.wac_aggregator_taking.specs.Members.{HasTakenIn, TakesMembers, IsOfMerging, IsMemberRefusal, AnswersMembers, roots_of}
use Rattle.wac_aggregator_errors.specs.Said.{said}
use Rattle.wac_aggregator_taking.specs.Takes.{shared_in, shared_keys, state_of, MayTake, Takes}
use Rattle.wac_aggregator_taking.specs.declared.state.Merging.{Merging}
use Rattle.wac_aggregator_taking.proofs.GrowLemmas.{built_met}
use Rattle.wac_aggregator_taking.proofs.Identifiers.{identifier_of}
use Rattle.wac_aggregator_taking.proofs.TakeLemmas.{MayTake-Takes, lookup-shared, shared_stands}
use Rattle.wac_aggregator.specs.Wit.{MayHandIn}
use Rattle.wac_aggregator.proofs.Calls.{import_with}
use Rattle.wac_aggregator.proofs.Instances.{instance_fits, instance_of, first_key}

-- the meet of an item with itself is itself
pub met_itself : (c : Collection) (a b : ItemKind) → IsSound c → AllStand c (item_keys a) → a ≡ b → IsOwnMeet c c a b a
met_itself c a b sound stand same =
    subst (λ x. IsOwnMeet c c a x a) same
    (built_met c c (λ k. (k, k)) a a a sound sound only ones (first refl) stand stand stand (Fits-refl (item_tree c a)) (Fits-refl (item_tree c a)) (λ t x y. x) (λ fits. refl))
  where
    only : OnlyBuilds c c (λ k. (k, k))
    only = record { extends = Extends-refl c; leaves = record { number = refl; resources = refl; defined = refl; funcs = refl }; added = λ m st. inl st }

    ones : AreOnes c c (λ k. (k, k))
    ones = record { bound = λ m. Meet; is_bound = λ m added. absurd (added.1 added.0); one = λ m p added too origin bound. absurd (added.1 added.0) }

-- what is answered, where an error is told of by two facts
pub match_with : {X E : Type 0} (r : Result X E) (P P' : X → Type 0) (Q R Q' : E → Type 0) → MatchResult r P Q → IfErr r R → ((x : X) → P x → P' x) → ((e : E) → Q e → R e → Q' e) → MatchResult r P' Q'
match_with (Ok x) P P' Q R Q' m i f g = f x m
match_with (Err e) P P' Q R Q' m i f g = g e m i

-- what was taken in is so where entries are only added, whatever is imported
pub members_onward : (f : Collection) (a mid b : Merging) (P : Id → Type 0) (taken : TakenIds) → IsStateKept (state_of mid) → StepsOn mid.types b.types → b ≡ record mid { types = b.types; imports = b.imports } → TakesMembers f a mid P taken → TakesMembers f a b P taken
members_onward f a mid b P taken kept on same g = subst (λ (m : Merging). TakesMembers f a m P taken) (sym same) record {
  more = g.more;
  are_more = g.are_more;
  has = record {
    shared = sharing_goes_on.added g.more mid.types b.types (shared_in mid.shared.entries) g.has.shared on.grows (on.steps (shared_keys mid.shared.entries) kept.good).good.sound;
    found = g.has.found;
    noted = g.has.noted;
    arrowed = traced_added class_of (Arrows class_of (roots_of g.more)) mid.types b.types (shared_keys mid.shared.entries) kept.good on.grows g.has.arrowed;
  };
  all = g.all;
}

-- the error says nothing of what is merged
pub member_apart : (f : Collection) (P : Id → Type 0) (taken : TakenIds) (e : AggregateError) (r : CallRefusal) → said e ≡ Some r → (IsOfMerging r → ⊥) → IsMemberRefusal f P taken e
member_apart f P taken e r says apart q is merging = let same : r ≡ q = one_refusal (sym says ∙ is) in absurd (apart (subst IsOfMerging (sym same) merging))
  where
    one_refusal : {k l : CallRefusal} → ◌≡◌ {A = Option CallRefusal} (Some k) (Some l) → k ≡ l
    one_refusal h = cc h

pub member_memory : (f : Collection) (P : Id → Type 0) (taken : TakenIds) (e : AggregateError) → e ≡ Memory → IsMemberRefusal f P taken e
member_memory f P taken e memory r says merging = let none : None ≡ Some r = ap said (sym memory) ∙ says in absurd (cc)

-- what is told of a mismatch changes nothing else
module _ (f : Collection) (a b : Merging) (told : Option Id) where
  pub told_hand : (call : Call) (i : Id) → MayHandIn call a i → MayHandIn call (record a { handed_in = told }) i
  told_hand call i h = record { named = h.named; import = h.import }

  pub told_members : {T : Type 0} (answer : Result T AggregateError) (P : Id → Type 0) → AnswersMembers answer f (record a { handed_in = told }) b P → AnswersMembers answer f a b P
  told_members answer P h taken wit has all =
      MatchResult-weaker answer (h taken wit (record { shared = has.shared; found = has.found; noted = has.noted; arrowed = has.arrowed }) all)
      (λ r g. record { more = g.more; are_more = g.are_more; has = g.has; all = g.all }) (λ e g. g)

module _ (call : Call) (a mid : Merging) (own : ItemKind) (may : MayTake call.types a)
    (takes : Takes call.types a mid (keys_height call.types (item_keys call.kind)) (item_keys call.kind) (λ t. IsTakenItem class_of call.types t call.kind own)) (i : Id) (hand : MayHandIn call a i) (taken : TakenIds) (has : HasTakenIn mid taken) where
  kept : IsStateKept (state_of mid)
  kept = takes.run.kept may.kept

  now : MayTake call.types mid
  now = MayTake-Takes call.types a mid _ _ _ may takes

  of_instance : IsTakenItem class_of call.types (state_of mid) (Instance i) own
  of_instance = subst (λ x. IsTakenItem class_of call.types (state_of mid) x own) hand.named.instance takes.holds

  pub the_instance : (r : Id) × (own ≡ Instance r)
  the_instance = instance_of mid.types own (instance_fits of_instance.fits)

  taken_for : IsTakenKey class_of call.types (state_of mid) (interface_key i) (interface_key the_instance.0)
  taken_for = first_key call.types (state_of mid) (interface_key i) (interface_key the_instance.0) (subst (λ x. AreTakenKeys class_of call.types (state_of mid) (interface_key i ∷ []) (item_keys x)) the_instance.1 of_instance.keys)

  -- an entry that is shared, whose identifier is on a track, is found there
  shared_there : (s : Id) (m : Class) → IsAmong (interface_key s) (shared_keys mid.shared.entries) → ((t : Class) → shared_in mid.shared.entries t ≡ Some s → t ≡ m) → shared_in mid.shared.entries m ≡ Some s
  shared_there s m among on = let t = has.found s among in subst (λ q. shared_in mid.shared.entries q ≡ Some s) (on t.0 t.1) t.1

  -- what was taken in for the instance is the shared entry on the call's track
  pub own_shared : shared_in mid.shared.entries (call_track call) ≡ Some the_instance.0
  own_shared =
      let is = taken_for.remembered.shared call.name (identifier_of call.types i call.name hand.named.identified) in
      shared_there the_instance.0 (call_track call) is.is_shared (λ t at. let filed = now.filed.on_class t the_instance.0 at in sym filed.2 ∙ ap class_of (same_text filed.0 is.name (sym filed.1 ∙ is.identified)) ∙ is.on_track)
    where
      same_text : (m n : List ℕ) → ◌≡◌ {A = Option (List ℕ)} (Some m) (Some n) → m ≡ n
      same_text m n e = cc

  -- so is an import that stood there
  pub import_is_own : (existing : ItemKind) → option_map (λ (e : ImportContent). e.1) (import_of a.imports (call_track call)) ≡ Some existing → existing ≡ own
  import_is_own existing found =
      let was = import_with (import_of a.imports (call_track call)) existing found in
      let s = hand.import was.0 was.1 in
      let among = lookup-shared (call_track call) a.shared.entries s.0 s.1 in
      let before = may.filed.on_class (call_track call) s.0 s.1 in
      let there = shared_there s.0 (call_track call) ((takes.run.stops may.kept).shared (interface_key s.0) among) (λ t at.
      let filed = now.filed.on_class t s.0 at in
      sym filed.2 ∙ ap class_of (same_text filed.0 before.0 (sym filed.1 ∙ (takes.run.stops may.kept).identifiers (interface_key s.0) (shared_stands (state_of a) may.kept (interface_key s.0) among) ∙ before.1)) ∙ before.2) in
      let same : s.0 ≡ the_instance.0 = same_id s.0 the_instance.0 (sym there ∙ own_shared) in
      sym was.2 ∙ s.2 ∙ ap Instance same ∙ sym the_instance.1
    where
      same_text : (m n : List ℕ) → ◌≡◌ {A = Option (List ℕ)} (Some m) (Some n) → m ≡ n
      same_text m n e = cc

      same_id : (k l : Id) → ◌≡◌ {A = Option Id} (Some k) (Some l) → k ≡ l
      same_id k l e = cc
