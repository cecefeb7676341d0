-- What is answered in another order, and after one call more.
use Rattle.std.proofs.Common.{◌≡◌, ◌≢◌, ◌⊎◌, inl, inr, refl, subst, List, [], ◌∷◌, ◌++◌, Contains, IfOk, MatchResult, Result, Ok, Err}
use Rattle.std.specs.Prelude.{IsPermutation}
use Rattle.std.proofs.lemmas.List.Elements.{Contains-push_cases}
use Rattle.wac_types.specs.Aggregated.{LeadsBelow, IsAggregated, IsCallStep, track_imports}
use Rattle.wac_types.specs.Aggregator.{AggregatorContent, shown}
use Rattle.wac_types.specs.Answer.{accepted, refused, IsWitAnswer}
use Rattle.wac_types.specs.Call.{Call, call_tree}
use Rattle.wac_types.specs.ListLaws.{ImportsAreGreatestBounds}
use Rattle.wac_types.specs.PlainList.{IsPlainList}
use Rattle.wac_types.specs.Tree.{item_tree}
use Rattle.wac_types.specs.TreeLaws.{IsTransitive}
use Rattle.wac_types.specs.WitList.{IsWitList}
use Rattle.wac_types.specs.declared.AggregateAllError.{AggregateAllError}
use Rattle.wac_types.specs.declared.AggregateError.{AggregateError}
use Rattle.wac_types.specs.declared.AggregateError.TheVariants.{Memory, Kinds, Mismatch, UsedInterface, UsedName, NoIdentifier, OwnerWithoutIdentifier, Taken, Cycle}
use Rattle.wac_composition.specs.Answered.{AreAnsweredAlike, AreNamesServed}

-- an error that isn't another is a failed allocation
only_memory : (e : AggregateError) → (e ≢ Memory → ⊥) → e ≡ Memory
only_memory Memory h = refl
only_memory (Kinds existing found) h = absurd (h (λ same. cc))
only_memory (Mismatch frames error) h = absurd (h (λ same. cc))
only_memory (UsedInterface used expected found) h = absurd (h (λ same. cc))
only_memory (UsedName used) h = absurd (h (λ same. cc))
only_memory (NoIdentifier used) h = absurd (h (λ same. cc))
only_memory (OwnerWithoutIdentifier resource) h = absurd (h (λ same. cc))
only_memory (Taken name) h = absurd (h (λ same. cc))
only_memory (Cycle interface) h = absurd (h (λ same. cc))

-- what `aggregate_all` ensures of WIT lists
abbrev AnswersWit : List Call → Result AggregatorContent AggregateAllError → Type 0
AnswersWit calls r = IsWitList calls → MatchResult r (λ a. IsWitAnswer calls (accepted (track_imports (shown a)))) (λ e. e.error ≢ Memory → IsWitAnswer calls (refused e.at))

module _ (law : ImportsAreGreatestBounds) (calls others : List Call) (permuted : IsPermutation calls others) (family : IsPlainList calls ⊎ IsWitList calls) where
  pub answered_alike : (r s : Result AggregatorContent AggregateAllError) → AnswersWit calls r → AnswersWit others s → AreAnsweredAlike r s
  answered_alike (Ok a) (Ok b) h k = law.any_order calls others (accepted (track_imports (shown a))) (accepted (track_imports (shown b))) family permuted h k
  answered_alike (Ok a) (Err f) h k = only_memory f.error (λ ne. law.any_order calls others (accepted (track_imports (shown a))) (refused f.at) family permuted h (λ w. k w ne))
  answered_alike (Err e) (Ok b) h k = only_memory e.error (λ ne. law.any_order calls others (refused e.at) (accepted (track_imports (shown b))) family permuted (λ w. h w ne) k)
  answered_alike (Err e) (Err f) h k = tt

module _ (transitive : IsTransitive) (calls : List Call) (last : Call) (a : AggregatorContent) (all : IsAggregated calls (shown a)) where
  -- what served a call does so after the next
  served_still : (b : AggregatorContent) → IsCallStep (shown a) (shown b) last → (c : Call) → Contains calls c → LeadsBelow (shown b) c.name (call_tree c)
  served_still b step c among =
      let before = all.served c c among among refl in
      let now = step.kept c.name before.import before.is_import in
      record { import = now.import; is_import = now.is_import; fits = transitive (item_tree b.types now.import) (item_tree a.types before.import) (call_tree c) now.fits before.fits }

  served_now : (b : AggregatorContent) → IsCallStep (shown a) (shown b) last → AreNamesServed (calls ++ last ∷ []) b
  served_now b step c among = elim (Contains-push_cases calls last c among) [
    | inl old ↦ served_still b step c old
    | inr same ↦ subst (λ d. LeadsBelow (shown b) d.name (call_tree d)) same step.served
  ]

  pub served_on : (r : Result AggregatorContent AggregateError) → IfOk r (λ b. IsCallStep (shown a) (shown b) last) → IfOk r (AreNamesServed (calls ++ last ∷ []))
  served_on (Ok b) step = served_now b step
  served_on (Err e) step = tt
