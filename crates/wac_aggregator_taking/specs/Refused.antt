-- Why what is to be taken in is refused.
use Rattle.std.specs.Prelude.{◌≡◌, ◌≢◌, ◌⊎◌, ℕ, All, List, [], ◌∷◌, Contains, MatchResult, Result, Some, slice_get}
use Rattle.std.specs.Str.{bytes_eq}
use Rattle.wac_model.specs.Text.{Text, lookup}
use Rattle.wac_component.specs.Collection.{Collection, UseContent}
use Rattle.wac_component.specs.Entries.{uses_at}
use Rattle.wac_component.specs.Id.{Id}
use Rattle.wac_component.specs.Key.{Key, AllStand, interface_key, item_keys}
use Rattle.wac_component.specs.Replacing.{NamesReach}
use Rattle.wac_component.specs.Tree.{item_tree}
use Rattle.wac_component.specs.declared.items.ItemKind.{ItemKind}
use Rattle.wac_aggregator_promises.specs.Attempt.{Attempt, Touches}
use Rattle.wac_aggregator_promises.specs.PlainList.{ArePlain}
use Rattle.wac_aggregator_promises.specs.Reason.{CallRefusal, cycle, mismatch, no_identifier, owner_without_identifier, IsReason}
use Rattle.wac_aggregator_promises.specs.TreeSets.{HaveNoLowerBound}
use Rattle.wac_aggregator_promises.specs.WitList.{IsLeafItem}
use Rattle.wac_merge.specs.Items.{ExternKinds, extern_keys}
use Rattle.wac_merge.specs.Reads.{exports_at}
use Rattle.wac_aggregator_narrowing.specs.State.{State, IsStateKept}
use Rattle.wac_aggregator_reasons.specs.Trial.{IsTrial, IsAccounted, AreOpenItems}
use Rattle.wac_aggregator_errors.specs.declared.error.AggregateError.{AggregateError}
use Rattle.wac_aggregator_errors.specs.declared.error.AggregateError.TheVariants.{Memory}
use Rattle.wac_aggregator_errors.specs.Said.{said}
use Rattle.wac_aggregator_uses.specs.Differ.{UsesDiffer}
use Rattle.wac_aggregator_taking.specs.Growing.{with_own, AreAllOpen, put_keys}
use Rattle.wac_aggregator_taking.specs.Takes.{AreKnown, AreNear, TakesBelow, TakesKeys, state_of}
use Rattle.wac_aggregator_taking.specs.declared.state.Merging.{Merging}

-- there is reason for the refusal
abbrev pub HasReason : Attempt → AggregateError → Type 0
HasReason at e = (r : CallRefusal) → said e ≡ Some r → IsReason at r

-- it says that an interface has no identifier
abbrev pub IsOfUnidentified : CallRefusal → Type 0
IsOfUnidentified (no_identifier used) = Unit {0}
IsOfUnidentified (owner_without_identifier resource) = Unit {0}
IsOfUnidentified r = ⊥

-- it says so, if anything
abbrev pub IsUnidentified : AggregateError → Type 0
IsUnidentified e = (r : CallRefusal) → said e ≡ Some r → IsOfUnidentified r

-- the ids aren't plain; where all was taken in that they openly lead to and that has an identifier,
-- it is for the want of one; and whatever call is tried whose item openly reaches them, where all
-- is accounted for, and what is near is open and comes from sources, there is reason
pub record IsRefusal (near : List Key) (f : Collection) (a : Merging) (ks : List Key) (e : AggregateError) : Type 0 where
  pub plain : ¬ (ArePlain f ks)
  pub known : AreKnown f a ks → IsUnidentified e
  pub reason : (at : Attempt) → IsTrial at f ks → IsAccounted at (state_of a) → AreNear at a near → HasReason at e

-- that is so unless an allocation fails
abbrev pub IsRefusedBy : List Key → Collection → Merging → List Key → AggregateError → Type 0
IsRefusedBy near f a ks e = e ≢ Memory → IsRefusal near f a ks e

-- the same, where nothing is near
abbrev pub MayRefuse : Collection → Merging → List Key → AggregateError → Type 0
MayRefuse f a ks e = IsRefusedBy [] f a ks e

-- what is answered where what ids name is taken in: that it is, or why it is refused
abbrev pub AnswersKeys : {T : Type 0} → List Key → Collection → Merging → Merging → List Key → Result T AggregateError → Type 0
AnswersKeys near f a b ks answer = MatchResult answer (λ _. TakesKeys near f a b ks (λ t. Unit {0})) (IsRefusedBy near f a ks)

-- the same of what an entry names
abbrev pub AnswersBelow : {T : Type 0} → List Key → Collection → Merging → Merging → Key → Result T AggregateError → Type 0
AnswersBelow near f a b k answer = MatchResult answer (λ _. TakesBelow near f a b k) (IsRefusedBy near f a (k ∷ []))

-- whatever entry uses these is refused
abbrev pub AreRefusedUses : Collection → Merging → List (Text × UseContent) → AggregateError → Type 0
AreRefusedUses f a us e = (k : Key) → uses_at f k ≡ us → MayRefuse f a (k ∷ []) e

-- the use at an index is of an interface without identifier, it says
abbrev pub SaysOfUse : List (Text × UseContent) → ℕ → AggregateError → Type 0
SaysOfUse us i e = (name : Text) (u : UseContent) → slice_get us i ≡ Some (name, u) → said e ≡ Some (no_identifier name)

-- two items have no common lower bound, it says
pub record SaysMismatch (c : Collection) (a b : ItemKind) (e : AggregateError) : Type 0 where
  pub no_bound : HaveNoLowerBound (item_tree c a) (item_tree c b)
  pub says : said e ≡ Some mismatch

-- two items are refused, unless an allocation fails, over their uses or since they can't be met
abbrev pub IsMergeRefusal : Collection → ItemKind → ItemKind → AggregateError → Type 0
IsMergeRefusal c a b e = e ≢ Memory → UsesDiffer c (item_keys a) (item_keys b) e ⊎ SaysMismatch c a b e

-- two leaves of one name, one of each list, have no common lower bound
pub record HasApartLeaves (c : Collection) (es ts : ExternKinds) : Type 0 where
  pub name : Text
  pub first : ItemKind
  pub second : ItemKind
  pub is_first : lookup bytes_eq es name ≡ Some first
  pub is_second : Contains ts (name, second)
  pub no_bound : HaveNoLowerBound (item_tree c first) (item_tree c second)

-- items aren't met with those under their names: whatever state has this collection, in which
-- all is accounted for and these items are open, there is reason if the item touches; and
-- leaves aren't since two are apart
pub record IsItemsRefusal (c : Collection) (es ts : ExternKinds) (e : AggregateError) : Type 0 where
  pub reason : (at : Attempt) (s : State) → IsStateKept (with_own s c) → IsAccounted at (with_own s c) → AreOpenItems at (with_own s c) es → AreAllOpen at (with_own s c) ts → Touches at → HasReason at e
  pub leaves : All (λ t. IsLeafItem t.1) ts → HasApartLeaves c es ts

-- such items are refused, unless an allocation fails
abbrev pub AreRefusedItems : Collection → ExternKinds → ExternKinds → AggregateError → Type 0
AreRefusedItems c es ts e = e ≢ Memory → IsItemsRefusal c es ts e

-- the item is refused among whatever items are under its name what the interface exports there
abbrev pub IsRefusedThere : Collection → Id → Text → ItemKind → AggregateError → Type 0
IsRefusedThere c e n a r = (es : ExternKinds) → AllStand c (extern_keys es) → lookup bytes_eq es n ≡ lookup bytes_eq (exports_at c (interface_key e)) n → AreRefusedItems c es ((n, a) ∷ []) r

-- the same of what an own interface exports
abbrev pub AreRefusedOwn : Collection → Id → ExternKinds → AggregateError → Type 0
AreRefusedOwn c own ts e = AreRefusedItems c (exports_at c (interface_key own)) ts e

-- from what the interface would use and export a walk leads back to it, and the refusal says so
abbrev pub IsCycleOf : Collection → List (Text × UseContent) → ExternKinds → Id → Text → AggregateError → Type 0
IsCycleOf c us es own name e = e ≢ Memory → NamesReach c (put_keys us es) (interface_key own) × (said e ≡ Some (cycle name))
