use Rattle.std.proofs.Common.{◌≡◌, List, Result, Ok, Err, ap}
use Rattle.std.specs.Prelude.{IfOk, MatchResult}
use Rattle.wac_component.specs.Collection.{Collection}
use Rattle.wac_component.specs.Height.{keys_height}
use Rattle.wac_component.specs.Id.{Id}
use Rattle.wac_component.specs.Key.{Key, AllStand, item_keys}
use Rattle.wac_component.specs.declared.items.ItemKind.{ItemKind}
use Rattle.wac_component.specs.declared.items.ItemKind.TheVariants.{Instance}
use Rattle.wac_aggregator_memo.specs.Memo.{memo_of}
use Rattle.wac_aggregator_memo.specs.Renamed.{renamed_item}
use Rattle.wac_aggregator_promises.specs.Entries.{ReachesByUses}
use Rattle.wac_aggregator_copies.proofs.Renamed.{each_both}
use Rattle.wac_names.specs.Class.{class_of}
use Rattle.wac_aggregator_narrowing.specs.Taking.{IsTakenItem}
use Rattle.wac_aggregator_errors.specs.declared.error.AggregateError.{AggregateError}
use Rattle.wac_aggregator_taking.specs.Members.{AnswersMembers}
use Rattle.wac_aggregator_taking.specs.Refused.{IsRefusedBy}
use Rattle.wac_aggregator_taking.specs.Steps.{AnswersOnWay, IsOwnItem}
use Rattle.wac_aggregator_taking.specs.Takes.{MayTake, TakesItemAs}
use Rattle.wac_aggregator_taking.specs.declared.state.Merging.{Merging}
use Rattle.wac_aggregator_taking.proofs.StepLemmas.{Takes-gives}
use Rattle.wac_aggregator_taking.proofs.TakeLemmas.{MayTake-Takes}
use Rattle.wac_aggregator_taking.proofs.Taken.{item_taken}
use Rattle.wac_aggregator_taking.proofs.steps.take_item.Goals as goal

module _ (f : Collection) (near : List Key) (a b : Merging) (kind : ItemKind) (may : MayTake f a) where
  item_answer : (answer : Result ItemKind AggregateError) → AllStand f (item_keys kind) → AnswersOnWay f near (item_keys kind) a b answer → IfOk answer (IsOwnItem (memo_of b.taken) kind)
      → MatchResult answer (λ k. TakesItemAs near f a b kind k) (IsRefusedBy near f a (item_keys kind))
  item_answer (Ok own) stand way is =
      let now = MayTake-Takes f a b _ _ _ may way.takes in
      rw is.renamed (Takes-gives f a b (keys_height f (item_keys kind)) (item_keys kind) (λ t. Unit {0}) (λ t. IsTakenItem class_of f t kind (renamed_item (memo_of b.taken) kind)) (item_taken f b now kind (each_both f b.taken (item_keys kind) stand is.has)) way.takes)
  item_answer (Err e) stand way is = way.refused

  members_answer : (answer : Result ItemKind AggregateError) → AnswersOnWay f near (item_keys kind) a b answer → (i : Id) → kind ≡ Instance i → AnswersMembers answer f a b (ReachesByUses f i)
  members_answer (Ok own) way i is taken wit has all = way.members i (ap item_keys is) taken wit has all
  members_answer (Err e) way i is taken wit has all = way.members i (ap item_keys is) taken wit has all

pub returns-clause-taken : goal.returns-clause-taken
returns-clause-taken c = item_answer c.args.types.now _ c.args.state.now c.take_steps.new.state c.args.kind c.requires.state c.take_steps.result c.requires.source c.take_steps.ensures.way c.take_steps.ensures.own

pub returns-clause-members : goal.returns-clause-members
returns-clause-members c = λ i is. members_answer c.args.types.now _ c.args.state.now c.take_steps.new.state c.args.kind c.requires.state c.take_steps.result c.take_steps.ensures.way i is
