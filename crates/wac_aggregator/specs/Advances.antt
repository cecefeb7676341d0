-- What a call does to the state of merging.
use Rattle.std.specs.Prelude.{◌≡◌, ◌≢◌, Some, None}
use Rattle.std.specs.Option.{option_map}
use Rattle.wac_model.specs.Text.{Text}
use Rattle.wac_model.specs.ItemTree.{ItemTree}
use Rattle.wac_model.specs.Order.{Fits}
use Rattle.wac_component.specs.Height.{keys_height}
use Rattle.wac_component.specs.Key.{Each, AllStand, item_keys}
use Rattle.wac_component.specs.Tree.{item_tree}
use Rattle.wac_component.specs.declared.items.ItemKind.{ItemKind}
use Rattle.wac_names.specs.Class.{class_of}
use Rattle.wac_aggregator_narrowing.specs.Identified.{IsCovered, IsUnstopped}
use Rattle.wac_aggregator_narrowing.specs.Taking.{IsTakenItem}
use Rattle.wac_aggregator_promises.specs.Attempt.{Attempt, single_attempt}
use Rattle.wac_aggregator_promises.specs.Call.{Call, IsSoundCall, call_track, call_tree}
use Rattle.wac_aggregator_promises.specs.PlainList.{IsPlain}
use Rattle.wac_aggregator_promises.specs.TreeSets.{HaveNoLowerBound}
use Rattle.wac_aggregator_imports.specs.Import.{ImportContent, ImportsContent, import_of, PutsImport, IsImportNoted}
use Rattle.wac_aggregator_reasons.specs.Sharing.{AreHeld}
use Rattle.wac_aggregator_reasons.specs.Split.{AreSplit}
use Rattle.wac_aggregator_reasons.specs.Trial.{IsTrial, IsAccounted, IsOpenSource}
use Rattle.wac_aggregator_errors.specs.declared.error.AggregateError.{AggregateError}
use Rattle.wac_aggregator_errors.specs.declared.error.AggregateError.TheVariants.{Memory}
use Rattle.wac_aggregator_taking.specs.Growing.{StepsOn, IsOwnMeet, with_own}
use Rattle.wac_aggregator_taking.specs.Refused.{HasReason}
use Rattle.wac_aggregator_taking.specs.Takes.{shared_keys, state_of, Takes}
use Rattle.wac_aggregator_taking.specs.declared.state.Merging.{Merging}

-- what is imported on the name's track is this item now: under the name where there was no import
-- before the call and none came with the item, else as the import that stood there is noted
pub data IsImportPlaced (before taken now : ImportsContent) (name : Text) (k : ItemKind) : Type 0 where
  added : import_of before (class_of name) ≡ None → import_of taken (class_of name) ≡ None → PutsImport taken now (class_of name) (name, k) → now.led ≡ taken.led → IsImportPlaced before taken now name k
  noted : (i : ImportContent) → import_of before (class_of name) ≡ Some i → IsImportNoted taken now (class_of name) i.0 name k → IsImportPlaced before taken now name k

-- the item is taken in; then an import is placed on the track of the name, which fits where the
-- item is asked for, and where the import was that stood there
pub record Advances (call : Call) (a b : Merging) : Type 0 where
  pub taken : Merging
  pub own : ItemKind
  pub takes : Takes call.types a taken (keys_height call.types (item_keys call.kind)) (item_keys call.kind) (λ t. IsTakenItem class_of call.types t call.kind own)
  pub same : b ≡ record taken { types = b.types; imports = b.imports }
  pub on : StepsOn taken.types b.types
  pub import : ItemKind
  pub stands : AllStand b.types (item_keys import)
  pub covered : Each (IsCovered b.types (shared_keys taken.shared.entries)) (item_keys import)
  pub fits : Fits (item_tree b.types import) (item_tree taken.types own)
  pub existing : (i : ImportContent) → import_of a.imports (call_track call) ≡ Some i → Fits (item_tree b.types import) (item_tree taken.types i.1)
  -- it is the item's where none stood, and else the greatest that fits so: the import that stood,
  -- where that fits where the item is asked for
  pub alone : import_of a.imports (call_track call) ≡ None → import ≡ own
  pub alone_tree : import_of a.imports (call_track call) ≡ None → item_tree b.types import ≡ item_tree taken.types own
  pub kept : (i : ImportContent) → import_of a.imports (call_track call) ≡ Some i → Fits (item_tree taken.types i.1) (item_tree taken.types own) → import ≡ i.1
  -- no open walk stops from it at an interface with an identifier, where
  -- none does from what it is met of
  pub unstopped : (i : ImportContent) → import_of a.imports (call_track call) ≡ Some i → Each (IsUnstopped taken.types) (item_keys i.1) → Each (IsUnstopped taken.types) (item_keys own) → Each (IsUnstopped b.types) (item_keys import)
  pub greatest : (i : ImportContent) → import_of a.imports (call_track call) ≡ Some i → (t : ItemTree) → Fits t (item_tree taken.types i.1) → Fits t (item_tree taken.types own) → Fits t (item_tree b.types import)
  pub placed : IsImportPlaced a.imports taken.imports b.imports call.name import
  -- while a call is tried whose item openly reaches this one's, all stays accounted for, and the
  -- import is open and comes from sources
  pub accounts : (at : Attempt) → IsTrial at call.types (item_keys call.kind) → IsAccounted at (state_of a) → IsAccounted at (with_own (state_of taken) b.types) × Each (IsOpenSource at (with_own (state_of taken) b.types)) (item_keys import)

-- an import stands on the track of the name, and no item fits where
-- either that or the item is asked for
pub record CallHasNoMeet (call : Call) (a : Merging) : Type 0 where
  pub import : ImportContent
  pub stood : import_of a.imports (call_track call) ≡ Some import
  pub no_bound : HaveNoLowerBound (item_tree a.types import.1) (call_tree call)

-- the call by itself, and the import that stands on its track
abbrev pub attempt_at : Call → Merging → Attempt
attempt_at call a = single_attempt a.types (option_map (λ i. item_tree a.types i.1) (import_of a.imports (call_track call))) call

-- the call is sound, and before it all that open walks lead to is held, and
-- apart from what is below imports
pub record MayTry (call : Call) (a : Merging) : Type 0 where
  pub sound : IsSoundCall call
  pub held : AreHeld (state_of a)
  pub split : AreSplit (state_of a)

-- why a call is refused: a plain item since it has no meet with the import on
-- its track; and there is reason
pub record IsCallRefusal (call : Call) (a : Merging) (e : AggregateError) : Type 0 where
  pub plain : IsPlain call.types call.kind → CallHasNoMeet call a
  pub reason : MayTry call a → HasReason (attempt_at call a) e

-- that is so unless an allocation fails
abbrev pub IsRefusedCall : Call → Merging → AggregateError → Type 0
IsRefusedCall call a e = e ≢ Memory → IsCallRefusal call a e

-- an import under the name is put last, where none stood on its track
pub record PutsLast (a b : Merging) (name : Text) (k : ItemKind) : Type 0 where
  pub same : b ≡ record a { imports = b.imports }
  pub none : import_of a.imports (class_of name) ≡ None
  pub puts : PutsImport a.imports b.imports (class_of name) (name, k)
  pub led : b.imports.led ≡ a.imports.led

-- the import on the name's track is noted as what it is met with
pub record IsMerged (a b : Merging) (name : Text) (existing own : ItemKind) : Type 0 where
  pub same : b ≡ record a { types = b.types; imports = b.imports }
  pub import : ItemKind
  pub met : IsOwnMeet a.types b.types existing own import
  pub noted : (i : ImportContent) → import_of a.imports (class_of name) ≡ Some i → IsImportNoted a.imports b.imports (class_of name) i.0 name import
