-- A call that is tried.
use Rattle.std.proofs.Common.{◌≡◌, ℕ, List, [], ◌∷◌, Option, Some, None, IfSome, refl, ap, sym, subst}
use Rattle.std.specs.Option.{option_map}
use Rattle.wac_model.specs.Text.{Text}
use Rattle.wac_component.specs.Collection.{Collection}
use Rattle.wac_component.specs.Height.{keys_height}
use Rattle.wac_component.specs.Id.{Id}
use Rattle.wac_component.specs.Key.{Key, Each, AllStand, item_keys, interface_key}
use Rattle.wac_component.specs.Open.{stay}
use Rattle.wac_component.specs.Tree.{item_tree}
use Rattle.wac_component.specs.declared.items.ItemKind.{ItemKind}
use Rattle.wac_component.proofs.Among.{each_among, Contains-first}
use Rattle.wac_names.specs.Class.{class_of}
use Rattle.wac_aggregator_narrowing.specs.State.{State, IsStateKept}
use Rattle.wac_aggregator_narrowing.specs.Taking.{IsTakenItem}
use Rattle.wac_aggregator_narrowing.proofs.Mapped.{taken_each}
use Rattle.wac_aggregator_promises.specs.Attempt.{Attempt}
use Rattle.wac_aggregator_promises.specs.Call.{Call, call_track}
use Rattle.wac_aggregator_imports.specs.Import.{ImportContent, import_of, import_at}
use Rattle.wac_aggregator_reasons.specs.Sharing.{of_import, of_taken}
use Rattle.wac_aggregator_reasons.specs.Trial.{IsTrial, IsAccounted, IsOpenSource}
use Rattle.wac_aggregator_reasons.proofs.Accounts.{root_open}
use Rattle.wac_aggregator_reasons.proofs.Starting.{start_accounted}
use Rattle.wac_aggregator_errors.specs.declared.error.AggregateError.{AggregateError}
use Rattle.wac_aggregator_taking.specs.Refused.{IsRefusedBy, MayRefuse}
use Rattle.wac_aggregator_taking.specs.Takes.{state_of, near_keys, AreNear, MayTake, TakesBy, Takes}
use Rattle.wac_aggregator_taking.specs.declared.state.Merging.{Merging}
use Rattle.wac_aggregator_taking.proofs.Refusals.{refused_near}
use Rattle.wac_aggregator_taking.proofs.TakeLemmas.{near_none, Takes-near}
use Rattle.wac_aggregator.specs.Advances.{attempt_at, MayTry}

-- what is imported is open, and comes from sources
pub import_open : (at : Attempt) (a : Merging) (name : Text) (x : ItemKind) → IsAccounted at (state_of a) → import_at a.imports name ≡ Some x → Each (IsOpenSource at (state_of a)) (item_keys x)
import_open at a name x all is = each_among (IsOpenSource at (state_of a)) (item_keys x) (λ k m. root_open at (state_of a) k all (of_import {n = name} is m))

-- so is the interface that an import is
pub near_open : (at : Attempt) (a : Merging) (name : Text) (x : ItemKind) (near : Option Id) → IsStateKept (state_of a) → import_at a.imports name ≡ Some x → IfSome near (λ i. item_keys x ≡ interface_key i ∷ []) → IsAccounted at (state_of a) → AreNear at a (near_keys near)
near_open at a name x None kept is h all = near_none at a
near_open at a name x (Some i) kept is h all = record { stand = subst (AllStand a.types) h (kept.imports name x is); opens = subst (Each (IsOpenSource at (state_of a))) h (import_open at a name x all is) }

module _ (call : Call) (a : Merging) (may : MayTake call.types a) where
  -- what was taken in near an import, or refused so
  module _ (existing : ItemKind) (is : import_at a.imports call.name ≡ Some existing) (near : Option Id) (h : IfSome near (λ i. item_keys existing ≡ interface_key i ∷ [])) where
    pub taken_near : (mid : Merging) (top : ℕ) (ks : List Key) (Q : State → Type 0) → TakesBy (near_keys near) call.types a mid top ks Q → Takes call.types a mid top ks Q
    taken_near mid top ks Q takes = Takes-near call.types (near_keys near) [] a mid top ks Q (λ at all by. near_open at a call.name existing near may.kept is h all) takes

    pub refused_by_near : (ks : List Key) (e : AggregateError) → IsRefusedBy (near_keys near) call.types a ks e → MayRefuse call.types a ks e
    refused_by_near ks e refused = refused_near call.types (near_keys near) [] a ks e (λ at all by. near_open at a call.name existing near may.kept is h all) refused

  -- a call by itself
  pub call_trial : MayTry call a → IsTrial (attempt_at call a) call.types (item_keys call.kind)
  call_trial try = record { types = refl; reached = λ k m. (k, m, stay); sound = try.sound; source = Contains-first call []; apart = λ e. may.apart (sym (ap (λ (c : Collection). c.number) e)) }

  pub call_accounted : MayTry call a → IsAccounted (attempt_at call a) (state_of a)
  call_accounted try = start_accounted (state_of a) call (option_map (λ (i : ImportContent). item_tree a.types i.1) (import_of a.imports (call_track call))) may.kept try.held try.split may.truly try.sound may.apart

  -- once its item was taken in, that is open, and comes from sources
  module _ (mid : Merging) (own : ItemKind) (takes : Takes call.types a mid (keys_height call.types (item_keys call.kind)) (item_keys call.kind) (λ t. IsTakenItem class_of call.types t call.kind own)) (at : Attempt) (trial : IsTrial at call.types (item_keys call.kind)) (all : IsAccounted at (state_of a)) where
    pub taken_accounted : IsAccounted at (state_of mid)
    taken_accounted = (takes.accounts at trial all (near_none at a)).now

    pub own_open : Each (IsOpenSource at (state_of mid)) (item_keys own)
    own_open = taken_each class_of call.types (state_of mid) (IsOpenSource at (state_of mid)) (λ i j k. root_open at (state_of mid) j taken_accounted (of_taken k.noted)) (item_keys call.kind) (item_keys own) takes.holds.keys
