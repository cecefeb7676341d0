-- Why a shared entry isn't grown by what was taken in.
use Rattle.std.proofs.Common.{◌≡◌, List, [], ◌∷◌, Some, inr, slice_get}
use Rattle.wac_model.specs.Text.{Text}
use Rattle.wac_component.specs.Collection.{Collection, InterfaceContent, UseContent}
use Rattle.wac_component.specs.Entries.{identifier_at}
use Rattle.wac_component.specs.Id.{Id}
use Rattle.wac_component.specs.Key.{Key, Each, AllStand, interface_key, interface_keys, named_keys, use_keys}
use Rattle.wac_component.specs.Reach.{IsAmong}
use Rattle.wac_component.specs.Replacing.{NamesReach}
use Rattle.wac_merge.specs.Items.{ExternKinds, AreUnhidden}
use Rattle.wac_aggregator_promises.specs.Reason.{cycle}
use Rattle.wac_names.specs.Class.{class_of}
use Rattle.wac_aggregator_narrowing.specs.State.{State}
use Rattle.wac_aggregator_errors.specs.declared.error.AggregateError.{AggregateError}
use Rattle.wac_aggregator_taking.specs.Growing.{AreMetWith}
use Rattle.wac_aggregator_uses.specs.Differ.{AreRefusedLists}
use Rattle.wac_aggregator_errors.specs.Said.{said}
use Rattle.wac_aggregator_taking.specs.Refused.{MayRefuse, AreRefusedItems}
use Rattle.wac_aggregator_taking.specs.Takes.{state_of, shared_in, shared_keys, MayTake, MayPut}
use Rattle.wac_aggregator_taking.specs.declared.state.Merging.{Merging}
use Rattle.wac_aggregator_taking.proofs.GrowAccounts.{grows_touching, old_items_open, old_uses_open, new_uses_open, new_items_open, cycle_refused}
use Rattle.wac_aggregator_taking.proofs.Grows.{new_named}
use Rattle.wac_aggregator_taking.proofs.MergeReasons.{one_reason, uses_refused}
use Rattle.wac_aggregator_taking.proofs.Plain.{not_plain_interface}
use Rattle.wac_aggregator_taking.proofs.TakeLemmas.{lookup-shared, not_known}

module _ (f : Collection) (a : Merging) (may : MayTake f a) (p e : Id) (name : Text) (us : List (Text × UseContent)) (es : ExternKinds) (put : MayPut f a p us es) (identified : identifier_at f (interface_key p) ≡ Some name) (shared : shared_in a.shared.entries (class_of name) ≡ Some e)
    (old : InterfaceContent) (was : slice_get a.types.interfaces e.index ≡ Some old) where
  s : State
  s = state_of a

  among : IsAmong (interface_key e) (shared_keys a.shared.entries)
  among = lookup-shared (class_of name) a.shared.entries e shared

  filed : (n : Text) × (identifier_at a.types (interface_key e) ≡ Some n) × (class_of n ≡ class_of name)
  filed = may.filed.on_class (class_of name) e shared

  -- its uses differ from those of the entry
  pub grown_uses_refused : (r : AggregateError) → AreRefusedLists a.types old.uses us r → MayRefuse f a (interface_key p ∷ []) r
  grown_uses_refused r h ne = record {
    plain = not_plain_interface f p name identified;
    known = λ all. absurd (not_known f a (interface_key p) name identified put.absent all);
    reason = λ at trial all by.
        uses_refused at (state_of a) old.uses us r (inr (grows_touching at f (state_of a) p e put.content us es name filed.0 may.kept trial all put.taken put.used identified put.absent among filed.1 filed.2))
        (old_uses_open at f (state_of a) p e put.content us es name filed.0 may.kept trial all put.taken put.used identified put.absent among filed.1 filed.2 old was)
        (new_uses_open at f (state_of a) p e put.content us es name filed.0 may.kept trial all put.taken put.used identified put.absent among filed.1 filed.2)
        (h ne);
  }

  -- its exports can't be met with those of the entry
  pub grown_items_refused : (r : AggregateError) → AreUnhidden es → AreRefusedItems a.types old.exports es r → MayRefuse f a (interface_key p ∷ []) r
  grown_items_refused r found h ne = record {
    plain = not_plain_interface f p name identified;
    known = λ all. absurd (not_known f a (interface_key p) name identified put.absent all);
    reason = λ at trial all by.
        (h ne).reason at (state_of a) may.kept all
        (old_items_open at f (state_of a) p e put.content us es name filed.0 may.kept trial all put.taken put.used identified put.absent among filed.1 filed.2 old was)
        (new_items_open at f (state_of a) p e put.content us es name filed.0 may.kept trial all put.taken put.used identified put.absent among filed.1 filed.2 found)
        (grows_touching at f (state_of a) p e put.content us es name filed.0 may.kept trial all put.taken put.used identified put.absent among filed.1 filed.2);
  }

  -- it would lead back to itself
  pub grown_cycle_refused : (new : InterfaceContent) (old_named : AllStand a.types (interface_keys old)) (same_id : new.id ≡ old.id)
      (uses : (P : Key → Type 0) → Each P (named_keys use_keys old.uses) → Each P (named_keys use_keys us) → Each P (named_keys use_keys new.uses)) (d : Collection) (met : AreMetWith a.types d old.exports es new.exports)
      → AreUnhidden es → NamesReach d (interface_keys new) (interface_key e) → (r : AggregateError) → said r ≡ Some (cycle name) → MayRefuse f a (interface_key p ∷ []) r
  grown_cycle_refused new old_named same_id uses d met found reach r says ne = record {
    plain = not_plain_interface f p name identified;
    known = λ all. absurd (not_known f a (interface_key p) name identified put.absent all);
    reason = λ at trial all by.
        one_reason at r (cycle name) says
        (cycle_refused at f (state_of a) p e put.content us es name filed.0 may.kept trial all put.taken put.used identified put.absent among filed.1 filed.2 old new was d met found old_named uses
        (new_named f a may p e name us es put identified shared old new was old_named same_id uses d met) reach);
  }
