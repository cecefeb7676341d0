-- The state before the first call is in order.
use Rattle.std.proofs.Common.{◌≡◌, ◌<◌, arith, length, ℕ, List, [], Some, None, ap, sym, ◌∙◌, subst}
use Rattle.wac_model.specs.Text.{Text}
use Rattle.wac_component.specs.Collection.{Collection}
use Rattle.wac_component.specs.Id.{Id}
use Rattle.wac_component.specs.Key.{Key, Sort, defined_sort, resource_sort, func_sort, interface_sort, world_sort, module_sort, entries, Stands, interface_key}
use Rattle.wac_component.specs.Open.{import_next}
use Rattle.wac_component.specs.Reach.{IsAmong}
use Rattle.wac_component.specs.Sound.{IsSound}
use Rattle.wac_component.specs.declared.items.ItemKind.{ItemKind}
use Rattle.wac_component.proofs.Among.{each_among}
use Rattle.wac_names.specs.Class.{Class}
use Rattle.wac_aggregator_narrowing.specs.Apart.{IsKeyApart, IsGood}
use Rattle.wac_aggregator_narrowing.specs.Identified.{IsCovered}
use Rattle.wac_aggregator_narrowing.specs.State.{IsStateKept, IsNewState}
use Rattle.wac_aggregator_reasons.proofs.Starting.{new_held}
use Rattle.wac_aggregator_promises.specs.Holding.{HoldsReached}
use Rattle.wac_aggregator_memo.specs.Memo.{memo_of}
use Rattle.wac_aggregator_imports.specs.Import.{ImportsContent, import_at, AreFiled}
use Rattle.wac_aggregator_taking.specs.Takes.{shared_keys, shared_in, state_of, AreFiledIn}
use Rattle.wac_aggregator_taking.specs.declared.state.Merging.{Merging}
use Rattle.wac_aggregator.specs.InOrder.{IsStart}

-- nothing stands in an empty collection
none_stand : (number : ℕ) (c : Collection) → c ≡ record { number = number; defined = []; resources = []; funcs = []; interfaces = []; worlds = []; modules = [] } → (k : Key) → Stands c k → ⊥
none_stand number c empty k stands = nothing k.sort (subst (λ d. Stands d k) empty stands).1
  where
    nothing : (s : Sort) → k.id.index < length (entries (record { number = number; defined = []; resources = []; funcs = []; interfaces = []; worlds = []; modules = [] }) s) → ⊥
    nothing defined_sort below = absurd (omega (arith, below))
    nothing resource_sort below = absurd (omega (arith, below))
    nothing func_sort below = absurd (omega (arith, below))
    nothing interface_sort below = absurd (omega (arith, below))
    nothing world_sort below = absurd (omega (arith, below))
    nothing module_sort below = absurd (omega (arith, below))

none_among : (k : Key) → IsAmong k [] → ⊥
none_among k m = elim m [ ]

module _ (a : Merging) (number : ℕ) (sound : IsSound a.types) (empty : a.types ≡ record { number = number; defined = []; resources = []; funcs = []; interfaces = []; worlds = []; modules = [] }) (imports : a.imports ≡ record { list = []; led = [] }) (imports_filed : AreFiled a.imports) (shared : a.shared.entries ≡ [])
    (taken : (k : Key) → memo_of a.taken k ≡ None) (copies : (k : Key) → memo_of a.copies k ≡ None) where
  none_shared : (k : Key) → IsAmong k (shared_keys a.shared.entries) → ⊥
  none_shared k m = none_among k (subst (λ (es : List (Class × Id)). IsAmong k (shared_keys es)) shared m)

  none_imported : (n : Text) (x : ItemKind) → import_at a.imports n ≡ Some x → ⊥
  none_imported n x at = let no : None ≡ Some x = sym (ap (λ (is : ImportsContent). import_at is n) imports) ∙ at in cc

  good : IsGood a.types (shared_keys a.shared.entries)
  good = record {
    sound = sound;
    shared = each_among (Stands a.types) (shared_keys a.shared.entries) (λ k m. absurd (none_shared k m));
    identified = λ s m. absurd (none_shared s m);
    covered = each_among (IsCovered a.types (shared_keys a.shared.entries)) (shared_keys a.shared.entries) (λ k m. absurd (none_shared k m));
    isolated = λ k st. each_among (IsKeyApart a.types (shared_keys a.shared.entries)) (import_next a.types k) (λ j m s among walk. none_shared s among);
  }

  new : IsNewState (state_of a)
  new = record {
    sound = sound;
    shared = ap (λ (es : List (Class × Id)). shared_keys es) shared;
    imports = λ n. ap (λ (is : ImportsContent). import_at is n) imports;
    taken = taken;
    copies = copies;
  }

  kept : IsStateKept (state_of a)
  kept = record {
    good = good;
    imports = λ n x at. absurd (none_imported n x at);
    imports_covered = λ n x at. absurd (none_imported n x at);
    taken = λ theirs own at. absurd (let no : None ≡ Some own = sym (taken theirs) ∙ at in cc);
    copies = λ theirs own at. absurd (let no : None ≡ Some own = sym (copies theirs) ∙ at in cc);
  }

  filed : AreFiledIn a.types a.shared.entries
  filed = record {
    on_class = λ q i at. absurd (let no : None ≡ Some i = sym (ap (λ (es : List (Class × Id)). shared_in es q) shared) ∙ at in cc);
    found = λ i m. absurd (none_shared (interface_key i) m);
  }

  pub starts : IsStart a number
  starts = record { in_order = record { kept = kept; filed = filed; imports = imports_filed; held = (new_held (state_of a) new).0; split = (new_held (state_of a) new).1; identified = λ k n stands is. absurd (none_stand number a.types empty k stands) }; empty = empty; imports = imports; shared = shared; taken = taken; copies = copies }

-- nothing is held
pub none_held : (a : Merging) (number : ℕ) → IsStart a number → HoldsReached [] a.types
none_held a number start t on = absurd (none_stand number a.types start.empty (interface_key on.interface) on.held.stands)
