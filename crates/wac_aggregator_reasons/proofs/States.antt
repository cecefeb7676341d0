-- What of an aggregator comes from sources does so after each change.
use Rattle.std.proofs.Common.{◌≡◌, ◌⊎◌, inl, inr, List, [], Option, Some, None, IsSome, refl, sym, ap, subst, ◌∙◌}
use Rattle.wac_model.specs.Text.{Text}
use Rattle.wac_component.specs.Collection.{Collection, UseContent}
use Rattle.wac_component.specs.Implicit.{identifier, HasIdentifier}
use Rattle.wac_component.specs.Key.{Key, interface_key, item_keys, Stands}
use Rattle.wac_component.specs.Reach.{IsAmong}
use Rattle.wac_component.specs.Entries.{HasUse, identifier_at}
use Rattle.wac_aggregator_memo.specs.Memo.{AddsPair, Remembered}
use Rattle.wac_component.specs.Open.{stay}
use Rattle.wac_component.specs.declared.items.ItemKind.{ItemKind}
use Rattle.wac_component.proofs.Among.{among_each}
use Rattle.wac_names.specs.Class.{class_of}
use Rattle.wac_aggregator_promises.specs.Attempt.{Sources, IsSource, held}
use Rattle.wac_aggregator_narrowing.specs.Imports.{NamedImports}
use Rattle.wac_aggregator_narrowing.specs.Narrows.{AddsShared}
use Rattle.wac_aggregator_narrowing.specs.State.{State, IsStateKept, IsNewState}
use Rattle.wac_aggregator_reasons.specs.Sharing.{IsOpenRoot, of_shared, of_import, of_taken, IsSharer, AreSourced, AreHeld}
use Rattle.wac_aggregator_reasons.specs.Sourced.{IsUseFrom, IsSourced}
use Rattle.wac_aggregator_reasons.proofs.Cycles.{identified_interface, identified_on}
use Rattle.wac_aggregator_reasons.proofs.TakenParts.{own_export}

pub root_stands : (s : State) → IsStateKept s → (k : Key) → IsOpenRoot s k → Stands s.own k
root_stands s kept k (of_shared m) = among_each (Stands s.own) k s.shared m kept.good.shared
root_stands s kept k (of_import {n = n} {x = x} is m) = among_each (Stands s.own) k (item_keys x) m (kept.imports n x is)
root_stands s kept k (of_taken {theirs = theirs} is) = (kept.taken theirs k is).0

-- an id that open walks start from only where they did
same_roots : (s t : State) → t.shared ≡ s.shared → t.imports ≡ s.imports → t.taken ≡ s.taken → (k : Key) → IsOpenRoot t k → IsOpenRoot s k
same_roots s t same_shared same_imports same_taken k (of_shared m) = of_shared (subst (λ (ks : List Key). IsAmong k ks) same_shared m)
same_roots s t same_shared same_imports same_taken k (of_import {n = n} {x = x} is m) = of_import (subst (λ (i : NamedImports). i n ≡ Some x) same_imports is) m
same_roots s t same_shared same_imports same_taken k (of_taken {theirs = theirs} is) = of_taken (subst (λ (m : Remembered). m theirs ≡ Some k) same_taken is)

still_some : (s t : Remembered) → ((k o : Key) → s k ≡ Some o → (z : Key) × (t k ≡ Some z)) → (k : Key) → IsSome (s k) → IsSome (t k)
still_some s t more k there = go (s k) refl there
  where
    go : (o : Option Key) → s k ≡ o → IsSome o → IsSome (t k)
    go None is h = absurd (cc)
    go (Some o) is h = let r = more k o is in cc

module _ (sources : Sources) where
  sharer_moves : (s t : State) (n m : Text) → class_of m ≡ class_of n → ((k o : Key) → s.taken k ≡ Some o → (z : Key) × (t.taken k ≡ Some z)) → IsSharer sources s n → IsSharer sources t m
  sharer_moves s t n m same more h = record {
    types = h.types;
    id = h.id;
    source = h.source;
    is_on = record { name = h.is_on.name; identified = h.is_on.identified; on_track = h.is_on.on_track ∙ sym same };
    stood = elim h.stood [ inl start ↦ inl start | inr there ↦ inr (still_some s.taken t.taken more (interface_key h.id) there) ];
  }

  -- the own collection changes, and what is sourced stays so
  pub moved : (s t : State) → IsStateKept s → t.shared ≡ s.shared → t.imports ≡ s.imports → t.taken ≡ s.taken
      → ((k : Key) → Stands s.own k → identifier_at t.own k ≡ identifier_at s.own k)
      → ((k : Key) → Stands s.own k → IsSourced (IsSource sources) s.own k → IsSourced (IsSource sources) t.own k)
      → AreSourced sources s → AreSourced sources t
  moved s t kept same_shared same_imports same_taken names move h = record {
    roots = λ k r. let was = same_roots s t same_shared same_imports same_taken k r in move k (root_stands s kept k was) (h.roots k was);
    sharers = λ k n m is.
        let among = subst (λ (ks : List Key). IsAmong k ks) same_shared m in
        sharer_moves s t n n refl (λ j o q. (o, subst (λ (m : Remembered). m j ≡ Some o) (sym same_taken) q)) (h.sharers k n among (sym (names k (root_stands s kept k (of_shared among))) ∙ is));
  }

  -- one more id is remembered, or shared, or other imports stand: what
  -- comes new to the roots is sourced
  pub more_roots : (s t : State) → t.own ≡ s.own → ((k o : Key) → s.taken k ≡ Some o → (z : Key) × (t.taken k ≡ Some z))
      → ((k : Key) → IsOpenRoot t k → IsOpenRoot s k ⊎ IsSourced (IsSource sources) s.own k)
      → ((k : Key) (n : Text) → IsAmong k t.shared → identifier_at s.own k ≡ Some n → IsAmong k s.shared ⊎ IsSharer sources t n)
      → AreSourced sources s → AreSourced sources t
  more_roots s t same more new new_shared h = record {
    roots = λ k r. subst (λ (c : Collection). IsSourced (IsSource sources) c k) (sym same) (elim (new k r) [ inl was ↦ h.roots k was | inr is ↦ is ]);
    sharers = λ k n m is.
        let at = sym (ap (λ (c : Collection). identifier_at c k) same) ∙ is in
        elim (new_shared k n m at) [ inl was ↦ sharer_moves s t n n refl more (h.sharers k n was at) | inr is ↦ is ];
  }

  -- one more id is remembered
  pub taken_in : (s t : State) (theirs own : Key) → t.own ≡ s.own → t.shared ≡ s.shared → t.imports ≡ s.imports → AddsPair s.taken t.taken theirs own
      → IsSourced (IsSource sources) s.own own → AreSourced sources s → AreSourced sources t
  taken_in s t theirs own same_own same_shared same_imports adds new h = more_roots s t same_own (λ k o is. (o, adds.kept k o is)) roots (λ k n m is. inl (subst (λ (ks : List Key). IsAmong k ks) same_shared m)) h
    where
      roots : (k : Key) → IsOpenRoot t k → IsOpenRoot s k ⊎ IsSourced (IsSource sources) s.own k
      roots k (of_shared m) = inl (of_shared (subst (λ (ks : List Key). IsAmong k ks) same_shared m))
      roots k (of_import {n = n} {x = x} is m) = inl (of_import (subst (λ (i : NamedImports). i n ≡ Some x) same_imports is) m)
      roots k (of_taken {theirs = j} is) = elim (adds.only j k is) [ inl q ↦ inr (subst (λ (o : Key). IsSourced (IsSource sources) s.own o) (sym q.1) new) | inr was ↦ inl (of_taken was) ]

  -- one more is shared
  pub shared_in : (s t : State) (own : Key) → t.own ≡ s.own → t.imports ≡ s.imports → t.taken ≡ s.taken → AddsShared s.shared t.shared own
      → IsSourced (IsSource sources) s.own own → ((n : Text) → identifier_at s.own own ≡ Some n → IsSharer sources t n) → AreSourced sources s → AreSourced sources t
  shared_in s t own same_own same_imports same_taken adds new sharer h =
      more_roots s t same_own (λ k o is. (o, subst (λ (m : Remembered). m k ≡ Some o) (sym same_taken) is)) roots
      (λ k n m is. elim (adds.only k m) [ inl q ↦ inr (sharer n (sym (ap (identifier_at s.own) q) ∙ is)) | inr was ↦ inl was ]) h
    where
      roots : (k : Key) → IsOpenRoot t k → IsOpenRoot s k ⊎ IsSourced (IsSource sources) s.own k
      roots k (of_shared m) = elim (adds.only k m) [ inl q ↦ inr (subst (λ (o : Key). IsSourced (IsSource sources) s.own o) (sym q) new) | inr was ↦ inl (of_shared was) ]
      roots k (of_import {n = n} {x = x} is m) = inl (of_import (subst (λ (i : NamedImports). i n ≡ Some x) same_imports is) m)
      roots k (of_taken {theirs = j} is) = inl (of_taken (subst (λ (m : Remembered). m j ≡ Some k) same_taken is))

  -- other imports stand
  pub imports_in : (s t : State) → t.own ≡ s.own → t.shared ≡ s.shared → t.taken ≡ s.taken
      → ((n : Text) (x : ItemKind) → t.imports n ≡ Some x → (k : Key) → IsAmong k (item_keys x) → IsSourced (IsSource sources) s.own k) → AreSourced sources s → AreSourced sources t
  imports_in s t same_own same_shared same_taken new h =
      more_roots s t same_own (λ k o is. (o, subst (λ (m : Remembered). m k ≡ Some o) (sym same_taken) is)) roots (λ k n m is. inl (subst (λ (ks : List Key). IsAmong k ks) same_shared m)) h
    where
      roots : (k : Key) → IsOpenRoot t k → IsOpenRoot s k ⊎ IsSourced (IsSource sources) s.own k
      roots k (of_shared m) = inl (of_shared (subst (λ (ks : List Key). IsAmong k ks) same_shared m))
      roots k (of_import {n = n} {x = x} is m) = inr (new n x is k m)
      roots k (of_taken {theirs = j} is) = inl (of_taken (subst (λ (m : Remembered). m j ≡ Some k) same_taken is))

-- at the start, all that is held is a source
pub start_sourced : (sources : Sources) (s : State) → sources.start ≡ s.own → AreHeld s → AreSourced sources s
start_sourced sources s start h = record {
  roots = λ k r. record {
    exports = λ t n x w is. own_export (IsSource sources) s.own t (held start (h.held k t r w)) n x is;
    uses = λ t n u w has. use_itself t n u (held start (h.held k t r w)) has (h.used k t n u r w has);
  };
  sharers = λ k n m is. record {
    types = s.own;
    id = k.id;
    source = subst (λ (j : Key). IsSource sources s.own j) (identified_interface s.own k n is) (held start (h.held k k (of_shared m) stay));
    is_on = identified_on s.own k n is (class_of n) refl;
    stood = inl (sym start);
  };
}
  where
    use_itself : (t : Key) (n : Text) (u : UseContent) → IsSource sources s.own t → HasUse s.own t n u → HasIdentifier s.own u.interface → IsUseFrom (IsSource sources) s.own n u
    use_itself t n u source has there = go (identifier s.own u.interface) refl there
      where
        go : (o : Option Text) → identifier s.own u.interface ≡ o → IsSome o → IsUseFrom (IsSource sources) s.own n u
        go None is h = absurd (cc)
        go (Some name) is h = record {
          types = s.own;
          key = t;
          content = u;
          of_these = source;
          has = has;
          same_name = refl;
          track = class_of name;
          source_on = record { name = name; identified = is; on_track = refl };
          is_on = record { name = name; identified = is; on_track = refl };
        }

-- where nothing stands yet
nowhere : (k : Key) → IsAmong k [] → ⊥
nowhere k m = elim m [ ]

pub no_root : (s : State) → IsNewState s → (k : Key) → IsOpenRoot s k → ⊥
no_root s new k (of_shared m) = nowhere k (subst (λ (ks : List Key). IsAmong k ks) new.shared m)
no_root s new k (of_import {n = n} is m) = cc (new.imports n, is)
no_root s new k (of_taken {theirs = j} is) = cc (new.taken j, is)
