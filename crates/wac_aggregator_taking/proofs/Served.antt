-- An interface whose parts were taken in, with the ids of what was taken in for what it names.
use Rattle.std.proofs.Common.{◌≡◌, ◌++◌, Bool, true, false, cond, [], ◌∷◌, Option, Some, None, slice_get, refl, ap, subst, ◌∙◌}
use Rattle.std.proofs.lemmas.List.{map-append}
use Rattle.std.proofs.lemmas.List.Elements.{All-map, All-weaker}
use Rattle.std.specs.Option.{option_map, option_map_or}
use Rattle.std.specs.Str.{bytes_eq}
use Rattle.wac_model.specs.Text.{Text, lookup}
use Rattle.wac_component.specs.Collection.{Collection, InterfaceContent}
use Rattle.wac_component.specs.Entries.{entry_uses, entry_exports, identifier_at}
use Rattle.wac_component.specs.Height.{height}
use Rattle.wac_component.specs.Id.{Id}
use Rattle.wac_component.specs.Key.{AllStand, Stands, interface_key, interface_keys, named_keys, use_keys}
use Rattle.wac_aggregator_memo.specs.Memo.{AddsPair, memo_of}
use Rattle.wac_aggregator_memo.specs.Renamed.{renamed_item, renamed_use, with_values}
use Rattle.wac_component.specs.Sound.{IsSound}
use Rattle.wac_component.specs.declared.items.ItemKind.{ItemKind}
use Rattle.wac_aggregator_memo.specs.declared.memo.Memo.{Memo}
use Rattle.wac_component.proofs.Keys.{Each-left, Each-right}
use Rattle.wac_component.proofs.Members.{uses_stand, exports_stand}
use Rattle.wac_component.proofs.Reading.{interface_at}
use Rattle.wac_merge.specs.Items.{ExternKinds, AreUnhidden, extern_keys}
use Rattle.wac_names.specs.Class.{Class, class_of}
use Rattle.wac_aggregator_promises.specs.Entries.{ReachesByUses}
use Rattle.wac_aggregator_promises.specs.Shared.{TakenIds}
use Rattle.wac_aggregator_promises.specs.WitList.{AreWit}
use Rattle.wac_aggregator_narrowing.specs.Taking.{IsTakenKey}
use Rattle.wac_aggregator_narrowing.proofs.Entering.{interface_named}
use Rattle.wac_aggregator_taking.specs.Members.{HasTakenIn, HasAllOf, TakesMembers}
use Rattle.wac_aggregator_taking.specs.Serving.{IsServing, own_exports, own_uses}
use Rattle.wac_aggregator_taking.specs.Steps.{AreContentsNoted}
use Rattle.wac_aggregator_taking.specs.Takes.{MayPut, MayTake, TakesBelow, shared_in, state_of}
use Rattle.wac_aggregator_taking.specs.declared.state.Merging.{Merging}
use Rattle.wac_aggregator_taking.proofs.GrowLemmas.{found_among}
use Rattle.wac_aggregator_taking.proofs.Grows.{Takes-grown}
use Rattle.wac_aggregator_taking.proofs.Identifiers.{identified_by}
use Rattle.wac_aggregator_taking.proofs.Made.{may_put}
use Rattle.wac_aggregator_taking.proofs.MemberGrows.{TakesMembers-grown}
use Rattle.wac_aggregator_taking.proofs.ServingLemmas.{grown_same, never_back}
use Rattle.wac_aggregator_taking.proofs.StepLemmas.{Takes-gives}
use Rattle.wac_aggregator_taking.proofs.TakeLemmas.{lookup-shared, shared_stands}

pub own_uses-at : (f : Collection) (a : Merging) (i : Id) (x : InterfaceContent) → slice_get f.interfaces i.index ≡ Some x → own_uses f a i ≡ with_values (renamed_use (memo_of a.taken)) x.uses
own_uses-at f a i x at = ap (λ o. with_values (renamed_use (memo_of a.taken)) (option_map_or entry_uses o [])) (interface_at f i x at)

pub own_exports-at : (f : Collection) (a : Merging) (i : Id) (x : InterfaceContent) → slice_get f.interfaces i.index ≡ Some x → own_exports f a i ≡ with_values (renamed_item (memo_of a.taken)) x.exports
own_exports-at f a i x at = ap (λ o. with_values (renamed_item (memo_of a.taken)) (option_map_or entry_exports o [])) (interface_at f i x at)

-- what stands under a name, with other values
pub lookup-with : (h : ItemKind → ItemKind) (es : ExternKinds) (n : Text) → lookup bytes_eq (with_values h es) n ≡ option_map h (lookup bytes_eq es n)
lookup-with h [] n = refl
lookup-with h (e ∷ es) n = by_test (bytes_eq n e.0) (lookup-with h es n)
  where
    by_test : (b : Bool) → lookup bytes_eq (with_values h es) n ≡ option_map h (lookup bytes_eq es n) → cond b (Some (h e.1)) (lookup bytes_eq (with_values h es) n) ≡ option_map h (cond b (Some e.1) (lookup bytes_eq es n))
    by_test true g = refl
    by_test false g = g

pub with_more : (h : ItemKind → ItemKind) (es : ExternKinds) (n : Text) (k : ItemKind) → with_values h (es ++ (n, k) ∷ []) ≡ with_values h es ++ (n, h k) ∷ []
with_more h es n k = map-append (λ (e : Text × ItemKind). (e.0, h e.1)) es ((n, k) ∷ [])

pub unhidden-with : (h : ItemKind → ItemKind) (es : ExternKinds) → AreUnhidden es → AreUnhidden (with_values h es)
unhidden-with h es found =
    All-map (λ (e : Text × ItemKind). lookup bytes_eq (with_values h es) e.0 ≡ Some e.1) (λ (e : Text × ItemKind). (e.0, h e.1)) es
    (All-weaker (λ (e : Text × ItemKind). lookup bytes_eq es e.0 ≡ Some e.1) (λ (e : Text × ItemKind). lookup bytes_eq (with_values h es) e.0 ≡ Some (h e.1))
    (λ (e : Text × ItemKind) is. lookup-with h es e.0 ∙ ap (λ (o : Option ItemKind). option_map h o) is) es found)

-- ---- an interface that is taken in

module _ (f : Collection) (a : Merging) (sound : IsSound f) (may : MayTake f a) (p : Id) (x : InterfaceContent) (st : Stands f (interface_key p)) (at : slice_get f.interfaces p.index ≡ Some x)
    (named : AllStand f (interface_keys x)) (has : AreContentsNoted f (memo_of a.taken) (interface_key p)) (absent : memo_of a.taken (interface_key p) ≡ None) where
  pub may_put_own : MayPut f a p (own_uses f a p) (own_exports f a p)
  may_put_own = may_put f a sound may p x (own_uses f a p) (own_exports f a p) st at (uses_stand f x named) (exports_stand f x named) has (own_uses-at f a p x at) (own_exports-at f a p x at) absent

  own_named : AllStand a.types (named_keys use_keys (own_uses f a p) ++ extern_keys (own_exports f a p))
  own_named = interface_named class_of f (state_of a) may.kept p may_put_own.content _ may_put_own.taken

  pub own_uses_stand : AllStand a.types (named_keys use_keys (own_uses f a p))
  own_uses_stand = Each-left (Stands a.types) (named_keys use_keys (own_uses f a p)) (extern_keys (own_exports f a p)) own_named

  pub own_exports_stand : AllStand a.types (extern_keys (own_exports f a p))
  own_exports_stand = Each-right (Stands a.types) (named_keys use_keys (own_uses f a p)) (extern_keys (own_exports f a p)) own_named

  -- it is taken in as a shared entry that serves it
  module _ (own : Id) (q : Class) (identified : Some q ≡ option_map class_of (identifier_at f (interface_key p))) (there : shared_in a.shared.entries q ≡ Some own) (s : IsServing a.types own (own_uses f a p) (own_exports f a p))
      (n : Memo) (adds : AddsPair (memo_of a.taken) (memo_of n) (interface_key p) (interface_key own)) where
    abbrev name : Text
    name = (identified_by (identifier_at f (interface_key p)) q identified).0

    is_named : identifier_at f (interface_key p) ≡ Some name
    is_named = (identified_by (identifier_at f (interface_key p)) q identified).1

    shared : shared_in a.shared.entries (class_of name) ≡ Some own
    shared = subst (λ d. shared_in a.shared.entries d ≡ Some own) (identified_by (identifier_at f (interface_key p)) q identified).2 there

    stands : Stands a.types (interface_key own)
    stands = shared_stands (state_of a) may.kept (interface_key own) (lookup-shared (class_of name) a.shared.entries own shared)

    pub takes_served : TakesBelow [] f a (record a { taken = n }) (interface_key p)
    takes_served =
        Takes-gives f a (record a { taken = n }) (height f (interface_key p)) (interface_key p ∷ []) (λ t. IsTakenKey class_of f t (interface_key p) (interface_key own)) (λ t. Unit {0}) tt
        (Takes-grown f a may p own name (own_uses f a p) (own_exports f a p) may_put_own is_named shared s.entry s.entry s.at s.stands refl (λ P h g. h) a.types s.exports
        s.uses s.found (found_among s.entry.exports s.distinct.1) a.types n (never_back a.types s.sound own s.entry stands s.at) (grown_same a.types own s.entry s.at) adds)

    pub members_served : (taken : TakenIds) → AreWit f (ReachesByUses f p) → HasTakenIn a taken → HasAllOf f a taken → TakesMembers f a (record a { taken = n }) (ReachesByUses f p) taken
    members_served taken wit has all =
        TakesMembers-grown f a may p own name (own_uses f a p) (own_exports f a p) may_put_own is_named shared taken wit has s.entry s.at s.entry s.stands refl (λ P h g. h) a.types s.exports
        s.uses s.agree s.distinct.0 (found_among s.entry.exports s.distinct.1) s.stands
        (never_back a.types s.sound own s.entry stands s.at) a.types n (grown_same a.types own s.entry s.at) adds
