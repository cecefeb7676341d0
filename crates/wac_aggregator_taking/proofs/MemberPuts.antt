-- An interface as WIT gives it that is added as a shared entry: it is
-- taken in after those that were.
use Rattle.std.proofs.Common.{◌≡◌, ◌≢◌, ◌⊎◌, inl, inr, refl, ap, sym, subst, ◌∙◌, Contains, Bool, true, false, cond, List, [], ◌∷◌, ◌++◌, Some, None}
use Rattle.std.proofs.lemmas.List.{map-append}
use Rattle.std.proofs.lemmas.List.Elements.{All-contains}
use Rattle.std.proofs.lemmas.Slice.Eq.{bytes_eq-Decides}
use Rattle.std.specs.Map.{keys_of, update}
use Rattle.std.specs.Option.{option_map_or}
use Rattle.std.specs.Str.{bytes_eq}
use Rattle.wac_model.specs.Text.{Text, lookup}
use Rattle.wac_core_merge.proofs.EntryLemmas.{All-found}
use Rattle.wac_component.specs.Collection.{Collection, UseContent, InterfaceContent}
use Rattle.wac_component.specs.Distinct.{AreDistinct}
use Rattle.wac_component.specs.Entries.{entry_uses, identifier_at, uses_at, exports_at}
use Rattle.wac_component.specs.Growth.{Extends, with_entry}
use Rattle.wac_component.specs.Id.{Id}
use Rattle.wac_component.specs.Implicit.{identifier}
use Rattle.wac_component.specs.Key.{Key, Stands, AllStand, entry_at, interface_entry, interface_key, interface_keys, item_keys, named_keys, use_keys}
use Rattle.wac_component.specs.Laws.{HasLeavesOf}
use Rattle.wac_aggregator_memo.specs.Memo.{AddsPair, memo_of}
use Rattle.wac_component.specs.Reach.{IsAmong}
use Rattle.wac_component.specs.Sound.{IsSound}
use Rattle.wac_component.specs.Tree.{item_tree, items_of}
use Rattle.wac_component.proofs.Adding.{IsSound-with_entry, Extends-with_entry}
use Rattle.wac_component.proofs.Keys.{Each-right}
use Rattle.wac_component.proofs.Last.{IsLast}
use Rattle.wac_component.proofs.Reading.{interface_at}
use Rattle.wac_names.specs.Class.{Class, class_eq, class_of}
use Rattle.wac_names.proofs.Classes.{classes_decided}
use Rattle.wac_aggregator_promises.specs.Entries.{ReachesByUses, stay}
use Rattle.wac_aggregator_promises.specs.Shared.{TakenIds}
use Rattle.wac_aggregator_promises.specs.TakingIn.{IsSharedAdded}
use Rattle.wac_aggregator_promises.specs.WitList.{AreWit}
use Rattle.wac_aggregator_promises.proofs.Growing.{growth_takes_in}
use Rattle.wac_aggregator_promises.proofs.Members.{not_without}
use Rattle.wac_aggregator_promises.proofs.Read.{exports_of_entry, lookup_contains}
use Rattle.wac_aggregator_promises.proofs.TakenIn.{sharing_goes_on}
use Rattle.wac_aggregator_narrowing.specs.Last.{last_key}
use Rattle.wac_aggregator_narrowing.specs.Narrows.{AddsShared}
use Rattle.wac_aggregator_narrowing.specs.Traced.{here, IsArrowed}
use Rattle.wac_aggregator_narrowing.proofs.Adding.{last_at}
use Rattle.wac_aggregator_narrowing.proofs.Entering.{interface_named}
use Rattle.wac_aggregator_reasons.proofs.Moving.{identifier_is}
use Rattle.wac_aggregator_taking.specs.Members.{HasTakenIn, TakesMembers, roots_of}
use Rattle.wac_aggregator_taking.specs.Takes.{MayTake, MayPut, shared_in, shared_keys, state_of}
use Rattle.wac_aggregator_taking.specs.declared.state.Merging.{Merging}
use Rattle.wac_aggregator_taking.proofs.Identifiers.{has_identifier}
use Rattle.wac_aggregator_taking.proofs.Arrowed.{arrowed_more, arrowed_shared}
use Rattle.wac_aggregator_taking.proofs.TakeLemmas.{adds_last, taken_as}
use Rattle.wac_aggregator_taking.proofs.MemberParts.{AreLeaves, taken_leaves, used_of, used_by, TakesMembers-put}

-- an interface as WIT gives it has an identifier
pub no_plain : (f : Collection) (p : Id) → identifier_at f (interface_key p) ≡ None → AreWit f (ReachesByUses f p) → ⊥
no_plain f p plain wit = not_without f p (wit.identified p stay) (sym (identifier_is f p) ∙ plain)

-- an entry that is filed last is shared
pub shares_last : (ss ts : List (Class × Id)) (q : Class) (own : Id) → ts ≡ ss ++ (q, own) ∷ [] → AddsShared (shared_keys ss) (shared_keys ts) (interface_key own)
shares_last ss ts q own is =
    subst (λ ks. AddsShared (shared_keys ss) ks (interface_key own)) (sym (ap shared_keys is ∙ map-append (λ (e : Class × Id). interface_key e.1) ss ((q, own) ∷ []))) (adds_last (shared_keys ss) (interface_key own))

-- the entry z at `own`, of the interface at p, is shared on the track q
module _ (f : Collection) (a b : Merging) (may : MayTake f a) (p own : Id) (z : InterfaceContent) (put : MayPut f a p z.uses z.exports) (name : Text) (q : Class)
    (theirs_is : identifier_at f (interface_key p) ≡ Some name) (own_is : z.id ≡ Some name) (of : q ≡ class_of name) (absent : shared_in a.shared.entries q ≡ None) (distinct : AreDistinct (keys_of z.uses))
    (at_last : interface_key own ≡ last_key a.types (interface_entry z)) (added : b.types ≡ with_entry a.types (interface_entry z))
    (puts : (t : Class) → shared_in b.shared.entries t ≡ update class_eq (shared_in a.shared.entries) q (Some own) t) where
  put_here : shared_in b.shared.entries q ≡ Some own
  put_here = puts q ∙ ap (λ t. cond t (Some own) (shared_in a.shared.entries q)) ((classes_decided q q).1 refl)

  put_others : (t : Class) → t ≢ q → shared_in b.shared.entries t ≡ shared_in a.shared.entries t
  put_others t ne = puts t ∙ by (class_eq q t) refl
    where
      by : (r : Bool) → class_eq q t ≡ r → cond r (Some own) (shared_in a.shared.entries t) ≡ shared_in a.shared.entries t
      by true e = absurd (ne (sym ((classes_decided q t).0 e)))
      by false e = refl

  put_still : (t : Class) (i : Id) → shared_in a.shared.entries t ≡ Some i → shared_in b.shared.entries t ≡ Some i
  put_still t i at = put_others t (λ same. let none : None ≡ Some i = sym absent ∙ ap (shared_in a.shared.entries) (sym same) ∙ at in cc) ∙ at

  -- the collection
  last : IsLast a.types (with_entry a.types (interface_entry z)) (interface_entry z) (last_key a.types (interface_entry z))
  last = last_at a.types (interface_entry z)

  own_at : entry_at b.types (interface_key own) ≡ Some (interface_entry z)
  own_at = (λ i. entry_at (added i) (at_last i)) ∙ last.at

  own_stands : Stands b.types (interface_key own)
  own_stands = subst (λ (c : Collection). Stands c (interface_key own)) (sym added) (subst (λ (k : Key). Stands (with_entry a.types (interface_entry z)) k) (sym at_last) last.stands)

  names_stand : AllStand a.types (interface_keys z)
  names_stand = interface_named class_of f (state_of a) may.kept p put.content _ put.taken

  own_sound : IsSound b.types
  own_sound = subst IsSound (sym added) (IsSound-with_entry a.types (interface_entry z) may.kept.good.sound names_stand)

  own_grows : Extends a.types b.types
  own_grows = subst (Extends a.types) (sym added) (Extends-with_entry a.types (interface_entry z) may.kept.good.sound)

  own_leaves : HasLeavesOf a.types b.types
  own_leaves = subst (HasLeavesOf a.types) (sym added) (record { number = refl; resources = refl; defined = refl; funcs = refl })

  -- what the interface says
  named_so : identifier f p ≡ Some name
  named_so = has_identifier f (interface_key p) name theirs_is

  uses_are : uses_at f (interface_key p) ≡ put.content.uses
  uses_are = ap (λ o. option_map_or entry_uses o []) (interface_at f p put.content put.taken.entry)

  exports_are : exports_at f (interface_key p) ≡ put.content.exports
  exports_are = exports_of_entry f p put.content put.taken.entry

  module _ (taken : TakenIds) (wit : AreWit f (ReachesByUses f p)) (has : HasTakenIn a taken) where
    leaves_taken : AreLeaves z.exports × (items_of (item_tree a.types) z.exports ≡ items_of (item_tree f) put.content.exports)
    leaves_taken = taken_leaves f (state_of a) put.content.exports z.exports put.taken.exports (subst AreLeaves exports_are (wit.exports p stay))

    is_added : IsSharedAdded a.types (shared_in a.shared.entries) b.types (shared_in b.shared.entries) f p
    is_added = record {
      sound = own_sound;
      grows = own_grows;
      same_leaves = own_leaves;
      track = q;
      is_on = record { name = name; identified = named_so; on_track = sym of };
      none_stood = absent;
      entry = own;
      content = z;
      stands = own_stands;
      is_at = own_at;
      same_identifier = own_is ∙ sym named_so;
      leaves = leaves_taken.0;
      exports_stand = Each-right (Stands a.types) (named_keys use_keys z.uses) (named_keys item_keys z.exports) names_stand;
      exports = leaves_taken.1 ∙ ap (items_of (item_tree f)) (sym exports_are);
      uses = λ n u m.
          let r = used_of f a may taken has put.content.uses z.uses put.used n u (subst (λ us. Contains us (n, u)) uses_are m) in
          (r.0, All-contains (λ (e : Text × UseContent). lookup bytes_eq z.uses e.0 ≡ Some e.1) z.uses (n, r.0) (All-found bytes_eq bytes_eq-Decides z.uses distinct) r.1, r.2);
      only_uses = λ n v at.
          let r = used_by f a may taken has put.content.uses z.uses put.used n v (lookup_contains z.uses n v at) in
          record { content = r.0; has = subst (λ us. Contains us (n, r.0)) (sym uses_are) r.1; is_use = r.2 };
      is_entry = put_here;
      others = put_others;
    }

    pub TakesMembers-added : AddsShared (shared_keys a.shared.entries) (shared_keys b.shared.entries) (interface_key own) → AddsPair (memo_of a.taken) (memo_of b.taken) (interface_key p) (interface_key own) → TakesMembers f a b (ReachesByUses f p) taken
    TakesMembers-added shares pair =
        TakesMembers-put f a b p own taken put.taken.stands has
        (sharing_goes_on.more taken a.types b.types (shared_in a.shared.entries) (shared_in b.shared.entries) f p has.shared
        (growth_takes_in.added taken a.types b.types (shared_in a.shared.entries) (shared_in b.shared.entries) f p put.taken.sound put.taken.stands has.shared is_added))
        (λ e among. by e (shares.only (interface_key e) among)) pair (arrowed shares)
      where
        -- the interface is a root, from which walks lead on as what it was made of does
        arrowed : AddsShared (shared_keys a.shared.entries) (shared_keys b.shared.entries) (interface_key own) → IsArrowed b.types (shared_keys b.shared.entries) (roots_of ((f, p) ∷ taken))
        arrowed shares = subst (λ c. IsArrowed c (shared_keys b.shared.entries) (roots_of ((f, p) ∷ taken))) (sym added)
            (arrowed_shared f (state_of a) p put.content z name may.kept (taken_as f (state_of a) p put.content z.uses z.exports z.id put.taken) theirs_is (roots_of ((f, p) ∷ taken)) here
            (arrowed_more (roots_of taken) (record { of = f; at = interface_key p }) a.types (shared_keys a.shared.entries) has.arrowed) (shared_keys b.shared.entries) own_is (subst (AddsShared (shared_keys a.shared.entries) (shared_keys b.shared.entries)) at_last shares))

        by : (e : Id) → (interface_key e ≡ interface_key own) ⊎ IsAmong (interface_key e) (shared_keys a.shared.entries) → (t : Class) × (shared_in b.shared.entries t ≡ Some e)
        by e (inl same) = (q, put_here ∙ ap (λ (k : Key). Some k.id) (sym same))
        by e (inr among) = let t = has.found e among in (t.0, put_still t.0 e t.1)
