-- What a call does to the names and the tracks of imports, and that owners in its item are
-- imported.
use Rattle.std.proofs.Common.{◌≡◌, ◌≢◌, ◌⊎◌, Bool, true, false, Option, Some, None, inl, inr, refl, ap, sym, ◌∙◌, subst}
use Rattle.std.specs.Option.{option_map}
use Rattle.wac_model.specs.Text.{Text}
use Rattle.wac_component.specs.Collection.{Collection}
use Rattle.wac_component.specs.Key.{AllStand, Stands, interface_key, item_keys}
use Rattle.wac_component.specs.declared.items.ItemKind.{ItemKind}
use Rattle.wac_component.specs.declared.items.ItemKind.TheVariants.{Instance}
use Rattle.wac_component.proofs.Among.{among_each}
use Rattle.wac_names.specs.Class.{Class, class_of, class_eq}
use Rattle.wac_names.proofs.Classes.{classes_decided}
use Rattle.wac_aggregator_narrowing.specs.State.{IsStateKept, IsOneWith}
use Rattle.wac_aggregator_narrowing.proofs.Mapped.{taken_of}
use Rattle.wac_aggregator_promises.specs.Call.{Call, call_track}
use Rattle.wac_aggregator_promises.specs.Due.{OwnsOn, IsHigher}
use Rattle.wac_aggregator_promises.specs.Imported.{track_names, IsNamedAfter, new, raised, kept, ImportsOwner, ImportsAfter}
use Rattle.wac_aggregator_imports.specs.Import.{ImportContent, import_of, import_at, AreFiled, PutsImport, IsImportNoted, stays, leads, raises}
use Rattle.wac_aggregator_imports.proofs.Listed.{classes_listed, listed_of}
use Rattle.wac_aggregator_taking.specs.Takes.{state_of, MayTake, OwnersImported, LeadsToOwner, IsOwnersImport}
use Rattle.wac_aggregator_taking.specs.declared.state.Merging.{Merging}
use Rattle.wac_aggregator_taking.proofs.Identifiers.{has_identifier, identifier_of}
use Rattle.wac_aggregator_taking.proofs.TakeLemmas.{shared_stands}
use Rattle.wac_aggregator.specs.Advances.{IsImportPlaced, Advances, added, noted}
use Rattle.wac_aggregator.specs.Content.{shown, content_of}
use Rattle.wac_aggregator.proofs.Advancing.{placing, rest, taken_kept, at_of, of_at}
use Rattle.wac_aggregator.proofs.Leading.{PlacedAs, placed_other, placed_still, puts_here, some_is}
use Rattle.wac_aggregator.proofs.Newer.{higher-newer, not_higher-self, not_higher-old}
use Rattle.wac_aggregator.proofs.Plain.{on_class}

-- the name of the import on a track is that of the import of the class
pub track_name : (a : Merging) (t : Class) → AreFiled a.imports → track_names (shown (content_of a)) t ≡ option_map (λ (i : ImportContent). i.0) (import_of a.imports t)
track_name a t filed = on_class (λ (i : ImportContent). i.0) a.imports.list t (classes_listed a.imports filed)

-- an import with a name
record IsNamedImport (a : Merging) (t : Class) (name : Text) : Type 0 where
  pub import : ImportContent
  pub at : import_of a.imports t ≡ Some import
  pub named : import.0 ≡ name

of_name : (a : Merging) (t : Class) (name : Text) → AreFiled a.imports → track_names (shown (content_of a)) t ≡ Some name → IsNamedImport a t name
of_name a t name filed h = by (import_of a.imports t) refl (sym (track_name a t filed) ∙ h)
  where
    by : (o : Option ImportContent) → import_of a.imports t ≡ o → option_map (λ (i : ImportContent). i.0) o ≡ Some name → IsNamedImport a t name
    by None at k = absurd (cc)
    by (Some i) at k = record { import = i; at = at; named = cc }

module _ (call : Call) (a b : Merging) (may : MayTake call.types a) (filed_a : AreFiled a.imports) (filed_b : AreFiled b.imports) (h : Advances call a b) where
  abbrev c : Class
  c = call_track call

  abbrev placed : PlacedAs a.imports h.taken.imports b.imports call.name h.import
  placed = placing call a b may filed_a filed_b h

  name_at : (m : Merging) (t : Class) (i : ImportContent) → AreFiled m.imports → import_of m.imports t ≡ Some i → track_names (shown (content_of m)) t ≡ Some i.0
  name_at m t i filed at = track_name m t filed ∙ ap (option_map (λ (j : ImportContent). j.0)) at

  -- on the track of the call
  named_here : IsImportPlaced a.imports h.taken.imports b.imports call.name h.import → (name : Text) × (track_names (shown (content_of b)) c ≡ Some name) × IsNamedAfter call.name (track_names (shown (content_of a)) c) name
  named_here (added none absent puts led) =
      (call.name, name_at b c (call.name, h.import) filed_b (puts_here h.taken.imports b.imports c (call.name, h.import) puts), subst (λ o. IsNamedAfter call.name o call.name) (sym (track_name a c filed_a ∙ ap (option_map (λ (j : ImportContent). j.0)) none)) new)
  named_here (noted i stood is_noted) = by is_noted
    where
      now : (n : Text) → PutsImport h.taken.imports b.imports c (n, h.import) → track_names (shown (content_of b)) c ≡ Some n
      now n puts = name_at b c (n, h.import) filed_b (puts_here h.taken.imports b.imports c (n, h.import) puts)

      was : (n : Text) → IsNamedAfter call.name (Some i.0) n → IsNamedAfter call.name (track_names (shown (content_of a)) c) n
      was n k = subst (λ o. IsNamedAfter call.name o n) (sym (name_at a c i filed_a stood)) k

      by : IsImportNoted h.taken.imports b.imports c i.0 call.name h.import → (name : Text) × (track_names (shown (content_of b)) c ≡ Some name) × IsNamedAfter call.name (track_names (shown (content_of a)) c) name
      by (stays is puts led) = (i.0, now i.0 puts, was i.0 (kept (subst (λ n. ¬ (IsHigher n i.0)) (sym is) (not_higher-self i.0))))
      by (leads old puts led) = (i.0, now i.0 puts, was i.0 (kept (not_higher-old call.name i.0 old)))
      by (raises newer puts led) = (call.name, now call.name puts, was call.name (raised (higher-newer call.name i.0 newer)))

  -- on another track
  apart : (t : Class) → t ≢ c → class_eq c t ≡ false
  apart t other = by (class_eq c t) refl
    where
      by : (x : Bool) → class_eq c t ≡ x → x ≡ false
      by true e = absurd (other (sym ((classes_decided c t).0 e)))
      by false e = refl

  as_taken : (t : Class) → t ≢ c → import_of b.imports t ≡ import_of h.taken.imports t
  as_taken t other = placed_other a.imports h.taken.imports b.imports call.name h.import placed h.takes.stays t (apart t other)

  stay_named : (t : Class) (name : Text) → t ≢ c → track_names (shown (content_of a)) t ≡ Some name → track_names (shown (content_of b)) t ≡ Some name
  stay_named t name other at =
      let i = of_name a t name filed_a at in
      name_at b t i.import filed_b (as_taken t other ∙ h.takes.stays t i.import i.at) ∙ ap (λ (n : Text). Some n) i.named

  only_owners : (t : Class) (name : Text) → t ≢ c → track_names (shown (content_of b)) t ≡ Some name → (track_names (shown (content_of a)) t ≡ Some name) ⊎ ImportsOwner (shown (content_of b)) call t name
  only_owners t name other at =
      let i = of_name b t name filed_b at in
      elim (h.takes.due t i.import (sym (as_taken t other) ∙ i.at)) [
        | inl stood ↦ inl (name_at a t i.import filed_a stood ∙ ap (λ (n : Text). Some n) i.named)
        | inr owner ↦ inr (subst (λ (n : Text). ImportsOwner (shown (content_of b)) call t n) i.named (of_owner i.import i.at owner))
      ]
    where
      of_owner : (i : ImportContent) → import_of b.imports t ≡ Some i → IsOwnersImport call.types (item_keys call.kind) h.taken t i → ImportsOwner (shown (content_of b)) call t i.0
      of_owner i is owner = record {
        owned = record {
          resource = owner.leads.resource;
          owner = owner.leads.owner;
          reached = (owner.from, owner.among, owner.leads.walk);
          owned = owner.leads.owned;
          is_on = record { name = owner.owner_name; identified = has_identifier call.types (interface_key owner.leads.owner) owner.owner_name owner.leads.identified; on_track = owner.on_track };
        };
        entry = owner.entry;
        import = listed_of b.imports filed_b i.0 (Instance owner.entry) (ap (import_of b.imports) (filed_b.imports t i is) ∙ is ∙ ap (λ (x : ItemKind). Some (i.0, x)) owner.item);
        identified = has_identifier b.types (interface_key owner.entry) i.0
            (((rest call a b may filed_a filed_b h).stops kept_then).identifiers (interface_key owner.entry) (shared_stands (state_of h.taken) kept_then (interface_key owner.entry) owner.is_shared) ∙ owner.named);
      }
        where
          kept_then : IsStateKept (state_of h.taken)
          kept_then = taken_kept call a b may filed_a filed_b h

  pub imports_after : ImportsAfter (shown (content_of a)) (shown (content_of b)) call
  imports_after = record { here = named_here h.placed; stay = stay_named; only = only_owners }

  -- what was imported once the item was taken in is so still, as to its track
  pub still_imported : (t : Class) (i : ImportContent) → import_of h.taken.imports t ≡ Some i → (j : ImportContent) × (import_of b.imports t ≡ Some j)
  still_imported t i at = placed_still a.imports h.taken.imports b.imports call.name h.import placed h.takes.stays t i at

  -- an owner in the item is imported
  pub owner_imported : OwnersImported call.types (state_of a) → AllStand call.types (item_keys call.kind) → (t : Class) → OwnsOn call t → (j : ImportContent) × (import_of b.imports t ≡ Some j)
  owner_imported before item t o =
      let f = call.types in
      let key = taken_of class_of f (state_of h.taken) (item_keys call.kind) (item_keys h.own) o.reached.0 h.takes.holds.keys o.reached.1 in
      let number = (among_each (Stands f) o.reached.0 (item_keys call.kind) o.reached.1 item).0 in
      let to : LeadsToOwner f o.reached.0 o.is_on.name = record { resource = o.resource; owner = o.owner; walk = o.reached.2; owned = o.owned; identified = identifier_of f o.owner o.is_on.name o.is_on.identified } in
      let there_is = h.takes.owners f (λ e. refl) before o.reached.0 key.0 o.is_on.name key.2.noted number to in
      let x = some_is (import_at h.taken.imports o.is_on.name) there_is in
      let i = of_at h.taken.imports o.is_on.name x.0 x.1 in
      still_imported t i.0 (ap (import_of h.taken.imports) (sym o.is_on.on_track) ∙ i.1)

  -- owners are imported still
  pub owners_after : (g : Collection) → IsOneWith call.types g → OwnersImported g (state_of a) → OwnersImported g (state_of b)
  owners_after g one before k o n at number to =
      let was = h.takes.owners g one before k o n (subst (λ (m : Merging). (state_of m).taken k ≡ Some o) h.same at) number to in
      let x = some_is (import_at h.taken.imports n) was in
      let i = of_at h.taken.imports n x.0 x.1 in
      let j = still_imported (class_of n) i.0 i.1 in
      rw (at_of b.imports n j.0 j.1) refl
