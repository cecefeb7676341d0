-- Open walks between shared entries lead from track to track as those of what was taken in do.
use Rattle.std.proofs.Common.{◌≡◌, slice_get, List, ◌∷◌, Some, sym, subst, ap}
use Rattle.wac_model.specs.Text.{Text}
use Rattle.wac_component.specs.Collection.{Collection, InterfaceContent}
use Rattle.wac_component.specs.Entries.{identifier_at}
use Rattle.wac_component.specs.Growth.{with_entry}
use Rattle.wac_component.specs.Id.{Id}
use Rattle.wac_component.specs.Key.{Key, Each, Stands, AllStand, optional_keys, other_keys, interface_entry, interface_key, interface_keys, item_keys, named_keys, use_keys}
use Rattle.wac_component.specs.Open.{open_next, stay}
use Rattle.wac_component.specs.Reach.{IsAmong}
use Rattle.wac_component.proofs.Among.{among_each, each_among}
use Rattle.wac_component.proofs.Keys.{Each-left, Each-right, Each-append}
use Rattle.wac_component.proofs.Reading.{interface_at}
use Rattle.wac_names.specs.Class.{Class, class_of}
use Rattle.wac_aggregator_narrowing.specs.Entering.{InterfaceIsTaken}
use Rattle.wac_aggregator_narrowing.specs.Last.{last_key}
use Rattle.wac_aggregator_narrowing.specs.Narrows.{AddsShared}
use Rattle.wac_aggregator_narrowing.specs.State.{State, IsStateKept}
use Rattle.wac_aggregator_narrowing.specs.Traced.{Root, IsAmongRoots, there, Arrow, Arrows, one, on, IsArrowed, LeadsAlongArrows}
use Rattle.wac_aggregator_narrowing.proofs.Adding.{last_at}
use Rattle.wac_aggregator_narrowing.proofs.Entering.{interface_parts, interface_named}
use Rattle.wac_aggregator_narrowing.proofs.Mapped.{taken_at}
use Rattle.wac_aggregator_narrowing.proofs.Tracing.{shared_along, taken_along, traced_shared, Arrows-trans}
use Rattle.wac_aggregator_taking.specs.Growing.{AreMetWith}
use Rattle.wac_aggregator_taking.proofs.GrowLemmas.{along_on}

-- ---- more roots

module _ (rs : List Root) (r : Root) where
  arrow_more : (a b : Class) → Arrow class_of rs a b → Arrow class_of (r ∷ rs) a b
  arrow_more a b h = record {
    of = h.of;
    root = h.root;
    from = h.from;
    to = h.to;
    from_name = h.from_name;
    to_name = h.to_name;
    is_root = there h.is_root;
    reached = h.reached;
    from_identified = h.from_identified;
    from_track = h.from_track;
    leads = h.leads;
    to_identified = h.to_identified;
    to_track = h.to_track;
  }

  arrows_more : (a b : Class) → Arrows class_of rs a b → Arrows class_of (r ∷ rs) a b
  arrows_more a b (one h) = one (arrow_more a b h)
  arrows_more a b (on {b = e} h g) = on (arrow_more a e h) (arrows_more e b g)

  pub arrowed_more : (c : Collection) (ss : List Key) → IsArrowed c ss rs → IsArrowed c ss (r ∷ rs)
  arrowed_more c ss h = record { traced = λ s t n m ms mt w. arrows_more (class_of n) (class_of m) (h.traced s t n m ms mt w); joined = Arrows-trans class_of (r ∷ rs) }

-- ---- an interface that is a root is taken in

module _ (f : Collection) (s : State) (p : Id) (x z : InterfaceContent) (name : Text) (kept : IsStateKept s) (h : InterfaceIsTaken class_of f s p x z) (identified : identifier_at f (interface_key p) ≡ Some name)
    (rs : List Root) (is_root : IsAmongRoots f (interface_key p) rs) (arrowed : IsArrowed s.own s.shared rs) where
  -- what it was made of leads along arrows from its track
  pub parts_along : Each (LeadsAlongArrows s.own s.shared rs (class_of name)) (interface_keys z)
  parts_along = each_among (LeadsAlongArrows s.own s.shared rs (class_of name)) (interface_keys z) (λ j m.
      let r = taken_at class_of f s (open_next f (interface_key p)) (interface_keys z) j (interface_parts class_of f s kept p x z h) m in
      taken_along class_of rs s.own s.shared f (interface_key p) (interface_key p) r.0 j name is_root stay identified r.1 kept.good r.2.remembered r.2.covered arrowed)

  -- it enters as a shared entry
  pub arrowed_shared : (ts : List Key) → z.id ≡ Some name → AddsShared s.shared ts (last_key s.own (interface_entry z)) → IsArrowed (with_entry s.own (interface_entry z)) ts rs
  arrowed_shared ts own_is shares =
      traced_shared class_of (Arrows class_of rs) s.own s.shared z (last_key s.own (interface_entry z)) (last_at s.own (interface_entry z)) kept.good (interface_named class_of f s kept p x z h) ts shares name own_is arrowed
      (λ j q. among_each (LeadsAlongArrows s.own s.shared rs (class_of name)) j (interface_keys z) q parts_along)

-- ---- a shared entry grows

module _ (s : State) (e : Id) (old new z : InterfaceContent) (name : Text) (kept : IsStateKept s) (among : IsAmong (interface_key e) s.shared) (was : slice_get s.own.interfaces e.index ≡ Some old) (own_is : identifier_at s.own (interface_key e) ≡ Some name)
    (d : Collection) (met : AreMetWith s.own d old.exports z.exports new.exports) (uses : (P : Key → Type 0) → Each P (named_keys use_keys old.uses) → Each P (named_keys use_keys z.uses) → Each P (named_keys use_keys new.uses))
    (old_stand : AllStand s.own (interface_keys old)) (new_stand : AllStand s.own (interface_keys z)) (rs : List Root) (arrowed : IsArrowed s.own s.shared rs) (along : Each (LeadsAlongArrows s.own s.shared rs (class_of name)) (interface_keys z)) where
  abbrev L : Key → Type 0
  L = LeadsAlongArrows s.own s.shared rs (class_of name)

  -- what it named leads along arrows from its track
  old_along : Each L (interface_keys old)
  old_along = each_among L (interface_keys old) (λ j q. shared_along class_of (Arrows class_of rs) s.own s.shared (interface_key e) j name arrowed (among, own_is) (subst (IsAmong j) (sym (ap (optional_keys other_keys) (interface_at s.own e old was))) q))

  -- so does what it names then
  pub grown_along : Each (LeadsAlongArrows d s.shared rs (class_of name)) (interface_keys new)
  grown_along =
      let still : (ks : List Key) → AllStand s.own ks → Each L ks → Each (LeadsAlongArrows d s.shared rs (class_of name)) ks = along_on s.own d met.on.grows s.shared rs (class_of name) kept.good in
      Each-append (LeadsAlongArrows d s.shared rs (class_of name)) (named_keys use_keys new.uses) (named_keys item_keys new.exports)
      (uses (LeadsAlongArrows d s.shared rs (class_of name))
      (still (named_keys use_keys old.uses) (Each-left (Stands s.own) (named_keys use_keys old.uses) (named_keys item_keys old.exports) old_stand) (Each-left L (named_keys use_keys old.uses) (named_keys item_keys old.exports) old_along))
      (still (named_keys use_keys z.uses) (Each-left (Stands s.own) (named_keys use_keys z.uses) (named_keys item_keys z.exports) new_stand) (Each-left L (named_keys use_keys z.uses) (named_keys item_keys z.exports) along)))
      (met.along s.shared rs (class_of name) kept.good (Each-right L (named_keys use_keys old.uses) (named_keys item_keys old.exports) old_along) (Each-right L (named_keys use_keys z.uses) (named_keys item_keys z.exports) along))
