-- Arrows between tracks are those of the table, where all that is openly
-- reached from their roots are sources.
use Rattle.std.specs.Option.{option_map_or}
use Rattle.std.proofs.Common.{◌≡◌, List, ℕ, Option, Some, None, refl, sym, ap, subst, ◌∙◌, map, slice_get, option_map}
use Rattle.wac_model.specs.Text.{Text}
use Rattle.wac_component.specs.Id.{Id}
use Rattle.wac_component.specs.Collection.{Collection}
use Rattle.wac_component.specs.Key.{Key, Sort, defined_sort, resource_sort, func_sort, interface_sort, world_sort, module_sort, Entry, defined_entry, resource_entry, func_entry, world_entry, module_entry, interface_key, entries}
use Rattle.wac_component.specs.Implicit.{identifier}
use Rattle.wac_component.specs.Entries.{identifier_at, entry_identifier}
use Rattle.wac_component.specs.Open.{OpenReaches, step}
use Rattle.wac_component.proofs.Lists.{slice_get-map}
use Rattle.wac_component.proofs.Walks.{no_walk_returns}
use Rattle.wac_component.proofs.OpenWalks.{open_in_next, opens_reach, opens_stand, OpenReaches-trans}
use Rattle.wac_names.specs.Class.{Class, class_of}
use Rattle.wac_aggregator_promises.specs.Attempt.{Attempt, Sources, IsSource, OpenlyReached}
use Rattle.wac_aggregator_promises.specs.Entries.{IsIdentifiedOn}
use Rattle.wac_aggregator_promises.specs.Compatible.{LeadsOver}
use Rattle.wac_aggregator_promises.specs.Compatible as tracks
use Rattle.wac_aggregator_promises.specs.Reason.{TrackLeads, IsReason, cycle}
use Rattle.wac_aggregator_narrowing.specs.Traced.{Root, Arrow, Arrows}
use Rattle.wac_aggregator_narrowing.specs.Traced as arrow
use Rattle.wac_aggregator_reasons.specs.Roots.{RootsAreSources}
use Rattle.wac_aggregator_reasons.proofs.Moving.{identifier_is}

-- only interfaces have identifiers
unnamed : {A : Type 0} (f : A → Entry) → ((x : A) → entry_identifier (f x) ≡ None) → (xs : List A) (i : ℕ) → option_map_or entry_identifier (slice_get (map f xs) i) None ≡ None
unnamed {A} f h xs i = ap (λ o. option_map_or entry_identifier o None) (slice_get-map f xs i) ∙ go (slice_get xs i)
  where
    go : (o : Option A) → option_map_or entry_identifier (option_map f o) None ≡ None
    go None = refl
    go (Some x) = h x

none_is : {n : Text} {o : Option Text} → o ≡ None → o ≡ Some n → ⊥
none_is p q = cc (p, q)

pub identified_interface : (c : Collection) (k : Key) (n : Text) → identifier_at c k ≡ Some n → k ≡ interface_key k.id
identified_interface c k n is = go k.sort k.id is
  where
    go : (s : Sort) (p : Id) → option_map_or entry_identifier (slice_get (entries c s) p.index) None ≡ Some n → record { sort = s; id = p } ≡ interface_key p
    go defined_sort p h = absurd (none_is (unnamed defined_entry (λ x. refl) c.defined p.index) h)
    go resource_sort p h = absurd (none_is (unnamed resource_entry (λ x. refl) c.resources p.index) h)
    go func_sort p h = absurd (none_is (unnamed func_entry (λ x. refl) c.funcs p.index) h)
    go interface_sort p h = refl
    go world_sort p h = absurd (none_is (unnamed world_entry (λ x. refl) c.worlds p.index) h)
    go module_sort p h = absurd (none_is (unnamed module_entry (λ x. refl) c.modules p.index) h)

pub identified_on : (c : Collection) (k : Key) (n : Text) → identifier_at c k ≡ Some n → (t : Class) → class_of n ≡ t → IsIdentifiedOn c k.id t
identified_on c k n is t on = record { name = n; identified = sym (identifier_is c k.id) ∙ sym (ap (identifier_at c) (identified_interface c k n is)) ∙ is; on_track = on }

module _ (sources : Sources) (rs : List Root) (roots : RootsAreSources sources rs) where
  arrow_leads : (a b : Class) → Arrow class_of rs a b → TrackLeads sources a b
  arrow_leads a b r =
      let root = roots r.of r.root r.is_root in
      let from_is = identified_interface r.of r.from r.from_name r.from_identified in
      let to_is = identified_interface r.of r.to r.to_name r.to_identified in
      let walk = step r.leads.named r.leads.onward in
      record {
        types = r.of;
        from = r.from.id;
        to = r.to.id;
        from_source = subst (λ (k : Key). IsSource sources r.of k) from_is (root.leads_to r.from r.reached);
        to_source = subst (λ (k : Key). IsSource sources r.of k) to_is (root.leads_to r.to (OpenReaches-trans r.of r.root r.from r.to r.reached walk));
        from_on = identified_on r.of r.from r.from_name r.from_identified a r.from_track;
        to_on = identified_on r.of r.to r.to_name r.to_identified b r.to_track;
        another = λ e.
            let same : r.to ≡ r.from = to_is ∙ ap interface_key e ∙ sym from_is in
            no_walk_returns r.of root.sound r.from r.leads.by (opens_stand r.of root.sound r.root r.from root.stands r.reached) (open_in_next r.of r.from r.leads.by r.leads.named)
            (opens_reach r.of r.leads.by r.from (subst (λ (k : Key). OpenReaches r.of r.leads.by k) same r.leads.onward));
        walk = subst (λ (k : Key). OpenReaches r.of (interface_key r.from.id) k) to_is (subst (λ (k : Key). OpenReaches r.of k r.to) from_is walk);
      }

  arrows_lead : (a b : Class) → Arrows class_of rs a b → LeadsOver (TrackLeads sources) a b
  arrows_lead a b (arrow.one h) = tracks.one (arrow_leads a b h)
  arrows_lead a b (arrow.on {b = x} h rest) = tracks.more (arrow_leads a x h) (arrows_lead x b rest)

-- where arrows lead from the track of an interface that the item openly reaches back to it
pub cycle_closes : (a : Attempt) (rs : List Root) (i : Id) (name : Text) → RootsAreSources a.sources rs → OpenlyReached a (interface_key i) → identifier a.call.types i ≡ Some name
    → Arrows class_of rs (class_of name) (class_of name) → IsReason a (cycle name)
cycle_closes a rs i name roots reached is h = record { interface = i; reached = reached; identified = is; leads_back = arrows_lead a.sources rs roots (class_of name) (class_of name) h }
