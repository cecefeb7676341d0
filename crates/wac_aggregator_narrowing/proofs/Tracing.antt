-- A shared interface that can't grow is on a track that leads back to itself.
use Rattle.std.proofs.Common.{◌≡◌, List, None, Some, refl, ap, sym, subst, ◌∙◌, ◌⊎◌, inl, inr}
use Rattle.std.specs.Option.{option_map_or}
use Rattle.wac_model.specs.Text.{Text}
use Rattle.wac_component.specs.Id.{Id}
use Rattle.wac_component.specs.Collection.{Collection, InterfaceContent}
use Rattle.wac_component.specs.Growth.{Extends, with_entry}
use Rattle.wac_component.specs.Key.{Key, interface_entry, other_keys, optional_keys, interface_key, interface_keys, item_keys, Each, Stands, AllStand}
use Rattle.wac_component.specs.Reach.{IsAmong}
use Rattle.wac_component.specs.Replacing.{NamesReach}
use Rattle.wac_component.specs.Sound.{IsSound}
use Rattle.wac_component.specs.declared.items.ItemKind.{ItemKind}
use Rattle.wac_component.specs.Open.{open_next, OpenReaches, stay, step}
use Rattle.wac_component.specs.Entries.{entry_identifier, identifier_at}
use Rattle.wac_component.proofs.Adding.{Extends-with_entry}
use Rattle.wac_component.proofs.Keys.{Key-discrete}
use Rattle.wac_component.proofs.Reading.{interface_at}
use Rattle.wac_component.proofs.Last.{IsLast}
use Rattle.wac_component.proofs.Among.{among_each, each_among}
use Rattle.wac_component.proofs.OpenWalks.{open_stands, opens_stand}
use Rattle.wac_merge.specs.Built.{Origins, IsBuilt, OnlyBuilds}
use Rattle.wac_aggregator_narrowing.specs.Apart.{IsGood}
use Rattle.wac_aggregator_narrowing.specs.Identified.{IsCovered}
use Rattle.wac_aggregator_narrowing.specs.Narrows.{AddsShared, CanGrow, grown}
use Rattle.wac_aggregator_narrowing.specs.Remembers.{IsRememberedAs}
use Rattle.wac_aggregator_narrowing.specs.Traced.{OpenlyLeads, IsSharedAs, LeadsAlong, IsTraced, Root, IsAmongRoots, Arrow, Arrows, one, LeadsOnto}
use Rattle.wac_aggregator_narrowing.specs.Traced as arrow
use Rattle.wac_aggregator_narrowing.proofs.Adding.{open_next_kept, opens_was, identifier_kept}
use Rattle.wac_aggregator_narrowing.proofs.Building.{built_opens}
use Rattle.wac_aggregator_narrowing.proofs.Growing.{identifier_grown, open_next_other, open_next_grown, Through, opens_back}
use Rattle.wac_aggregator_narrowing.proofs.Remembered.{part_stops}
use Rattle.wac_aggregator_narrowing.proofs.Stopping.{open_stops, stop_identified, stop_reaches}
use Rattle.wac_aggregator_narrowing.proofs.Walking.{reaches_openly}

-- a walk of a step or more, from an entry that stood, was one before
pub leads_was : (c d : Collection) → IsSound c → Extends c d → (s t : Key) → Stands c s → OpenlyLeads d s t → OpenlyLeads c s t
leads_was c d sound x s t st w =
    let m = subst (λ (ks : List Key). IsAmong w.by ks) (open_next_kept c d sound x s st) w.named in
    record { by = w.by; named = m; onward = opens_was c d sound x w.by t (open_stands c sound s w.by st m) w.onward }

-- a walk of no step, or of more
first_step : (c : Collection) (s t : Key) → OpenReaches c s t → (s ≡ t) ⊎ OpenlyLeads c s t
first_step c s t stay = inl refl
first_step c s t (step {j = j} m w) = inr (record { by = j; named = m; onward = w })

module _ {T : Type 0} (track : Text → T) (Leads : T → T → Type 0) where
  -- adding changes no walk between shared entries
  shared_was : (c d : Collection) (ss : List Key) → IsGood c ss → Extends c d → (t : Key) (n : Text) → IsSharedAs d ss t n → IsSharedAs c ss t n
  shared_was c d ss g x t n h = (h.0, sym (identifier_kept c d g.sound x t (among_each (Stands c) t ss h.0 g.shared)) ∙ h.1)

  pub traced_added : (c d : Collection) (ss : List Key) → IsGood c ss → Extends c d → IsTraced track c ss Leads → IsTraced track d ss Leads
  traced_added c d ss g x h = record {
    traced = λ s t n m ms mt w. h.traced s t n m (shared_was c d ss g x s n ms) (shared_was c d ss g x t m mt) (leads_was c d g.sound x s t (among_each (Stands c) s ss ms.0 g.shared) w);
    joined = h.joined;
  }

  -- what led along still does
  pub along_added : (c d : Collection) (ss : List Key) (from : T) (k : Key) → IsGood c ss → Extends c d → Stands c k → LeadsAlong track c ss Leads from k → LeadsAlong track d ss Leads from k
  along_added c d ss from k g x st h t n mt w = h t n (shared_was c d ss g x t n mt) (opens_was c d g.sound x k t st w)

  -- a new shared entry, whose parts lead along
  module _ (c : Collection) (ss : List Key) (e : InterfaceContent) (k : Key) (last : IsLast c (with_entry c (interface_entry e)) (interface_entry e) k) (g : IsGood c ss) (named : AllStand c (interface_keys e)) where
    d : Collection
    d = with_entry c (interface_entry e)

    grows : Extends c d
    unfolding d
    grows = Extends-with_entry c (interface_entry e) g.sound

    -- nothing that stood leads to it
    unreached : (j : Key) → Stands c j → OpenReaches d j k → ⊥
    unreached j st w = last.is_new (opens_stand c g.sound j k st (opens_was c d g.sound grows j k st w))

    by_part : (by : Key) → IsAmong by (open_next d k) → IsAmong by (interface_keys e)
    unfolding d
    by_part by m = subst (λ (ks : List Key). IsAmong by ks) (ap (optional_keys other_keys) last.at) m

    part_stands : (by : Key) → IsAmong by (open_next d k) → Stands c by
    part_stands by m = among_each (Stands c) by (interface_keys e) (by_part by m) named

    own_name : (n : Text) → identifier_at d k ≡ Some n → e.id ≡ Some n
    unfolding d
    own_name n is = sym (ap (λ o. option_map_or entry_identifier o None) last.at) ∙ is

    module _ (ts : List Key) (adds : AddsShared ss ts k) (name : Text) (own_is : e.id ≡ Some name) (h : IsTraced track c ss Leads) (parts : (j : Key) → IsAmong j (interface_keys e) → LeadsAlong track c ss Leads (track name) j) where
      -- a shared entry of d is the new one, or one of c with its identifier
      known : (t : Key) (n : Text) → IsSharedAs d ts t n → ((t ≡ k) × (n ≡ name)) ⊎ IsSharedAs c ss t n
      known t n h = elim (adds.only t h.0) [
        | inl same ↦ inl (same, let both : Some n ≡ Some name = sym (own_name n (subst (λ (x : Key). identifier_at d x ≡ Some n) same h.1)) ∙ own_is in cc)
        | inr m ↦ inr (shared_was c d ss g grows t n (m, h.1))
      ]

      from_new : (t : Key) (n m : Text) → n ≡ name → ((t ≡ k) × (m ≡ name)) ⊎ IsSharedAs c ss t m → OpenlyLeads d k t → Leads (track n) (track m)
      from_new t n m q (inl same) w = absurd (unreached w.by (part_stands w.by w.named) (subst (λ (x : Key). OpenReaches d w.by x) same.0 w.onward))
      from_new t n m q (inr mt) w = subst (λ (x : Text). Leads (track x) (track m)) (sym q) (parts w.by (by_part w.by w.named) t m mt (opens_was c d g.sound grows w.by t (part_stands w.by w.named) w.onward))

      from_old : (s t : Key) (n m : Text) → IsSharedAs c ss s n → ((t ≡ k) × (m ≡ name)) ⊎ IsSharedAs c ss t m → OpenlyLeads d s t → Leads (track n) (track m)
      from_old s t n m ms (inl same) w = absurd (unreached s (among_each (Stands c) s ss ms.0 g.shared) (subst (λ (x : Key). OpenReaches d s x) same.0 (step w.named w.onward)))
      from_old s t n m ms (inr mt) w = h.traced s t n m ms mt (leads_was c d g.sound grows s t (among_each (Stands c) s ss ms.0 g.shared) w)

      traced : (s t : Key) (n m : Text) → ((s ≡ k) × (n ≡ name)) ⊎ IsSharedAs c ss s n → ((t ≡ k) × (m ≡ name)) ⊎ IsSharedAs c ss t m → OpenlyLeads d s t → Leads (track n) (track m)
      traced s t n m (inl same) mt w = from_new t n m same.1 mt (subst (λ (x : Key). OpenlyLeads d x t) same.0 w)
      traced s t n m (inr ms) mt w = from_old s t n m ms mt w

      pub traced_shared : IsTraced track (with_entry c (interface_entry e)) ts Leads
      unfolding d
      traced_shared = record { traced = λ s t n m ms mt w. traced s t n m (known s n ms) (known t m mt) w; joined = h.joined }

  module _ (c : Collection) (ss : List Key) (e : Id) (old new : InterfaceContent) (g : IsGood c ss) (can : CanGrow c ss e old new) (no_cycle : ¬ (NamesReach c (interface_keys new) (interface_key e))) where
    shared_before : (t : Key) (n : Text) → IsSharedAs (grown c e new) ss t n → IsSharedAs c ss t n
    shared_before t n h = (h.0, sym (identifier_grown c ss e old new g can no_cycle t (among_each (Stands c) t ss h.0 g.shared)) ∙ h.1)

    module _ (name : Text) (old_is : old.id ≡ Some name) (h : IsTraced track c ss Leads) (parts : (j : Key) → IsAmong j (interface_keys new) → LeadsAlong track c ss Leads (track name) j) where
      it_is : IsSharedAs c ss (interface_key e) name
      it_is = (can.is_shared, ap (λ o. option_map_or entry_identifier o None) (interface_at c e old can.was) ∙ old_is)

      from_shared : (t by : Key) (m : Text) → IsSharedAs c ss t m → IsAmong by (interface_keys new) → OpenReaches c by t ⊎ Through c ss e old new g can no_cycle by t → Leads (track name) (track m)
      from_shared t by m mt n (inl v) = parts by n t m mt v
      from_shared t by m mt n (inr v) = parts v.by v.named t m mt v.onward

      from_other : (s t by : Key) (n m : Text) → IsSharedAs c ss s n → IsSharedAs c ss t m → IsAmong by (open_next c s) → OpenReaches c by t ⊎ Through c ss e old new g can no_cycle by t → Leads (track n) (track m)
      from_other s t by n m ms mt q (inl v) = h.traced s t n m ms mt (record { by = by; named = q; onward = v })
      from_other s t by n m ms mt q (inr v) =
          h.joined (track n) (track name) (track m)
          (h.traced s (interface_key e) n name ms it_is (record { by = by; named = q; onward = v.before }))
          (parts v.by v.named t m mt v.onward)

      traced_at : (s t : Key) (n m : Text) → IsSharedAs c ss s n → IsSharedAs c ss t m → OpenlyLeads (grown c e new) s t → Leads (track n) (track m)
      traced_at s t n m ms mt w = by_key (Key-discrete s (interface_key e))
        where
          by_key : Dec (s ≡ interface_key e) → Leads (track n) (track m)
          by_key (yes same) =
              let by = subst (λ (ks : List Key). IsAmong w.by ks) (ap (open_next (grown c e new)) same ∙ open_next_grown c ss e old new g can no_cycle) w.named in
              let name_is : name ≡ n = (let both : Some name ≡ Some n = sym it_is.1 ∙ ap (identifier_at c) (sym same) ∙ ms.1 in cc) in
              subst (λ (x : Text). Leads (track x) (track m)) name_is (from_shared t w.by m mt by (opens_back c ss e old new g can no_cycle w.by t (among_each (Stands c) w.by (interface_keys new) by can.named) w.onward))
          by_key (no ne) =
              let st = among_each (Stands c) s ss ms.0 g.shared in
              let by = subst (λ (ks : List Key). IsAmong w.by ks) (open_next_other c ss e old new g can no_cycle s st ne) w.named in
              from_other s t w.by n m ms mt by (opens_back c ss e old new g can no_cycle w.by t (open_stands c g.sound s w.by st by) w.onward)

      -- growth follows the relation, where what is put in does
      pub traced_grown : IsTraced track (grown c e new) ss Leads
      traced_grown = record { traced = λ s t n m ms mt w. traced_at s t n m (shared_before s n ms) (shared_before t m mt) w; joined = h.joined }

  -- what was built of two items whose ids lead along leads along
  pub built_along : (c d : Collection) (o : Origins) (ss : List Key) (from : T) (a b y : ItemKind) → IsGood c ss → OnlyBuilds c d o → IsBuilt c d o a b y → AllStand c (item_keys a) → AllStand c (item_keys b)
      → Each (LeadsAlong track c ss Leads from) (item_keys a) → Each (LeadsAlong track c ss Leads from) (item_keys b) → Each (LeadsAlong track d ss Leads from) (item_keys y)
  built_along c d o ss from a b y g only h sa sb ha hb =
      each_among (LeadsAlong track d ss Leads from) (item_keys y) (λ k m t n mt w.
      built_opens c d o g.sound only (LeadsAlong track c ss Leads from) (λ i j p q t' n' mt' w'. p t' n' mt' (step q w')) a b y h sa sb ha hb k t m (among_each (Stands c) t ss mt.0 g.shared) w t n (shared_was c d ss g only.extends t n mt) stay)

  -- where what would be put in leads to the shared entry, its track leads back to itself
  pub cycle_reason : (c : Collection) (ss : List Key) (s : Key) (n : Text) (ks : List Key) → IsGood c ss → IsSharedAs c ss s n → AllStand c ks
      → ((j : Key) → IsAmong j ks → LeadsAlong track c ss Leads (track n) j) → NamesReach c ks s → Leads (track n) (track n)
  cycle_reason c ss s n ks g ms st parts r = parts r.0 r.1 s n ms (reaches_openly c ss g r.0 s (among_each (Stands c) r.0 ks r.1 st) ms.0 r.2)

  -- what a shared entry names
  pub shared_along : (c : Collection) (ss : List Key) (s j : Key) (n : Text) → IsTraced track c ss Leads → IsSharedAs c ss s n → IsAmong j (open_next c s) → LeadsAlong track c ss Leads (track n) j
  shared_along c ss s j n h ms q t m mt w = h.traced s t n m ms mt (record { by = j; named = q; onward = w })

  -- what stands for an id leads only to shared entries on tracks to which the id leads
  pub part_leads : (f c : Collection) (ss : List Key) (theirs own : Key) → IsGood c ss → IsRememberedAs track f c ss theirs own → IsCovered c ss own → IsTraced track c ss Leads
      → (t : Key) (n : Text) → IsSharedAs c ss t n → OpenReaches c own t → LeadsOnto track f theirs Leads (track n)
  part_leads f c ss theirs own g h covered tr t n mt w =
      let found = open_stops c own t n w mt.1 in
      let is = stop_identified c own found.at found.name found.stops in
      let m = covered found.at found.name (stop_reaches c own found.at found.name found.stops) is in
      record { by = track found.name; openly = part_stops track f c ss theirs own h found.at found.name found.stops; onward = onward found.at found.name (m, is) found.onward }
    where
      same_name : (s : Key) (l : Text) → identifier_at c s ≡ Some l → s ≡ t → l ≡ n
      same_name s l is same = let both : Some l ≡ Some n = sym is ∙ ap (identifier_at c) same ∙ mt.1 in cc

      onward : (s : Key) (l : Text) → IsSharedAs c ss s l → OpenReaches c s t → (track l ≡ track n) ⊎ Leads (track l) (track n)
      onward s l ms v = elim (first_step c s t v) [ inl same ↦ inl (ap track (same_name s l ms.1 same)) | inr leads ↦ inr (tr.traced s t l n ms mt leads) ]

-- the arrows of what is openly reached from roots
module _ {T : Type 0} (track : Text → T) (rs : List Root) where
  pub Arrows-trans : (a b e : T) → Arrows track rs a b → Arrows track rs b e → Arrows track rs a e
  Arrows-trans a b e (one h) k = arrow.on h k
  Arrows-trans a b e (arrow.on {b = x} h g) k = arrow.on h (Arrows-trans x b e g k)

  module _ (c : Collection) (ss : List Key) where
    -- shared entries that are roots
    pub shared_arrowed : ((s : Key) → IsAmong s ss → IsAmongRoots c s rs) → IsTraced track c ss (Arrows track rs)
    shared_arrowed roots = record { traced = traced; joined = Arrows-trans }
      where
        traced : (s t : Key) (n m : Text) → IsSharedAs c ss s n → IsSharedAs c ss t m → OpenlyLeads c s t → Arrows track rs (track n) (track m)
        traced s t n m ms mt w =
            one (record {
              of = c;
              root = s;
              from = s;
              to = t;
              from_name = n;
              to_name = m;
              is_root = roots s ms.0;
              reached = stay;
              from_identified = ms.1;
              from_track = refl;
              leads = w;
              to_identified = mt.1;
              to_track = refl;
            })

    -- what stands for a part of an identified interface that is openly reached from a root
    pub taken_along : (f : Collection) (root x theirs own : Key) (n : Text) → IsAmongRoots f root rs → OpenReaches f root x → identifier_at f x ≡ Some n → IsAmong theirs (open_next f x)
        → IsGood c ss → IsRememberedAs track f c ss theirs own → IsCovered c ss own → IsTraced track c ss (Arrows track rs) → LeadsAlong track c ss (Arrows track rs) (track n) own
    taken_along f root x theirs own n is_root reached identified named g h covered tr t m mt w = onward r.onward
      where
        r : LeadsOnto track f theirs (Arrows track rs) (track m)
        r = part_leads track (Arrows track rs) f c ss theirs own g h covered tr t m mt w

        first : Arrow track rs (track n) r.by
        first = record {
          of = f;
          root = root;
          from = x;
          to = r.openly.at;
          from_name = n;
          to_name = r.openly.name;
          is_root = is_root;
          reached = reached;
          from_identified = identified;
          from_track = refl;
          leads = record { by = theirs; named = named; onward = r.openly.walk };
          to_identified = r.openly.identified;
          to_track = r.openly.on_track;
        }

        onward : (r.by ≡ track m) ⊎ Arrows track rs r.by (track m) → Arrows track rs (track n) (track m)
        onward (inl same) = subst (λ (a : T). Arrows track rs (track n) a) same (one first)
        onward (inr more) = arrow.on first more
