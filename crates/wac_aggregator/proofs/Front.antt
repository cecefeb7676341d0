-- One call more is served, and those before still are.
use Rattle.std.proofs.Common.{◌≡◌, ◌⊎◌, inl, inr, Bool, true, false, List, [], ◌∷◌, ◌++◌, Option, Some, None, IsSome, Contains, slice_index_or, zero, suc, refl, ap, sym, ◌∙◌, subst, arith}
use Rattle.std.proofs.lemmas.List.Elements.{Contains-append_left, Contains-append_right, Contains-append_cases, Contains-get_or}
use Rattle.std.proofs.lemmas.Map.Views.{Contains-keys_from_lookup}
use Rattle.std.specs.List.{IsDistinct}
use Rattle.std.specs.Map.{keys_of}
use Rattle.wac_model.specs.Text.{Text}
use Rattle.wac_model.specs.Order.{Fits}
use Rattle.wac_model.proofs.ItemOrder.{Fits-trans}
use Rattle.wac_component.specs.Collection.{Collection}
use Rattle.wac_component.specs.Entries.{identifier_at}
use Rattle.wac_component.specs.Key.{Key, AllStand, item_keys, interface_key}
use Rattle.wac_component.specs.Tree.{item_tree}
use Rattle.wac_component.proofs.Among.{Contains-first, Contains-later, Contains-cases}
use Rattle.wac_component.specs.Reach.{IsAmong, Reaches}
use Rattle.wac_component.proofs.OpenWalks.{opens_reach}
use Rattle.wac_names.specs.Class.{Class, class_eq, class_of}
use Rattle.wac_names.proofs.Classes.{classes_decided}
use Rattle.wac_aggregator_narrowing.specs.Remembers.{RemembersTruly}
use Rattle.wac_aggregator_narrowing.specs.State.{IsStateKept, RunsTaking}
use Rattle.wac_aggregator_promises.specs.Aggregated.{AllAreServed, IsAggregated}
use Rattle.wac_aggregator_promises.specs.Call.{Call, call_track, call_tree}
use Rattle.wac_aggregator_promises.specs.Due.{OwnsOn, IsDue, of_name, of_owner, IsHigher, IsReachedIdentifier, IsHandedInName, IsImportName, AreImportNames}
use Rattle.wac_aggregator_imports.specs.Import.{ImportContent, import_of, AreFiled, PutsImport, stays, leads, raises}
use Rattle.wac_aggregator_imports.specs.Left.{listed_imports}
use Rattle.wac_aggregator_imports.proofs.Listed.{of_Contains, classes_listed}
use Rattle.wac_aggregator_taking.specs.Takes.{shared_keys, state_of, MayTake, IsOwnersImport, IsSharedFrom}
use Rattle.wac_aggregator_taking.specs.declared.state.Merging.{Merging}
use Rattle.wac_aggregator_taking.proofs.TakeLemmas.{shared_stands}
use Rattle.wac_aggregator.specs.Advances.{IsImportPlaced, Advances, added, noted}
use Rattle.wac_aggregator.specs.HandedIn.{IsOneOf}
use Rattle.wac_aggregator.specs.Served.{NameLeadsTo, AreCallsServed}
use Rattle.wac_aggregator.specs.Content.{shown, content_of}
use Rattle.wac_aggregator.proofs.Advancing.{placing, rest, run, taken_kept, fits_item, leads_below}
use Rattle.wac_aggregator_taking.proofs.Identifiers.{is_interface, has_identifier}
use Rattle.wac_aggregator.proofs.Imported.{still_imported, owner_imported, owners_after}
use Rattle.wac_aggregator.proofs.Leading.{PlacedAs, placed_other, puts_here, leads-new, found-of}
use Rattle.wac_aggregator.proofs.Newer.{higher_track, not_higher-self, not_higher-old, not_higher-newer}

-- ---- more calls

module _ (front : List Call) (call : Call) where
  abbrev more : List Call
  more = front ++ call ∷ []

  early : (c : Call) → Contains front c → Contains more c
  early c m = Contains-append_left front (call ∷ []) c m

  last : Contains more call
  last = Contains-append_right front (call ∷ []) call (Contains-first call [])

  either : (c : Call) → Contains more c → Contains front c ⊎ (call ≡ c)
  either c m = elim (Contains-append_cases front (call ∷ []) c m) [
    | inl old ↦ inl old
    | inr new ↦ elim (Contains-cases c call [] new) [
      | inl is ↦ inr is
      | inr none ↦ absurd (omega (arith, none.1))
    ]
  ]

  due_more : (t : Class) → IsDue front t → IsDue more t
  due_more t (of_name c h) = of_name c (record { among = early c h.among; on_track = h.on_track })
  due_more t (of_owner c m h) = of_owner c (early c m) h

  reached_more : (n : Text) → IsReachedIdentifier front n → IsReachedIdentifier more n
  reached_more n h = record { call = h.call; among = early h.call h.among; interface = h.interface; reached = h.reached; identified = h.identified }

  source_more : (n : Text) → IsHandedInName front n ⊎ IsReachedIdentifier front n → IsHandedInName more n ⊎ IsReachedIdentifier more n
  source_more n (inl h) = inl (h.0, early h.0 h.1, h.2)
  source_more n (inr h) = inr (reached_more n h)

  -- the highest name, once another is handed in
  highest_more : (n : Text) → ((other : Text) → IsHandedInName front other → ¬ (IsHigher other n)) → ¬ (IsHigher call.name n) → (other : Text) → IsHandedInName more other → ¬ (IsHigher other n)
  highest_more n old new other h = elim (either h.0 h.1) [
    | inl m ↦ old other (h.0, m, h.2)
    | inr is ↦ subst (λ o. ¬ (IsHigher o n)) (ap (λ (c : Call). c.name) is ∙ h.2) new
  ]

-- ---- one call more

module _ (calls front : List Call) (call : Call) (a b : Merging) (among : Contains calls call) (one : (c : Call) → Contains calls c → call.types.number ≡ c.types.number → call.types ≡ c.types) (may : MayTake call.types a) (item : AllStand call.types (item_keys call.kind))
    (filed_a : AreFiled a.imports) (filed_b : AreFiled b.imports) (s : AreCallsServed calls front a) (h : Advances call a b) where
  abbrev f : Collection
  f = call.types

  abbrev taken : Merging
  taken = h.taken

  abbrev c : Class
  c = call_track call

  is_one : IsOneOf calls f
  is_one = one

  placed : PlacedAs a.imports taken.imports b.imports call.name h.import
  placed = placing call a b may filed_a filed_b h

  -- a handed-in name at the front has an import
  had_import : (n : Text) → IsHandedInName front n → (i : ImportContent) × (import_of a.imports (class_of n) ≡ Some i)
  had_import n m = let r = s.served m.0 m.1 in (r.0, ap (λ t. import_of a.imports (class_of t)) (sym m.2) ∙ r.1.import)

  -- shared entries are named for interfaces reached
  shared_taken : (e : Key) (n : Text) → IsAmong e (shared_keys taken.shared.entries) → identifier_at taken.types e ≡ Some n → IsReachedIdentifier (more front call) n
  shared_taken e n m is = elim (h.takes.shares e m) [
    | inl old ↦ reached_more front call n (s.shared e n old (sym ((h.takes.run.stops may.kept).identifiers e (shared_stands (state_of a) may.kept e old)) ∙ is))
    | inr new ↦ of_new new
  ]
    where
      of_new : IsSharedFrom f (item_keys call.kind) taken e → IsReachedIdentifier (more front call) n
      of_new new =
          let same : new.name ≡ n = let both : Some new.name ≡ Some n = sym new.own_identified ∙ is in cc in
          let theirs = is_interface f new.theirs new.name new.identified in
          record {
            call = call;
            among = last front call;
            interface = new.theirs.id;
            reached = (new.walk.0, new.walk.1, subst (λ k. Reaches f new.walk.0 k) theirs (opens_reach f new.walk.0 new.theirs new.walk.2));
            identified = has_identifier f new.theirs new.name new.identified ∙ ap (λ t. Some t) same;
          }

  -- an import that came with the item
  of_owner_import : (q : Class) (i : ImportContent) → class_eq c q ≡ false → import_of a.imports q ≡ None → class_of i.0 ≡ q → IsOwnersImport f (item_keys call.kind) taken q i → IsImportName (more front call) i.0
  of_owner_import q i apart none on new = record {
    due = of_owner call (last front call) (record {
      resource = new.leads.resource;
      owner = new.leads.owner;
      reached = (new.from, new.among, new.leads.walk);
      owned = new.leads.owned;
      is_on = record { name = new.owner_name; identified = has_identifier f (interface_key new.leads.owner) new.owner_name new.leads.identified; on_track = new.on_track ∙ sym on };
    });
    source = inr (shared_taken (interface_key new.entry) i.0 new.is_shared new.named);
    highest = highest_more front call i.0
        (λ other m higher. let r = had_import other m in let no : None ≡ Some r.0 = sym none ∙ ap (import_of a.imports) (sym on ∙ sym (higher_track other i.0 higher)) ∙ r.1 in cc)
        (λ higher. let no : false ≡ true = sym apart ∙ (classes_decided c q).1 (higher_track call.name i.0 higher ∙ on) in cc);
  }

  -- an import of another track
  of_other : (q : Class) (i : ImportContent) → class_eq c q ≡ false → import_of b.imports q ≡ Some i → IsImportName (more front call) i.0
  of_other q i apart at = by (import_of a.imports q) refl
    where
      was : import_of taken.imports q ≡ Some i
      was = sym (placed_other a.imports taken.imports b.imports call.name h.import placed h.takes.stays q apart) ∙ at

      on : class_of i.0 ≡ q
      on = filed_b.imports q i at

      old : import_of a.imports q ≡ Some i → IsImportName (more front call) i.0
      old stood =
          let n = s.names q i stood in
          record {
            due = due_more front call (class_of i.0) n.due;
            source = source_more front call i.0 n.source;
            highest = highest_more front call i.0 n.highest (λ higher. let no : false ≡ true = sym apart ∙ (classes_decided c q).1 (higher_track call.name i.0 higher ∙ on) in cc);
          }

      by : (o : Option ImportContent) → import_of a.imports q ≡ o → IsImportName (more front call) i.0
      by (Some j) stood = old (stood ∙ sym (h.takes.stays q j stood) ∙ was)
      by None none = elim (h.takes.due q i was) [
        | inl stood ↦ old stood
        | inr new ↦ of_owner_import q i apart none on new
      ]

  handed_in : IsHandedInName (more front call) call.name
  handed_in = (call, last front call, refl)

  due_here : IsDue (more front call) c
  due_here = of_name call (record { among = last front call; on_track = refl })

  -- the import of the call's track
  named_as : (n : Text) (i : ImportContent) → PutsImport taken.imports b.imports c (n, h.import) → import_of b.imports c ≡ Some i → n ≡ i.0
  named_as n i puts at =
      let both : Some (n, h.import) ≡ Some i = sym (puts_here taken.imports b.imports c (n, h.import) puts) ∙ at in
      let same : (n, h.import) ≡ i = cc in
      ap (λ (x : ImportContent). x.0) same

  kept_name : (j : ImportContent) → import_of a.imports c ≡ Some j → ¬ (IsHigher call.name j.0) → IsImportName (more front call) j.0
  kept_name j stood lower =
      let n = s.names c j stood in
      record { due = due_more front call (class_of j.0) n.due; source = source_more front call j.0 n.source; highest = highest_more front call j.0 n.highest lower }

  new_name : ((other : Text) → IsHandedInName front other → ¬ (IsHigher other call.name)) → IsImportName (more front call) call.name
  new_name highest = record { due = due_here; source = inl handed_in; highest = highest_more front call call.name highest (not_higher-self call.name) }

  of_here : IsImportPlaced a.imports taken.imports b.imports call.name h.import → (i : ImportContent) → import_of b.imports c ≡ Some i → IsImportName (more front call) i.0
  of_here (added none absent puts led) i at = subst (λ n. IsImportName (more front call) n) (named_as call.name i puts at)
      (new_name (λ other m higher. let r = had_import other m in let no : None ≡ Some r.0 = sym none ∙ ap (import_of a.imports) (sym (higher_track other call.name higher)) ∙ r.1 in cc))
  of_here (noted j stood (stays is puts led)) i at = subst (λ n. IsImportName (more front call) n) (named_as j.0 i puts at)
      (kept_name j stood (subst (λ n. ¬ (IsHigher n j.0)) (sym is) (not_higher-self j.0)))
  of_here (noted j stood (leads old puts led)) i at = subst (λ n. IsImportName (more front call) n) (named_as j.0 i puts at)
      (kept_name j stood (not_higher-old call.name j.0 old))
  of_here (noted j stood (raises new puts led)) i at = subst (λ n. IsImportName (more front call) n) (named_as call.name i puts at)
      (new_name (λ other m. not_higher-newer other call.name j.0 new ((s.names c j stood).highest other m)))

  names_now : (q : Class) (i : ImportContent) → import_of b.imports q ≡ Some i → IsImportName (more front call) i.0
  names_now q i at = by (class_eq c q) refl
    where
      by : (t : Bool) → class_eq c q ≡ t → IsImportName (more front call) i.0
      by true e = of_here h.placed i (ap (import_of b.imports) ((classes_decided c q).0 e) ∙ at)
      by false e = of_other q i e at

  -- what is shared, served and owned
  rests : RunsTaking (RemembersTruly class_of) f (state_of taken) (state_of b)
  rests = rest call a b may filed_a filed_b h

  runs : RunsTaking (RemembersTruly class_of) f (state_of a) (state_of b)
  runs = run call a b may filed_a filed_b h

  kept_then : IsStateKept (state_of taken)
  kept_then = taken_kept call a b may filed_a filed_b h

  same_shared : shared_keys b.shared.entries ≡ shared_keys taken.shared.entries
  same_shared = ap (λ (m : Merging). shared_keys m.shared.entries) h.same

  shared_now : (e : Key) (n : Text) → IsAmong e (shared_keys b.shared.entries) → identifier_at b.types e ≡ Some n → IsReachedIdentifier (more front call) n
  shared_now e n m is =
      let was = subst (IsAmong e) same_shared m in
      shared_taken e n was (sym ((rests.stops kept_then).identifiers e (shared_stands (state_of taken) kept_then e was)) ∙ is)

  served_now : (d : Call) → Contains (more front call) d → (i : ImportContent) × NameLeadsTo b.imports d.name i × Fits (item_tree b.types i.1) (call_tree d)
  served_now d m = elim (either front call d m) [
    | inl old ↦ by_old old
    | inr is ↦ subst (λ d. (i : ImportContent) × NameLeadsTo b.imports d.name i × Fits (item_tree b.types i.1) (call_tree d)) is
        ((placed.as_name, h.import), leads-new a.imports taken.imports b.imports call.name h.import placed h.takes.stays, fits_item call a b may filed_a filed_b h)
  ]
    where
      by_old : Contains front d → (i : ImportContent) × NameLeadsTo b.imports d.name i × Fits (item_tree b.types i.1) (call_tree d)
      by_old old =
          let r = s.served d old in
          let j = leads_below call a b may filed_a filed_b h d.name r.0 r.1 in
          (j.0, j.1, Fits-trans (item_tree b.types j.0.1) (item_tree a.types r.0.1) (call_tree d) j.2 r.2)

  owned_now : (d : Call) (t : Class) → Contains (more front call) d → OwnsOn d t → (j : ImportContent) × (import_of b.imports t ≡ Some j)
  owned_now d t m o = elim (either front call d m) [
    | inl old ↦ (let r = s.owned d t old o in still_imported call a b may filed_a filed_b h t r.0 (h.takes.stays t r.0 r.1))
    | inr is ↦ owner_imported call a b may filed_a filed_b h (s.owners f is_one) item t (subst (λ d. OwnsOn d t) (sym is) o)
  ]

  pub advances_served : AreCallsServed calls (more front call) b
  advances_served = record {
    truly = λ g is. runs.truly may.kept g (λ e. is call among e) (s.truly g is);
    owners = λ g is. owners_after call a b may filed_a filed_b h g (λ e. is call among e) (s.owners g is);
    names = names_now;
    shared = shared_now;
    served = served_now;
    owned = owned_now;
  }

-- ---- the first call, and the last

pub none_served : (calls : List Call) (a : Merging) → ((k : Key) → (state_of a).taken k ≡ None) → ((k : Key) → (state_of a).copies k ≡ None) → ((q : Class) → import_of a.imports q ≡ None) → a.shared.entries ≡ [] → AreCallsServed calls [] a
none_served calls a taken copies imports shared = record {
  truly = λ g is. record {
    taken = λ k o at number. absurd (let no : None ≡ Some o = sym (taken k) ∙ at in cc);
    copies = λ k o at number. absurd (let no : None ≡ Some o = sym (copies k) ∙ at in cc);
    closed = λ k o t n at number walk is. absurd (let no : None ≡ Some o = sym (taken k) ∙ at in cc);
  };
  owners = λ g is k o n at number leads. absurd (let no : None ≡ Some o = sym (taken k) ∙ at in cc);
  names = λ q i at. absurd (let no : None ≡ Some i = sym (imports q) ∙ at in cc);
  shared = λ e n m at. absurd (no_key (subst (λ es. IsAmong e (shared_keys es)) shared m));
  served = λ c m. absurd (omega (arith, m.1));
  owned = λ c t m o. absurd (omega (arith, m.1));
}
  where
    no_key : {e : Key} → IsAmong e [] → ⊥
    no_key m = elim m [ ]

module _ (calls front : List Call) (a : Merging) (filed : AreFiled a.imports) (s : AreCallsServed calls front a) where
  all_served : AllAreServed front (shown (content_of a))
  all_served c d m n on =
      let theirs = s.served c m in
      let i = s.served d n in
      let same : theirs.0 ≡ i.0 = let both : Some theirs.0 ≡ Some i.0 = sym theirs.1.import ∙ ap (import_of a.imports) (sym on) ∙ i.1.import in cc in
      record {
        import = i.0.1;
        is_import = found-of a.imports filed c.name i.0 (subst (NameLeadsTo a.imports c.name) same theirs.1);
        fits = i.2;
      }

  names : AreImportNames front (keys_of (listed_imports a.imports))
  names = record {
    named = λ k d l. by_name (slice_index_or (keys_of (listed_imports a.imports)) k d) (Contains-get_or (keys_of (listed_imports a.imports)) k d l);
    one_each = subst (IsDistinct class_eq) (sym (classes_listed a.imports filed)) filed.distinct;
    all_due = λ t due. subst (λ cs. Contains cs t) (sym (classes_listed a.imports filed)) (Contains-keys_from_lookup (λ x y e. (classes_decided x y).0 e) t a.imports.list (has_import t due));
  }
    where
      by_name : (n : Text) → Contains (keys_of (listed_imports a.imports)) n → IsImportName front n
      by_name n m =
          let i = of_key n (listed_imports a.imports) m in
          subst (IsImportName front) i.2 (s.names (class_of i.0.0) i.0 (of_Contains a.imports filed i.0 i.1))
        where
          of_key : (n : Text) (es : List ImportContent) → Contains (keys_of es) n → (i : ImportContent) × Contains es i × (i.0 ≡ n)
          of_key n [] m = absurd (omega (arith, m.1))
          of_key n (e ∷ es) (zero, l, q) = (e, Contains-first e es, q)
          of_key n (e ∷ es) (suc k, l, q) = let r = of_key n es (k, omega (arith, l), q) in (r.0, Contains-later r.0 e es r.1, r.2)

      has_import : (t : Class) → IsDue front t → IsSome (import_of a.imports t)
      has_import t (of_name c h) = let r = s.served c h.among in rw (ap (import_of a.imports) (sym h.on_track) ∙ r.1.import) refl
      has_import t (of_owner c m o) = let r = s.owned c t m o in rw r.1 refl

  pub all_aggregated : IsAggregated front (shown (content_of a))
  all_aggregated = record { served = all_served; names = names }
