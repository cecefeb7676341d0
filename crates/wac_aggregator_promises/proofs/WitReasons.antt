-- Why no refusal can come at a call of a compatible WIT list.
use Rattle.std.proofs.Common.{◌≡◌, ◌⊎◌, inl, inr, refl, subst, sym, ap, ◌∙◌, arith, List, [], ◌∷◌, ◌++◌, Option, Some, None, option_map, Contains}
use Rattle.std.specs.Str.{bytes_eq}
use Rattle.std.proofs.lemmas.List.Elements.{Contains-push}
use Rattle.wac_model.specs.Text.{Text, lookup}
use Rattle.wac_model.specs.CoreTree.{Serves}
use Rattle.wac_model.specs.ItemTree.{Shape, interface, world, ItemTree, Items, item, leaf, core_module, composite, no_items, item_at}
use Rattle.wac_model.specs.Order.{Fits, leaves, modules, composites}
use Rattle.wac_model.proofs.ItemOrder.{composite_fits}
use Rattle.wac_component.specs.Id.{Id}
use Rattle.wac_component.specs.Collection.{Collection, UseContent}
use Rattle.wac_component.specs.Key.{Key, Stands, interface_key, resource_key}
use Rattle.wac_component.specs.Reach.{Reaches}
use Rattle.wac_component.specs.Sound.{IsSound}
use Rattle.wac_component.specs.Tree.{item_tree, items_of}
use Rattle.wac_component.specs.declared.items.ItemKind.{ItemKind}
use Rattle.wac_component.specs.declared.items.ItemKind.TheVariants.{Instance}
use Rattle.wac_component.specs.Entries.{exports_at, owner_at, HasUse}
use Rattle.wac_names.specs.Class.{Class, class_of}
use Rattle.wac_aggregator_promises.specs.Answer.{ImportTrees, AreMeets}
use Rattle.wac_aggregator_promises.specs.Attempt.{Attempt, Sources, IsSource, later_attempt}
use Rattle.wac_aggregator_promises.specs.Call.{Call, call_track, call_tree, AreSoundCalls}
use Rattle.wac_aggregator_promises.specs.Case.{case_of}
use Rattle.wac_aggregator_promises.specs.Clash.{ExportsClash, TwoUses, InterfacesClash, NamesClash}
use Rattle.wac_aggregator_promises.specs.Compatible.{AreUsesAlike, TrackUses, LeadsOver, IsCompatibleWitList}
use Rattle.wac_aggregator_promises.specs.Entries.{Uses}
use Rattle.wac_aggregator_promises.specs.Leaves.{export_at}
use Rattle.wac_aggregator_promises.specs.Laws.{CompatibleListsHaveNoWitReason, ClashingExportsHaveNoBound, WitReasonsAreReasons}
use Rattle.wac_aggregator_promises.specs.OpenReach.{ItemReaches}
use Rattle.wac_aggregator_promises.specs.Reason.{CallRefusal, kinds, mismatch, unexplained, used_interface, used_name, no_identifier, owner_without_identifier, taken, cycle, KindsDiffer, ImportClashes, UsesUnidentified, OwnerUnidentified, IsTaken, ClosesCycle}
use Rattle.wac_aggregator_promises.specs.TreeSets.{IsBelowEach, HaveLowerBound}
use Rattle.wac_aggregator_promises.specs.WitList.{IsNamedInstance, IsMember, used, IsMemberOn, IsMemberTree, IsTreeOn, IsWitList}
use Rattle.wac_aggregator_promises.specs.WitReason.{IsSourceOn, IsWitReason}
use Rattle.wac_aggregator_promises.proofs.Among.{among_front, tree_on}
use Rattle.wac_aggregator_promises.proofs.ByUses.{member_by_uses, wit_members, reached_with_uses, start_below, user_below}
use Rattle.wac_aggregator_promises.proofs.Members.{one_track, not_without, not_owned, has_identifier, members_stand, owner_another, named_key, named_on, wit_item, IsWitItem, named_member, apart, item_tree_on, leads_by_uses, source_member, all_lead}
use Rattle.wac_aggregator_promises.proofs.Opened.{item_reaches}
use Rattle.wac_aggregator_promises.proofs.Read.{item_at-items, interface_tree}

-- what fits has the same case
pub fits_case : {a b : ItemTree} → Fits a b → case_of a ≡ case_of b
fits_case leaves = refl
fits_case (modules p) = refl
fits_case (composites {k} {s} {i} {j} {e} {f} p q) = of_shape s
  where
    of_shape : (s : Shape) → case_of (composite k s i e) ≡ case_of (composite k s j f)
    of_shape interface = refl
    of_shape world = refl

-- what fits where an instance is asked for exports what that does
served : {x : ItemTree} (o : Option ItemTree) → Serves Fits o (Some x) → (y : ItemTree) × (o ≡ Some y) × Fits y x
served None g = absurd g
served (Some y) g = (y, refl, g)

pub instance_fits : (b : ItemTree) (es : Items) (n : Text) (x : ItemTree) → Fits b (composite item interface no_items es) → item_at es n ≡ Some x → (y : ItemTree) × (export_at b n ≡ Some y) × Fits y x
instance_fits (composite k w is ts) es n x g e = served (item_at ts n) (subst (λ (o : Option ItemTree). Serves Fits (item_at ts n) o) e ((composite_fits g).exports n))
instance_fits (leaf k l) es n x g e = elim g [ ]
instance_fits (core_module k m) es n x g e = elim g [ ]

pub export_fits : (c : Collection) (i : Id) (b : ItemTree) (n : Text) (x : ItemKind) → IsSound c → Stands c (interface_key i) → Fits b (item_tree c (Instance i)) → lookup bytes_eq (exports_at c (interface_key i)) n ≡ Some x
    → (y : ItemTree) × (export_at b n ≡ Some y) × Fits y (item_tree c x)
export_fits c i b n x s st h l = instance_fits b (items_of (item_tree c) (exports_at c (interface_key i))) n (item_tree c x)
    (subst (λ (t : ItemTree). Fits b t) (interface_tree c i s st) h)
    (item_at-items (item_tree c) (exports_at c (interface_key i)) n ∙ ap (option_map (item_tree c)) l)

module _ (front : List Call) (call : Call) (imports : ImportTrees) (wit : IsWitList (front ++ call ∷ [])) (sound : AreSoundCalls (front ++ call ∷ []))
    (compatible : IsCompatibleWitList (front ++ call ∷ [])) (meets : AreMeets (IsTreeOn front) front imports) where
  abbrev calls : List Call
  calls = front ++ call ∷ []

  abbrev attempt : Attempt
  attempt = later_attempt front (imports (call_track call)) call

  last : Contains calls call
  last = Contains-push front call

  -- all trees on a track where there is one have a common lower bound
  bound_on : (t : Class) (x : ItemTree) → IsTreeOn calls t x → HaveLowerBound (IsTreeOn calls t)
  bound_on t x (inl k) = (b.0, below)
    where
      b : HaveLowerBound (IsMemberTree calls t)
      b = compatible.members t

      below : IsBelowEach b.0 (IsTreeOn calls t)
      below y (inl l) = b.1 y l
      below y (inr p) = absurd (apart calls wit t x y k p)
  bound_on t x (inr p) = ((compatible.plain_items t).0, below)
    where
      below : IsBelowEach (compatible.plain_items t).0 (IsTreeOn calls t)
      below y (inl l) = absurd (apart calls wit t y x l p)
      below y (inr q) = (compatible.plain_items t).1 y q

  -- and so have the import on the track of the name and the item
  import_bound : (tree : ItemTree) → imports (call_track call) ≡ Some tree → (b : ItemTree) × Fits b tree × Fits b (call_tree call)
  import_bound tree e =
      let here = item_tree_on calls wit call last in
      let b = bound_on (call_track call) (call_tree call) here in
      (b.0, (meets.meets (call_track call) tree e).is_greatest b.0 (λ y l. b.1 y (tree_on front calls (among_front front (call ∷ [])) (call_track call) y l)), b.1 (call_tree call) here)

  no_kinds : (e f : Text) → KindsDiffer attempt e f → ⊥
  no_kinds e f r = let b = import_bound r.tree r.stood in r.differ (sym (fits_case b.1) ∙ fits_case b.2)

  no_import_clash : ImportClashes attempt → ⊥
  no_import_clash r = let b = import_bound r.tree r.stood in r.no_bound b.0 b.1 b.2

  member_on : (t : Class) (c : Collection) (k : Key) → (h : IsSourceOn attempt.sources t c k) → IsMemberOn calls t c h.id
  member_on t c k h = record {
    member = source_member calls wit c h.id (subst (λ (x : Key). IsSource attempt.sources c x) h.is_interface h.source) (has_identifier c h.id t h.is_on);
    is_on = h.is_on;
  }

  no_exports_clash : (t : Class) → ExportsClash (IsSourceOn attempt.sources t) → ⊥
  no_exports_clash t r = by_bound (compatible.members t)
    where
      p : IsMemberOn calls t r.types r.of_these.id
      p = member_on t r.types r.key r.of_these

      q : IsMemberOn calls t r.other_types r.other_of_these.id
      q = member_on t r.other_types r.other_key r.other_of_these

      by_bound : HaveLowerBound (IsMemberTree calls t) → ⊥
      by_bound b =
          let ps = members_stand calls r.types r.of_these.id sound p.member in
          let qs = members_stand calls r.other_types r.other_of_these.id sound q.member in
          let x = export_fits r.types r.of_these.id b.0 r.name r.export ps.0 ps.1 (b.1 (item_tree r.types (Instance r.of_these.id)) record { types = r.types; id = r.of_these.id; member = p; is_tree = refl })
          (subst (λ (k : Key). lookup bytes_eq (exports_at r.types k) r.name ≡ Some r.export) r.of_these.is_interface r.exported) in
          let y = export_fits r.other_types r.other_of_these.id b.0 r.name r.other_export qs.0 qs.1 (b.1 (item_tree r.other_types (Instance r.other_of_these.id)) record { types = r.other_types; id = r.other_of_these.id; member = q; is_tree = refl })
          (subst (λ (k : Key). lookup bytes_eq (exports_at r.other_types k) r.name ≡ Some r.other_export) r.other_of_these.is_interface r.other_exported) in
          let same : y.0 ≡ x.0 = some_same (sym y.1 ∙ x.1) in
          r.no_bound x.0 x.2 (subst (λ (z : ItemTree). Fits z (item_tree r.other_types r.other_export)) same y.2)
        where
          some_same : {k l : ItemTree} → ◌≡◌ {A = Option ItemTree} (Some k) (Some l) → k ≡ l
          some_same e = cc e

  alike : (t : Class) (n : Text) (two : TwoUses (IsSourceOn attempt.sources t) n) → AreUsesAlike two.types two.content two.other_types two.other_content
  alike t n two = compatible.uses t two.types two.other_types two.of_these.id two.other_of_these.id n two.content two.other_content
      (member_on t two.types two.key two.of_these) (member_on t two.other_types two.other_key two.other_of_these)
      (subst (λ (k : Key). HasUse two.types k n two.content) two.of_these.is_interface two.has)
      (subst (λ (k : Key). HasUse two.other_types k n two.other_content) two.other_of_these.is_interface two.other_has)

  no_interfaces_clash : (t : Class) (n e f : Text) → InterfacesClash (IsSourceOn attempt.sources t) n e f → ⊥
  no_interfaces_clash t n e f r =
      let u = alike t n r.two in
      r.apart (one_track r.two.types r.two.content.interface (class_of e) u.track r.expected_on u.first_on ∙ one_track r.two.other_types r.two.other_content.interface u.track (class_of f) u.second_on r.found_on)

  no_names_clash : (t : Class) (n : Text) → NamesClash (IsSourceOn attempt.sources t) n → ⊥
  no_names_clash t n r = r.unequal (alike t n r.two).names

  no_unidentified_use : (n : Text) → UsesUnidentified attempt n → ⊥
  no_unidentified_use n r = by_cases (wit_item calls wit call last)
    where
      w : ItemReaches call.types call.kind r.key
      w = item_reaches call.types call.kind r.key r.reached

      by_cases : IsWitItem calls wit call → ⊥
      by_cases (inl i) =
          let k = named_member calls wit call i.0 last i.1 in
          let o = reached_with_uses call.types (IsMember calls call.types) (wit_members calls call.types wit) i.0 (interface_key i.0) r.key k (start_below call.types (IsMember calls call.types) (wit_members calls call.types wit) i.0) (named_key call i.0 r.key i.1 w) in
          let at = user_below call.types (IsMember calls call.types) (wit_members calls call.types wit) o.0 r.key n r.content o.2 r.has in
          let u : Uses call.types o.0 r.content.interface = record { name = n; content = r.content; has = subst (λ (x : Key). HasUse call.types x n r.content) at r.has; is_of = refl } in
          not_without call.types r.content.interface (wit.identified call.types r.content.interface (used (member_by_uses k o.1) u)) r.unidentified
      by_cases (inr p) = omega (arith, (subst (λ (us : List (Text × UseContent)). Contains us (n, r.content)) (p.plain.no_uses r.key w) r.has).1)

  -- the owner of a resource that the item reaches
  owner_of : (r o : Id) → ItemReaches call.types call.kind (resource_key r) → owner_at call.types r ≡ Some o → (i : Id) × IsNamedInstance call i × Reaches call.types (interface_key i) (resource_key r) × IsMember calls call.types o
  owner_of r o w e = by_cases (wit_item calls wit call last)
    where
      by_cases : IsWitItem calls wit call → (i : Id) × IsNamedInstance call i × Reaches call.types (interface_key i) (resource_key r) × IsMember calls call.types o
      by_cases (inl i) =
          let k = named_member calls wit call i.0 last i.1 in
          let v = named_key call i.0 (resource_key r) i.1 w in
          (i.0, i.1, v, member_by_uses k (wit.owners call.types i.0 r o k v e))
      by_cases (inr p) = absurd (not_owned call.types r o (p.plain.no_owner r w) e)

  no_unidentified_owner : (n : Text) → OwnerUnidentified attempt n → ⊥
  no_unidentified_owner n r =
      let o = owner_of r.resource r.owner (item_reaches call.types call.kind (resource_key r.resource) r.reached) r.owned in
      not_without call.types r.owner (wit.identified call.types r.owner o.3) r.unidentified

  not_taken : (n : Text) → IsTaken attempt n → ⊥
  not_taken n r =
      let o = owner_of r.resource r.owner (item_reaches call.types call.kind (resource_key r.resource) r.reached) r.owned in
      let k = named_member calls wit call o.0 last o.1 in
      let st = members_stand calls call.types o.0 sound k in
      by_cases o.0 o.2 st (leads_by_uses calls wit call.types o.0 r.owner (call_track call) (call_track call) k (wit.owners call.types o.0 r.resource r.owner k o.2 r.owned) (named_on call o.0 o.1) r.is_on)
    where
      by_cases : (i : Id) → Reaches call.types (interface_key i) (resource_key r.resource) → IsSound call.types × Stands call.types (interface_key i) → (i ≡ r.owner) ⊎ LeadsOver (TrackUses calls) (call_track call) (call_track call) → ⊥
      by_cases i w st (inl e) = owner_another call.types i r.resource r.owner st.0 st.1 w r.owned e
      by_cases i w st (inr l) = compatible.no_cycle (call_track call) l

  no_cycle : (n : Text) → ClosesCycle attempt n → ⊥
  no_cycle n r = compatible.no_cycle (class_of n) (all_lead calls wit (class_of n) (class_of n) r.leads_back)

  pub no_reason : (why : CallRefusal) → IsWitReason attempt why → ⊥
  no_reason (kinds e f) r = no_kinds e f r
  no_reason mismatch (inl r) = no_import_clash r
  no_reason mismatch (inr r) = no_exports_clash r.0 r.1
  no_reason unexplained r = r
  no_reason (used_interface n e f) r = no_interfaces_clash r.0 n e f r.1
  no_reason (used_name n) r = no_names_clash r.0 n r.1
  no_reason (no_identifier n) r = no_unidentified_use n r
  no_reason (owner_without_identifier n) r = no_unidentified_owner n r
  no_reason (taken n) r = not_taken n r
  no_reason (cycle n) r = no_cycle n r

pub compatible_no_reason : CompatibleListsHaveNoWitReason
compatible_no_reason front call imports why wit sound compatible meets r = no_reason front call imports wit sound compatible meets why r

pub clashing_exports : ClashingExportsHaveNoBound
clashing_exports c d i j n x y s r st tt' e f none b p q =
    let u = export_fits c i b n x s st p e in
    let v = export_fits d j b n y r tt' q f in
    let same : v.0 ≡ u.0 = some_same (sym v.1 ∙ u.1) in
    none u.0 u.2 (subst (λ (z : ItemTree). Fits z (item_tree d y)) same v.2)
  where
    some_same : {k l : ItemTree} → ◌≡◌ {A = Option ItemTree} (Some k) (Some l) → k ≡ l
    some_same e = cc e

-- what clashes on a track clashes
exports_among : (sources : Sources) (t : Class) → ExportsClash (IsSourceOn sources t) → ExportsClash (IsSource sources)
exports_among sources t r = record {
  name = r.name;
  types = r.types;
  key = r.key;
  export = r.export;
  other_types = r.other_types;
  other_key = r.other_key;
  other_export = r.other_export;
  of_these = r.of_these.source;
  other_of_these = r.other_of_these.source;
  exported = r.exported;
  other_exported = r.other_exported;
  no_bound = r.no_bound;
}

uses_among : (sources : Sources) (t : Class) (n : Text) → TwoUses (IsSourceOn sources t) n → TwoUses (IsSource sources) n
uses_among sources t n r = record {
  types = r.types;
  key = r.key;
  content = r.content;
  other_types = r.other_types;
  other_key = r.other_key;
  other_content = r.other_content;
  of_these = r.of_these.source;
  other_of_these = r.other_of_these.source;
  has = r.has;
  other_has = r.other_has;
}

interfaces_among : (sources : Sources) (t : Class) (n e f : Text) → InterfacesClash (IsSourceOn sources t) n e f → InterfacesClash (IsSource sources) n e f
unfolding uses_among
interfaces_among sources t n e f r = record { two = uses_among sources t n r.two; expected_on = r.expected_on; found_on = r.found_on; apart = r.apart }

names_among : (sources : Sources) (t : Class) (n : Text) → NamesClash (IsSourceOn sources t) n → NamesClash (IsSource sources) n
unfolding uses_among
names_among sources t n r = record { two = uses_among sources t n r.two; unequal = r.unequal }

pub wit_reasons_are_reasons : WitReasonsAreReasons
wit_reasons_are_reasons a (kinds e f) h r = r
wit_reasons_are_reasons a mismatch h (inl r) = inl r
wit_reasons_are_reasons a mismatch h (inr r) = inr (h, exports_among a.sources r.0 r.1)
wit_reasons_are_reasons a unexplained h r = r
wit_reasons_are_reasons a (used_interface n e f) h r =
    (inr h, interfaces_among a.sources r.0 n e f r.1)
wit_reasons_are_reasons a (used_name n) h r = (inr h, names_among a.sources r.0 n r.1)
wit_reasons_are_reasons a (no_identifier n) h r = r
wit_reasons_are_reasons a (owner_without_identifier n) h r = r
wit_reasons_are_reasons a (taken n) h r = r
wit_reasons_are_reasons a (cycle n) h r = r
