-- What holds of the state of merging once calls of a WIT list were accepted: before the
-- first one, and for the answer.
use Rattle.std.proofs.Common.{◌≡◌, ◌⊎◌, ℕ, inl, inr, List, [], ◌∷◌, ◌++◌, Option, Some, None, IsSome, Contains, refl, ap, sym, ◌∙◌, subst, arith}
use Rattle.std.proofs.lemmas.List.Elements.{Contains-push, Contains-push_cases}
use Rattle.std.specs.Option.{option_map}
use Rattle.wac_model.specs.ItemTree.{Kind, Leaf, Shape, Items, ItemTree, item, leaf, composite, resource}
use Rattle.wac_model.specs.Order.{Fits}
use Rattle.wac_component.specs.Collection.{Collection}
use Rattle.wac_component.specs.Id.{Id}
use Rattle.wac_component.specs.Key.{Key, interface_key}
use Rattle.wac_component.specs.Reach.{IsAmong}
use Rattle.wac_component.specs.Tree.{item_tree}
use Rattle.wac_component.specs.declared.items.ItemKind.TheVariants.{Instance}
use Rattle.wac_names.specs.Class.{Class, class_of}
use Rattle.wac_aggregator_narrowing.proofs.Tracing.{Arrows-trans}
use Rattle.wac_aggregator_promises.specs.Call.{Call, call_track, call_tree}
use Rattle.wac_aggregator_promises.specs.Due.{IsDue, of_name, of_owner}
use Rattle.wac_aggregator_promises.specs.Entries.{ReachesByUses}
use Rattle.wac_aggregator_promises.specs.PlainList.{IsPlain}
use Rattle.wac_aggregator_promises.specs.Shared.{TakenIds, SharedEntries, IsTakenTree, AreShared}
use Rattle.wac_aggregator_promises.specs.TreeSets.{IsMeetOf}
use Rattle.wac_aggregator_promises.specs.WitList.{AreWit, IsNamedInstance, IsMember, handed_in, used, IsMemberTree, IsPlainTree, IsWitList}
use Rattle.wac_aggregator_promises.specs.WitRun.{AreMembers, AreWitImports, IsWitState}
use Rattle.wac_aggregator_promises.proofs.Among.{among_front, plain_tree, wit_list_fewer}
use Rattle.wac_aggregator_promises.proofs.ByUses.{member_by_uses, wit_members}
use Rattle.wac_aggregator_promises.proofs.Members.{apart, due_tree, named_member, named_member_on}
use Rattle.wac_aggregator_promises.proofs.MoreMembers.{members_of_more, wit_imports_are_meets}
use Rattle.wac_aggregator_promises.proofs.TakenIn.{sharing_goes_on}
use Rattle.wac_aggregator_memo.specs.Memo.{memo_of}
use Rattle.wac_aggregator_imports.specs.Import.{ImportContent, ImportsContent, import_of, AreFiled}
use Rattle.wac_aggregator_taking.specs.Members.{AreMore}
use Rattle.wac_aggregator_taking.specs.Takes.{shared_in, shared_keys}
use Rattle.wac_aggregator_taking.specs.declared.state.Merging.{Merging}
use Rattle.wac_aggregator_taking.proofs.Members.{wit_within, reached_closed}
use Rattle.wac_aggregator.specs.InOrder.{IsStart}
use Rattle.wac_aggregator.specs.Served.{AreCallsServed}
use Rattle.wac_aggregator.specs.Wit.{trees_of, AreInstances, IsWitAfter, MayHandIn}

-- ---- before the first call

no_key : {k : Key} → IsAmong k [] → ⊥
no_key m = elim m [ ]

no_member : (c : Collection) (i : Id) → IsMember [] c i → ⊥
no_member c i (handed_in call m e n) = absurd (omega (arith, m.1))
no_member c i (used {i = j} m u) = no_member c j m

not_some : {A : Type 0} (o : Option A) → o ≡ None → IsSome o → ⊥
not_some None is h = absurd (cc h)
not_some (Some x) is h = absurd (cc is)

pub wit_start : (calls : List Call) (a : Merging) (number : ℕ) → IsStart a number → IsWitAfter calls [] a
wit_start calls a number start = record {
  taken = [];
  has = record {
    shared = subst (λ (ss : List (Class × Id)). AreShared [] a.types (shared_in ss)) (sym start.shared) (sharing_goes_on.start a.types start.in_order.kept.good.sound);
    found = λ e m. absurd (none m);
    noted = λ c i m. absurd (omega (arith, m.1));
    arrowed = record { traced = λ s t n m is at w. absurd (none is.0); joined = Arrows-trans class_of [] };
  };
  members = λ c i. (λ m. absurd (no_member c i m), λ m. absurd (omega (arith, m.1)));
  all = λ g one i is named some. absurd (not_some (memo_of a.taken (interface_key i)) (start.taken (interface_key i)) some);
  instances = λ t some. absurd (some (ap (λ (ss : List (Class × Id)). shared_in ss t) start.shared));
  plain = λ t i at. absurd (none_imported t i at);
  unstopped = λ t i at. absurd (none_imported t i at);
}
  where
    none_imported : (t : Class) (i : ImportContent) → import_of a.imports t ≡ Some i → ⊥
    none_imported t i at = let no : None ≡ Some i = sym (ap (λ (is : ImportsContent). import_of is t) start.imports) ∙ at in cc

    none : {k : Key} → IsAmong k (shared_keys a.shared.entries) → ⊥
    none {k} m = no_key (subst (λ (ss : List (Class × Id)). IsAmong k (shared_keys ss)) start.shared m)

-- ---- a track with a shared entry has no plain items: else the entry would be the meet of nothing

not_above : {k j : Kind} {l : Leaf} {s : Shape} {i e : Items} → Fits (leaf k l) (composite j s i e) → ⊥
not_above h = elim h [ ]

pub no_plain : (calls : List Call) (taken : TakenIds) (own : Collection) (shared : SharedEntries) → IsWitList calls → ((c : Collection) (i : Id) → Contains taken (c, i) → IsMember calls c i) → AreShared taken own shared
    → (t : Class) (s : Id) (y : ItemTree) → shared t ≡ Some s → IsPlainTree calls t y → ⊥
no_plain calls taken own shared wit members kept t s y at k = not_above ((kept.trees t s at).is_greatest (leaf item (resource [])) (λ x h. absurd (apart calls wit t x y (member_tree x h) k)))
  where
    member_tree : (x : ItemTree) → IsTakenTree taken t x → IsMemberTree calls t x
    member_tree x h = record { types = h.types; id = h.id; member = record { member = members h.types h.id h.is_on.among; is_on = h.is_on.is_on }; is_tree = h.is_tree }

-- ---- after some calls

-- the import of which this is the tree
import_with_tree : (a : Merging) (t : Class) (m : ItemTree) → trees_of a t ≡ Some m → (i : ImportContent) × (import_of a.imports t ≡ Some i) × (item_tree a.types i.1 ≡ m)
import_with_tree a t m h = by (import_of a.imports t) refl h
  where
    by : (o : Option ImportContent) → import_of a.imports t ≡ o → option_map (λ (i : ImportContent). item_tree a.types i.1) o ≡ Some m → (i : ImportContent) × (import_of a.imports t ≡ Some i) × (item_tree a.types i.1 ≡ m)
    by None at k = absurd (cc)
    by (Some i) at k = let same : item_tree a.types i.1 ≡ m = cc in (i, at, same)

module _ (calls front : List Call) (a : Merging) (wit : IsWitList front) (filed : AreFiled a.imports) (served : AreCallsServed calls front a) (w : IsWitAfter calls front a) where
  -- imports stand on exactly the due tracks
  pub import_due : (t : Class) → IsDue front t → (i : ImportContent) × (import_of a.imports t ≡ Some i)
  import_due t (of_name c h) = let r = served.served c h.among in (r.0, ap (import_of a.imports) (sym h.on_track) ∙ r.1.import)
  import_due t (of_owner c m o) = served.owned c t m o

  pub due_import : (t : Class) (i : ImportContent) → import_of a.imports t ≡ Some i → IsDue front t
  due_import t i at = subst (IsDue front) (filed.imports t i at) (served.names t i at).due

  -- where no entry is shared, an import stands for plain items
  pub unshared_plain : (t : Class) (i : ImportContent) → import_of a.imports t ≡ Some i → shared_in a.shared.entries t ≡ None → (x : ItemTree) × IsPlainTree front t x
  unshared_plain t i at none =
      let x = due_tree front wit t (due_import t i at) in
      (x.0, elim x.1 [ inl k ↦ absurd (taken_in x.0 k) | inr k ↦ k ])
    where
      taken_in : (x : ItemTree) → IsMemberTree front t x → ⊥
      taken_in x k =
          let s = w.has.shared.remembered t k.types k.id (record { among = (w.members k.types k.id).0 k.member.member; is_on = k.member.is_on }) in
          let no : None ≡ Some s.0 = sym none ∙ s.1 in cc

  -- they are the shared entries, and the meets of plain items
  wit_imports : AreWitImports front a.types (shared_in a.shared.entries) (trees_of a)
  wit_imports = record {
    due = λ t. (λ d. let i = import_due t d in subst IsSome (sym (ap (option_map (λ (j : ImportContent). item_tree a.types j.1)) i.1)) refl, λ some. stood t (import_of a.imports t) refl some);
    of_members = λ t s m at is. let i = import_with_tree a t m is in sym i.2 ∙ ap (item_tree a.types) (of_shared t s at i.0 i.1);
    of_plain = λ t m none is. let i = import_with_tree a t m is in subst (λ x. IsMeetOf x (IsPlainTree front t)) i.2 (w.plain t i.0 i.1 none);
  }
    where
      stood : (t : Class) (o : Option ImportContent) → import_of a.imports t ≡ o → IsSome (option_map (λ (i : ImportContent). item_tree a.types i.1) o) → IsDue front t
      stood t None at some = absurd (cc some)
      stood t (Some i) at some = due_import t i at

      of_shared : (t : Class) (s : Id) → shared_in a.shared.entries t ≡ Some s → (i : ImportContent) → import_of a.imports t ≡ Some i → i.1 ≡ Instance s
      of_shared t s at i is =
          let j = w.instances t (λ none. let no : None ≡ Some s = sym none ∙ at in cc) i is in
          let same : j.0 ≡ s = let both : Some j.0 ≡ Some s = sym j.1 ∙ at in cc in
          j.2 ∙ ap (λ x. Instance x) same

  pub wit_state : IsWitState front a.types (shared_in a.shared.entries) (trees_of a)
  wit_state = record { taken = w.taken; members = w.members; kept = w.has.shared; meets = wit_imports_are_meets front w.taken a.types (shared_in a.shared.entries) (trees_of a) wit w.members w.has.shared wit_imports }

-- ---- the next call

-- what a named instance reaches by uses are interfaces as WIT gives them
pub named_wit : (front : List Call) (call : Call) → IsWitList (front ++ call ∷ []) → (i : Id) → IsNamedInstance call i → AreWit call.types (ReachesByUses call.types i)
named_wit front call wit i n = wit_within call.types (IsMember (front ++ call ∷ []) call.types) (ReachesByUses call.types i) (λ j walk. member_by_uses (named_member (front ++ call ∷ []) wit call i (Contains-push front call) n) walk) (reached_closed call.types i) (wit_members (front ++ call ∷ []) call.types wit)

-- and members, once it is handed in
pub taken_members : (front : List Call) (call : Call) (i : Id) → IsNamedInstance call i → (taken more : TakenIds) → AreMembers front taken → AreMore call.types (ReachesByUses call.types i) taken more → (c : Collection) (j : Id) → Contains more (c, j) → IsMember (front ++ call ∷ []) c j
taken_members front call i n taken more members are c j m = (members_of_more front call c j).1 (elim (are.new c j m) [
  | inl old ↦ inl ((members c j).1 old)
  | inr new ↦ inr (sym new.0, (i, n, subst (λ x. ReachesByUses x i j) (sym new.0) new.1))
])

-- an import on its track is an instance of the shared entry there
pub may_hand_in : (calls front : List Call) (call : Call) (a : Merging) (i : Id) → IsWitList (front ++ call ∷ []) → AreFiled a.imports → AreCallsServed calls front a → IsWitAfter calls front a → IsNamedInstance call i → MayHandIn call a i
may_hand_in calls front call a i wit filed served w named = record { named = named; import = by (shared_in a.shared.entries (call_track call)) refl }
  where
    by : (o : Option Id) → shared_in a.shared.entries (call_track call) ≡ o → AreInstances a (call_track call)
    by (Some s) is j at = w.instances (call_track call) (λ none. let no : None ≡ Some s = sym none ∙ is in cc) j at
    by None is j at =
        let p = unshared_plain calls front a (wit_list_fewer front (front ++ call ∷ []) (among_front front (call ∷ [])) wit) filed served w (call_track call) j at is in
        absurd (apart (front ++ call ∷ []) wit (call_track call) (item_tree call.types (Instance i)) p.0
        (record { types = call.types; id = i; member = named_member_on (front ++ call ∷ []) wit call i (Contains-push front call) named; is_tree = refl })
        (plain_tree front (front ++ call ∷ []) (among_front front (call ∷ [])) (call_track call) p.0 p.1))

module _ (front : List Call) (call : Call) where
  abbrev longer : List Call
  longer = front ++ call ∷ []

  -- the plain items are those before, and the item if it is plain
  pub plain_cases : (t : Class) (x : ItemTree) → IsPlainTree longer t x → IsPlainTree front t x ⊎ (IsPlain call.types call.kind × (call_track call ≡ t) × (x ≡ call_tree call))
  plain_cases t x k = elim (Contains-push_cases front call k.call k.is_on.among) [
    | inl m ↦ inl (record { call = k.call; is_on = record { among = m; on_track = k.is_on.on_track }; plain = k.plain; is_tree = k.is_tree })
    | inr same ↦ inr (subst (λ (d : Call). IsPlain d.types d.kind × (call_track d ≡ t) × (x ≡ call_tree d)) (sym same) (k.plain, k.is_on.on_track, k.is_tree))
  ]

  pub plain_before : (t : Class) (x : ItemTree) → IsPlainTree front t x → IsPlainTree longer t x
  plain_before t x k = plain_tree front longer (among_front front (call ∷ [])) t x k
