-- A named instance that is accepted leaves the state of a WIT list.
use Rattle.std.proofs.Common.{◌≡◌, ◌≢◌, inl, inr, Bool, true, false, List, [], ◌∷◌, ◌++◌, Option, Some, None, IsSome, Contains, refl, ap, sym, ◌∙◌, subst}
use Rattle.wac_model.specs.Text.{Text}
use Rattle.wac_model.specs.ItemTree.{ItemTree}
use Rattle.wac_model.specs.Order.{Fits}
use Rattle.wac_model.proofs.ItemOrder.{Fits-refl}
use Rattle.wac_component.specs.Collection.{Collection}
use Rattle.wac_component.specs.Id.{Id}
use Rattle.wac_component.specs.Implicit.{identifier, HasIdentifier}
use Rattle.wac_component.specs.Key.{AllStand, item_keys, interface_key}
use Rattle.wac_component.specs.Tree.{item_tree}
use Rattle.wac_component.specs.declared.items.ItemKind.TheVariants.{Instance}
use Rattle.wac_component.proofs.Walks.{walks_stand}
use Rattle.wac_names.specs.Class.{Class, class_eq, class_of}
use Rattle.wac_aggregator_narrowing.specs.Taking.{AreTakenKeys, IsTakenKey, IsTakenItem}
use Rattle.wac_aggregator_promises.specs.Call.{Call, IsSoundCall, call_track}
use Rattle.wac_aggregator_promises.specs.Entries.{ReachesByUses}
use Rattle.wac_aggregator_promises.specs.TreeSets.{IsMeetOf}
use Rattle.wac_aggregator_promises.specs.WitList.{IsNamedInstance, IsPlainTree, IsWitList}
use Rattle.wac_aggregator_promises.specs.WitRun.{AreMembers}
use Rattle.wac_aggregator_promises.proofs.Among.{among_front, wit_list_fewer}
use Rattle.wac_aggregator_promises.proofs.Members.{named_not_plain, reaches_by_uses}
use Rattle.wac_aggregator_promises.proofs.MoreMembers.{members_of_more}
use Rattle.wac_aggregator_promises.proofs.Sets.{meet_moves}
use Rattle.wac_aggregator_memo.specs.Memo.{memo_of}
use Rattle.wac_aggregator_imports.specs.Import.{ImportContent, import_of, AreFiled}
use Rattle.wac_aggregator_taking.specs.Members.{TakesMembers}
use Rattle.wac_aggregator_taking.specs.Takes.{shared_in, state_of, MayTake}
use Rattle.wac_aggregator_taking.specs.declared.state.Merging.{Merging}
use Rattle.wac_aggregator_taking.proofs.Identifiers.{has_identifier, identifier_of}
use Rattle.wac_aggregator_taking.proofs.Members.{openly_by_uses}
use Rattle.wac_aggregator.specs.Advances.{Advances}
use Rattle.wac_aggregator.specs.HandedIn.{IsOneOf}
use Rattle.wac_aggregator.specs.Served.{AreCallsServed}
use Rattle.wac_aggregator.specs.Wit.{AreInstances, AreUnstopped, IsWitAfter}
use Rattle.wac_aggregator.proofs.Instances.{instance_fits, instance_of, first_key}
use Rattle.wac_aggregator.proofs.Wit.{named_wit, taken_members, no_plain, unshared_plain, may_hand_in, plain_cases, plain_before}
use Rattle.wac_aggregator.proofs.WitMoves.{found_on, still_shared, none_before, on_other, on_own, kept_tree, unstopped_after}

with_name : (c : Collection) (j : Id) → HasIdentifier c j → (n : Text) × (identifier c j ≡ Some n)
with_name c j h = by (identifier c j) refl h
  where
    by : (o : Option Text) → identifier c j ≡ o → IsSome o → (n : Text) × (identifier c j ≡ Some n)
    by None is some = absurd (cc some)
    by (Some n) is some = (n, is)

-- an item is an instance of one interface
one_instance : (call : Call) (i j : Id) → IsNamedInstance call i → IsNamedInstance call j → j ≡ i
one_instance call i j m n = let both : Instance j ≡ Instance i = sym n.instance ∙ m.instance in cc

module _ (calls front : List Call) (call : Call) (wit : IsWitList (front ++ call ∷ [])) (a b : Merging) (among : Contains calls call) (one : IsOneOf calls call.types) (may : MayTake call.types a) (sound : IsSoundCall call) (filed_a : AreFiled a.imports) (filed_b : AreFiled b.imports)
    (served : AreCallsServed calls front a) (w : IsWitAfter calls front a) (h : Advances call a b) where
  abbrev longer : List Call
  longer = front ++ call ∷ []

  abbrev f : Collection
  f = call.types

  abbrev c : Class
  c = call_track call

  front_wit : IsWitList front
  front_wit = wit_list_fewer front longer (among_front front (call ∷ [])) wit

  module _ (i : Id) (n : IsNamedInstance call i) (g : TakesMembers f a b (ReachesByUses f i) w.taken) where
    taken_item : IsTakenItem class_of f (state_of h.taken) (Instance i) h.own
    taken_item = subst (λ x. IsTakenItem class_of f (state_of h.taken) x h.own) n.instance h.takes.holds

    own_instance : (p : Id) × (h.own ≡ Instance p)
    own_instance = instance_of h.taken.types h.own (instance_fits taken_item.fits)

    taken_key : IsTakenKey class_of f (state_of h.taken) (interface_key i) (interface_key own_instance.0)
    taken_key = first_key f (state_of h.taken) (interface_key i) (interface_key own_instance.0) (subst (λ x. AreTakenKeys class_of f (state_of h.taken) (interface_key i ∷ []) (item_keys x)) own_instance.1 taken_item.keys)

    -- it was taken in by the shared entry on its track
    own_shared : shared_in b.shared.entries c ≡ Some own_instance.0
    own_shared =
        let e = taken_key.remembered.shared call.name (identifier_of f i call.name n.identified) in
        found_on call a b may filed_a filed_b h w.taken g.more w.has g.has own_instance.0 c e.is_shared (record { name = e.name; identified = has_identifier h.taken.types (interface_key own_instance.0) e.name e.identified; on_track = e.on_track })

    -- of which the import is an instance
    import_instance : h.import ≡ Instance own_instance.0
    import_instance = by (import_of a.imports c) refl
      where
        by : (o : Option ImportContent) → import_of a.imports c ≡ o → h.import ≡ Instance own_instance.0
        by None at = h.alone at ∙ own_instance.1
        by (Some j) at =
            let s = (may_hand_in calls front call a i wit filed_a served w n).import j at in
            let same : s.0 ≡ own_instance.0 = let both : Some s.0 ≡ Some own_instance.0 = sym (still_shared call a b may filed_a filed_b h w.taken g.more w.has g.has s.0 c s.1) ∙ own_shared in cc in
            let is : j.1 ≡ h.own = s.2 ∙ ap (λ x. Instance x) same ∙ sym own_instance.1 in
            h.kept j at (subst (λ x. Fits (item_tree h.taken.types j.1) (item_tree h.taken.types x)) is (Fits-refl (item_tree h.taken.types j.1))) ∙ is ∙ own_instance.1

    -- the members are those before and those that it reaches by uses
    reached_taken : (j : Id) → ReachesByUses f i j → Contains g.more (f, j)
    reached_taken j walk =
        let named = (named_wit front call wit i n).identified j walk in
        let name = with_name f j named in
        let o = taken_key.closed (interface_key j) name.0 (openly_by_uses f i j walk) (identifier_of f j name.0 name.1) in
        let stands : AllStand f (interface_key i ∷ []) = subst (λ x. AllStand f (item_keys x)) n.instance sound.stands in
        g.all f (λ e. refl) (w.all f one) j (walks_stand f sound.sound (interface_key i) (interface_key j) stands.0 (reaches_by_uses f i j walk)).0 named
        (subst IsSome (sym (ap (λ (m : Merging). memo_of m.taken (interface_key j)) h.same ∙ o.1)) refl)

    named_members : AreMembers longer g.more
    named_members d j = (
      λ m. elim ((members_of_more front call d j).0 m) [
        | inl old ↦ g.are_more.old d j ((w.members d j).0 old)
        | inr new ↦ subst (λ x. Contains g.more (x, j)) new.0 (reached_taken j (subst (λ x. ReachesByUses f x j) (one_instance call i new.1.0 n new.1.1) (subst (λ x. ReachesByUses x new.1.0 j) (sym new.0) new.1.2)))
      ],
      taken_members front call i n w.taken g.more w.members g.are_more d j,
    )

    named_instances : (t : Class) (s : Id) → shared_in b.shared.entries t ≡ Some s → AreInstances b t
    named_instances t s is j at = by (class_eq c t) refl
      where
        old : import_of a.imports t ≡ Some j → (o : Option Id) → shared_in a.shared.entries t ≡ o → (r : Id) × (shared_in b.shared.entries t ≡ Some r) × (j.1 ≡ Instance r)
        old stood (Some r) was =
            let k = w.instances t (λ none. let no : None ≡ Some r = sym none ∙ was in cc) j stood in
            (k.0, still_shared call a b may filed_a filed_b h w.taken g.more w.has g.has k.0 t k.1, k.2)
        old stood None none =
            let p = unshared_plain calls front a front_wit filed_a served w t j stood none in
            absurd (no_plain longer g.more b.types (shared_in b.shared.entries) wit (λ d k m. (named_members d k).1 m) g.has.shared t s p.0 is (plain_before front call t p.0 p.1))

        by : (x : Bool) → class_eq c t ≡ x → (r : Id) × (shared_in b.shared.entries t ≡ Some r) × (j.1 ≡ Instance r)
        by true e = let o = on_own call a b may filed_a filed_b h w.taken g.more w.has g.has t j e at in (own_instance.0, ap (shared_in b.shared.entries) (sym o.0) ∙ own_shared, sym o.1 ∙ import_instance)
        by false e = elim (on_other call a b may filed_a filed_b h w.taken g.more w.has g.has t j e at) [
          | inl stood ↦ old stood (shared_in a.shared.entries t) refl
          | inr r ↦ r
        ]

    named_plain : (t : Class) (j : ImportContent) → import_of b.imports t ≡ Some j → shared_in b.shared.entries t ≡ None → IsMeetOf (item_tree b.types j.1) (IsPlainTree longer t)
    named_plain t j at none = by (class_eq c t) refl
      where
        only_front : (x : ItemTree) → IsPlainTree longer t x → IsPlainTree front t x
        only_front x k = elim (plain_cases front call t x k) [ inl m ↦ m | inr own ↦ absurd (named_not_plain call i n own.0) ]

        old : import_of a.imports t ≡ Some j → IsMeetOf (item_tree b.types j.1) (IsPlainTree longer t)
        old stood =
            let was = none_before call a b may filed_a filed_b h w.taken g.more w.has g.has t none in
            subst (λ x. IsMeetOf x (IsPlainTree longer t)) (sym (kept_tree call a b may filed_a filed_b h w.taken g.more w.has g.has w.unstopped t j stood was))
            (meet_moves (IsPlainTree front t) (IsPlainTree longer t) (plain_before front call t) only_front (item_tree a.types j.1) (w.plain t j stood was))

        by : (x : Bool) → class_eq c t ≡ x → IsMeetOf (item_tree b.types j.1) (IsPlainTree longer t)
        by true e = let o = on_own call a b may filed_a filed_b h w.taken g.more w.has g.has t j e at in absurd (let no : None ≡ Some own_instance.0 = sym none ∙ ap (shared_in b.shared.entries) (sym o.0) ∙ own_shared in cc)
        by false e = elim (on_other call a b may filed_a filed_b h w.taken g.more w.has g.has t j e at) [
          | inl stood ↦ old stood
          | inr r ↦ absurd (let no : None ≡ Some r.0 = sym none ∙ r.1 in cc)
        ]

    named_unstopped : AreUnstopped b
    named_unstopped = unstopped_after call a b may filed_a filed_b h w.taken g.more w.has g.has w.unstopped (λ none. absurd (let no : None ≡ Some own_instance.0 = sym none ∙ own_shared in cc))

    pub named_next : IsWitAfter calls longer b
    named_next = record {
      taken = g.more;
      has = g.has;
      members = named_members;
      all = λ e is. g.all e (is call among) (w.all e is);
      instances = λ t some. by t (shared_in b.shared.entries t) refl some;
      plain = named_plain;
      unstopped = named_unstopped;
    }
      where
        by : (t : Class) (o : Option Id) → shared_in b.shared.entries t ≡ o → shared_in b.shared.entries t ≢ None → AreInstances b t
        by t None is some = absurd (some is)
        by t (Some s) is some = named_instances t s is
