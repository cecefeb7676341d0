-- A plain item that is accepted leaves the state of a WIT list.
use Rattle.std.proofs.Common.{◌≡◌, ◌≢◌, ◌⊎◌, inl, inr, Bool, true, false, List, [], ◌∷◌, ◌++◌, Option, Some, None, Contains, refl, ap, sym, ◌∙◌, subst}
use Rattle.std.proofs.lemmas.List.Elements.{Contains-push}
use Rattle.std.specs.Option.{option_map}
use Rattle.wac_model.specs.ItemTree.{ItemTree}
use Rattle.wac_component.specs.Collection.{Collection}
use Rattle.wac_component.specs.Height.{keys_height}
use Rattle.wac_component.specs.Id.{Id}
use Rattle.wac_component.specs.Key.{Each, item_keys}
use Rattle.wac_component.specs.Tree.{item_tree}
use Rattle.wac_component.specs.declared.items.ItemKind.TheVariants.{Instance}
use Rattle.wac_names.specs.Class.{Class, class_eq, class_of}
use Rattle.wac_names.proofs.Classes.{classes_decided}
use Rattle.wac_aggregator_narrowing.specs.Identified.{IsUnstopped}
use Rattle.wac_aggregator_narrowing.specs.Taking.{IsTakenItem}
use Rattle.wac_aggregator_promises.specs.Aggregated.{track_imports}
use Rattle.wac_aggregator_promises.specs.Call.{Call, IsSoundCall, call_track, call_tree}
use Rattle.wac_aggregator_promises.specs.Due.{of_name}
use Rattle.wac_aggregator_promises.specs.PlainRun.{IsTreeMetWith}
use Rattle.wac_aggregator_promises.specs.TreeSets.{IsMeetOf}
use Rattle.wac_aggregator_promises.specs.WitList.{IsPlainTree, IsPlainApart, IsWitList}
use Rattle.wac_aggregator_promises.specs.WitRun.{AreMembers}
use Rattle.wac_aggregator_promises.proofs.Among.{among_front, wit_list_fewer}
use Rattle.wac_aggregator_promises.proofs.Members.{named_not_plain}
use Rattle.wac_aggregator_promises.proofs.MoreMembers.{members_of_more}
use Rattle.wac_aggregator_promises.proofs.Sets.{meet_moves, meet_of_more, meet_of_one}
use Rattle.wac_aggregator_memo.specs.Memo.{memo_of}
use Rattle.wac_aggregator_imports.specs.Import.{ImportContent, import_of, AreFiled}
use Rattle.wac_aggregator_taking.specs.Members.{TakesMembers}
use Rattle.wac_aggregator_taking.specs.Takes.{shared_in, shared_keys, state_of, MayTake, OnlyGrows}
use Rattle.wac_aggregator_taking.specs.declared.state.Merging.{Merging}
use Rattle.wac_aggregator_taking.proofs.Members.{TakesMembers-grown}
use Rattle.wac_aggregator_taking.proofs.Plain.{plain_quiet}
use Rattle.wac_aggregator_taking.proofs.TakeLemmas.{only_grows}
use Rattle.wac_component.proofs.Extended.{Extends-trans}
use Rattle.wac_aggregator.specs.Advances.{Advances}
use Rattle.wac_aggregator.specs.Content.{shown, content_of}
use Rattle.wac_aggregator.specs.HandedIn.{IsOneOf}
use Rattle.wac_aggregator.specs.Served.{AreCallsServed}
use Rattle.wac_aggregator.specs.Wit.{AreInstances, AreUnstopped, IsWitAfter, trees_of}
use Rattle.wac_aggregator.proofs.Advancing.{placing, taken_kept, rest, run}
use Rattle.wac_aggregator.proofs.Leading.{placed_here}
use Rattle.wac_aggregator.proofs.Plain.{track_import, plain_step}
use Rattle.wac_aggregator.proofs.Wit.{no_plain, import_due, plain_cases, plain_before}
use Rattle.wac_aggregator.proofs.WitMoves.{still_unstopped, taken_unstopped, on_other, on_own, stood_stands, unstopped_after}

module _ (calls front : List Call) (call : Call) (wit : IsWitList (front ++ call ∷ [])) (a b : Merging) (among : Contains calls call) (one : IsOneOf calls call.types) (may : MayTake call.types a) (sound : IsSoundCall call) (filed_a : AreFiled a.imports) (filed_b : AreFiled b.imports)
    (served : AreCallsServed calls front a) (w : IsWitAfter calls front a) (h : Advances call a b) where
  abbrev longer : List Call
  longer = front ++ call ∷ []

  abbrev f : Collection
  f = call.types

  abbrev c : Class
  c = call_track call

  front_wit : IsWitList front
  front_wit = wit_list_fewer front longer (among_front front (call ∷ [])) wit

  module _ (p : IsPlainApart longer call) where
    grows : OnlyGrows f a b
    grows =
        let only = only_grows f a h.taken (keys_height f (item_keys call.kind)) (item_keys call.kind) (λ t. IsTakenItem class_of f t call.kind h.own) h.takes p.plain in
        record {
          grows = Extends-trans a.types h.taken.types b.types only.grows h.on.grows;
          shared = ap (λ (m : Merging). m.shared.entries) h.same ∙ only.shared;
          noted = λ k o is. only.noted k o (ap (λ (m : Merging). memo_of m.taken k) (sym h.same) ∙ is);
        }

    -- nothing is taken in
    g : TakesMembers f a b (λ i. ⊥) w.taken
    g = TakesMembers-grown f a b (λ i. ⊥) w.taken may.kept (run call a b may filed_a filed_b h) grows w.has

    plain_members : AreMembers longer g.more
    plain_members d j = (
      λ m. elim ((members_of_more front call d j).0 m) [
        | inl old ↦ g.are_more.old d j ((w.members d j).0 old)
        | inr new ↦ absurd (named_not_plain call new.1.0 new.1.1 p.plain)
      ],
      λ m. (members_of_more front call d j).1 (elim (g.are_more.new d j m) [
        | inl old ↦ inl ((w.members d j).1 old)
        | inr new ↦ absurd new.1
      ]),
    )

    -- and no entry is shared on its track
    own_tree : IsPlainTree longer c (call_tree call)
    own_tree = record { call = call; is_on = record { among = Contains-push front call; on_track = refl }; plain = p.plain; is_tree = refl }

    not_shared : (t : Class) (s : Id) → c ≡ t → shared_in b.shared.entries t ≡ Some s → ⊥
    not_shared t s on is = no_plain longer g.more b.types (shared_in b.shared.entries) wit (λ d k m. (plain_members d k).1 m) g.has.shared c s (call_tree call) (ap (shared_in b.shared.entries) on ∙ is) own_tree

    none_then : (t : Class) → shared_in b.shared.entries t ≡ None → shared_in a.shared.entries t ≡ None
    none_then t none = ap (λ (ss : List (Class × Id)). shared_in ss t) (sym grows.shared) ∙ none

    plain_instances : (t : Class) (s : Id) → shared_in b.shared.entries t ≡ Some s → AreInstances b t
    plain_instances t s is j at = by (class_eq c t) refl
      where
        old : import_of a.imports t ≡ Some j → (r : Id) × (shared_in b.shared.entries t ≡ Some r) × (j.1 ≡ Instance r)
        old stood =
            let same : shared_in b.shared.entries t ≡ shared_in a.shared.entries t = ap (λ (ss : List (Class × Id)). shared_in ss t) grows.shared in
            let k = w.instances t (λ none. let no : None ≡ Some s = sym none ∙ sym same ∙ is in cc) j stood in
            (k.0, same ∙ k.1, k.2)

        by : (x : Bool) → class_eq c t ≡ x → (r : Id) × (shared_in b.shared.entries t ≡ Some r) × (j.1 ≡ Instance r)
        by true e = absurd (not_shared t s (on_own call a b may filed_a filed_b h w.taken g.more w.has g.has t j e at).0 is)
        by false e = elim (on_other call a b may filed_a filed_b h w.taken g.more w.has g.has t j e at) [
          | inl stood ↦ old stood
          | inr r ↦ r
        ]

    -- the import on its track is met with the item
    own_meet : shared_in b.shared.entries c ≡ None → IsMeetOf (item_tree b.types h.import) (IsPlainTree longer c)
    own_meet none = by (import_of a.imports c) refl met
      where
        met : IsTreeMetWith (trees_of a c) (call_tree call) (Some (item_tree b.types h.import))
        met = subst (λ o. IsTreeMetWith o (call_tree call) (Some (item_tree b.types h.import))) (track_import a c filed_a)
            (subst (λ o. IsTreeMetWith (track_imports (shown (content_of a)) c) (call_tree call) o)
            (track_import b c filed_b ∙ ap (option_map (λ (i : ImportContent). item_tree b.types i.1)) (placed_here a.imports h.taken.imports b.imports call.name h.import (placing call a b may filed_a filed_b h) h.takes.stays))
            (plain_step call a b may filed_a filed_b h p.plain).here)

        by : (o : Option ImportContent) → import_of a.imports c ≡ o → IsTreeMetWith (option_map (λ (i : ImportContent). item_tree a.types i.1) o) (call_tree call) (Some (item_tree b.types h.import)) → IsMeetOf (item_tree b.types h.import) (IsPlainTree longer c)
        by None at same = subst (λ x. IsMeetOf x (IsPlainTree longer c)) (sym same) (meet_of_one (IsPlainTree longer c) (call_tree call) own_tree only)
          where
            only : (x : ItemTree) → IsPlainTree longer c x → x ≡ call_tree call
            only x k = elim (plain_cases front call c x k) [
              | inl old ↦ absurd (let i = import_due calls front a front_wit filed_a served w c (of_name old.call old.is_on) in let no : None ≡ Some i.0 = sym at ∙ i.1 in cc)
              | inr own ↦ own.2
            ]
        by (Some i) at meet = meet_of_more (IsPlainTree front c) (IsPlainTree longer c) (call_tree call) (plain_before front call c) own_tree cases (item_tree a.types i.1) (item_tree b.types h.import) (w.plain c i at (none_then c none)) meet
          where
            cases : (x : ItemTree) → IsPlainTree longer c x → IsPlainTree front c x ⊎ (x ≡ call_tree call)
            cases x k = elim (plain_cases front call c x k) [ inl old ↦ inl old | inr own ↦ inr own.2 ]

    plain_plain : (t : Class) (j : ImportContent) → import_of b.imports t ≡ Some j → shared_in b.shared.entries t ≡ None → IsMeetOf (item_tree b.types j.1) (IsPlainTree longer t)
    plain_plain t j at none = by (class_eq c t) refl
      where
        old : class_eq c t ≡ false → import_of a.imports t ≡ Some j → IsMeetOf (item_tree b.types j.1) (IsPlainTree longer t)
        old other stood = subst (λ x. IsMeetOf x (IsPlainTree longer t)) (sym (grows.grows.trees j.1 (stood_stands call a b may filed_a filed_b h w.taken g.more w.has g.has t j stood)))
            (meet_moves (IsPlainTree front t) (IsPlainTree longer t) (plain_before front call t) only_front (item_tree a.types j.1) (w.plain t j stood (none_then t none)))
          where
            only_front : (x : ItemTree) → IsPlainTree longer t x → IsPlainTree front t x
            only_front x k = elim (plain_cases front call t x k) [ inl m ↦ m | inr own ↦ absurd (let no : false ≡ true = sym other ∙ (classes_decided c t).1 own.1 in cc) ]

        by : (x : Bool) → class_eq c t ≡ x → IsMeetOf (item_tree b.types j.1) (IsPlainTree longer t)
        by true e =
            let o = on_own call a b may filed_a filed_b h w.taken g.more w.has g.has t j e at in
            subst (λ s. IsMeetOf (item_tree b.types j.1) (IsPlainTree longer s)) o.0 (subst (λ x. IsMeetOf (item_tree b.types x) (IsPlainTree longer c)) o.1 (own_meet (ap (shared_in b.shared.entries) o.0 ∙ none)))
        by false e = elim (on_other call a b may filed_a filed_b h w.taken g.more w.has g.has t j e at) [
          | inl stood ↦ old e stood
          | inr r ↦ absurd (let no : None ≡ Some r.0 = sym none ∙ r.1 in cc)
        ]

    plain_unstopped : AreUnstopped b
    plain_unstopped = unstopped_after call a b may filed_a filed_b h w.taken g.more w.has g.has w.unstopped (λ none. by none (import_of a.imports c) refl)
      where
        own_unstopped : Each (IsUnstopped h.taken.types) (item_keys h.own)
        own_unstopped = taken_unstopped f (state_of h.taken) (item_keys call.kind) (item_keys h.own) h.takes.holds.keys (plain_quiet f (item_keys call.kind) p.plain)

        by : shared_in b.shared.entries c ≡ None → (o : Option ImportContent) → import_of a.imports c ≡ o → Each (IsUnstopped b.types) (item_keys h.import)
        by none None at = subst (λ x. Each (IsUnstopped b.types) (item_keys x)) (sym (h.alone at))
            (still_unstopped h.taken.types b.types (shared_keys h.taken.shared.entries) (shared_keys b.shared.entries) ((rest call a b may filed_a filed_b h).stops (taken_kept call a b may filed_a filed_b h)) (item_keys h.own) h.takes.holds.stands own_unstopped)
        by none (Some j) at = h.unstopped j at
            (still_unstopped a.types h.taken.types (shared_keys a.shared.entries) (shared_keys h.taken.shared.entries) (h.takes.run.stops may.kept) (item_keys j.1) (stood_stands call a b may filed_a filed_b h w.taken g.more w.has g.has c j at) (w.unstopped c j at (none_then c none)))
            own_unstopped

    pub plain_next : IsWitAfter calls longer b
    plain_next = record {
      taken = g.more;
      has = g.has;
      members = plain_members;
      all = λ e is. g.all e (is call among) (w.all e is);
      instances = λ t some. by t (shared_in b.shared.entries t) refl some;
      plain = plain_plain;
      unstopped = plain_unstopped;
    }
      where
        by : (t : Class) (o : Option Id) → shared_in b.shared.entries t ≡ o → shared_in b.shared.entries t ≢ None → AreInstances b t
        by t None is some = absurd (some is)
        by t (Some s) is some = plain_instances t s is
