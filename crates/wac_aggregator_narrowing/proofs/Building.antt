-- What meets and joins add: a fact of the ids in the two entries that an added one was
-- made of is one of the ids in it.
use Rattle.std.proofs.Common.{◌≡◌, List, ◌++◌, Some, None, inl, inr, refl, ap, sym, subst, ◌∙◌}
use Rattle.std.proofs.lemmas.List.Elements.{All-weaker}
use Rattle.std.specs.Option.{option_map_or}
use Rattle.std.specs.Str.{bytes_eq}
use Rattle.wac_model.specs.Text.{Text, lookup}
use Rattle.wac_component.specs.Collection.{Collection, UseContent, InterfaceContent, WorldContent}
use Rattle.wac_component.specs.Key.{Key, Entry, interface_entry, world_entry, entry_at, entry_keys, import_keys, other_keys, optional_keys, next, item_keys, named_keys, use_keys, Each, Stands, AllStand}
use Rattle.wac_component.specs.Reach.{IsAmong, Reaches, stay, step}
use Rattle.wac_component.specs.Sound.{IsSound}
use Rattle.wac_component.specs.declared.items.ItemKind.{ItemKind}
use Rattle.wac_component.specs.Open.{import_next, open_next, OpenReaches}
use Rattle.wac_component.specs.Open as walk
use Rattle.wac_component.specs.Entries.{entry_identifier, identifier_at}
use Rattle.wac_component.proofs.Extended.{AllStand-Extends}
use Rattle.wac_component.proofs.Keys.{Each-left, Each-right, Each-append}
use Rattle.wac_component.proofs.Among.{among_each, each_among, each_found, each_named}
use Rattle.wac_component.proofs.OpenWalks.{imports_stand, import_in_next, open_stands, open_in_next, import_or_open}
use Rattle.wac_merge.specs.Built.{Origins, IsBuilt, first, second, fresh, IsBuiltAt, of_first, of_second, of_both, AreBuilt, uses_of_both, IsEntryFrom, of_interfaces, of_worlds, of_modules, IsAddedBuilt, OnlyBuilds}
use Rattle.wac_merge.specs.Items.{ExternKinds}
use Rattle.wac_merge.proofs.ItemKeys.{each_entry_item, entry_item_each}
use Rattle.wac_aggregator_narrowing.specs.Identified.{IsCovered}
use Rattle.wac_aggregator_narrowing.specs.Apart.{IsKeyApart, AreKeysApart, IsGood}
use Rattle.wac_aggregator_narrowing.specs.Narrows.{Narrows}
use Rattle.wac_aggregator_narrowing.proofs.Among.{each_with_new}
use Rattle.wac_aggregator_narrowing.proofs.Adding.{import_next_kept, open_next_kept, identifier_kept, identified_kept, all_covered_kept, SharesNew-same, IsGood-Extends, Narrows-Extends}
use Rattle.wac_aggregator_narrowing.proofs.Walking.{apart_next}

-- a list of named items, without what is before it among the ids of an entry
interface_exports : (P : Key → Type 0) (i : InterfaceContent) → Each P (entry_keys (interface_entry i)) → Each P (named_keys item_keys i.exports)
interface_exports P i = Each-right P (named_keys use_keys i.uses) (named_keys item_keys i.exports)

interface_uses : (P : Key → Type 0) (i : InterfaceContent) → Each P (entry_keys (interface_entry i)) → Each P (named_keys use_keys i.uses)
interface_uses P i = Each-left P (named_keys use_keys i.uses) (named_keys item_keys i.exports)

world_uses : (P : Key → Type 0) (w : WorldContent) → Each P (entry_keys (world_entry w)) → Each P (named_keys use_keys w.uses)
world_uses P w h = Each-left P (named_keys use_keys w.uses) (named_keys item_keys w.imports) (Each-left P (named_keys use_keys w.uses ++ named_keys item_keys w.imports) (named_keys item_keys w.exports) h)

world_imports : (P : Key → Type 0) (w : WorldContent) → Each P (entry_keys (world_entry w)) → Each P (named_keys item_keys w.imports)
world_imports P w h = Each-right P (named_keys use_keys w.uses) (named_keys item_keys w.imports) (Each-left P (named_keys use_keys w.uses ++ named_keys item_keys w.imports) (named_keys item_keys w.exports) h)

world_exports : (P : Key → Type 0) (w : WorldContent) → Each P (entry_keys (world_entry w)) → Each P (named_keys item_keys w.exports)
world_exports P w = Each-right P (named_keys use_keys w.uses ++ named_keys item_keys w.imports) (named_keys item_keys w.exports)

module _ (c d : Collection) (o : Origins) (s : IsSound c) (only : OnlyBuilds c d o) where
  -- an added entry has no identifier
  from_unidentified : (a b e : Entry) → IsEntryFrom c d o a b e → entry_identifier e ≡ None
  from_unidentified _ _ _ (of_interfaces h) = h.no_identifier
  from_unidentified _ _ _ (of_worlds h) = refl
  from_unidentified _ _ _ (of_modules h) = refl

  pub added_unidentified : (k : Key) → IsAddedBuilt c d o k → identifier_at d k ≡ None
  added_unidentified k b = ap (λ o. option_map_or entry_identifier o None) b.self_at ∙ from_unidentified b.first b.second b.self b.is_from

  module _ (P : Key → Type 0) where
    -- it stood, with the fact, or was made of two of which the fact holds
    pub data IsBuiltFrom (k : Key) : Type 0 where
      stood : Stands c k → P k → IsBuiltFrom k
      made : Stands d k → ¬ (Stands c k) → P (o k).0 → P (o k).1 → IsBuiltFrom k

    -- they stand, with the fact
    abbrev pub AreOld : List Key → Type 0
    AreOld ks = AllStand c ks × Each P ks

    from_old : (ks : List Key) → AreOld ks → Each IsBuiltFrom ks
    from_old ks h = each_among IsBuiltFrom ks (λ k m. stood (among_each (Stands c) k ks m h.0) (among_each P k ks m h.1))

    pub from_built : (a b y : ItemKind) → IsBuilt c d o a b y → AreOld (item_keys a) → AreOld (item_keys b) → Each IsBuiltFrom (item_keys y)
    from_built a b y (first is) ha hb = subst (λ (x : ItemKind). Each IsBuiltFrom (item_keys x)) (sym is) (from_old (item_keys a) ha)
    from_built a b y (second is) ha hb = subst (λ (x : ItemKind). Each IsBuiltFrom (item_keys x)) (sym is) (from_old (item_keys b) hb)
    from_built a b y (fresh k m is stands new a_is b_is _) ha hb =
        let left = entry_item_each P k (o m).0 (subst (λ (x : ItemKind). Each P (item_keys x)) a_is ha.1) in
        let right = entry_item_each P k (o m).1 (subst (λ (x : ItemKind). Each P (item_keys x)) b_is hb.1) in
        subst (λ (x : ItemKind). Each IsBuiltFrom (item_keys x)) (sym is) (each_entry_item IsBuiltFrom k m (made stands new left right))

    old_found : (es : ExternKinds) (n : Text) (y : ItemKind) → lookup bytes_eq es n ≡ Some y → AreOld (named_keys item_keys es) → AreOld (item_keys y)
    old_found es n y is h = (each_found (Stands c) es n y is h.0, each_found P es n y is h.1)

    from_at : (es ts : ExternKinds) (n : Text) (y : ItemKind) → IsBuiltAt c d o es ts n y → AreOld (named_keys item_keys es) → AreOld (named_keys item_keys ts) → Each IsBuiltFrom (item_keys y)
    from_at es ts n y (of_first is) ha hb = from_old (item_keys y) (old_found es n y is ha)
    from_at es ts n y (of_second is) ha hb = from_old (item_keys y) (old_found ts n y is hb)
    from_at es ts n y (of_both {a = a} {b = b} a_is b_is h) ha hb = from_built a b y h (old_found es n a a_is ha) (old_found ts n b b_is hb)

    from_externs : (es ts ms : ExternKinds) → AreBuilt c d o es ts ms → AreOld (named_keys item_keys es) → AreOld (named_keys item_keys ts) → Each IsBuiltFrom (named_keys item_keys ms)
    from_externs es ts ms h ha hb =
        each_named IsBuiltFrom item_keys ms (All-weaker (λ (x : Text × ItemKind). IsBuiltAt c d o es ts x.0 x.1) (λ (x : Text × ItemKind). Each IsBuiltFrom (item_keys x.1)) (λ x b. from_at es ts x.0 x.1 b ha hb) ms h)

    from_uses : (us vs ws : List (Text × UseContent)) → ws ≡ uses_of_both us vs → AreOld (named_keys use_keys us) → AreOld (named_keys use_keys vs) → Each IsBuiltFrom (named_keys use_keys ws)
    from_uses us vs ws is ha hb = subst (λ (xs : List (Text × UseContent)). Each IsBuiltFrom (named_keys use_keys xs)) (sym is) (each_with_new IsBuiltFrom use_keys us vs (from_old (named_keys use_keys us) ha) (from_old (named_keys use_keys vs) hb))

    -- the ids in what an entry imports, by those in what the two import
    from_imports : (a b e : Entry) → IsEntryFrom c d o a b e → AllStand c (entry_keys a) → AllStand c (entry_keys b) → Each P (import_keys a) → Each P (import_keys b) → Each IsBuiltFrom (import_keys e)
    from_imports _ _ _ (of_interfaces h) sa sb ha hb = tt
    from_imports _ _ _ (of_worlds {a = a} {b = b} {e = e} h) sa sb ha hb = from_externs a.imports b.imports e.imports h.imports (world_imports (Stands c) a sa, ha) (world_imports (Stands c) b sb, hb)
    from_imports _ _ _ (of_modules h) sa sb ha hb = tt

    -- the other ids in it, by the other ids in the two
    from_others : (a b e : Entry) → IsEntryFrom c d o a b e → AllStand c (entry_keys a) → AllStand c (entry_keys b) → Each P (other_keys a) → Each P (other_keys b) → Each IsBuiltFrom (other_keys e)
    from_others _ _ _ (of_interfaces {a = a} {b = b} {e = e} h) sa sb ha hb =
        Each-append IsBuiltFrom (named_keys use_keys e.uses) (named_keys item_keys e.exports)
        (from_uses a.uses b.uses e.uses h.uses (interface_uses (Stands c) a sa, interface_uses P a ha) (interface_uses (Stands c) b sb, interface_uses P b hb))
        (from_externs a.exports b.exports e.exports h.exports (interface_exports (Stands c) a sa, interface_exports P a ha) (interface_exports (Stands c) b sb, interface_exports P b hb))
    from_others _ _ _ (of_worlds {a = a} {b = b} {e = e} h) sa sb ha hb =
        Each-append IsBuiltFrom (named_keys use_keys e.uses) (named_keys item_keys e.exports)
        (from_uses a.uses b.uses e.uses h.uses (world_uses (Stands c) a sa, Each-left P (named_keys use_keys a.uses) (named_keys item_keys a.exports) ha) (world_uses (Stands c) b sb, Each-left P (named_keys use_keys b.uses) (named_keys item_keys b.exports) hb))
        (from_externs a.exports b.exports e.exports h.exports (world_exports (Stands c) a sa, Each-right P (named_keys use_keys a.uses) (named_keys item_keys a.exports) ha) (world_exports (Stands c) b sb, Each-right P (named_keys use_keys b.uses) (named_keys item_keys b.exports) hb))
    from_others _ _ _ (of_modules h) sa sb ha hb = tt

    names_stand : (k : Key) (e : Entry) → Stands c k → entry_at c k ≡ Some e → AllStand c (entry_keys e)
    names_stand k e st is = rw is at (s.standing k st)

    pub from_import_next : ((k : Key) → Stands c k → P k → Each P (import_next c k)) → (k : Key) → IsBuiltFrom k → Each IsBuiltFrom (import_next d k)
    from_import_next closed k (stood st h) =
        subst (λ (ks : List Key). Each IsBuiltFrom ks) (sym (import_next_kept c d s only.extends k st)) (from_old (import_next c k) (imports_stand c s k st, closed k st h))
    from_import_next closed k (made st new left right) = elim (only.added k st) [ inl old ↦ absurd (new old) | inr b ↦ at_added b ]
      where
        at_added : IsAddedBuilt c d o k → Each IsBuiltFrom (import_next d k)
        at_added b =
            subst (λ (ks : List Key). Each IsBuiltFrom ks) (sym (ap (optional_keys import_keys) b.self_at))
            (from_imports b.first b.second b.self b.is_from (names_stand (o k).0 b.first b.first_stands b.first_at) (names_stand (o k).1 b.second b.second_stands b.second_at)
            (rw b.first_at at (closed (o k).0 b.first_stands left)) (rw b.second_at at (closed (o k).1 b.second_stands right)))

    -- a fact of imports alone, of each added entry
    pub added_imports : ((k : Key) → Stands c k → Each P (import_next c k)) → (k : Key) → IsAddedBuilt c d o k → Each IsBuiltFrom (import_next d k)
    added_imports closed k b =
        subst (λ (ks : List Key). Each IsBuiltFrom ks) (sym (ap (optional_keys import_keys) b.self_at))
        (from_imports b.first b.second b.self b.is_from (names_stand (o k).0 b.first b.first_stands b.first_at) (names_stand (o k).1 b.second b.second_stands b.second_at)
        (rw b.first_at at (closed (o k).0 b.first_stands)) (rw b.second_at at (closed (o k).1 b.second_stands)))

    pub from_open_next : ((k j : Key) → P k → IsAmong j (open_next c k) → P j) → (k j : Key) → IsBuiltFrom k → IsAmong j (open_next d k) → IsBuiltFrom j
    from_open_next closed k j (stood st h) m = let n = subst (λ (ks : List Key). IsAmong j ks) (open_next_kept c d s only.extends k st) m in stood (open_stands c s k j st n) (closed k j h n)
    from_open_next closed k j (made st new left right) m = elim (only.added k st) [ inl old ↦ absurd (new old) | inr b ↦ at_added b ]
      where
        others : (i : Key) (e : Entry) → entry_at c i ≡ Some e → P i → Each P (other_keys e)
        others i e is h = each_among P (other_keys e) (λ x n. closed i x h (subst (λ (ks : List Key). IsAmong x ks) (sym (ap (optional_keys other_keys) is)) n))

        at_added : IsAddedBuilt c d o k → IsBuiltFrom j
        at_added b =
            let all = from_others b.first b.second b.self b.is_from (names_stand (o k).0 b.first b.first_stands b.first_at) (names_stand (o k).1 b.second b.second_stands b.second_at)
            (others (o k).0 b.first b.first_at left) (others (o k).1 b.second b.second_at right) in
            among_each IsBuiltFrom j (other_keys b.self) (subst (λ (ks : List Key). IsAmong j ks) (ap (optional_keys other_keys) b.self_at) m) all

    -- an open walk from there leads to what is so too
    pub from_opens : ((k j : Key) → P k → IsAmong j (open_next c k) → P j) → (k t : Key) → IsBuiltFrom k → OpenReaches d k t → IsBuiltFrom t
    from_opens closed k t h walk.stay = h
    from_opens closed k t h (walk.step {j = j} m w) = from_opens closed j t (from_open_next closed k j h m) w

    pub from_next : ((k j : Key) → P k → IsAmong j (next c k) → P j) → (k j : Key) → IsBuiltFrom k → IsAmong j (next d k) → IsBuiltFrom j
    from_next closed k j h m = elim (import_or_open d k j m) [
      | inl n ↦ among_each IsBuiltFrom j (import_next d k) n (from_import_next (λ i st p. each_among P (import_next c i) (λ x y. closed i x p (import_in_next c i x y))) k h)
      | inr n ↦ from_open_next (λ i x p y. closed i x p (open_in_next c i x y)) k j h n
    ]

    pub from_reaches : ((k j : Key) → P k → IsAmong j (next c k) → P j) → (k t : Key) → IsBuiltFrom k → Reaches d k t → IsBuiltFrom t
    from_reaches closed k t h stay = h
    from_reaches closed k t h (step {j = j} m w) = from_reaches closed j t (from_next closed k j h m) w

    -- where it leads to what stood
    from_stood : (k : Key) → IsBuiltFrom k → Stands c k → P k
    from_stood k (stood st h) old = h
    from_stood k (made st new left right) old = absurd (new old)

  -- what was built of two items that are apart is apart
  module _ (ss : List Key) (shared : AllStand c ss) where
    from_apart : (ks : List Key) → Each (IsBuiltFrom (IsKeyApart c ss)) ks → AreKeysApart d ss ks
    from_apart ks h = each_among (IsKeyApart d ss) ks (λ k m t mt w.
        let f = from_reaches (IsKeyApart c ss) (λ i j p n. apart_next c ss i j p n) k t (among_each (IsBuiltFrom (IsKeyApart c ss)) k ks m h) w in
        from_stood (IsKeyApart c ss) t f (among_each (Stands c) t ss mt shared) t mt stay)

    pub built_apart : (a b y : ItemKind) → IsBuilt c d o a b y → AllStand c (item_keys a) → AllStand c (item_keys b) → AreKeysApart c ss (item_keys a) → AreKeysApart c ss (item_keys b) → AreKeysApart d ss (item_keys y)
    built_apart a b y h sa sb ha hb = from_apart (item_keys y) (from_built (IsKeyApart c ss) a b y h (sa, ha) (sb, hb))

    -- nothing below an import of an added entry leads to a shared one
    pub added_isolated : ((k : Key) → Stands c k → AreKeysApart c ss (import_next c k)) → (k : Key) → IsAddedBuilt c d o k → AreKeysApart d ss (import_next d k)
    added_isolated isolated k b = from_apart (import_next d k) (added_imports (IsKeyApart c ss) isolated k b)

  -- what was built of two items that openly lead only to shared interfaces does so too
  pub built_covered : IsSound d → (ss : List Key) (a b y : ItemKind) → IsBuilt c d o a b y → AllStand c (item_keys a) → AllStand c (item_keys b) → Each (IsCovered c ss) (item_keys a) → Each (IsCovered c ss) (item_keys b) → Each (IsCovered d ss) (item_keys y)
  built_covered sound ss a b y h sa sb ha hb =
      each_among (IsCovered d ss) (item_keys y) (λ k m t n w is.
      let f = from_opens (IsCovered c ss) (λ i j p q t' n' w' is'. p t' n' (walk.step q w') is') k t (among_each (IsBuiltFrom (IsCovered c ss)) k (item_keys y) m (from_built (IsCovered c ss) a b y h (sa, ha) (sb, hb))) w in
      at_end t n f is)
    where
      at_end : (t : Key) (n : Text) → IsBuiltFrom (IsCovered c ss) t → identifier_at d t ≡ Some n → IsAmong t ss
      at_end t n (stood st p) is = p t n walk.stay (sym (identifier_kept c d s only.extends t st) ∙ is)
      at_end t n (made st new left right) is = elim (only.added t st) [ inl old ↦ absurd (new old) | inr b ↦ unidentified b ]
        where
          unidentified : IsAddedBuilt c d o t → IsAmong t ss
          unidentified b = let both : None ≡ Some n = sym (added_unidentified t b) ∙ is in absurd (cc)

  -- an open walk from what was built to what stood keeps what holds along open walks
  pub built_opens : (P : Key → Type 0) → ((k j : Key) → P k → IsAmong j (open_next c k) → P j) → (a b y : ItemKind) → IsBuilt c d o a b y
      → AllStand c (item_keys a) → AllStand c (item_keys b) → Each P (item_keys a) → Each P (item_keys b) → (k t : Key) → IsAmong k (item_keys y) → Stands c t → OpenReaches d k t → P t
  built_opens P closed a b y h sa sb ha hb k t m st w =
      from_stood P t (from_opens P closed k t (among_each (IsBuiltFrom P) k (item_keys y) m (from_built P a b y h (sa, ha) (sb, hb))) w) st

pub built_good : (c d : Collection) (ss : List Key) (o : Origins) → IsGood c ss → IsSound d → OnlyBuilds c d o → IsGood d ss
built_good c d ss o g sound only =
    IsGood-Extends c d ss ss g sound only.extends (AllStand-Extends c d only.extends ss g.shared) (identified_kept c d g.sound only.extends ss g.shared g.identified)
    (all_covered_kept c d g.sound only.extends ss ss (λ t m. m) ss g.shared g.covered) (SharesNew-same c ss)
    (λ k st. elim (only.added k st) [ inl old ↦ inl old | inr b ↦ inr (added_isolated c d o g.sound only ss g.shared g.isolated k b) ])

pub built_narrows : (c d : Collection) (ss : List Key) (o : Origins) → IsGood c ss → OnlyBuilds c d o → Narrows c ss d ss
built_narrows c d ss o g only = Narrows-Extends c d g.sound only.extends ss ss (SharesNew-same c ss)
