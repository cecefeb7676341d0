-- The open part of an aggregator stays apart from what is below imports.
use Rattle.std.proofs.Common.{◌≡◌, ◌≢◌, ◌⊎◌, inl, inr, List, [], Some, refl, sym, ap, subst, ◌∙◌}
use Rattle.wac_model.specs.Text.{Text}
use Rattle.wac_component.specs.Id.{Id}
use Rattle.wac_component.specs.Collection.{Collection, UseContent, InterfaceContent}
use Rattle.wac_component.specs.Implicit.{identifier, HasIdentifier}
use Rattle.wac_component.specs.Growth.{Extends, with_entry}
use Rattle.wac_component.specs.Key.{Key, Entry, entry_keys, other_keys, import_keys, optional_keys, interface_key, interface_keys, item_keys, next, Each, Stands, AllStand}
use Rattle.wac_aggregator_memo.specs.Memo.{AddsPair, Remembered}
use Rattle.wac_component.specs.Reach.{IsAmong, Reaches, stay, step}
use Rattle.wac_component.specs.Replacing.{NamesReach}
use Rattle.wac_component.specs.Sound.{IsSound}
use Rattle.wac_component.specs.Open.{open_next, import_next, OpenReaches}
use Rattle.wac_component.specs.Open as walk
use Rattle.wac_component.specs.declared.items.ItemKind.{ItemKind}
use Rattle.wac_component.proofs.Adding.{Extends-with_entry}
use Rattle.wac_component.proofs.ImportKeys.{imports-apart}
use Rattle.wac_component.proofs.Keys.{Key-discrete}
use Rattle.wac_component.proofs.Reading.{interface_at}
use Rattle.wac_component.proofs.Returns.{Reaches-trans}
use Rattle.wac_component.proofs.Walks.{next_stands, walks_stand}
use Rattle.wac_component.proofs.Last.{IsLast}
use Rattle.wac_component.proofs.Among.{among_each, each_among}
use Rattle.wac_component.proofs.OpenWalks.{imports_stand, opens_stand}
use Rattle.wac_aggregator_promises.specs.Attempt.{Sources, IsHeld}
use Rattle.wac_merge.specs.Built.{Origins, OnlyBuilds, IsBuilt}
use Rattle.wac_aggregator_narrowing.specs.Last.{last_key}
use Rattle.wac_aggregator_narrowing.specs.Narrows.{CanGrow, grown}
use Rattle.wac_aggregator_narrowing.specs.State.{State, IsStateKept}
use Rattle.wac_aggregator_narrowing.proofs.Adding.{walk_was, opens_was, import_next_kept, next_kept, last_at}
use Rattle.wac_aggregator_narrowing.proofs.Building.{IsBuiltFrom, stood, made, from_built, from_opens, from_reaches, added_imports}
use Rattle.wac_aggregator_narrowing.proofs.Growing.{walk_back, opens_back, entry_other, entry_grown}
use Rattle.wac_aggregator_narrowing.proofs.Growing as growing
use Rattle.wac_aggregator_narrowing.proofs.Steps.{growing_steps}
use Rattle.wac_aggregator_reasons.specs.Sharing.{IsOpenRoot, AreSourced, AreHeld}
use Rattle.wac_aggregator_reasons.specs.Split.{IsLow, of_copy, of_import, IsOpenKey, AreSplit, StaySplit}
use Rattle.wac_aggregator_reasons.proofs.States.{root_stands}

-- where the two are apart, what is openly reached is held
split_held : (s : State) → IsStateKept s → AreSplit s → (k t : Key) → IsOpenRoot s k → OpenReaches s.own k t → IsHeld s.own t
split_held s kept split k t r w = record {
  stands = opens_stand s.own kept.good.sound k t (root_stands s kept k r) w;
  above = λ b. split k r t w (of_import b);
}

-- what is reached from what is low is low
low_on : (s : State) (k t : Key) → IsLow s k → Reaches s.own k t → IsLow s t
low_on s k t (of_copy theirs own is w) v = of_copy theirs own is (Reaches-trans s.own own k t w v)
low_on s k t (of_import b) v = of_import (record { world = b.world; stands = b.stands; reached = (b.reached.0, b.reached.1, Reaches-trans s.own b.reached.0 k t b.reached.2 v) })

-- a walk in a collection that was added to
pub walk_on : (c d : Collection) → IsSound c → Extends c d → (k t : Key) → Stands c k → Reaches c k t → Reaches d k t
walk_on c d s x k t st stay = stay
walk_on c d s x k t st (step {j = j} m w) = step (subst (λ (ks : List Key). IsAmong j ks) (sym (next_kept c d s x k st)) m) (walk_on c d s x j t (next_stands c k j s st m) w)

module _ (s t : State) (kept : IsStateKept s) (x : Extends s.own t.own) where
  sound : IsSound s.own
  sound = kept.good.sound

  low_still : ((theirs own : Key) → s.copies theirs ≡ Some own → t.copies theirs ≡ Some own) → (k : Key) → IsLow s k → IsLow t k
  low_still more k (of_copy theirs own is w) = of_copy theirs own (more theirs own is) (walk_on s.own t.own sound x own k (kept.copies theirs own is).0 w)
  low_still more k (of_import b) =
      let m = subst (λ (ks : List Key). IsAmong b.reached.0 ks) (sym (import_next_kept s.own t.own sound x b.world b.stands)) b.reached.1 in
      of_import (record { world = b.world; stands = (x.standing b.world b.stands); reached = (b.reached.0, m, walk_on s.own t.own sound x b.reached.0 k (among_each (Stands s.own) b.reached.0 (import_next s.own b.world) b.reached.1 (imports_stand s.own sound b.world b.stands)) b.reached.2) })

  -- what stood is low only where it was, if new copies and new imports lead only to what was low
  low_back : ((theirs own : Key) → t.copies theirs ≡ Some own → (s.copies theirs ≡ Some own) ⊎ ((k : Key) → Stands s.own k → Reaches t.own own k → IsLow s k))
      → ((w : Key) → Stands t.own w → Stands s.own w ⊎ ((k : Key) → Stands s.own k → NamesReach t.own (import_next t.own w) k → IsLow s k))
      → (k : Key) → Stands s.own k → IsLow t k → IsLow s k
  low_back copies worlds k st (of_copy theirs own is w) = elim (copies theirs own is) [
    | inl was ↦ of_copy theirs own was (walk_was s.own t.own sound x own k (kept.copies theirs own was).0 w)
    | inr new ↦ new k st w
  ]
  low_back copies worlds k st (of_import b) = elim (worlds b.world b.stands) [
    | inl was ↦
        let m = subst (λ (ks : List Key). IsAmong b.reached.0 ks) (import_next_kept s.own t.own sound x b.world was) b.reached.1 in
        of_import (record { world = b.world; stands = was; reached = (b.reached.0, m, walk_was s.own t.own sound x b.reached.0 k (among_each (Stands s.own) b.reached.0 (import_next s.own b.world) m (imports_stand s.own sound b.world was)) b.reached.2) })
    | inr new ↦ new k st b.reached
  ]

  opens_still : ((k : Key) → Stands s.own k → IsLow t k → IsLow s k) → (k : Key) → Stands s.own k → IsOpenKey s k → IsOpenKey t k
  opens_still back k st h j w low = let v = opens_was s.own t.own sound x k j st w in h j v (back j (opens_stand s.own sound k j st v) low)

-- one entry more, whose imports are low
module _ (s t : State) (kept : IsStateKept s) (z : Entry) (own : t.own ≡ with_entry s.own z) (named : AllStand s.own (entry_keys z)) (lows : Each (IsLow s) (import_keys z)) where
  grows : Extends s.own t.own
  grows = subst (λ (c : Collection). Extends s.own c) (sym own) (Extends-with_entry s.own z kept.good.sound)

  last : IsLast s.own t.own z (last_key s.own z)
  last = subst (λ (c : Collection). IsLast s.own c z (last_key s.own z)) (sym own) (last_at s.own z)

  import_stands : (j : Key) → IsAmong j (import_keys z) → Stands s.own j
  import_stands j m = among_each (Stands s.own) j (entry_keys z) ((imports-apart z j).1 (inl m)) named

  imports_are : (w : Key) → w ≡ last_key s.own z → import_next t.own w ≡ import_keys z
  imports_are w same = ap (import_next t.own) same ∙ ap (optional_keys import_keys) last.at

  -- its imports lead to what is low
  imports_back : (w : Key) → Stands t.own w → Stands s.own w ⊎ ((k : Key) → Stands s.own k → NamesReach t.own (import_next t.own w) k → IsLow s k)
  imports_back w st = elim (last.others w st) [
    | inl was ↦ inl was
    | inr same ↦ inr (λ k sk r.
        let m = subst (λ (ks : List Key). IsAmong r.0 ks) (imports_are w same) r.1 in
        low_on s r.0 k (among_each (IsLow s) r.0 (import_keys z) m lows) (walk_was s.own t.own kept.good.sound grows r.0 k (import_stands r.0 m) r.2))
  ]

  -- as a copy, whose parts are low
  module _ (theirs : Key) (adds : AddsPair s.copies t.copies theirs (last_key s.own z)) (parts : Each (IsLow s) (entry_keys z)) where
    from_last : (k j : Key) → k ≡ last_key s.own z → Stands s.own j → Reaches t.own k j → IsLow s j
    from_last k j same st stay = absurd (last.is_new (subst (λ (i : Key). Stands s.own i) same st))
    from_last k j same st (step {j = i} m w) =
        let n = subst (λ (ks : List Key). IsAmong i ks) (ap (next t.own) same ∙ ap (optional_keys entry_keys) last.at) m in
        low_on s i j (among_each (IsLow s) i (entry_keys z) n parts) (walk_was s.own t.own kept.good.sound grows i j (among_each (Stands s.own) i (entry_keys z) n named) w)

    copies_back : (theirs' o : Key) → t.copies theirs' ≡ Some o → (s.copies theirs' ≡ Some o) ⊎ ((k : Key) → Stands s.own k → Reaches t.own o k → IsLow s k)
    copies_back k o is = elim (adds.only k o is) [ inl q ↦ inr (λ j st w. from_last o j q.1 st w) | inr was ↦ inl was ]

    pub copy_splits : StaySplit s t
    copy_splits = record { opens = opens_still s t kept grows (low_back s t kept grows copies_back imports_back); lows = low_still s t kept grows adds.kept }

  -- as an entry that is open, where what it openly names is
  module _ (same : t.copies ≡ s.copies) where
    same_copy : (theirs o : Key) → t.copies theirs ≡ Some o → s.copies theirs ≡ Some o
    same_copy theirs o is = subst (λ (m : Remembered). m theirs ≡ Some o) same is

    low_was : (k : Key) → Stands s.own k → IsLow t k → IsLow s k
    low_was = low_back s t kept grows (λ k o is. inl (same_copy k o is)) imports_back

    pub entry_splits : StaySplit s t
    entry_splits = record { opens = opens_still s t kept grows low_was; lows = low_still s t kept grows (λ k o is. subst (λ (m : Remembered). m k ≡ Some o) (sym same) is) }

    not_low : IsLow t (last_key s.own z) → ⊥
    not_low (of_copy theirs o is w) = let st = (kept.copies theirs o (same_copy theirs o is)).0 in last.is_new (walks_stand s.own kept.good.sound o (last_key s.own z) st (walk_was s.own t.own kept.good.sound grows o (last_key s.own z) st w))
    not_low (of_import b) = elim (last.others b.world b.stands) [
      | inl was ↦ from_part b.reached.0 (among_each (Stands s.own) b.reached.0 (import_next s.own b.world) (subst (λ (ks : List Key). IsAmong b.reached.0 ks) (import_next_kept s.own t.own kept.good.sound grows b.world was) b.reached.1) (imports_stand s.own kept.good.sound b.world was)) b.reached.2
      | inr is ↦ from_part b.reached.0 (import_stands b.reached.0 (subst (λ (ks : List Key). IsAmong b.reached.0 ks) (imports_are b.world is) b.reached.1)) b.reached.2
    ]
      where
        from_part : (j : Key) → Stands s.own j → Reaches t.own j (last_key s.own z) → ⊥
        from_part j st v = last.is_new (walks_stand s.own kept.good.sound j (last_key s.own z) st (walk_was s.own t.own kept.good.sound grows j (last_key s.own z) st v))

    pub entry_open : Each (IsOpenKey s) (other_keys z) → IsOpenKey t (last_key s.own z)
    entry_open parts j w = from_here (last_key s.own z) j refl w
      where
        from_here : (k j : Key) → k ≡ last_key s.own z → OpenReaches t.own k j → IsLow t j → ⊥
        from_here k j is walk.stay low = not_low (subst (λ (i : Key). IsLow t i) is low)
        from_here k j is (walk.step {j = i} m v) low =
            let n = subst (λ (ks : List Key). IsAmong i ks) (ap (open_next t.own) is ∙ ap (optional_keys other_keys) last.at) m in
            entry_splits.opens i (among_each (Stands s.own) i (entry_keys z) ((imports-apart z i).1 (inr n)) named) (among_each (IsOpenKey s) i (other_keys z) n parts) j v low

-- a shared interface that is open grows, where what it names is open
module _ (s t : State) (kept : IsStateKept s) (e : Id) (old new : InterfaceContent) (can : CanGrow s.own s.shared e old new) (no_cycle : ¬ (NamesReach s.own (interface_keys new) (interface_key e)))
    (own : t.own ≡ grown s.own e new) (same : t.copies ≡ s.copies) (open_entry : IsOpenKey s (interface_key e)) (parts : Each (IsOpenKey s) (interface_keys new)) where
  not_through : (k : Key) → IsLow s k → Reaches s.own k (interface_key e) → ⊥
  not_through k low w = open_entry (interface_key e) walk.stay (low_on s k (interface_key e) low w)

  low_part : (k j : Key) → Stands s.own k → IsLow s k → Reaches (grown s.own e new) k j → IsLow s j
  low_part k j st low w = elim (walk_back s.own s.shared e old new kept.good can no_cycle k j st w) [ inl v ↦ low_on s k j low v | inr v ↦ absurd (not_through k low v) ]

  low_before : (j : Key) → IsLow t j → IsLow s j
  low_before j (of_copy theirs o is w) =
      let was = subst (λ (m : Remembered). m theirs ≡ Some o) same is in
      low_part o j (kept.copies theirs o was).0 (of_copy theirs o was stay) (subst (λ (c : Collection). Reaches c o j) own w)
  low_before j (of_import b) = by_key (Key-discrete b.world (interface_key e))
    where
      st : Stands s.own b.world
      st = growing.stood s.own s.shared e old new kept.good can no_cycle b.world (subst (λ (c : Collection). Stands c b.world) own b.stands)

      by_key : Dec (b.world ≡ interface_key e) → IsLow s j
      by_key (yes q) = absurd (nothing (subst (λ (ks : List Key). IsAmong b.reached.0 ks) (ap (λ (c : Collection). import_next c b.world) own ∙ ap (import_next (grown s.own e new)) q ∙ ap (optional_keys import_keys) (entry_grown s.own s.shared e old new kept.good can no_cycle)) b.reached.1))
        where
          nothing : IsAmong b.reached.0 [] → ⊥
          nothing m = elim m [ ]
      by_key (no ne) =
          let m = subst (λ (ks : List Key). IsAmong b.reached.0 ks) (ap (λ (c : Collection). import_next c b.world) own ∙ ap (optional_keys import_keys) (entry_other s.own s.shared e old new kept.good can no_cycle b.world st ne)) b.reached.1 in
          low_part b.reached.0 j (among_each (Stands s.own) b.reached.0 (import_next s.own b.world) m (imports_stand s.own kept.good.sound b.world st)) (of_import (record { world = b.world; stands = st; reached = (b.reached.0, m, stay) })) (subst (λ (c : Collection). Reaches c b.reached.0 j) own b.reached.2)

  grown_opens : (k : Key) → Stands s.own k → IsOpenKey s k → IsOpenKey t k
  grown_opens k st h j w low = elim (opens_back s.own s.shared e old new kept.good can no_cycle k j st (subst (λ (c : Collection). OpenReaches c k j) own w)) [
    | inl v ↦ h j v (low_before j low)
    | inr v ↦ among_each (IsOpenKey s) v.by (interface_keys new) v.named parts j v.onward (low_before j low)
  ]

  -- what is low reaches what it did
  walk_forward : (k j : Key) → Stands s.own k → IsLow s k → Reaches s.own k j → Reaches (grown s.own e new) k j
  walk_forward k j st low stay = stay
  walk_forward k j st low (step {j = i} m w) =
      let other : k ≢ interface_key e = λ q. not_through k low (subst (λ (x : Key). Reaches s.own k x) q stay) in
      let n = subst (λ (ks : List Key). IsAmong i ks) (sym (ap (optional_keys entry_keys) (entry_other s.own s.shared e old new kept.good can no_cycle k st other))) m in
      step n (walk_forward i j (next_stands s.own k i kept.good.sound st m) (low_on s k i low (step m stay)) w)

  grown_lows : (k : Key) → IsLow s k → IsLow t k
  grown_lows k (of_copy theirs o is w) =
      of_copy theirs o (subst (λ (m : Remembered). m theirs ≡ Some o) (sym same) is) (subst (λ (c : Collection). Reaches c o k) (sym own) (walk_forward o k (kept.copies theirs o is).0 (of_copy theirs o is stay) w))
  grown_lows k (of_import b) = by_key (Key-discrete b.world (interface_key e))
    where
      by_key : Dec (b.world ≡ interface_key e) → IsLow t k
      by_key (yes q) = absurd (nothing (subst (λ (ks : List Key). IsAmong b.reached.0 ks) (ap (import_next s.own) q ∙ ap (optional_keys import_keys) (interface_at s.own e old can.was)) b.reached.1))
        where
          nothing : IsAmong b.reached.0 [] → ⊥
          nothing m = elim m [ ]
      by_key (no ne) =
          let m = subst (λ (ks : List Key). IsAmong b.reached.0 ks) (sym (ap (λ (c : Collection). import_next c b.world) own ∙ ap (optional_keys import_keys) (entry_other s.own s.shared e old new kept.good can no_cycle b.world b.stands ne))) b.reached.1 in
          let sw' = subst (λ (c : Collection). Stands c b.world) (sym own) (grows_standing b.world b.stands) in
          of_import (record { world = b.world; stands = sw'; reached = (b.reached.0, m, subst (λ (c : Collection). Reaches c b.reached.0 k) (sym own) (walk_forward b.reached.0 k (among_each (Stands s.own) b.reached.0 (import_next s.own b.world) b.reached.1 (imports_stand s.own kept.good.sound b.world b.stands)) (of_import (record { world = b.world; stands = b.stands; reached = (b.reached.0, b.reached.1, stay) })) b.reached.2)) })
        where
          grows_standing : (i : Key) → Stands s.own i → Stands (grown s.own e new) i
          grows_standing = (growing_steps s.own s.shared e old new kept.good can no_cycle).narrows.standing

  pub grown_splits : StaySplit s t
  grown_splits = record { opens = grown_opens; lows = grown_lows }

-- items are met or joined
module _ (s t : State) (o : Origins) (kept : IsStateKept s) (only : OnlyBuilds s.own t.own o) (same : t.copies ≡ s.copies) where
  low_next : (k j : Key) → IsLow s k → IsAmong j (next s.own k) → IsLow s j
  low_next k j low m = low_on s k j low (step m stay)

  open_on : (k j : Key) → IsOpenKey s k → IsAmong j (open_next s.own k) → IsOpenKey s j
  open_on k j h m i w = h i (walk.step m w)

  -- what is low now stood, and was so, or was made of two that were
  low_from : (k : Key) → IsLow t k → IsBuiltFrom s.own t.own o kept.good.sound only (IsLow s) k
  low_from k (of_copy theirs p is w) =
      let was = subst (λ (m : Remembered). m theirs ≡ Some p) same is in
      from_reaches s.own t.own o kept.good.sound only (IsLow s) low_next p k (stood (kept.copies theirs p was).0 (of_copy theirs p was stay)) w
  low_from k (of_import b) = from_reaches s.own t.own o kept.good.sound only (IsLow s) low_next b.reached.0 k (elim (only.added b.world b.stands) [
    | inl was ↦
        let m = subst (λ (ks : List Key). IsAmong b.reached.0 ks) (import_next_kept s.own t.own kept.good.sound only.extends b.world was) b.reached.1 in
        stood (among_each (Stands s.own) b.reached.0 (import_next s.own b.world) m (imports_stand s.own kept.good.sound b.world was)) (of_import (record { world = b.world; stands = was; reached = (b.reached.0, m, stay) }))
    | inr new ↦ among_each (IsBuiltFrom s.own t.own o kept.good.sound only (IsLow s)) b.reached.0 (import_next t.own b.world) b.reached.1 (added_imports s.own t.own o kept.good.sound only (IsLow s) imports_low b.world new)
  ]) b.reached.2
    where
      imports_low : (w : Key) → Stands s.own w → Each (IsLow s) (import_next s.own w)
      imports_low w st = each_among (IsLow s) (import_next s.own w) (λ j m. of_import (record { world = w; stands = st; reached = (j, m, stay) }))

  not_both : (k : Key) → IsBuiltFrom s.own t.own o kept.good.sound only (IsLow s) k → IsBuiltFrom s.own t.own o kept.good.sound only (IsOpenKey s) k → ⊥
  not_both k (stood st low) (stood st' h) = h k walk.stay low
  not_both k (stood st low) (made st' new a b) = new st
  not_both k (made st new low b) (stood st' h) = new st'
  not_both k (made st new low b) (made st' new' h b') = h (o k).0 walk.stay low

  pub built_splits : StaySplit s t
  built_splits = record {
    opens = λ k st h j w low. not_both j (low_from j low) (from_opens s.own t.own o kept.good.sound only (IsOpenKey s) open_on k j (stood st h) w);
    lows = low_still s t kept only.extends (λ theirs p is. subst (λ (m : Remembered). m theirs ≡ Some p) (sym same) is);
  }

  pub built_open : (a b y : ItemKind) → IsBuilt s.own t.own o a b y → AllStand s.own (item_keys a) → AllStand s.own (item_keys b) → Each (IsOpenKey s) (item_keys a) → Each (IsOpenKey s) (item_keys b) → Each (IsOpenKey t) (item_keys y)
  built_open a b y h sa sb ha hb = each_among (IsOpenKey t) (item_keys y) (λ k m j w low.
      not_both j (low_from j low) (from_opens s.own t.own o kept.good.sound only (IsOpenKey s) open_on k j (among_each (IsBuiltFrom s.own t.own o kept.good.sound only (IsOpenKey s)) k (item_keys y) m (from_built s.own t.own o kept.good.sound only (IsOpenKey s) a b y h (sa, ha) (sb, hb))) w))

-- after a change whose new roots are open
pub split_on : (s t : State) → IsStateKept s → ((k : Key) → IsOpenRoot t k → IsOpenRoot s k ⊎ IsOpenKey t k) → StaySplit s t → AreSplit s → AreSplit t
split_on s t kept new h split k r = elim (new k r) [ inl was ↦ h.opens k (root_stands s kept k was) (split k was) | inr is ↦ is ]

-- where all comes from sources, each use is of an interface with an identifier
pub held_again : (sources : Sources) (s : State) → IsStateKept s → AreSplit s → AreSourced sources s → AreHeld s
held_again sources s kept split h = record {
  held = split_held s kept split;
  used = λ k t n u r w has. identified u ((h.roots k r).uses t n u w has).is_on.identified;
}
  where
    identified : (u : UseContent) {n : Text} → identifier s.own u.interface ≡ Some n → HasIdentifier s.own u.interface
    identified u is = cc
