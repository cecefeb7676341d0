-- What is added to a collection changes no tree, and leads to no shared entry from what stood.
use Rattle.std.proofs.Common.{◌≡◌, List, Some, None, ◌⊎◌, inl, inr, refl, ap, sym, subst, ◌∙◌}
use Rattle.std.proofs.lemmas.List.{length-map}
use Rattle.std.specs.Option.{option_map_or}
use Rattle.wac_model.specs.Text.{Text}
use Rattle.wac_model.specs.ItemTree.{ItemTree}
use Rattle.wac_model.specs.Order.{Fits}
use Rattle.wac_model.proofs.ItemOrder.{Fits-refl, Fits-trans}
use Rattle.wac_component.specs.Collection.{Collection}
use Rattle.wac_component.specs.Growth.{Extends, with_entry}
use Rattle.wac_component.specs.Key.{Key, Entry, defined_entry, resource_entry, func_entry, interface_entry, world_entry, module_entry, entry_keys, import_keys, other_keys, optional_keys, next, item_keys, Each, Stands, AllStand}
use Rattle.wac_component.specs.Reach.{IsAmong, Reaches, stay, step}
use Rattle.wac_component.specs.Sound.{IsSound}
use Rattle.wac_component.specs.Tree.{item_tree}
use Rattle.wac_component.specs.Open.{import_next, open_next, OpenReaches}
use Rattle.wac_component.specs.Open as walk
use Rattle.wac_component.specs.Entries.{entry_identifier, identifier_at}
use Rattle.wac_component.proofs.Adding.{IsSound-with_entry, Extends-with_entry}
use Rattle.wac_component.proofs.Extended.{AllStand-Extends}
use Rattle.wac_component.proofs.ImportKeys.{imports-apart}
use Rattle.wac_component.proofs.Keys.{Each-map}
use Rattle.wac_component.proofs.Walks.{walks_stand, next_stands}
use Rattle.wac_component.proofs.Last.{IsLast, with_entry-last}
use Rattle.wac_component.proofs.Among.{among_each, each_among}
use Rattle.wac_component.proofs.OpenWalks.{imports_stand, open_stands, opens_stand}
use Rattle.wac_aggregator_narrowing.specs.Identified.{IsCovered}
use Rattle.wac_aggregator_narrowing.specs.Apart.{IsKeyApart, AreKeysApart, AreIdentified, IsGood, IsIsolated}
use Rattle.wac_aggregator_narrowing.specs.Last.{last_key}
use Rattle.wac_aggregator_narrowing.specs.Narrows.{Narrows, SharesNew, AddsShared}

pub fits_if_same : (a b : ItemTree) → a ≡ b → Fits a b
fits_if_same a b q = subst (λ (t : ItemTree). Fits a t) q (Fits-refl a)

-- what a covered entry openly names is covered
pub parts_covered : (c : Collection) (ss : List Key) (k : Key) → IsCovered c ss k → Each (IsCovered c ss) (open_next c k)
parts_covered c ss k h = each_among (IsCovered c ss) (open_next c k) (λ j m t n w is. h t n (walk.step m w) is)

pub Narrows-refl : (c : Collection) (ss : List Key) → Narrows c ss c ss
Narrows-refl c ss = record { number = refl; standing = λ k st. st; entries = λ k st other. refl; shares = λ t m. inl m; fits = λ x st. Fits-refl (item_tree c x); apart = λ k st h. h; same = λ x st h. refl }

pub Narrows-all_stand : (c d : Collection) (ss ts : List Key) → Narrows c ss d ts → (ks : List Key) → AllStand c ks → AllStand d ks
Narrows-all_stand c d ss ts n = Each-map (Stands c) (Stands d) n.standing

pub Narrows-all_apart : (c d : Collection) (ss ts : List Key) → Narrows c ss d ts → (ks : List Key) → AllStand c ks → AreKeysApart c ss ks → AreKeysApart d ts ks
Narrows-all_apart c d ss ts n ks st h = each_among (IsKeyApart d ts) ks (λ k m. n.apart k (among_each (Stands c) k ks m st) (among_each (IsKeyApart c ss) k ks m h))

pub Narrows-trans : (c d e : Collection) (ss ts us : List Key) → Narrows c ss d ts → Narrows d ts e us → Narrows c ss e us
Narrows-trans c d e ss ts us g h = record {
  number = h.number ∙ g.number;
  standing = λ k st. h.standing k (g.standing k st);
  entries = λ k st other. h.entries k (g.standing k st) (λ m. elim (g.shares k m) [ inl n ↦ other n | inr none ↦ none st ]) ∙ g.entries k st other;
  shares = λ t m. elim (h.shares t m) [ inl n ↦ g.shares t n | inr none ↦ inr (λ st. none (g.standing t st)) ];
  fits = λ x st. Fits-trans (item_tree e x) (item_tree d x) (item_tree c x) (h.fits x (Narrows-all_stand c d ss ts g (item_keys x) st)) (g.fits x st);
  apart = λ k st a. h.apart k (g.standing k st) (g.apart k st a);
  same = λ x st a. h.same x (Narrows-all_stand c d ss ts g (item_keys x) st) (Narrows-all_apart c d ss ts g (item_keys x) st a) ∙ g.same x st a;
}

module _ (c d : Collection) (s : IsSound c) (x : Extends c d) where
  pub next_kept : (k : Key) → Stands c k → next d k ≡ next c k
  next_kept k st = ap (optional_keys entry_keys) (x.same_entry k st)

  pub import_next_kept : (k : Key) → Stands c k → import_next d k ≡ import_next c k
  import_next_kept k st = ap (optional_keys import_keys) (x.same_entry k st)

  -- a walk from what stood is an old one
  pub walk_was : (k t : Key) → Stands c k → Reaches d k t → Reaches c k t
  walk_was k t st stay = stay
  walk_was k t st (step {j = j} m w) =
      let n = subst (λ (ks : List Key). IsAmong j ks) (next_kept k st) m in
      step n (walk_was j t (next_stands c k j s st n) w)

  pub identifier_kept : (k : Key) → Stands c k → identifier_at d k ≡ identifier_at c k
  identifier_kept k st = ap (λ o. option_map_or entry_identifier o None) (x.same_entry k st)

  pub identified_kept : (ss : List Key) → AllStand c ss → AreIdentified c ss → AreIdentified d ss
  identified_kept ss st h k m = let r = h k m in (r.0, identifier_kept k (among_each (Stands c) k ss m st) ∙ r.1)

  pub open_next_kept : (k : Key) → Stands c k → open_next d k ≡ open_next c k
  open_next_kept k st = ap (optional_keys other_keys) (x.same_entry k st)

  pub opens_was : (k t : Key) → Stands c k → OpenReaches d k t → OpenReaches c k t
  opens_was k t st walk.stay = walk.stay
  opens_was k t st (walk.step {j = j} m w) =
      let n = subst (λ (ks : List Key). IsAmong j ks) (open_next_kept k st) m in
      walk.step n (opens_was j t (open_stands c s k j st n) w)

  -- what leads only to shared interfaces does so still, where no fewer are shared
  pub covered_kept : (ss ts : List Key) → ((t : Key) → IsAmong t ss → IsAmong t ts) → (k : Key) → Stands c k → IsCovered c ss k → IsCovered d ts k
  covered_kept ss ts more k st h t n w is =
      let v = opens_was k t st w in
      more t (h t n v (sym (identifier_kept t (opens_stand c s k t st v)) ∙ is))

  pub all_covered_kept : (ss ts : List Key) → ((t : Key) → IsAmong t ss → IsAmong t ts) → (ks : List Key) → AllStand c ks → Each (IsCovered c ss) ks → Each (IsCovered d ts) ks
  all_covered_kept ss ts more ks st h = each_among (IsCovered d ts) ks (λ k m. covered_kept ss ts more k (among_each (Stands c) k ks m st) (among_each (IsCovered c ss) k ks m h))

  module _ (ss ts : List Key) (new : SharesNew c ss ts) where
    pub apart_kept : (k : Key) → Stands c k → IsKeyApart c ss k → IsKeyApart d ts k
    apart_kept k st h t mt w = elim (new t mt) [ inl m ↦ h t m (walk_was k t st w) | inr none ↦ none (walks_stand c s k t st (walk_was k t st w)) ]

    pub all_apart_kept : (ks : List Key) → AllStand c ks → AreKeysApart c ss ks → AreKeysApart d ts ks
    all_apart_kept ks st h = each_among (IsKeyApart d ts) ks (λ k m. apart_kept k (among_each (Stands c) k ks m st) (among_each (IsKeyApart c ss) k ks m h))

    -- adding changes no tree
    pub Narrows-Extends : Narrows c ss d ts
    Narrows-Extends = record {
      number = x.number;
      standing = x.standing;
      entries = λ k st other. x.same_entry k st;
      shares = new;
      fits = λ y st. fits_if_same (item_tree d y) (item_tree c y) (x.trees y st);
      apart = apart_kept;
      same = λ y st h. x.trees y st;
    }

    pub isolated_at_old : IsIsolated c ss → (k : Key) → Stands c k → AreKeysApart d ts (import_next d k)
    isolated_at_old h k st = subst (λ (ks : List Key). AreKeysApart d ts ks) (sym (import_next_kept k st)) (all_apart_kept (import_next c k) (imports_stand c s k st) (h k st))

-- what was shared is so still
pub SharesNew-same : (c : Collection) (ss : List Key) → SharesNew c ss ss
SharesNew-same c ss t m = inl m

-- whatever is added, where its imports lead to no shared entry
pub IsGood-Extends : (c d : Collection) (ss ts : List Key) → IsGood c ss → IsSound d → Extends c d → AllStand d ts → AreIdentified d ts → Each (IsCovered d ts) ts → SharesNew c ss ts
    → ((k : Key) → Stands d k → Stands c k ⊎ AreKeysApart d ts (import_next d k)) → IsGood d ts
IsGood-Extends c d ss ts g sound x shared identified covered new added = record {
  sound = sound;
  shared = shared;
  identified = identified;
  covered = covered;
  isolated = λ k st. elim (added k st) [ inl old ↦ isolated_at_old c d g.sound x ss ts new g.isolated k old | inr h ↦ h ];
}

-- one entry more, at k
module _ (c : Collection) (ss : List Key) (e : Entry) (k : Key) (last : IsLast c (with_entry c e) e k) (g : IsGood c ss) (named : AllStand c (entry_keys e)) where
  sound : IsSound (with_entry c e)
  sound = IsSound-with_entry c e g.sound named

  grows : Extends c (with_entry c e)
  grows = Extends-with_entry c e g.sound

  imports_named : AllStand c (import_keys e)
  imports_named = each_among (Stands c) (import_keys e) (λ j m. among_each (Stands c) j (entry_keys e) ((imports-apart e j).1 (inl m)) named)

  -- what names only what is apart is apart
  pub added_apart : AreKeysApart c ss (entry_keys e) → IsKeyApart (with_entry c e) ss k
  added_apart h t mt stay = last.is_new (among_each (Stands c) k ss mt g.shared)
  added_apart h t mt (step {j = j} m w) =
      let n = subst (λ (ks : List Key). IsAmong j ks) (ap (optional_keys entry_keys) last.at) m in
      among_each (IsKeyApart c ss) j (entry_keys e) n h t mt (walk_was c (with_entry c e) g.sound grows j t (among_each (Stands c) j (entry_keys e) n named) w)

  -- what openly names only what leads to shared interfaces does so, where it is
  -- itself no more than one of them
  new_covered : (ts : List Key) → ((t : Key) → IsAmong t ss → IsAmong t ts) → ((n : Text) → entry_identifier e ≡ Some n → IsAmong k ts) → Each (IsCovered c ss) (other_keys e) → IsCovered (with_entry c e) ts k
  new_covered ts more self h t n walk.stay is = self n (sym (ap (λ o. option_map_or entry_identifier o None) last.at) ∙ is)
  new_covered ts more self h t n (walk.step {j = j} m w) is =
      let o = subst (λ (ks : List Key). IsAmong j ks) (ap (optional_keys other_keys) last.at) m in
      let st = among_each (Stands c) j (entry_keys e) ((imports-apart e j).1 (inr o)) named in
      covered_kept c (with_entry c e) g.sound grows ss ts more j st (among_each (IsCovered c ss) j (other_keys e) o h) t n w is

  pub added_covered : entry_identifier e ≡ None → Each (IsCovered c ss) (other_keys e) → IsCovered (with_entry c e) ss k
  added_covered none = new_covered ss (λ t m. m) (λ n is. let both : None ≡ Some n = sym none ∙ is in absurd (cc))

  -- its imports lead to no shared entry
  module _ (apart : AreKeysApart c ss (import_keys e)) where
    module _ (ts : List Key) (shared : AllStand (with_entry c e) ts) (identified : AreIdentified (with_entry c e) ts) (covered : Each (IsCovered (with_entry c e) ts) ts) (new : SharesNew c ss ts) where
      at_new : (j : Key) → Stands c j ⊎ (j ≡ k) → Stands c j ⊎ AreKeysApart (with_entry c e) ts (import_next (with_entry c e) j)
      at_new j (inl old) = inl old
      at_new j (inr same) =
          let keys : import_next (with_entry c e) j ≡ import_keys e = ap (import_next (with_entry c e)) same ∙ ap (optional_keys import_keys) last.at in
          inr (subst (λ (ks : List Key). AreKeysApart (with_entry c e) ts ks) (sym keys) (all_apart_kept c (with_entry c e) g.sound grows ss ts new (import_keys e) imports_named apart))

      good_with : IsGood (with_entry c e) ts
      good_with = IsGood-Extends c (with_entry c e) ss ts g sound grows shared identified covered new (λ j st. at_new j (last.others j st))

    pub added_good : IsGood (with_entry c e) ss
    added_good =
        good_with ss (AllStand-Extends c (with_entry c e) grows ss g.shared) (identified_kept c (with_entry c e) g.sound grows ss g.shared g.identified)
        (all_covered_kept c (with_entry c e) g.sound grows ss ss (λ t m. m) ss g.shared g.covered) (SharesNew-same c ss)

    pub added_narrows : Narrows c ss (with_entry c e) ss
    added_narrows = Narrows-Extends c (with_entry c e) g.sound grows ss ss (SharesNew-same c ss)

    -- what is identified may become a shared entry, since nothing led to it
    module _ (ts : List Key) (adds : AddsShared ss ts k) (name : Text) (is : entry_identifier e ≡ Some name) (covered : Each (IsCovered c ss) (other_keys e)) where
      by_part : (P : Key → Type 0) → P k → ((t : Key) → IsAmong t ss → P t) → (t : Key) → IsAmong t ts → P t
      by_part P new old t m = elim (adds.only t m) [ inl same ↦ subst P (sym same) new | inr n ↦ old t n ]

      shares : SharesNew c ss ts
      shares = by_part (λ t. IsAmong t ss ⊎ (¬ (Stands c t))) (inr last.is_new) (λ t m. inl m)

      identified_with : AreIdentified (with_entry c e) ts
      identified_with = by_part (λ t. (n : Text) × (identifier_at (with_entry c e) t ≡ Some n)) (name, ap (λ o. option_map_or entry_identifier o None) last.at ∙ is) (identified_kept c (with_entry c e) g.sound grows ss g.shared g.identified)

      stand_with : AllStand (with_entry c e) ts
      stand_with = each_among (Stands (with_entry c e)) ts (by_part (Stands (with_entry c e)) last.stands (λ t m. grows.standing t (among_each (Stands c) t ss m g.shared)))

      pub shared_covered : IsCovered (with_entry c e) ts k
      shared_covered = new_covered ts adds.kept (λ n q. adds.is) covered

      covered_with : Each (IsCovered (with_entry c e) ts) ts
      covered_with = each_among (IsCovered (with_entry c e) ts) ts (by_part (IsCovered (with_entry c e) ts) shared_covered
          (λ t m. covered_kept c (with_entry c e) g.sound grows ss ts adds.kept t (among_each (Stands c) t ss m g.shared) (among_each (IsCovered c ss) t ss m g.covered)))

      pub shared_good : IsGood (with_entry c e) ts
      shared_good = good_with ts stand_with identified_with covered_with shares

      pub shared_narrows : Narrows c ss (with_entry c e) ts
      shared_narrows = Narrows-Extends c (with_entry c e) g.sound grows ss ts shares

-- the entry that was put last
pub last_at : (c : Collection) (e : Entry) → IsLast c (with_entry c e) e (last_key c e)
last_at c (defined_entry e) = with_entry-last c (defined_entry e) (last_key c (defined_entry e)) refl refl (sym (length-map c.defined defined_entry))
last_at c (resource_entry e) = with_entry-last c (resource_entry e) (last_key c (resource_entry e)) refl refl (sym (length-map c.resources resource_entry))
last_at c (func_entry e) = with_entry-last c (func_entry e) (last_key c (func_entry e)) refl refl (sym (length-map c.funcs func_entry))
last_at c (interface_entry e) = with_entry-last c (interface_entry e) (last_key c (interface_entry e)) refl refl (sym (length-map c.interfaces interface_entry))
last_at c (world_entry e) = with_entry-last c (world_entry e) (last_key c (world_entry e)) refl refl (sym (length-map c.worlds world_entry))
last_at c (module_entry e) = with_entry-last c (module_entry e) (last_key c (module_entry e)) refl refl (sym (length-map c.modules module_entry))
