-- Where a shared interface grows, every item fits where it was asked for.
use Rattle.std.proofs.Common.{◌≡◌, ◌≢◌, ◌<◌, ◌++◌, ℕ, suc, zero, List, Some, None, slice_get, slice_set, ◌⊎◌, inl, inr, refl, ap, sym, subst, ◌∙◌, arith}
use Rattle.std.proofs.lemmas.List.{length-map}
use Rattle.std.specs.Option.{option_map_or}
use Rattle.std.specs.Str.{bytes_eq}
use Rattle.wac_model.specs.Text.{Text, lookup}
use Rattle.wac_model.specs.ValueTree.{ValueTree, FuncTree}
use Rattle.wac_model.specs.ItemTree.{Kind, item, type_item, leaf, resource, func, value, composite, interface, world, no_items}
use Rattle.wac_model.specs.Order.{Fits}
use Rattle.wac_model.proofs.ItemOrder.{Fits-refl}
use Rattle.wac_component.specs.Id.{Id}
use Rattle.wac_component.specs.Collection.{Collection, InterfaceContent, WorldContent}
use Rattle.wac_component.specs.Height.{height, keys_height}
use Rattle.wac_component.specs.Key.{Key, interface_entry, entry_at, entry_keys, import_keys, other_keys, optional_keys, next, item_keys, named_keys, use_keys, interface_keys, world_keys, interface_key, world_key, Each, Stands, AllStand}
use Rattle.wac_component.specs.Laws.{KeepsLeaves}
use Rattle.wac_component.specs.Reach.{IsAmong, Reaches, stay, step}
use Rattle.wac_component.specs.Replacing.{NamesReach, Replaces}
use Rattle.wac_component.specs.Sound.{IsSound}
use Rattle.wac_component.specs.Tree.{item_tree, externs}
use Rattle.wac_component.specs.declared.items.ItemKind.{ItemKind}
use Rattle.wac_component.specs.declared.items.ItemKind.TheVariants.{«Type» as OfType, Func, Instance, Component, Module, Value}
use Rattle.wac_component.specs.declared.items.Type.TheVariants.{Resource as TypeResource, Func as TypeFunc, Value as TypeValue, Interface as TypeInterface, World as TypeWorld, Module as TypeModule}
use Rattle.wac_component.specs.Open.{import_next, open_next, OpenReaches}
use Rattle.wac_component.specs.Open as walk
use Rattle.wac_component.specs.Entries.{entry_identifier, identifier_at}
use Rattle.wac_component.proofs.Keys.{Each-left, Each-right, Each-map, Key-discrete, Key-parts, largest-append}
use Rattle.wac_component.proofs.LeafTrees.{keeps-leaves}
use Rattle.wac_component.proofs.Lists.{slice_get-set_same, slice_get-set_other}
use Rattle.wac_component.proofs.Reading.{interface_at, world_at, interface_standing, world_standing, interface_lower, world_lower, interface_found, world_found}
use Rattle.wac_component.proofs.Replaced.{Puts}
use Rattle.wac_component.proofs.Replacing.{Puts-replaced, IsSound-replaced, Replaces-replaced}
use Rattle.wac_component.proofs.Walks.{next_stands}
use Rattle.wac_component.proofs.Among.{among_each, each_among, each_found}
use Rattle.wac_component.proofs.OpenWalks.{imports_stand, open_stands, opens_stand}
use Rattle.wac_checker_parts.specs.Externs.{AreServed}
use Rattle.wac_checker_parts.proofs.ExternLemmas.{named_lower}
use Rattle.wac_aggregator_narrowing.specs.Identified.{IsCovered}
use Rattle.wac_aggregator_narrowing.specs.Apart.{IsKeyApart, AreKeysApart, IsIsolated, IsGood}
use Rattle.wac_aggregator_narrowing.specs.Narrows.{Narrows, CanGrow, grown}
use Rattle.wac_aggregator_narrowing.proofs.Adding.{fits_if_same}
use Rattle.wac_aggregator_narrowing.proofs.Contents.{interface_fits, world_fits, served_same, served_left}

module _ (c : Collection) (ss : List Key) (e : Id) (old new : InterfaceContent) (g : IsGood c ss) (can : CanGrow c ss e old new) (no_cycle : ¬ (NamesReach c (interface_keys new) (interface_key e))) where
  pub shared_stands : Stands c (interface_key e)
  shared_stands = among_each (Stands c) (interface_key e) ss can.is_shared g.shared

  puts : Puts c (grown c e new) (interface_key e) (interface_entry new)
  puts = Puts-replaced c e (interface_entry new) shared_stands

  replaces : Replaces c (grown c e new) (interface_key e)
  replaces = Replaces-replaced c e (interface_entry new) shared_stands g.sound

  pub grown_sound : IsSound (grown c e new)
  grown_sound = IsSound-replaced c e (interface_entry new) shared_stands g.sound can.named no_cycle

  pub stood : (k : Key) → Stands (grown c e new) k → Stands c k
  stood k st = (st.0, subst (λ (n : ℕ). k.id.index < n) (puts.lengths k.sort) st.1)

  pub entry_other : (k : Key) → Stands c k → k ≢ interface_key e → entry_at (grown c e new) k ≡ entry_at c k
  entry_other = puts.others

  pub entry_grown : entry_at (grown c e new) (interface_key e) ≡ Some (interface_entry new)
  entry_grown = puts.entry

  -- a walk after was one before, or one to the entry
  pub walk_back : (k t : Key) → Stands c k → Reaches (grown c e new) k t → Reaches c k t ⊎ Reaches c k (interface_key e)
  walk_back k t st stay = inl stay
  walk_back k t st (step {j = j} m w) = by_key (Key-discrete k (interface_key e)) (λ sj. walk_back j t sj w)
    where
      onward : IsAmong j (next c k) → Reaches c j t ⊎ Reaches c j (interface_key e) → Reaches c k t ⊎ Reaches c k (interface_key e)
      onward n (inl v) = inl (step n v)
      onward n (inr v) = inr (step n v)

      by_key : Dec (k ≡ interface_key e) → (Stands c j → Reaches c j t ⊎ Reaches c j (interface_key e)) → Reaches c k t ⊎ Reaches c k (interface_key e)
      by_key (yes same) rest = inr (subst (λ (x : Key). Reaches c k x) same stay)
      by_key (no ne) rest = let n = subst (λ (ks : List Key). IsAmong j ks) (ap (optional_keys entry_keys) (entry_other k st ne)) m in onward n (rest (next_stands c k j g.sound st n))

  pub apart_on : (k : Key) → Stands c k → IsKeyApart c ss k → IsKeyApart (grown c e new) ss k
  apart_on k st h s ms w = elim (walk_back k s st w) [ inl v ↦ h s ms v | inr v ↦ h (interface_key e) can.is_shared v ]

  all_apart_on : (ks : List Key) → AllStand c ks → AreKeysApart c ss ks → AreKeysApart (grown c e new) ss ks
  all_apart_on ks st h = each_among (IsKeyApart (grown c e new) ss) ks (λ k m. apart_on k (among_each (Stands c) k ks m st) (among_each (IsKeyApart c ss) k ks m h))

  isolated : IsIsolated (grown c e new) ss
  isolated k st = by_key (Key-discrete k (interface_key e))
    where
      by_key : Dec (k ≡ interface_key e) → AreKeysApart (grown c e new) ss (import_next (grown c e new) k)
      by_key (yes same) = subst (λ (ks : List Key). AreKeysApart (grown c e new) ss ks) (sym (ap (import_next (grown c e new)) same ∙ ap (optional_keys import_keys) entry_grown)) tt
      by_key (no ne) =
          let sk = stood k st in
          subst (λ (ks : List Key). AreKeysApart (grown c e new) ss ks) (sym (ap (optional_keys import_keys) (entry_other k sk ne))) (all_apart_on (import_next c k) (imports_stand c g.sound k sk) (g.isolated k sk))

  -- each entry keeps its identifier
  pub identifier_grown : (k : Key) → Stands c k → identifier_at (grown c e new) k ≡ identifier_at c k
  identifier_grown k st = by_key (Key-discrete k (interface_key e))
    where
      at_shared : identifier_at (grown c e new) (interface_key e) ≡ identifier_at c (interface_key e)
      at_shared = ap (λ o. option_map_or entry_identifier o None) entry_grown ∙ can.same_identifier ∙ sym (ap (λ o. option_map_or entry_identifier o None) (interface_at c e old can.was))

      by_key : Dec (k ≡ interface_key e) → identifier_at (grown c e new) k ≡ identifier_at c k
      by_key (yes same) = subst (λ (j : Key). identifier_at (grown c e new) j ≡ identifier_at c j) (sym same) at_shared
      by_key (no ne) = ap (λ o. option_map_or entry_identifier o None) (entry_other k st ne)

  pub open_next_other : (k : Key) → Stands c k → k ≢ interface_key e → open_next (grown c e new) k ≡ open_next c k
  open_next_other k st ne = ap (optional_keys other_keys) (entry_other k st ne)

  pub open_next_grown : open_next (grown c e new) (interface_key e) ≡ interface_keys new
  open_next_grown = ap (optional_keys other_keys) entry_grown

  -- an open walk was one before, or goes to the shared entry and on from what that says now
  pub record Through (k t : Key) : Type 0 where
    pub before : OpenReaches c k (interface_key e)
    pub by : Key
    pub named : IsAmong by (interface_keys new)
    pub onward : OpenReaches c by t

  pub opens_back : (k t : Key) → Stands c k → OpenReaches (grown c e new) k t → OpenReaches c k t ⊎ Through k t
  opens_back k t st walk.stay = inl walk.stay
  opens_back k t st (walk.step {j = j} m w) = by_key (Key-discrete k (interface_key e)) (λ sj. opens_back j t sj w)
    where
      at_shared : k ≡ interface_key e → IsAmong j (interface_keys new) → OpenReaches c j t ⊎ Through j t → OpenReaches c k t ⊎ Through k t
      at_shared same n (inl v) = inr record { before = subst (λ (x : Key). OpenReaches c k x) same walk.stay; by = j; named = n; onward = v }
      at_shared same n (inr v) = inr record { before = subst (λ (x : Key). OpenReaches c k x) same walk.stay; by = v.by; named = v.named; onward = v.onward }

      at_other : IsAmong j (open_next c k) → OpenReaches c j t ⊎ Through j t → OpenReaches c k t ⊎ Through k t
      at_other n (inl v) = inl (walk.step n v)
      at_other n (inr v) = inr record { before = walk.step n v.before; by = v.by; named = v.named; onward = v.onward }

      by_key : Dec (k ≡ interface_key e) → (Stands c j → OpenReaches c j t ⊎ Through j t) → OpenReaches c k t ⊎ Through k t
      by_key (yes same) rest =
          let n = subst (λ (ks : List Key). IsAmong j ks) (ap (open_next (grown c e new)) same ∙ open_next_grown) m in
          at_shared same n (rest (among_each (Stands c) j (interface_keys new) n can.named))
      by_key (no ne) rest =
          let n = subst (λ (ks : List Key). IsAmong j ks) (open_next_other k st ne) m in
          at_other n (rest (open_stands c g.sound k j st n))

  -- what leads only to shared interfaces does so still
  pub covered_grown : (k : Key) → Stands c k → IsCovered c ss k → IsCovered (grown c e new) ss k
  covered_grown k st h t n w is = by_walk (opens_back k t st w)
    where
      at : (j : Key) → Stands c j → OpenReaches c j t → IsCovered c ss j → IsAmong t ss
      at j sj v covered = covered t n v (sym (identifier_grown t (opens_stand c g.sound j t sj v)) ∙ is)

      by_walk : OpenReaches c k t ⊎ Through k t → IsAmong t ss
      by_walk (inl v) = at k st v h
      by_walk (inr v) = at v.by (among_each (Stands c) v.by (interface_keys new) v.named can.named) v.onward (among_each (IsCovered c ss) v.by (interface_keys new) v.named can.covered)

  all_covered_grown : (ks : List Key) → AllStand c ks → Each (IsCovered c ss) ks → Each (IsCovered (grown c e new) ss) ks
  all_covered_grown ks st h = each_among (IsCovered (grown c e new) ss) ks (λ k m. covered_grown k (among_each (Stands c) k ks m st) (among_each (IsCovered c ss) k ks m h))

  pub grown_good : IsGood (grown c e new) ss
  grown_good = record {
    sound = grown_sound;
    shared = Each-map (Stands c) (Stands (grown c e new)) replaces.standing ss g.shared;
    identified = λ k m. let r = g.identified k m in (r.0, identifier_grown k (among_each (Stands c) k ss m g.shared) ∙ r.1);
    covered = all_covered_grown ss g.shared g.covered;
    isolated = isolated;
  }

  -- what doesn't lead to the entry keeps its tree
  pub unchanged : (x : ItemKind) → AllStand c (item_keys x) → ¬ (NamesReach c (item_keys x) (interface_key e)) → item_tree (grown c e new) x ≡ item_tree c x
  unchanged = replaces.trees

  apart_unchanged : (x : ItemKind) → AllStand c (item_keys x) → AreKeysApart c ss (item_keys x) → item_tree (grown c e new) x ≡ item_tree c x
  apart_unchanged x st h = unchanged x st (λ n. among_each (IsKeyApart c ss) n.0 (item_keys x) n.1 h (interface_key e) can.is_shared n.2)

  -- and resources, values and functions keep theirs, whatever owns a resource
  pub leaves_unchanged : KeepsLeaves c (grown c e new)
  leaves_unchanged = keeps-leaves c (grown c e new) g.sound grown_sound (record { number = refl; resources = refl; defined = refl; funcs = refl })

  -- what the entry exports now has the tree that it had
  pub new_unchanged : (n : Text) (y : ItemKind) → lookup bytes_eq new.exports n ≡ Some y → item_tree (grown c e new) y ≡ item_tree c y
  new_unchanged n y is =
      let named : AllStand c (named_keys item_keys new.exports) = Each-right (Stands c) (named_keys use_keys new.uses) (named_keys item_keys new.exports) can.named in
      let none : Each (λ k. ¬ (Reaches c k (interface_key e))) (interface_keys new) = each_among (λ k. ¬ (Reaches c k (interface_key e))) (interface_keys new) (λ k m w. no_cycle (k, m, w)) in
      let exported = Each-right (λ k. ¬ (Reaches c k (interface_key e))) (named_keys use_keys new.uses) (named_keys item_keys new.exports) none in
      unchanged y (each_found (Stands c) new.exports n y is named)
      (λ r. among_each (λ k. ¬ (Reaches c k (interface_key e))) r.0 (item_keys y) r.1 (each_found (λ k. ¬ (Reaches c k (interface_key e))) new.exports n y is exported) r.2)

  pub new_served : AreServed (grown c e new) c new.exports old.exports
  new_served = served_left c (grown c e new) c new.exports old.exports new_unchanged can.exports

  now_at : slice_get (slice_set c.interfaces e.index new) e.index ≡ Some new
  now_at = slice_get-set_same c.interfaces e.index new (let low = shared_stands.1 in omega (arith, low, length-map c.interfaces interface_entry))

  other_at : (p : Id) → Stands c (interface_key p) → interface_key p ≢ interface_key e → slice_get (slice_set c.interfaces e.index new) p.index ≡ slice_get c.interfaces p.index
  other_at p st ne = slice_get-set_other c.interfaces e.index p.index new (λ i. ne (Key-parts (interface_key p) (interface_key e) refl (st.0 ∙ sym shared_stands.0) i))

  -- items no higher than this fit
  abbrev FitBelow : ℕ → Type 0
  FitBelow n = (x : ItemKind) → AllStand c (item_keys x) → keys_height c (item_keys x) < n → Fits (item_tree (grown c e new) x) (item_tree c x)

  exports_below : (n : ℕ) → FitBelow n → (es : List (Text × ItemKind)) → AllStand c (named_keys item_keys es) → keys_height c (named_keys item_keys es) < n → AreServed (grown c e new) c es es
  exports_below n below es st low = served_same (grown c e new) c es (λ m y is. below y (each_found (Stands c) es m y is st) (omega (arith, named_lower c es m y is, low)))

  interface_below : (n : ℕ) → FitBelow n → (p : Id) → Stands c (interface_key p) → height c (interface_key p) < suc n → (k : Kind)
      → Fits (composite k interface no_items (externs (grown c e new) (interface_key p)).exports) (composite k interface no_items (externs c (interface_key p)).exports)
  interface_below n below p st low k = by_key (Key-discrete (interface_key p) (interface_key e))
    where
      at_shared : Fits (composite k interface no_items (externs (grown c e new) (interface_key e)).exports) (composite k interface no_items (externs c (interface_key e)).exports)
      at_shared = interface_fits (grown c e new) c grown_sound g.sound e e new old (replaces.standing (interface_key e) shared_stands) shared_stands now_at can.was new_served k

      at_other : interface_key p ≢ interface_key e → (x : InterfaceContent) × (slice_get c.interfaces p.index ≡ Some x)
          → Fits (composite k interface no_items (externs (grown c e new) (interface_key p)).exports) (composite k interface no_items (externs c (interface_key p)).exports)
      at_other ne x =
          let st_all : AllStand c (interface_keys x.0) = interface_standing c p x.0 g.sound st x.1 in
          let lower = interface_lower c p x.0 g.sound st x.1 in
          let exported = exports_below n below x.0.exports (Each-right (Stands c) (named_keys use_keys x.0.uses) (named_keys item_keys x.0.exports) st_all)
          (omega (arith, lower, low, largest-append (height c) (named_keys use_keys x.0.uses) (named_keys item_keys x.0.exports))) in
          interface_fits (grown c e new) c grown_sound g.sound p p x.0 x.0 (replaces.standing (interface_key p) st) st (other_at p st ne ∙ x.1) x.1 exported k

      by_key : Dec (interface_key p ≡ interface_key e) → Fits (composite k interface no_items (externs (grown c e new) (interface_key p)).exports) (composite k interface no_items (externs c (interface_key p)).exports)
      by_key (yes same) = subst (λ (q : Key). Fits (composite k interface no_items (externs (grown c e new) q).exports) (composite k interface no_items (externs c q).exports)) (sym same) at_shared
      by_key (no ne) = at_other ne (interface_found c p st)

  world_below : (n : ℕ) → FitBelow n → (p : Id) → Stands c (world_key p) → height c (world_key p) < suc n → (k : Kind)
      → Fits (composite k world (externs (grown c e new) (world_key p)).imports (externs (grown c e new) (world_key p)).exports) (composite k world (externs c (world_key p)).imports (externs c (world_key p)).exports)
  world_below n below p st low k = at_world (world_found c p st)
    where
      at_world : (x : WorldContent) × (slice_get c.worlds p.index ≡ Some x)
          → Fits (composite k world (externs (grown c e new) (world_key p)).imports (externs (grown c e new) (world_key p)).exports) (composite k world (externs c (world_key p)).imports (externs c (world_key p)).exports)
      at_world x =
          let st_all : AllStand c (world_keys x.0) = world_standing c p x.0 g.sound st x.1 in
          let front : AllStand c (named_keys use_keys x.0.uses ++ named_keys item_keys x.0.imports) = Each-left (Stands c) (named_keys use_keys x.0.uses ++ named_keys item_keys x.0.imports) (named_keys item_keys x.0.exports) st_all in
          let imports_st : AllStand c (named_keys item_keys x.0.imports) = Each-right (Stands c) (named_keys use_keys x.0.uses) (named_keys item_keys x.0.imports) front in
          let exports_st : AllStand c (named_keys item_keys x.0.exports) = Each-right (Stands c) (named_keys use_keys x.0.uses ++ named_keys item_keys x.0.imports) (named_keys item_keys x.0.exports) st_all in
          let lower = world_lower c p x.0 g.sound st x.1 in
          let apart : AreKeysApart c ss (named_keys item_keys x.0.imports) = subst (λ (ks : List Key). AreKeysApart c ss ks) (ap (optional_keys import_keys) (world_at c p x.0 x.1)) (g.isolated (world_key p) st) in
          let imported : AreServed c (grown c e new) x.0.imports x.0.imports = served_same c (grown c e new) x.0.imports
          (λ m y is. fits_if_same (item_tree c y) (item_tree (grown c e new) y) (sym (apart_unchanged y (each_found (Stands c) x.0.imports m y is imports_st) (each_found (IsKeyApart c ss) x.0.imports m y is apart)))) in
          let exported = exports_below n below x.0.exports exports_st
          (omega (arith, lower, low, largest-append (height c) (named_keys use_keys x.0.uses ++ named_keys item_keys x.0.imports) (named_keys item_keys x.0.exports))) in
          world_fits (grown c e new) c grown_sound g.sound p p x.0 x.0 (replaces.standing (world_key p) st) st x.1 x.1 imported exported k

  fit_below : (n : ℕ) → FitBelow n
  fit_below zero x st low = absurd (omega (arith, low))
  fit_below (suc n) (OfType (TypeResource r)) st low = fits_if_same _ _ (ap (λ (t : Text). leaf type_item (resource t)) (sym (leaves_unchanged.names r st.0)))
  fit_below (suc n) (OfType (TypeFunc f)) st low = fits_if_same _ _ (ap (λ (t : FuncTree). leaf type_item (func t)) (sym (leaves_unchanged.funcs f st.0)))
  fit_below (suc n) (OfType (TypeValue v)) st low = fits_if_same _ _ (ap (λ (t : ValueTree). leaf type_item (value t)) (sym (leaves_unchanged.values v st)))
  fit_below (suc n) (OfType (TypeInterface i)) st low = interface_below n (fit_below n) i st.0 (omega (arith, low)) type_item
  fit_below (suc n) (OfType (TypeWorld w)) st low = world_below n (fit_below n) w st.0 (omega (arith, low)) type_item
  fit_below (suc n) (OfType (TypeModule m)) st low = Fits-refl (item_tree c (OfType (TypeModule m)))
  fit_below (suc n) (Func f) st low = fits_if_same _ _ (ap (λ (t : FuncTree). leaf item (func t)) (sym (leaves_unchanged.funcs f st.0)))
  fit_below (suc n) (Instance i) st low = interface_below n (fit_below n) i st.0 (omega (arith, low)) item
  fit_below (suc n) (Component w) st low = world_below n (fit_below n) w st.0 (omega (arith, low)) item
  fit_below (suc n) (Module m) st low = Fits-refl (item_tree c (Module m))
  fit_below (suc n) (Value v) st low = fits_if_same _ _ (ap (λ (t : ValueTree). leaf item (value t)) (sym (leaves_unchanged.values v st)))

  pub grown_fits : (x : ItemKind) → AllStand c (item_keys x) → Fits (item_tree (grown c e new) x) (item_tree c x)
  grown_fits x st = fit_below (suc (keys_height c (item_keys x))) x st (omega arith)

  pub grown_narrows : Narrows c ss (grown c e new) ss
  grown_narrows = record {
    number = refl;
    standing = replaces.standing;
    entries = λ k st other. entry_other k st (λ same. other (subst (λ (x : Key). IsAmong x ss) (sym same) can.is_shared));
    shares = λ t m. inl m;
    fits = grown_fits;
    apart = apart_on;
    same = apart_unchanged;
  }
