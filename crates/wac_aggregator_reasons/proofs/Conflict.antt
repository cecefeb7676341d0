-- Trees without a common lower bound are always apart, or export such trees under one name.
use Rattle.std.proofs.Common.{◌≡◌, ◌≢◌, refl, subst, Option, Some, None, option_map}
use Rattle.wac_model.specs.Text.{Text}
use Rattle.wac_model.specs.CoreTree.{ModuleTree}
use Rattle.wac_model.specs.ItemTree.{Kind, Leaf, Shape, ItemTree, Items, leaf, core_module, composite, item_at}
use Rattle.wac_model.specs.Order.{Fits}
use Rattle.wac_model.proofs.TreeInduction.{tree_induction}
use Rattle.wac_bounds.specs.MeetIn.{IsMeetIn}
use Rattle.wac_bounds.proofs.Cases.{case_of, cases_decided, Fits-case, composite_case}
use Rattle.wac_bounds.proofs.Entries.{IsTable, meet_or}
use Rattle.wac_bounds.proofs.MeetOf.{given}
use Rattle.wac_bounds.proofs.TreeMeet.{tree_meet, meet_within, meet_items, join_items, meet_items_at}
use Rattle.wac_bounds.proofs.TreeMeetIs.{tree_meet_is}
use Rattle.wac_aggregator_promises.specs.TreeSets.{HaveNoLowerBound}
use Rattle.wac_aggregator_reasons.specs.Bare.{bare, AreAlwaysApart}

-- always apart, at the end of one path of exported names
pub data Conflict : ItemTree → ItemTree → Type 0 where
  always_apart : {a b : ItemTree} → AreAlwaysApart a b → Conflict a b
  exports : {k k' : Kind} {s s' : Shape} {i e i' e' : Items} (n : Text) {x y : ItemTree} → item_at e n ≡ Some x → item_at e' n ≡ Some y → Conflict x y → Conflict (composite k s i e) (composite k' s' i' e')

bare_case : (a : ItemTree) → case_of (bare a) ≡ case_of a
bare_case (leaf k l) = refl
bare_case (core_module k m) = refl
bare_case (composite k s i e) = refl

-- trees of different cases are always apart
other_case : (a b : ItemTree) → case_of a ≢ case_of b → AreAlwaysApart a b
other_case a b h c p q = let e = Fits-case p in let f = Fits-case q in let g = bare_case a in let i = bare_case b in h (cc)

Conflicting : ItemTree → Type 0
Conflicting a = (b : ItemTree) → tree_meet a b ≡ None → Conflict a b

none_below : (a b : ItemTree) → tree_meet a b ≡ None → HaveNoLowerBound a b
none_below a b q = subst (λ o. IsMeetIn Fits a b o) q (tree_meet_is a b)

at_leaf : (k : Kind) (l : Leaf) → Conflicting (leaf k l)
unfolding Conflicting
at_leaf k l (leaf k' l') q = always_apart (none_below (leaf k l) (leaf k' l') q)
at_leaf k l (core_module k' m) q = always_apart (other_case (leaf k l) (core_module k' m) (λ e. absurd (cc)))
at_leaf k l (composite k' s i e) q = always_apart (other_case (leaf k l) (composite k' s i e) (λ e. absurd (cc)))

at_module : (k : Kind) (m : ModuleTree) → Conflicting (core_module k m)
unfolding Conflicting
at_module k m (core_module k' m') q = always_apart (none_below (core_module k m) (core_module k' m') q)
at_module k m (leaf k' l) q = always_apart (other_case (core_module k m) (leaf k' l) (λ e. absurd (cc)))
at_module k m (composite k' s i e) q = always_apart (other_case (core_module k m) (composite k' s i e) (λ e. absurd (cc)))

no_option : {A B : Type 0} (f : A → B) (o : Option A) → option_map f o ≡ None → o ≡ None
no_option f None h = refl
no_option f (Some x) h = absurd (cc)

both_there : (a b : Option ItemTree) → meet_or tree_meet a b b ≡ None → (x : ItemTree) × (y : ItemTree) × (a ≡ Some x) × (b ≡ Some y) × (tree_meet x y ≡ None)
both_there None b h = absurd (cc)
both_there (Some x) None h = absurd (cc)
both_there (Some x) (Some y) h = (x, y, refl, refl, no_option Some (tree_meet x y) h)

no_meet_at : (e e' : Items) → meet_items e (item_at e') e' ≡ None → (n : Text) × (meet_or tree_meet (item_at e n) (item_at e' n) (item_at e' n) ≡ None)
no_meet_at e e' q = go (meet_items e (item_at e') e') q (meet_items_at e (item_at e') e')
  where
    go : (o : Option Items) → o ≡ None → IsTable item_at (λ k. meet_or tree_meet (item_at e k) (item_at e' k) (item_at e' k)) o → (n : Text) × (meet_or tree_meet (item_at e n) (item_at e' n) (item_at e' n) ≡ None)
    go None r h = h
    go (Some m) r h = absurd (cc)

at_composite : (k : Kind) (s : Shape) (i e : Items)
    → ((n : Text) (t : ItemTree) → item_at i n ≡ Some t → Conflicting t)
    → ((n : Text) (t : ItemTree) → item_at e n ≡ Some t → Conflicting t)
    → Conflicting (composite k s i e)
unfolding Conflicting meet_within
at_composite k s i e hi he (leaf k' l) q = always_apart (other_case (composite k s i e) (leaf k' l) (λ e. absurd (cc)))
at_composite k s i e hi he (core_module k' m) q = always_apart (other_case (composite k s i e) (core_module k' m) (λ e. absurd (cc)))
at_composite k s i e hi he (composite k' s' i' e') q = go (cases_decided (composite_case k s) (composite_case k' s')) q
  where
    go : (d : Dec (composite_case k s ≡ composite_case k' s')) → given d (option_map (composite k s (join_items i (item_at i'))) (meet_items e (item_at e') e')) ≡ None → Conflict (composite k s i e) (composite k' s' i' e')
    go (yes p) r =
        let w = no_meet_at e e' (no_option (composite k s (join_items i (item_at i'))) (meet_items e (item_at e') e') r) in
        let v = both_there (item_at e w.0) (item_at e' w.0) w.1 in
        exports w.0 v.2 v.3 (he w.0 v.0 v.2 v.1 v.4)
    go (no h) r = always_apart (other_case (composite k s i e) (composite k' s' i' e') h)

pub conflict_from : (a b : ItemTree) → HaveNoLowerBound a b → Conflict a b
unfolding Conflicting
conflict_from a b h = tree_induction Conflicting at_leaf at_module at_composite a b (go (tree_meet a b) (tree_meet_is a b))
  where
    go : (o : Option ItemTree) → IsMeetIn Fits a b o → o ≡ None
    go None m = refl
    go (Some t) m = absurd (h t m.0 m.1)
