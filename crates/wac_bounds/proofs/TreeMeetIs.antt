-- `tree_meet` gives the meet, and none exactly where there is no lower bound;
-- `tree_join` the join likewise.
use Rattle.std.proofs.Common.{◌≡◌, sym, subst, subst₂, ◌∙◌, Option, Some, None, option_map}
use Rattle.wac_model.specs.Text.{Text}
use Rattle.wac_model.specs.CoreTree.{ModuleTree, Serves}
use Rattle.wac_model.specs.ItemTree.{Kind, Leaf, Shape, ItemTree, Items, leaf, core_module, composite, item_at}
use Rattle.wac_model.specs.Order.{Fits, leaves}
use Rattle.wac_model.proofs.TreeInduction.{tree_induction}
use Rattle.wac_model.proofs.ItemOrder.{Fits-refl, leaf_fits}
use Rattle.wac_bounds.specs.MeetIn.{IsMeetIn, IsJoinIn}
use Rattle.wac_bounds.proofs.Decide.{leaves_decided}
use Rattle.wac_bounds.proofs.Cases.{Fits-case, case_of, cases_decided}
use Rattle.wac_bounds.proofs.MeetOf.{given_is}
use Rattle.wac_bounds.proofs.Entries.{IsMeetByName, meet_by_name, join_by_name}
use Rattle.wac_bounds.proofs.ModuleBounds.{modules_meet, modules_join}
use Rattle.wac_bounds.proofs.ModuleMeet.{module_meet, module_join, module_meet_is, module_join_is}
use Rattle.wac_bounds.proofs.CompositeBounds.{composite_meet, composite_no_meet, composite_join, composite_no_join}
use Rattle.wac_bounds.proofs.TreeMeet.{meet_within, join_within, tree_meet, tree_join, meet_items, join_items, meet_items_at, join_items_at}

-- m is the meet of a and b, and j their join
abbrev AreBounds : ItemTree → ItemTree → (m j : Option ItemTree) → Type 0
AreBounds a b m j = IsMeetIn Fits a b m × IsJoinIn Fits a b j

-- what is claimed of two trees of one case
abbrev HaveBoundsWithin : ItemTree → ItemTree → Type 0
HaveBoundsWithin a b = AreBounds a b (meet_within a b) (join_within a b)

-- what is claimed of the first tree
HasBounds : ItemTree → Type 0
HasBounds a = (b : ItemTree) → AreBounds a b (tree_meet a b) (tree_join a b)

-- only trees of one case have bounds
of_one_case_is : (a b : ItemTree) → (case_of a ≡ case_of b → HaveBoundsWithin a b) → AreBounds a b (tree_meet a b) (tree_join a b)
of_one_case_is a b h = (
  given_is Fits a b (meet_within a b) (cases_decided (case_of a) (case_of b)) (λ e. (h e).0) (λ c p q. sym (Fits-case p) ∙ Fits-case q),
  given_is (λ x y. Fits y x) a b (join_within a b) (cases_decided (case_of a) (case_of b)) (λ e. (h e).1) (λ c p q. Fits-case p ∙ sym (Fits-case q)),
)

leaf_below : {k k' : Kind} {l l' : Leaf} {c : ItemTree} → Fits c (leaf k l) → Fits c (leaf k' l') → l ≡ l'
leaf_below leaves q = leaf_fits q

leaf_above : {k k' : Kind} {l l' : Leaf} {c : ItemTree} → Fits (leaf k l) c → Fits (leaf k' l') c → l ≡ l'
leaf_above leaves q = sym (leaf_fits q)

leaves_within : (k : Kind) (l l' : Leaf) → HaveBoundsWithin (leaf k l) (leaf k l')
unfolding meet_within
leaves_within k l l' = (
  given_is Fits (leaf k l) (leaf k l') (Some (leaf k l)) (leaves_decided l l') (λ e. (leaves, subst (λ x. Fits (leaf k l) (leaf k x)) e leaves, λ c p q. p)) (λ c p q. leaf_below p q),
  given_is (λ x y. Fits y x) (leaf k l) (leaf k l') (Some (leaf k l)) (leaves_decided l l') (λ e. (leaves, subst (λ x. Fits (leaf k x) (leaf k l)) e leaves, λ c p q. p)) (λ c p q. leaf_above p q),
)

modules_within : (k : Kind) (a b : ModuleTree) → HaveBoundsWithin (core_module k a) (core_module k b)
unfolding meet_within
modules_within k a b = (
  modules_meet k a b (module_meet a.content b.content) (module_meet_is a.content b.content a.valid b.valid),
  modules_join k a b (module_join a.content b.content) (module_join_is a.content b.content a.valid b.valid),
)

-- what stands at each name of a meet and of a join of items
module _ (es ts : Items) (h : (n : Text) (t : ItemTree) → item_at es n ≡ Some t → HasBounds t) where
  items_meet : IsMeetByName Fits item_at (item_at es) (item_at ts) (meet_items es (item_at ts) ts)
  unfolding HasBounds
  items_meet = meet_by_name Fits tree_meet item_at (item_at es) (item_at ts) (λ n t _. Fits-refl t) (λ n t _. Fits-refl t) (λ n t e w _. (h n t e w).0) (meet_items es (item_at ts) ts) (meet_items_at es (item_at ts) ts)

  items_join : (n : Text) → IsJoinIn (Serves Fits) (item_at es n) (item_at ts n) (Some (item_at (join_items es (item_at ts)) n))
  unfolding HasBounds
  items_join = join_by_name Fits tree_join item_at (item_at es) (item_at ts) (λ n t e w _. (h n t e w).1) (join_items es (item_at ts)) (join_items_at es (item_at ts))

module _ (k : Kind) (s : Shape) (i e i' e' : Items)
    (hi : (n : Text) (t : ItemTree) → item_at i n ≡ Some t → HasBounds t)
    (he : (n : Text) (t : ItemTree) → item_at e n ≡ Some t → HasBounds t) where
  composites_meet : (o : Option Items) → IsMeetByName Fits item_at (item_at e) (item_at e') o → IsMeetIn Fits (composite k s i e) (composite k s i' e') (option_map (composite k s (join_items i (item_at i'))) o)
  composites_meet None h = composite_no_meet k s i e i' e' h.0 h.1
  composites_meet (Some f) h = composite_meet k s i e i' e' (join_items i (item_at i')) f h (items_join i i' hi)

  composites_join : (o : Option Items) → IsMeetByName Fits item_at (item_at i) (item_at i') o → IsJoinIn Fits (composite k s i e) (composite k s i' e') (option_map (λ j. composite k s j (join_items e (item_at e'))) o)
  composites_join None h = composite_no_join k s i e i' e' h.0 h.1
  composites_join (Some j) h = composite_join k s i e i' e' j (join_items e (item_at e')) (items_join e e' he) h

  composites_within : HaveBoundsWithin (composite k s i e) (composite k s i' e')
  unfolding meet_within
  composites_within = (composites_meet (meet_items e (item_at e') e') (items_meet e e' he), composites_join (meet_items i (item_at i') i') (items_meet i i' hi))

leaf_has_bounds : (k : Kind) (l : Leaf) → HasBounds (leaf k l)
unfolding HasBounds
leaf_has_bounds k l b = of_one_case_is (leaf k l) b (go b)
  where
    go : (b : ItemTree) → case_of (leaf k l) ≡ case_of b → HaveBoundsWithin (leaf k l) b
    go (leaf k' l') h = let e : k ≡ k' = cc in subst (λ x. HaveBoundsWithin (leaf k l) (leaf x l')) e (leaves_within k l l')
    go _ h = absurd (cc)

module_has_bounds : (k : Kind) (a : ModuleTree) → HasBounds (core_module k a)
unfolding HasBounds
module_has_bounds k a b = of_one_case_is (core_module k a) b (go b)
  where
    go : (b : ItemTree) → case_of (core_module k a) ≡ case_of b → HaveBoundsWithin (core_module k a) b
    go (core_module k' b) h = let e : k ≡ k' = cc in subst (λ x. HaveBoundsWithin (core_module k a) (core_module x b)) e (modules_within k a b)
    go _ h = absurd (cc)

composite_has_bounds : (k : Kind) (s : Shape) (i e : Items)
    → ((n : Text) (t : ItemTree) → item_at i n ≡ Some t → HasBounds t)
    → ((n : Text) (t : ItemTree) → item_at e n ≡ Some t → HasBounds t)
    → HasBounds (composite k s i e)
unfolding HasBounds
composite_has_bounds k s i e hi he b = of_one_case_is (composite k s i e) b (go b)
  where
    go : (b : ItemTree) → case_of (composite k s i e) ≡ case_of b → HaveBoundsWithin (composite k s i e) b
    go (composite k' s' i' e') h =
        let x : k ≡ k' = cc in
        let y : s ≡ s' = cc in
        subst₂ (λ k' s'. HaveBoundsWithin (composite k s i e) (composite k' s' i' e')) x y (composites_within k s i e i' e' hi he)
    go _ h = absurd (cc)

has_bounds : (a : ItemTree) → HasBounds a
has_bounds = tree_induction HasBounds leaf_has_bounds module_has_bounds composite_has_bounds

pub tree_meet_is : (a b : ItemTree) → IsMeetIn Fits a b (tree_meet a b)
unfolding HasBounds
tree_meet_is a b = (has_bounds a b).0

pub tree_join_is : (a b : ItemTree) → IsJoinIn Fits a b (tree_join a b)
unfolding HasBounds
tree_join_is a b = (has_bounds a b).1
