-- Induction on an item tree: a composite may suppose the claim of whatever stands at a name in it.
use Rattle.std.proofs.Common.{◌≡◌, subst, Option, Some, Bool, true, false, cond, ◌⊎◌, inl, inr}
use Rattle.std.specs.Str.{bytes_eq}
use Rattle.wac_model.specs.Text.{Text}
use Rattle.wac_model.specs.CoreTree.{ModuleTree}
use Rattle.wac_model.specs.ItemTree.{Kind, Leaf, Shape, ItemTree, Items, leaf, core_module, composite, no_items, named, item_at}

first_or_later : {V : Type 0} (b : Bool) (s t : V) (o : Option V) → cond b (Some s) o ≡ Some t → (s ≡ t) ⊎ (o ≡ Some t)
first_or_later true s t o h = inl (cc)
first_or_later false s t o h = inr h

module _ (P : ItemTree → Type 0)
    (at_leaf : (k : Kind) (l : Leaf) → P (leaf k l))
    (at_module : (k : Kind) (m : ModuleTree) → P (core_module k m))
    (at_composite : (k : Kind) (s : Shape) (i e : Items)
    → ((n : Text) (t : ItemTree) → item_at i n ≡ Some t → P t)
    → ((n : Text) (t : ItemTree) → item_at e n ≡ Some t → P t)
    → P (composite k s i e)) where
  mutual
    pub tree_induction : (t : ItemTree) → P t
    tree_induction (leaf k l) = at_leaf k l
    tree_induction (core_module k m) = at_module k m
    tree_induction (composite k s i e) = at_composite k s i e (items_induction i) (items_induction e)

    pub items_induction : (ts : Items) (n : Text) (t : ItemTree) → item_at ts n ≡ Some t → P t
    items_induction no_items n t h = absurd (cc)
    items_induction (named m s ss) n t h =
        let at_first : P s = tree_induction s in
        let later : item_at ss n ≡ Some t → P t = items_induction ss n t in
        elim (first_or_later (bytes_eq n m) s t (item_at ss n) h) [ inl e ↦ subst P e at_first | inr g ↦ later g ]
