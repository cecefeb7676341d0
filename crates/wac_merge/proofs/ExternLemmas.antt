-- Meets and joins of what interfaces and worlds import and export, name by name.
use Rattle.std.proofs.Common.{◌≡◌, refl, ap, sym, subst, ◌∙◌, Bool, true, false, cond, [], ◌∷◌, ◌++◌, filter, Option, Some, None}
use Rattle.std.specs.Str.{bytes_eq}
use Rattle.std.specs.Option.{option_map, option_or}
use Rattle.std.proofs.lemmas.List.Elements.{All-weaker}
use Rattle.std.proofs.lemmas.Slice.Eq.{bytes_eq-Decides}
use Rattle.wac_model.specs.Text.{Text, lookup}
use Rattle.wac_model.specs.CoreTree.{Serves}
use Rattle.wac_model.specs.ItemTree.{item_at}
use Rattle.wac_model.specs.Order.{Fits}
use Rattle.wac_model.proofs.ItemOrder.{Fits-refl}
use Rattle.wac_bounds.specs.MeetIn.{IsMeetIn, IsJoinIn}
use Rattle.wac_bounds.proofs.MeetOf.{meet_both, join_both}
use Rattle.wac_component.specs.Collection.{Collection}
use Rattle.wac_component.specs.Key.{Stands, AllStand, item_keys, optional_keys}
use Rattle.wac_component.specs.Tree.{item_tree, items_of}
use Rattle.wac_component.specs.declared.items.ItemKind.{ItemKind}
use Rattle.wac_component.proofs.Keys.{Each-left, Each-right, Each-append}
use Rattle.wac_core_merge.specs.Names.{is_new, with_new}
use Rattle.wac_core_merge.proofs.NameLemmas.{lookup-with_new, All-with_new}
use Rattle.wac_checker_parts.proofs.ExternLemmas.{item_at-items_of, named_stands}
use Rattle.wac_merge.specs.Items.{ExternKinds, extern_keys, AreUnhidden}
use Rattle.wac_merge.specs.Bounded.{IsMetWith, IsMetAt, IsFirstMetAt, IsJoinedAt, AreFirstMet, AreMet, AreJoined, Clash}
use Rattle.wac_merge.specs.Built.{Origins, IsBuiltAt, of_second, AreBuilt}

-- what a look-up finds stands where all do
pub found_stands : (c : Collection) (es : ExternKinds) (n : Text) → AllStand c (extern_keys es) → AllStand c (optional_keys item_keys (lookup bytes_eq es n))
found_stands c es n h = go (lookup bytes_eq es n) refl
  where
    go : (o : Option ItemKind) → lookup bytes_eq es n ≡ o → AllStand c (optional_keys item_keys o)
    go None g = tt
    go (Some k) g = named_stands c es n k g h

-- the names of the first met, then the others of the second
pub met_with_others : (c d : Collection) (a b m : Option ItemKind) → IsFirstMetAt c d a b m → IsMetAt c d a b (option_or m b)
met_with_others c d None b m h = ap (λ o. option_or o b) h
met_with_others c d (Some a) b None h = elim h [ ]
met_with_others c d (Some a) b (Some m) h = h

-- what is clashing with an item has no meet with it
pub clash_at : (c d : Collection) (es ts : ExternKinds) (n : Text) (a : ItemKind) (b : Option ItemKind) → lookup bytes_eq es n ≡ Some a → lookup bytes_eq ts n ≡ b → IsMetWith c d a b None → Clash c es ts
clash_at c d es ts n a None first second h = absurd (cc)
clash_at c d es ts n a (Some b) first second h = record { name = n; left = a; right = b; of_first = first; of_second = second; no_meet = h }

-- the trees at a name

meet_at : (c : Collection) → (a b m : Option ItemKind) → IsMetAt c c a b m → IsMeetIn (Serves Fits) (option_map (item_tree c) a) (option_map (item_tree c) b) (Some (option_map (item_tree c) m))
meet_at c None None m h = rw h (tt, tt, λ u p q. tt)
meet_at c None (Some b) m h = rw h (tt, Fits-refl (item_tree c b), λ u p q. q)
meet_at c (Some a) b None h = elim h [ ]
meet_at c (Some a) None (Some m) h =
    let same : m ≡ a = cc in
    rw same (Fits-refl (item_tree c a), tt, λ u p q. p)
meet_at c (Some a) (Some b) (Some m) h = meet_both Fits (item_tree c a) (item_tree c b) (Some (item_tree c m)) h

join_at : (c : Collection) → (a b m : Option ItemKind) → IsJoinedAt c c a b m → IsJoinIn (Serves Fits) (option_map (item_tree c) a) (option_map (item_tree c) b) (Some (option_map (item_tree c) m))
join_at c None b m h = rw h (tt, tt, λ u p q. p)
join_at c (Some a) None m h = rw h (tt, tt, λ u p q. q)
join_at c (Some a) (Some b) m h = join_both Fits (item_tree c a) (item_tree c b) (option_map (item_tree c) m) h

-- the trees of named items that are met or joined
pub items_met : (c : Collection) (es ts ms : ExternKinds) → AreMet c c es ts (Some ms) → (n : Text) → IsMeetIn (Serves Fits) (item_at (items_of (item_tree c) es) n) (item_at (items_of (item_tree c) ts) n) (Some (item_at (items_of (item_tree c) ms) n))
items_met c es ts ms h n =
    rw (item_at-items_of (item_tree c) es n, item_at-items_of (item_tree c) ts n, item_at-items_of (item_tree c) ms n) (meet_at c (lookup bytes_eq es n) (lookup bytes_eq ts n) (lookup bytes_eq ms n) (h n))

pub items_joined : (c : Collection) (es ts js : ExternKinds) → AreJoined c c es ts js → (n : Text) → IsJoinIn (Serves Fits) (item_at (items_of (item_tree c) es) n) (item_at (items_of (item_tree c) ts) n) (Some (item_at (items_of (item_tree c) js) n))
items_joined c es ts js h n =
    rw (item_at-items_of (item_tree c) es n, item_at-items_of (item_tree c) ts n, item_at-items_of (item_tree c) js n) (join_at c (lookup bytes_eq es n) (lookup bytes_eq ts n) (lookup bytes_eq js n) (h n))

-- where they clash there is no meet at the name
pub items_clash : (c : Collection) (es ts : ExternKinds) (h : Clash c es ts)
    → IsMeetIn (Serves Fits) (item_at (items_of (item_tree c) es) h.name) (item_at (items_of (item_tree c) ts) h.name) None
items_clash c es ts h =
    rw (item_at-items_of (item_tree c) es h.name, item_at-items_of (item_tree c) ts h.name, h.of_first, h.of_second)
    (meet_both Fits (item_tree c h.left) (item_tree c h.right) None h.no_meet)

-- the names of the first met, then the others: fs is ms with what ts has more

pub all_met : (c d : Collection) (es ts ms fs : ExternKinds) → AreFirstMet c d es ts (Some ms) → fs ≡ with_new bytes_eq ms ts → AreMet c d es ts (Some fs)
all_met c d es ts ms fs h is = λ n.
    subst (λ o. IsMetAt c d (lookup bytes_eq es n) (lookup bytes_eq ts n) o) (sym (ap (λ l. lookup bytes_eq l n) is ∙ lookup-with_new bytes_eq bytes_eq-Decides ms ts n))
    (met_with_others c d (lookup bytes_eq es n) (lookup bytes_eq ts n) (lookup bytes_eq ms n) (h n))

pub all_stand : (c : Collection) (ms ts fs : ExternKinds) → fs ≡ with_new bytes_eq ms ts → AllStand c (extern_keys ms) → AllStand c (extern_keys ts) → AllStand c (extern_keys fs)
all_stand c ms ts fs is h g = rw is (joined ms h)
  where
    kept : (p : Text × ItemKind → Bool) (ts : ExternKinds) → AllStand c (extern_keys ts) → AllStand c (extern_keys (filter p ts))
    kept p [] g = tt
    kept p (t ∷ ts) g = go (p t) (kept p ts (Each-right (Stands c) (item_keys t.1) (extern_keys ts) g))
      where
        go : (b : Bool) → AllStand c (extern_keys (filter p ts)) → AllStand c (extern_keys (cond b (t ∷ filter p ts) (filter p ts)))
        go true h = Each-append (Stands c) (item_keys t.1) (extern_keys (filter p ts)) (Each-left (Stands c) (item_keys t.1) (extern_keys ts) g) h
        go false h = h

    news : ExternKinds
    news = filter (λ t. is_new bytes_eq ms t.0) ts

    joined : (xs : ExternKinds) → AllStand c (extern_keys xs) → AllStand c (extern_keys (xs ++ news))
    joined [] h = kept (λ t. is_new bytes_eq ms t.0) ts g
    joined (x ∷ xs) h = Each-append (Stands c) (item_keys x.1) (extern_keys (xs ++ news)) (Each-left (Stands c) (item_keys x.1) (extern_keys xs) h) (joined xs (Each-right (Stands c) (item_keys x.1) (extern_keys xs) h))

pub all_built : (c d : Collection) (o : Origins) (es ts ms fs : ExternKinds) → fs ≡ with_new bytes_eq ms ts → AreUnhidden ts → AreBuilt c d o es ts ms → AreBuilt c d o es ts fs
all_built c d o es ts ms fs is found h =
    let P : Text × ItemKind → Type 0 = λ e. IsBuiltAt c d o es ts e.0 e.1 in
    rw is (All-with_new bytes_eq P ms ts h (All-weaker (λ e. lookup bytes_eq ts e.0 ≡ Some e.1) P (λ e. of_second) ts found))
