-- What entries name, and the trees of interfaces by their exports.
use Rattle.std.proofs.Common.{◌≡◌, refl, subst, sym, ap, ◌∙◌, Bool, true, false, cond, arith, ℕ, suc, zero, ◌<◌, length, List, [], ◌∷◌, Option, Some, None, option_map, Contains, slice_get}
use Rattle.std.specs.Option.{option_map_or}
use Rattle.std.specs.Str.{bytes_eq}
use Rattle.std.proofs.lemmas.List.{length-map}
use Rattle.std.proofs.lemmas.Slice.Eq.{bytes_eq-Decides}
use Rattle.wac_model.specs.Text.{Text, lookup}
use Rattle.wac_model.specs.ItemTree.{ItemTree, item, composite, interface, no_items, item_at}
use Rattle.wac_component.specs.Id.{Id}
use Rattle.wac_component.specs.Collection.{Collection, UseContent, InterfaceContent, ResourceContent, AliasContent}
use Rattle.wac_component.specs.Key.{Key, Entry, defined_entry, resource_entry, func_entry, interface_entry, world_entry, module_entry, Stands, entry_at, other_keys, optional_keys, next, interface_key, resource_key, use_keys, item_keys, named_keys, entry_keys, resource_keys, alias_keys}
use Rattle.wac_component.specs.Reach.{IsAmong, here}
use Rattle.wac_component.specs.Sound.{IsSound}
use Rattle.wac_component.specs.Tree.{item_tree, items_of}
use Rattle.wac_component.specs.declared.items.ItemKind.{ItemKind}
use Rattle.wac_component.specs.declared.items.ItemKind.TheVariants.{Instance}
use Rattle.wac_component.specs.Entries.{entry_uses, entry_exports, uses_at, exports_at, owner_at, HasUse}
use Rattle.wac_component.specs.Open.{open_next}
use Rattle.wac_component.proofs.Lists.{slice_get-map}
use Rattle.wac_component.proofs.Trees.{FollowsEntries-sound}
use Rattle.wac_component.proofs.Among.{Contains-first, Contains-later, among_left, among_all}
use Rattle.wac_component.proofs.OpenWalks.{open_in_next}
use Rattle.wac_aggregator_promises.specs.Entries.{Uses}
use Rattle.wac_aggregator_promises.proofs.ByUses.{content_owner}

none_contained : {A : Type 0} (x : A) → Contains [] x → ⊥
none_contained x m = omega (arith, m.1)

entry_use : (e : Entry) (name : Text) (u : UseContent) → Contains (entry_uses e) (name, u) → IsAmong (interface_key u.interface) (other_keys e)
entry_use (interface_entry i) name u m = among_left (named_keys use_keys i.uses) (named_keys item_keys i.exports) (among_all (λ (x : Text × UseContent). use_keys x.1) i.uses (name, u) m here)
entry_use (world_entry w) name u m = among_left (named_keys use_keys w.uses) (named_keys item_keys w.exports) (among_all (λ (x : Text × UseContent). use_keys x.1) w.uses (name, u) m here)
entry_use (defined_entry d) name u m = absurd (none_contained (name, u) m)
entry_use (resource_entry d) name u m = absurd (none_contained (name, u) m)
entry_use (func_entry d) name u m = absurd (none_contained (name, u) m)
entry_use (module_entry d) name u m = absurd (none_contained (name, u) m)

-- a used interface is one that the entry openly leads to
pub use_opens : (c : Collection) (k : Key) (name : Text) (u : UseContent) → HasUse c k name u → IsAmong (interface_key u.interface) (open_next c k)
use_opens c k name u m = at_entry (entry_at c k) m
  where
    at_entry : (o : Option Entry) → Contains (option_map_or entry_uses o []) (name, u) → IsAmong (interface_key u.interface) (optional_keys other_keys o)
    at_entry None n = absurd (none_contained (name, u) n)
    at_entry (Some e) n = entry_use e name u n

pub use_next : (c : Collection) (i j : Id) → Uses c i j → IsAmong (interface_key j) (next c (interface_key i))
use_next c i j u = subst (λ (x : Id). IsAmong (interface_key x) (next c (interface_key i))) u.is_of (open_in_next c (interface_key i) (interface_key u.content.interface) (use_opens c (interface_key i) u.name u.content u.has))

-- the owner of a resource is one that it names
pub owner_next : (c : Collection) (r o : Id) → owner_at c r ≡ Some o → IsAmong (interface_key o) (next c (resource_key r))
owner_next c r o e = subst (λ x. IsAmong (interface_key o) (optional_keys entry_keys x)) (sym (slice_get-map resource_entry c.resources r.index)) (at_entry (slice_get c.resources r.index) refl)
  where
    at_alias : (a : AliasContent) → a.owner ≡ Some o → IsAmong (interface_key o) (alias_keys a)
    at_alias a f = among_left (optional_keys (λ p. interface_key p ∷ []) a.owner) (resource_key a.source ∷ []) (subst (λ x. IsAmong (interface_key o) (optional_keys (λ p. interface_key p ∷ []) x)) (sym f) here)

    at_resource : (x : Option AliasContent) (d : ResourceContent) → d.alias ≡ x → content_owner d ≡ Some o → IsAmong (interface_key o) (resource_keys d)
    at_resource None d g f = cc (g, f)
    at_resource (Some a) d g f = subst (λ x. IsAmong (interface_key o) (optional_keys alias_keys x)) (sym g) (at_alias a (cc (g, f)))

    at_entry : (x : Option ResourceContent) → slice_get c.resources r.index ≡ x → IsAmong (interface_key o) (optional_keys entry_keys (option_map resource_entry x))
    at_entry None g = cc (g, e)
    at_entry (Some d) g = at_resource d.alias d refl (cc (g, e))

-- the tree at a name
pub item_at-items : (f : ItemKind → ItemTree) (es : List (Text × ItemKind)) (n : Text) → item_at (items_of f es) n ≡ option_map f (lookup bytes_eq es n)
item_at-items f [] n = refl
item_at-items f (e ∷ es) n = first (bytes_eq n e.0) (item_at-items f es n)
  where
    first : (b : Bool) → item_at (items_of f es) n ≡ option_map f (lookup bytes_eq es n) → cond b (Some (f e.1)) (item_at (items_of f es) n) ≡ option_map f (cond b (Some e.1) (lookup bytes_eq es n))
    first true h = refl
    first false h = h

-- an interface that stands has an entry
element_at : {A : Type 0} (xs : List A) (i : ℕ) → i < length xs → (x : A) × (slice_get xs i ≡ Some x)
element_at [] i l = absurd (omega arith)
element_at (x ∷ xs) zero l = (x, refl)
element_at (x ∷ xs) (suc i) l = element_at xs i (omega arith)

pub interface_entry_at : (c : Collection) (i : Id) → Stands c (interface_key i) → (e : InterfaceContent) × (slice_get c.interfaces i.index ≡ Some e)
interface_entry_at c i st = element_at c.interfaces i.index (omega (arith, st.1, length-map c.interfaces interface_entry))

pub exports_of_entry : (c : Collection) (i : Id) (e : InterfaceContent) → slice_get c.interfaces i.index ≡ Some e → exports_at c (interface_key i) ≡ e.exports
exports_of_entry c i e is = ap (λ o. option_map_or entry_exports o []) (slice_get-map interface_entry c.interfaces i.index ∙ ap (option_map interface_entry) is)

-- the tree of an instance
pub interface_tree : (c : Collection) (i : Id) → IsSound c → Stands c (interface_key i) → item_tree c (Instance i) ≡ composite item interface no_items (items_of (item_tree c) (exports_at c (interface_key i)))
interface_tree c i s st =
    let e = interface_entry_at c i st in
    (FollowsEntries-sound c s).instances i e.0 st e.1 ∙ ap (λ es. composite item interface no_items (items_of (item_tree c) es)) (sym (exports_of_entry c i e.0 e.1))

-- what is found under a name is in the list
pub lookup_contains : {V : Type 0} (es : List (Text × V)) (n : Text) (v : V) → lookup bytes_eq es n ≡ Some v → Contains es (n, v)
lookup_contains [] n v e = absurd (cc e)
lookup_contains {V} (x ∷ es) n v e = first (bytes_eq n x.0) refl (lookup_contains es n v) e
  where
    first : (b : Bool) → bytes_eq n x.0 ≡ b → (lookup bytes_eq es n ≡ Some v → Contains es (n, v)) → cond b (Some x.1) (lookup bytes_eq es n) ≡ Some v → Contains (x ∷ es) (n, v)
    first true q later g =
        let named : n ≡ x.0 = (bytes_eq-Decides n x.0).0 q in
        let same : x.1 ≡ v = cc g in
        subst (λ (y : Text × V). Contains (x ∷ es) y) (λ z. (sym named z, same z)) (Contains-first x es)
    first false q later g = Contains-later (n, v) x es (later g)

pub lookup_use : (c : Collection) (k : Key) (n : Text) (u : UseContent) → lookup bytes_eq (uses_at c k) n ≡ Some u → HasUse c k n u
lookup_use c k n u e = lookup_contains (uses_at c k) n u e
