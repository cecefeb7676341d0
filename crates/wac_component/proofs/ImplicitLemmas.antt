-- Of the interfaces that a world uses: how they are added one after another, and that they stand.
use Rattle.std.proofs.Common.{◌≡◌, inl, inr, ℕ, suc, zero, List, [], ◌∷◌, slice_get, Some, Contains, Bool, true, false, Result, Ok, Err, refl, ap, subst, arith}
use Rattle.std.proofs.lemmas.List.Elements.{All-cons}
use Rattle.std.specs.Borrow.{Bor}
use Rattle.std.specs.List.{flat_map, All}
use Rattle.std.specs.Option.{option_and_then, option_map_or}
use Rattle.std.specs.Str.{bytes_eq}
use Rattle.std.specs.declared.string.String.{String}
use Rattle.std.specs.declared.alloc.Global.{Global}
use Rattle.indexmap.specs.IndexMap.{insert_entry, insert_all}
use Rattle.wac_model.specs.Text.{Text}
use Rattle.wac_component.specs.Id.{Id}
use Rattle.wac_component.specs.Collection.{Collection, InterfaceContent}
use Rattle.wac_component.specs.Content.{named, types_of, use_content, world_content}
use Rattle.wac_component.specs.Key.{Stands, AllStand, interface_key, item_keys, use_keys, named_keys}
use Rattle.wac_component.specs.Implicit.{used_by, used_by_import, used_interfaces, identifier, HasIdentifier, as_instance, implicit_imports, IsUntold, instances, AddsInstance}
use Rattle.wac_component.specs.Visits.{VisitsEach}
use Rattle.wac_component.specs.declared.worlds.World.{World}
use Rattle.wac_component.specs.declared.interfaces.UsedType.{UsedType}
use Rattle.wac_component.specs.declared.implicit.TargetError.{TargetError}
use Rattle.wac_component.specs.declared.implicit.TargetError.TheVariants.{NoIdentifier, Memory}
use Rattle.wac_component.specs.declared.items.ItemKind.{ItemKind}
use Rattle.wac_component.specs.declared.items.ItemKind.TheVariants.{Instance}
use Rattle.wac_component.proofs.VisitLemmas.{VisitsEach-append, VisitsEach-refused, flat_map-named}
use Rattle.wac_component.proofs.Keys.{Each-append, Each-left, Each-right}

Contains-there : (i : Id) (is : List Id) (j : Id) → Contains is j → Contains (i ∷ is) j
Contains-there i is j q = (suc q.0, omega (arith, q.1), q.2)

Contains-left : (i : Id) (is : List Id) (j : Id) → Contains (i ∷ []) j → Contains (i ∷ is) j
Contains-left i is j (zero, l, at) = (zero, omega arith, at)
Contains-left i is j (suc k, l, at) = absurd (omega (arith, l))

-- the interface of a use
abbrev pub use_ids : UsedType → List Id
use_ids u = u.interface ∷ []

pub used_by-uses : (es : List (String Global × UsedType)) → used_by (named use_content es) ≡ flat_map use_ids (types_of es)
used_by-uses [] = refl
used_by-uses (e ∷ es) = ap (λ is. e.1.interface ∷ is) (used_by-uses es)

pub use-stands : (c : Collection) (es : List (String Global × UsedType)) (i : ℕ) (u : UsedType) → slice_get (types_of es) i ≡ Some u → AllStand c (named_keys use_keys (named use_content es)) → Stands c (interface_key u.interface)
use-stands c [] i u at h = absurd (cc)
use-stands c (e ∷ es) zero u at h = let same : e.1 ≡ u = cc in rw (← same) (h.0)
use-stands c (e ∷ es) (suc i) u at h = use-stands c es i u at h.1

-- the identifier of an interface, by its entry
pub identifier-entry : (c : Collection) (i : Id) (e : InterfaceContent) → slice_get c.interfaces i.index ≡ Some e → identifier c i ≡ e.id
identifier-entry c i e at = ap (option_and_then (λ x. x.id)) at

-- what a map shows once an instance is inserted
pub instances-insert : (es : List (Bor Text × ItemKind)) (k : Bor Text) (v : ItemKind) → instances (insert_entry (λ x y. bytes_eq x.now y.now) es k v) ≡ insert_entry bytes_eq (instances es) k.now v
instances-insert [] k v = refl
instances-insert (e ∷ es) k v = at (bytes_eq k.now e.0.now) refl (instances-insert es k v) where
  at : (b : Bool) → bytes_eq k.now e.0.now ≡ b → instances (insert_entry (λ x y. bytes_eq x.now y.now) es k v) ≡ insert_entry bytes_eq (instances es) k.now v → instances (insert_entry (λ x y. bytes_eq x.now y.now) (e ∷ es) k v) ≡ insert_entry bytes_eq (instances (e ∷ es)) k.now v
  at true p rest = rw p refl
  at false p rest = rw (p, rest) refl

-- what stood still does, with one item more
pub insert-stands : (c : Collection) (es : List (Text × ItemKind)) (name : Text) (k : ItemKind) → AllStand c (named_keys item_keys es) → AllStand c (item_keys k) → AllStand c (named_keys item_keys (insert_entry bytes_eq es name k))
insert-stands c [] name k h st = Each-append (Stands c) (item_keys k) [] st tt
insert-stands c (e ∷ es) name k h st = at (bytes_eq name e.0) refl (insert-stands c es name k (Each-right (Stands c) (item_keys e.1) (named_keys item_keys es) h) st) where
  at : (b : Bool) → bytes_eq name e.0 ≡ b → AllStand c (named_keys item_keys (insert_entry bytes_eq es name k)) → AllStand c (named_keys item_keys (insert_entry bytes_eq (e ∷ es) name k))
  at true p rest = rw p (Each-append (Stands c) (item_keys k) (named_keys item_keys es) st (Each-right (Stands c) (item_keys e.1) (named_keys item_keys es) h))
  at false p rest = rw p (Each-append (Stands c) (item_keys e.1) (named_keys item_keys (insert_entry bytes_eq es name k)) (Each-left (Stands c) (item_keys e.1) (named_keys item_keys es) h) rest)

module _ (c : Collection) where
  -- one more is added, or refused
  pub adds-one : (es fs : List (Text × ItemKind)) (i : Id) (r : Result (Unit {0}) TargetError) → AddsInstance c es i r fs → VisitsEach (AddsInstance c) es (i ∷ []) r fs
  adds-one es fs i (Ok u) p = inl (fs, p, (refl, refl))
  adds-one es fs i (Err e) p = inr (e, p, refl)

  -- once all are added
  pub adds-all : (is : List Id) (es fs : List (Text × ItemKind)) → VisitsEach (AddsInstance c) es is (Ok tt) fs → fs ≡ insert_all bytes_eq es (flat_map (as_instance c) is)
  adds-all [] es fs p = p.1
  adds-all (i ∷ is) es fs (inl p) =
      let one : as_instance c i ≡ ((p.1.0, Instance i) ∷ []) = ap (λ o. option_map_or (λ name. (name, Instance i) ∷ []) o []) p.1.1 in
      rw one (subst (λ hs. fs ≡ insert_all bytes_eq hs (flat_map (as_instance c) is)) p.1.2 (adds-all is p.0 fs p.2))
  adds-all (i ∷ is) es fs (inr p) = absurd (cc (p.2))

  pub adds-identified : (is : List Id) (es fs : List (Text × ItemKind)) → VisitsEach (AddsInstance c) es is (Ok tt) fs → All (HasIdentifier c) is
  adds-identified [] es fs p = λ k d l. absurd (omega (arith, l))
  adds-identified (i ∷ is) es fs (inl p) = All-cons (HasIdentifier c) i is (rw p.1.1 refl) (adds-identified is p.0 fs p.2)
  adds-identified (i ∷ is) es fs (inr p) = absurd (cc (p.2))

  -- where one is refused
  pub adds-refused : (is : List Id) (es fs : List (Text × ItemKind)) (e : TargetError) → VisitsEach (AddsInstance c) es is (Err e) fs → IsUntold c is e
  adds-refused [] es fs e p = absurd (cc (p.0))
  adds-refused (i ∷ is) es fs e (inl p) = later e (adds-refused is p.0 fs e p.2) where
    later : (e : TargetError) → IsUntold c is e → IsUntold c (i ∷ is) e
    later (NoIdentifier j) q = (Contains-there i is j q.0, q.1)
    later Memory q = tt
  adds-refused (i ∷ is) es fs e (inr p) = let same : e ≡ p.0 = cc in rw same (first p.0 p.1) where
    first : (d : TargetError) → IsUntold c (i ∷ []) d → IsUntold c (i ∷ is) d
    first (NoIdentifier j) q = (Contains-left i is j q.0, q.1)
    first Memory q = tt

-- of the uses of a world and then of its imports
module _ (c : Collection) (w : World) (es fs : List (Text × ItemKind)) where
  in_imports : (gs : List (Text × ItemKind)) (r : Result (Unit {0}) TargetError) → VisitsEach (AddsInstance c) fs (flat_map (used_by_import c) (types_of w.imports.entries)) r gs → VisitsEach (AddsInstance c) fs (flat_map (λ e. used_by_import c e.1) (world_content w).imports) r gs
  in_imports gs r q = rw (flat_map-named (used_by_import c) w.imports.entries) q

  pub uses-refused : (e : TargetError) → VisitsEach (AddsInstance c) es (used_by (world_content w).uses) (Err e) fs → IsUntold c (used_interfaces c (world_content w)) e
  uses-refused e p = adds-refused c (used_interfaces c (world_content w)) es fs e (VisitsEach-refused (AddsInstance c) (used_by (world_content w).uses) (flat_map (λ e. used_by_import c e.1) (world_content w).imports) es fs e p)

  in_all : (gs : List (Text × ItemKind)) (r : Result (Unit {0}) TargetError) → VisitsEach (AddsInstance c) es (used_by (world_content w).uses) (Ok tt) fs → VisitsEach (AddsInstance c) fs (flat_map (used_by_import c) (types_of w.imports.entries)) r gs → VisitsEach (AddsInstance c) es (used_interfaces c (world_content w)) r gs
  in_all gs r p q = VisitsEach-append (AddsInstance c) (used_by (world_content w).uses) (flat_map (λ e. used_by_import c e.1) (world_content w).imports) es fs gs r p (in_imports gs r q)

  pub imports-refused : (gs : List (Text × ItemKind)) (e : TargetError) → VisitsEach (AddsInstance c) es (used_by (world_content w).uses) (Ok tt) fs → VisitsEach (AddsInstance c) fs (flat_map (used_by_import c) (types_of w.imports.entries)) (Err e) gs → IsUntold c (used_interfaces c (world_content w)) e
  imports-refused gs e p q = adds-refused c (used_interfaces c (world_content w)) es gs e (in_all gs (Err e) p q)

  pub all-told : (gs : List (Text × ItemKind)) → es ≡ [] → VisitsEach (AddsInstance c) es (used_by (world_content w).uses) (Ok tt) fs → VisitsEach (AddsInstance c) fs (flat_map (used_by_import c) (types_of w.imports.entries)) (Ok tt) gs → gs ≡ implicit_imports c (world_content w)
  all-told gs none p q = subst (λ hs. gs ≡ insert_all bytes_eq hs (flat_map (as_instance c) (used_interfaces c (world_content w)))) none (adds-all c (used_interfaces c (world_content w)) es gs (in_all gs (Ok tt) p q))

  pub all-identified : (gs : List (Text × ItemKind)) → VisitsEach (AddsInstance c) es (used_by (world_content w).uses) (Ok tt) fs → VisitsEach (AddsInstance c) fs (flat_map (used_by_import c) (types_of w.imports.entries)) (Ok tt) gs → All (HasIdentifier c) (used_interfaces c (world_content w))
  all-identified gs p q = adds-identified c (used_interfaces c (world_content w)) es gs (in_all gs (Ok tt) p q)
