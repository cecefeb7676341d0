-- What was taken in for parts of a source comes from sources.
use Rattle.std.specs.Option.{option_map_or}
use Rattle.std.specs.Str.{bytes_eq}
use Rattle.std.proofs.Common.{◌≡◌, inl, inr, List, [], ◌∷◌, Bool, true, false, cond, Option, Some, None, IsSome, option_map, refl, sym, ap, subst, ◌∙◌, slice_get, Contains, arith}
use Rattle.wac_model.specs.Text.{Text, lookup}
use Rattle.wac_model.specs.CoreTree.{ModuleTree}
use Rattle.wac_component.specs.Id.{Id}
use Rattle.wac_component.specs.Collection.{Collection, UseContent}
use Rattle.wac_component.specs.Implicit.{identifier}
use Rattle.wac_component.specs.Key.{Key, module_entry, optional_keys, other_keys, module_key, item_keys, Each}
use Rattle.wac_component.specs.Reach.{IsAmong}
use Rattle.wac_component.specs.Tree.{item_tree}
use Rattle.wac_component.specs.Entries.{entry_identifier, exports_at, HasUse, identifier_at}
use Rattle.wac_component.specs.Open.{OpenReaches, open_next, stay, step}
use Rattle.wac_component.specs.declared.items.ItemKind.{ItemKind}
use Rattle.wac_component.specs.declared.items.ItemKind.TheVariants.{«Type» as OfType, Func, Instance, Component, Module, Value}
use Rattle.wac_component.specs.declared.items.Type.TheVariants.{Resource as TypeResource, Func as TypeFunc, Value as TypeValue, Interface as TypeInterface, World as TypeWorld, Module as TypeModule}
use Rattle.wac_component.proofs.Lists.{slice_get-map}
use Rattle.wac_component.proofs.Among.{Contains-cases, Contains-first, Contains-later}
use Rattle.wac_names.specs.Class.{class_of}
use Rattle.wac_aggregator_narrowing.specs.Identified.{IsQuiet}
use Rattle.wac_aggregator_narrowing.specs.State.{State}
use Rattle.wac_aggregator_narrowing.specs.Taking.{IsTakenItem, AreMapped, none, one}
use Rattle.wac_aggregator_reasons.specs.Bare.{bare}
use Rattle.wac_aggregator_reasons.specs.Entering.{IsTakenIdentifiedUse}
use Rattle.wac_aggregator_reasons.specs.Sourced.{IsExportFrom, IsUseFrom}
use Rattle.wac_aggregator_reasons.proofs.Bare.{IsModule, bare_same}
use Rattle.wac_aggregator_reasons.proofs.Moving.{identifier_is, export_bare}

-- a core module leads to no identified interface
module_opens : (o : Option ModuleTree) → optional_keys other_keys (option_map module_entry o) ≡ []
module_opens None = refl
module_opens (Some m) = refl

module_identifier : (o : Option ModuleTree) → option_map_or entry_identifier (option_map module_entry o) None ≡ None
module_identifier None = refl
module_identifier (Some m) = refl

pub module_quiet : (c : Collection) (m : Id) → IsQuiet c (module_key m)
module_quiet c m t n w is = by_walk (module_key m) t refl w is
  where
    nowhere : (j : Key) → IsAmong j [] → ⊥
    nowhere j h = elim h [ ]

    by_walk : (k t : Key) → k ≡ module_key m → OpenReaches c k t → identifier_at c t ≡ Some n → ⊥
    by_walk k t same stay is =
        let none_there : identifier_at c (module_key m) ≡ None = ap (λ o. option_map_or entry_identifier o None) (slice_get-map module_entry c.modules m.index) ∙ module_identifier (slice_get c.modules m.index) in
        let both : None ≡ Some n = sym none_there ∙ sym (ap (identifier_at c) same) ∙ is in absurd (cc)
    by_walk k t same (step {j = j} h w) is = nowhere j (subst (λ (ks : List Key). IsAmong j ks) (ap (open_next c) same ∙ ap (optional_keys other_keys) (slice_get-map module_entry c.modules m.index) ∙ module_opens (slice_get c.modules m.index)) h)

-- an own item has the bare tree of the one that it was taken in for
pub taken_bare : (f : Collection) (s : State) (x y : ItemKind) → IsTakenItem class_of f s x y → bare (item_tree s.own y) ≡ bare (item_tree f x)
taken_bare f s x y h = bare_same h.fits (λ m. h.quiet (modules x m))
  where
    modules : (x : ItemKind) → IsModule (item_tree f x) → Each (IsQuiet f) (item_keys x)
    modules (Module m) h = (module_quiet f m, tt)
    modules (OfType (TypeModule m)) h = (module_quiet f m, tt)
    modules (OfType (TypeResource p)) h = absurd h
    modules (OfType (TypeFunc p)) h = absurd h
    modules (OfType (TypeValue p)) h = absurd h
    modules (OfType (TypeInterface p)) h = absurd h
    modules (OfType (TypeWorld p)) h = absurd h
    modules (Func p) h = absurd h
    modules (Instance p) h = absurd h
    modules (Component p) h = absurd h
    modules (Value p) h = absurd h

none_contained : {A : Type 0} (x : A) → Contains [] x → ⊥
none_contained x m = omega (arith, m.1)

module _ {V W : Type 0} (R : V → W → Type 0) where
  mapped_at : (xs : List (Text × V)) (ys : List (Text × W)) (n : Text) (y : W) → AreMapped R xs ys → lookup bytes_eq ys n ≡ Some y → (x : V) × (lookup bytes_eq xs n ≡ Some x) × R x y
  mapped_at xs ys n y none is = absurd (cc)
  mapped_at xs ys n y (one {n = m} {x = x} {y = z} {xs = us} {ys = vs} h rest) is = first (bytes_eq n m) is (mapped_at us vs n y rest)
    where
      first : (b : Bool) → cond b (Some z) (lookup bytes_eq vs n) ≡ Some y → (lookup bytes_eq vs n ≡ Some y → (w : V) × (lookup bytes_eq us n ≡ Some w) × R w y)
          → (w : V) × (cond b (Some x) (lookup bytes_eq us n) ≡ Some w) × R w y
      first true q later = let same : z ≡ y = cc in (x, refl, subst (λ v. R x v) same h)
      first false q later = later q

  mapped_contains : (xs : List (Text × V)) (ys : List (Text × W)) (n : Text) (y : W) → AreMapped R xs ys → Contains ys (n, y) → (x : V) × Contains xs (n, x) × R x y
  mapped_contains xs ys n y none m = absurd (none_contained (n, y) m)
  mapped_contains xs ys n y (one {n = l} {x = x} {y = z} {xs = us} {ys = vs} h rest) m = elim (Contains-cases (n, y) (l, z) vs m) [
    | inl same ↦ let e : l ≡ n = ap (λ (p : Text × W). p.0) same in let g : z ≡ y = ap (λ (p : Text × W). p.1) same in (x, subst (λ k. Contains ((l, x) ∷ us) (k, x)) e (Contains-first (l, x) us), subst (λ v. R x v) g h)
    | inr later ↦ let r = mapped_contains us vs n y rest later in (r.0, Contains-later (n, r.0) (l, x) us r.1, r.2)
  ]

module _ (P : Collection → Key → Type 0) (f : Collection) (k : Key) (is_source : P f k) where
  -- an export of the source itself
  pub own_export : (n : Text) (x : ItemKind) → lookup bytes_eq (exports_at f k) n ≡ Some x → IsExportFrom P n (item_tree f x)
  own_export n x is other u = record { types = f; key = k; export = x; of_these = is_source; exported = is; apart = u }

  module _ (s : State) where
    taken_export : (n : Text) (x y : ItemKind) → lookup bytes_eq (exports_at f k) n ≡ Some x → IsTakenItem class_of f s x y → IsExportFrom P n (item_tree s.own y)
    taken_export n x y is h = export_bare P n (item_tree f x) (item_tree s.own y) (taken_bare f s x y h) (own_export n x is)

    pub taken_exports : (xs ys : List (Text × ItemKind)) → exports_at f k ≡ xs → AreMapped (IsTakenItem class_of f s) xs ys → (n : Text) (y : ItemKind) → lookup bytes_eq ys n ≡ Some y → IsExportFrom P n (item_tree s.own y)
    taken_exports xs ys same h n y is = let r = mapped_at (IsTakenItem class_of f s) xs ys n y h is in taken_export n r.0 y (subst (λ es. lookup bytes_eq es n ≡ Some r.0) (sym same) r.1) r.2

    taken_use : (n : Text) (u v : UseContent) → HasUse f k n u → IsTakenIdentifiedUse f s u v → IsUseFrom P s.own n v
    taken_use n u v has h = by_identifier (identifier f u.interface) refl h.identified
      where
        by_identifier : (o : Option Text) → identifier f u.interface ≡ o → IsSome o → IsUseFrom P s.own n v
        by_identifier None is there = absurd (cc)
        by_identifier (Some name) is there =
            let on = h.taken.remembered.shared name (identifier_is f u.interface ∙ is) in
            record {
              types = f;
              key = k;
              content = u;
              of_these = is_source;
              has = has;
              same_name = sym h.same_name;
              track = class_of name;
              source_on = record { name = name; identified = is; on_track = refl };
              is_on = record { name = on.name; identified = sym (identifier_is s.own v.interface) ∙ on.identified; on_track = on.on_track };
            }

    pub taken_uses : (us vs : List (Text × UseContent)) → ((n : Text) (u : UseContent) → Contains us (n, u) → HasUse f k n u) → AreMapped (IsTakenIdentifiedUse f s) us vs → (n : Text) (v : UseContent) → Contains vs (n, v) → IsUseFrom P s.own n v
    taken_uses us vs has h n v m = let r = mapped_contains (IsTakenIdentifiedUse f s) us vs n v h m in taken_use n r.0 v (has n r.0 r.1) r.2
