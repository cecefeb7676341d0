-- Items that are always apart.
use Rattle.std.proofs.Common.{◌≡◌, ◌⊎◌, inl, inr, refl, Some, None}
use Rattle.wac_model.specs.CoreTree.{ModuleTree, ModuleFits}
use Rattle.wac_model.specs.ItemTree.{Kind, Kind-discrete, ItemTree, leaf, core_module, composite, no_items}
use Rattle.wac_model.specs.Order.{Fits, leaves, modules, composites}
use Rattle.wac_model.proofs.ItemOrder.{module_fits, Fits-refl, Fits-trans}
use Rattle.wac_bounds.specs.MeetIn.{IsMeetIn}
use Rattle.wac_bounds.proofs.Cases.{Fits-case}
use Rattle.wac_bounds.proofs.ModuleBounds.{modules_meet}
use Rattle.wac_aggregator_promises.specs.TreeSets.{HaveNoLowerBound}
use Rattle.wac_aggregator_reasons.specs.Bare.{bare, AreAlwaysApart}
use Rattle.wac_aggregator_reasons.proofs.ModuleClash.{one_clashes}

bare_fits : {a b : ItemTree} → Fits a b → Fits (bare a) (bare b)
bare_fits (leaves {k} {l}) = Fits-refl (leaf k l)
bare_fits (modules p) = modules p
bare_fits (composites {k} {s} p q) = Fits-refl (composite k s no_items no_items)

-- items that are always apart have no common lower bound
pub apart_no_bound : (a b : ItemTree) → AreAlwaysApart a b → HaveNoLowerBound a b
apart_no_bound a b h m p q = h (bare m) (bare_fits p) (bare_fits q)

pub apart_swaps : (a b : ItemTree) → AreAlwaysApart a b → AreAlwaysApart b a
apart_swaps a b h m p q = h m q p

-- what fits has the same bare tree, but for core modules
abbrev pub IsModule : ItemTree → Type 0
IsModule (core_module k m) = Unit {0}
IsModule t = ⊥

pub bare_same : {a b : ItemTree} → Fits a b → (IsModule b → a ≡ b) → bare a ≡ bare b
bare_same leaves h = refl
bare_same (modules p) h = let e = h tt in cc
bare_same (composites p q) h = refl

-- what is always apart from a join is so from what is joined
pub joined_apart : (a m u : ItemTree) → Fits a m → AreAlwaysApart m u → AreAlwaysApart a u
joined_apart a m u f h c p q = h c (Fits-trans c (bare a) (bare m) p (bare_fits f)) q

-- what is always apart from a meet is so from one of those that are met
met_modules : (k : Kind) (a b m : ModuleTree) → IsMeetIn (λ x y. ModuleFits x.content y.content) a b (Some m) → (u : ItemTree) → AreAlwaysApart (core_module k m) u → AreAlwaysApart (core_module k a) u ⊎ AreAlwaysApart (core_module k b) u
met_modules k a b m is (leaf k' l) h = inl (λ c p q. let e = Fits-case p in let f = Fits-case q in cc)
met_modules k a b m is (composite k' s i e) h = inl (λ c p q. let e = Fits-case p in let f = Fits-case q in cc)
met_modules k a b m is (core_module k' u) h = by_kind (Kind-discrete k k')
  where
    by_kind : Dec (k ≡ k') → AreAlwaysApart (core_module k a) (core_module k' u) ⊎ AreAlwaysApart (core_module k b) (core_module k' u)
    by_kind (no ne) = inl (λ c p q. let e = Fits-case p in let f = Fits-case q in let g : k ≡ k' = cc in ne g)
    by_kind (yes same) = rw (← same) (elim (one_clashes a b m is u (λ c p q. h (core_module k c) (modules p) (rw (← same) (modules q)))) [
      | inl n ↦ inl (modules_meet k a u None (λ c p q. n (record { content = c; valid = p.0 }) p.2 q.2))
      | inr n ↦ inr (modules_meet k b u None (λ c p q. n (record { content = c; valid = p.0 }) p.2 q.2))
    ])

pub met_apart : (a b m u : ItemTree) → IsMeetIn Fits a b (Some m) → AreAlwaysApart m u → AreAlwaysApart a u ⊎ AreAlwaysApart b u
met_apart a b m u is h = go is.0 is.1 is h
  where
    go : {a b m : ItemTree} → Fits m a → Fits m b → IsMeetIn Fits a b (Some m) → AreAlwaysApart m u → AreAlwaysApart a u ⊎ AreAlwaysApart b u
    go leaves q is h = inl h
    go (composites p r) q is h = inl h
    go (modules {k} {a = m} {b = a} p) (modules {b = b} q) is h = met_modules k a b m (p, q, λ c v w. module_fits (is.2 (core_module k c) (modules v) (modules w))) u h
