-- What parts of entries name stands, and is no higher than what the whole names.
use Rattle.std.proofs.Common.{◌≡◌, ◌≤◌, ◌++◌, ℕ, suc, List, [], ◌∷◌, Option, Some, None, length, slice_get, String, Global, refl, ap, subst, arith}
use Rattle.std.specs.List.{flat_map}
use Rattle.std.specs.Option.{option_map}
use Rattle.wac_component.specs.Id.{Id}
use Rattle.wac_component.specs.Collection.{Collection}
use Rattle.wac_component.specs.Content.{named, types_of, use_content}
use Rattle.wac_component.specs.Height.{height, keys_height}
use Rattle.wac_component.specs.Key.{Key, Stands, AllStand, named_keys, use_keys, interface_key}
use Rattle.wac_component.specs.declared.interfaces.UsedType.{UsedType}
use Rattle.wac_component.proofs.Keys.{Each-flat_map_at, largest-flat_map_at}

-- what stands below a name
pub named_flat : {V W : Type 0} (k : W → List Key) (g : V → W) (es : List (String Global × V)) → named_keys k (named g es) ≡ flat_map (λ v. k (g v)) (types_of es)
named_flat k g [] = refl
named_flat k g (e ∷ es) = ap (λ (ks : List Key). k (g e.1) ++ ks) (named_flat k g es)

module _ {V W : Type 0} (k : W → List Key) (g : V → W) (f : Collection) (es : List (String Global × V)) (i : ℕ) (v : V) (at : slice_get (types_of es) i ≡ Some v) where
  pub named_stands : AllStand f (named_keys k (named g es)) → AllStand f (k (g v))
  named_stands h = Each-flat_map_at (Stands f) (λ w. k (g w)) (types_of es) i v at (subst (AllStand f) (named_flat k g es) h)

  pub named_lower : keys_height f (k (g v)) ≤ keys_height f (named_keys k (named g es))
  named_lower = omega (arith, largest-flat_map_at (height f) (λ w. k (g w)) (types_of es) i v at, ap (keys_height f) (named_flat k g es))

-- a used interface at a place
used_some : (o : Option UsedType) (p : Id) → option_map (λ u. u.interface) o ≡ Some p → (u : UsedType) × (o ≡ Some u) × (u.interface ≡ p)
used_some None p h = absurd (cc)
used_some (Some u) p h = (u, refl, (let same : u.interface ≡ p = cc in same))

module _ (f : Collection) (es : List (String Global × UsedType)) (i : ℕ) (p : Id) (at : option_map (λ u. u.interface) (slice_get (types_of es) i) ≡ Some p) where
  pub used_use : (u : UsedType) × (slice_get (types_of es) i ≡ Some u) × (u.interface ≡ p)
  used_use = used_some (slice_get (types_of es) i) p at

  pub used_stands : AllStand f (named_keys use_keys (named use_content es)) → Stands f (interface_key p)
  used_stands h = let u = used_use in subst (λ q. Stands f (interface_key q)) u.2 (named_stands use_keys use_content f es i u.0 u.1 h).0

-- a map has as many entries as what it shows
pub length-named : {V W : Type 0} (g : V → W) (es : List (String Global × V)) → length (named g es) ≡ length es
length-named g [] = refl
length-named g (e ∷ es) = ap suc (length-named g es)
