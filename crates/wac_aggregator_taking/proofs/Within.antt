-- Ids to which open walks lead from others.
use Rattle.std.proofs.Common.{◌≡◌, ◌++◌, ◌∙◌, refl, zero, suc, ℕ, List, [], ◌∷◌, Option, Some, None, slice_get, String, Global, ap, sym, subst}
use Rattle.std.specs.List.{flat_map}
use Rattle.std.specs.Option.{option_and_then, option_map}
use Rattle.wac_model.specs.Text.{Text}
use Rattle.wac_component.specs.Collection.{Collection, AliasContent, ResourceContent}
use Rattle.wac_component.specs.Content.{named, types_of, use_content}
use Rattle.wac_component.specs.declared.interfaces.UsedType.{UsedType}
use Rattle.wac_component.specs.Entries.{owner_at}
use Rattle.wac_component.specs.Id.{Id}
use Rattle.wac_component.specs.Key.{Key, Stands, AllStand, alias_keys, optional_keys, other_keys, named_keys, use_keys, resource_key, interface_key}
use Rattle.wac_component.specs.Open.{open_next, stay, step}
use Rattle.wac_component.specs.Reach.{IsAmong, here}
use Rattle.wac_component.proofs.Among.{among_left, among_right}
use Rattle.wac_component.proofs.OpenWalks.{OpenReaches-trans}
use Rattle.wac_component.specs.Sound.{IsSound}
use Rattle.wac_component.proofs.Reading.{resource_at, resource_standing}
use Rattle.wac_aggregator_taking.proofs.PartHeights.{named_flat, used_use}
use Rattle.wac_aggregator_taking.specs.Takes.{OpenlyFrom, AreWithin, LeadsToOwner, alias_at}

module _ (f : Collection) where
  pub within_all : (ks : List Key) → AreWithin f ks ks
  within_all ks k m = (k, m, stay)

  pub within_left : (ks js : List Key) → AreWithin f ks (ks ++ js)
  within_left ks js k m = (k, among_left ks js m, stay)

  pub within_right : (ks js : List Key) → AreWithin f js (ks ++ js)
  within_right ks js k m = (k, among_right ks js m, stay)

  pub within_trans : (ks js ls : List Key) → AreWithin f ks js → AreWithin f js ls → AreWithin f ks ls
  within_trans ks js ls h g k m = let w = h k m in let v = g w.0 w.1 in (v.0, v.1, OpenReaches-trans f v.0 w.0 k v.2 w.2)

  pub openly_within : (ks js : List Key) (t : Key) → AreWithin f ks js → OpenlyFrom f ks t → OpenlyFrom f js t
  openly_within ks js t h w = let v = h w.0 w.1 in (v.0, v.1, OpenReaches-trans f v.0 w.0 t v.2 w.2)

  pub leads_within : (from : Key) (ks js : List Key) (n : Text) → AreWithin f ks js → IsAmong from ks → LeadsToOwner f from n → (j : Key) × IsAmong j js × LeadsToOwner f j n
  leads_within from ks js n h m l = let v = h from m in (v.0, v.1, record { resource = l.resource; owner = l.owner; walk = OpenReaches-trans f v.0 from (resource_key l.resource) v.2 l.walk; owned = l.owned; identified = l.identified })

  -- what an entry openly names is within its id
  pub within_parts : (k : Key) (ks : List Key) → open_next f k ≡ ks → AreWithin f ks (k ∷ [])
  within_parts k ks is j m = (k, here, step (subst (IsAmong j) (sym is) m) stay)

  -- what is at an index, and below a name
  pub within_at : {V : Type 0} (g : V → List Key) (vs : List V) (i : ℕ) (v : V) → slice_get vs i ≡ Some v → AreWithin f (g v) (flat_map g vs)
  within_at {V} g vs i v at k m = (k, found vs i at, stay)
    where
      found : (us : List V) (j : ℕ) → slice_get us j ≡ Some v → IsAmong k (flat_map g us)
      found [] j h = absurd (cc)
      found (u ∷ us) zero h = let same : u ≡ v = cc in among_left (g u) (flat_map g us) (subst (λ w. IsAmong k (g w)) (sym same) m)
      found (u ∷ us) (suc j) h = among_right (g u) (flat_map g us) (found us j h)

  pub within_named : {V W : Type 0} (k : W → List Key) (g : V → W) (es : List (String Global × V)) (i : ℕ) (v : V) → slice_get (types_of es) i ≡ Some v → AreWithin f (k (g v)) (named_keys k (named g es))
  within_named k g es i v at = subst (AreWithin f (k (g v))) (sym (named_flat k g es)) (within_at (λ w. k (g w)) (types_of es) i v at)

  -- what an alias names is within the resource
  alias_next : (r : Id) (a : AliasContent) → alias_at f r ≡ Some a → open_next f (resource_key r) ≡ alias_keys a
  alias_next r a h = at (slice_get f.resources r.index) refl h
    where
      at : (o : Option ResourceContent) → slice_get f.resources r.index ≡ o → option_and_then (λ e. e.alias) o ≡ Some a → open_next f (resource_key r) ≡ alias_keys a
      at None is k = absurd (cc)
      at (Some e) is k = ap (optional_keys other_keys) (resource_at f r e is) ∙ ap (optional_keys alias_keys) k

  pub alias_within : (r : Id) (a : AliasContent) → alias_at f r ≡ Some a → AreWithin f (alias_keys a) (resource_key r ∷ [])
  alias_within r a h = within_parts (resource_key r) (alias_keys a) (alias_next r a h)

  pub within_used : (es : List (String Global × UsedType)) (i : ℕ) (p : Id) → option_map (λ u. u.interface) (slice_get (types_of es) i) ≡ Some p → AreWithin f (interface_key p ∷ []) (named_keys use_keys (named use_content es))
  within_used es i p at =
      let u = used_use f es i p at in
      subst (λ q. AreWithin f (interface_key q ∷ []) (named_keys use_keys (named use_content es))) u.2 (within_named use_keys use_content es i u.0 u.1)

  -- the owner that an alias names
  pub owner_within : (a : AliasContent) (o : Id) → a.owner ≡ Some o → AreWithin f (interface_key o ∷ []) (alias_keys a)
  owner_within a o is k m = (k, among_left (optional_keys (λ p. interface_key p ∷ []) a.owner) (resource_key a.source ∷ []) (subst (λ q. IsAmong k (optional_keys (λ p. interface_key p ∷ []) q)) (sym is) m), stay)

  -- the owner of a resource
  pub owned_within : (r o : Id) → owner_at f r ≡ Some o → AreWithin f (interface_key o ∷ []) (resource_key r ∷ [])
  owned_within r o h = at (alias_at f r) refl (sym (owner_alias (slice_get f.resources r.index)) ∙ h)
    where
      owner_alias : (e : Option ResourceContent) → option_and_then (λ x. option_and_then (λ b. b.owner) x.alias) e ≡ option_and_then (λ (b : AliasContent). b.owner) (option_and_then (λ (x : ResourceContent). x.alias) e)
      owner_alias None = refl
      owner_alias (Some e) = refl

      at : (a : Option AliasContent) → alias_at f r ≡ a → option_and_then (λ (b : AliasContent). b.owner) (alias_at f r) ≡ Some o → AreWithin f (interface_key o ∷ []) (resource_key r ∷ [])
      at None is k = absurd (let no : None ≡ Some o = sym (ap (option_and_then (λ (b : AliasContent). b.owner)) is) ∙ k in cc)
      at (Some a) is k = within_trans (interface_key o ∷ []) (alias_keys a) (resource_key r ∷ []) (owner_within a o (sym (ap (option_and_then (λ (b : AliasContent). b.owner)) is) ∙ k)) (alias_within r a is)

  -- what an alias names stands, and is lower
  pub alias_stands : IsSound f → (r : Id) (a : AliasContent) → alias_at f r ≡ Some a → Stands f (resource_key r) → AllStand f (alias_keys a)
  alias_stands sound r a h st = at (slice_get f.resources r.index) refl h
    where
      at : (o : Option ResourceContent) → slice_get f.resources r.index ≡ o → option_and_then (λ e. e.alias) o ≡ Some a → AllStand f (alias_keys a)
      at None is k = absurd (cc)
      at (Some e) is k = subst (λ x. AllStand f (optional_keys alias_keys x)) k (resource_standing f r e sound st is)
