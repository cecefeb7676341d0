-- Values, functions and resources that were taken in, or copied.
use Rattle.std.proofs.Common.{◌≡◌, List, Option, Some, map, refl, ap}
use Rattle.std.specs.List.{flat_map}
use Rattle.std.specs.Option.{option_map, option_map_or}
use Rattle.wac_model.specs.Text.{Text}
use Rattle.wac_model.specs.ValueTree.{ValueTree}
use Rattle.wac_component.specs.Collection.{Collection, DefinedContent, alias_of, composed, FuncContent, ResourceContent, AliasContent}
use Rattle.wac_component.specs.Key.{Key, func_keys, defined_keys, value_keys, named_keys, optional_keys, Each}
use Rattle.wac_component.specs.Tree.{value_tree, func_content_tree, content_tree, content_name, root_name}
use Rattle.wac_component.specs.declared.items.ValueType.{ValueType}
use Rattle.wac_component.proofs.Keys.{Each-append}
use Rattle.wac_aggregator_narrowing.specs.Taking.{AreKeysPaired, no_keys, AreMapped}
use Rattle.wac_aggregator_narrowing.specs.Taking as mapped
use Rattle.wac_aggregator_narrowing.specs.Values.{SameValue, AreValuesPaired, none, one, IfAny, neither, both, AreFuncs, AreDefined, AreSameResources}
use Rattle.wac_aggregator_narrowing.proofs.Mapped.{mapped_more, mapped_keys, paired_append, paired_named}

module _ {V W : Type 0} (R Q : V → W → Type 0) (h : (x : V) (y : W) → R x y → Q x y) where
  pub listed_more : (xs : List V) (ys : List W) → AreValuesPaired R xs ys → AreValuesPaired Q xs ys
  listed_more xs ys none = none
  listed_more xs ys (one {x = x} {y = y} {xs = us} {ys = vs} g m) = one (h x y g) (listed_more us vs m)

  pub any_more : (a : Option V) (b : Option W) → IfAny R a b → IfAny Q a b
  any_more a b neither = neither
  any_more a b (both {x = x} {y = y} g) = both (h x y g)

-- what says the same has the same tree
module _ (f c : Collection) where
  params_same : (xs ys : List (Text × ValueType)) → AreMapped (SameValue f c) xs ys → map {A = Text × ValueType} {B = Text × ValueTree} (λ p. (p.0, value_tree c p.1)) ys ≡ map {A = Text × ValueType} {B = Text × ValueTree} (λ p. (p.0, value_tree f p.1)) xs
  params_same xs ys mapped.none = refl
  params_same xs ys (mapped.one {xs = us} {ys = vs} h m) = rw (h, params_same us vs m) refl

  result_same : (a b : Option ValueType) → IfAny (SameValue f c) a b → option_map (value_tree c) b ≡ option_map (value_tree f) a
  result_same a b neither = refl
  result_same a b (both h) = ap Some h

  pub funcs_same : (x z : FuncContent) → AreFuncs (SameValue f c) x z → func_content_tree c z ≡ func_content_tree f x
  funcs_same x z h =
      let ps = params_same x.params z.params h.params in
      let r = result_same x.«result» z.«result» h.«result» in
      λ i. record { params = ps i; «result» = r i; is_async = h.is_async i }

  members_same : (vs ws : List ValueType) → AreValuesPaired (SameValue f c) vs ws → map (value_tree c) ws ≡ map (value_tree f) vs
  members_same vs ws none = refl
  members_same vs ws (one {xs = us} {ys = ys} h m) = rw (h, members_same us ys m) refl

  pub defined_same : (x z : DefinedContent) → AreDefined (SameValue f c) x z → content_tree (value_tree c) z ≡ content_tree (value_tree f) x
  defined_same (alias_of v) (alias_of w) h = h
  defined_same (composed l vs) (composed m ws) h = rw (h.0, members_same vs ws h.1) refl
  defined_same (alias_of v) (composed m ws) h = absurd h
  defined_same (composed l vs) (alias_of w) h = absurd h

  names_same : (a b : Text) (o q : Option AliasContent) → b ≡ a → IfAny (λ a b. root_name c b.source ≡ root_name f a.source) o q → option_map_or (λ a. root_name c a.source) q b ≡ option_map_or (λ a. root_name f a.source) o a
  names_same a b o q same neither = same
  names_same a b o q same (both h) = h

  pub resources_same : (x z : ResourceContent) → AreSameResources f c x z → content_name (root_name c) z ≡ content_name (root_name f) x
  resources_same x z h = names_same x.name z.name x.alias z.alias h.name h.alias

-- the ids in them are paired one by one, as those in each two values
module _ (R : ValueType → ValueType → Type 0) (Q : Key → Key → Type 0) (keys : (v w : ValueType) → R v w → AreKeysPaired Q (value_keys v) (value_keys w)) where
  any_keys : (a b : Option ValueType) → IfAny R a b → AreKeysPaired Q (optional_keys value_keys a) (optional_keys value_keys b)
  any_keys a b neither = no_keys
  any_keys a b (both {x = v} {y = w} h) = keys v w h

  pub func_parts : (x z : FuncContent) → AreFuncs R x z → AreKeysPaired Q (func_keys x) (func_keys z)
  func_parts x z h =
      paired_append Q (named_keys value_keys x.params) (named_keys value_keys z.params) (optional_keys value_keys x.«result») (optional_keys value_keys z.«result»)
      (paired_named Q R value_keys value_keys keys x.params z.params h.params) (any_keys x.«result» z.«result» h.«result»)

  listed_keys : (vs ws : List ValueType) → AreValuesPaired R vs ws → AreKeysPaired Q (flat_map value_keys vs) (flat_map value_keys ws)
  listed_keys vs ws none = no_keys
  listed_keys vs ws (one {x = v} {y = w} {xs = us} {ys = ys} h m) = paired_append Q (value_keys v) (value_keys w) (flat_map value_keys us) (flat_map value_keys ys) (keys v w h) (listed_keys us ys m)

  pub defined_parts : (x z : DefinedContent) → AreDefined R x z → AreKeysPaired Q (defined_keys x) (defined_keys z)
  defined_parts (alias_of v) (alias_of w) h = keys v w h
  defined_parts (composed l vs) (composed m ws) h = listed_keys vs ws h.1
  defined_parts (alias_of v) (composed m ws) h = absurd h
  defined_parts (composed l vs) (alias_of w) h = absurd h

-- by another relation of value types
module _ (R Q : ValueType → ValueType → Type 0) (h : (v w : ValueType) → R v w → Q v w) where
  pub funcs_more : (x z : FuncContent) → AreFuncs R x z → AreFuncs Q x z
  funcs_more x z g = record { params = mapped_more R Q h x.params z.params g.params; «result» = any_more R Q h x.«result» z.«result» g.«result»; is_async = g.is_async }

  pub defined_more : (x z : DefinedContent) → AreDefined R x z → AreDefined Q x z
  defined_more (alias_of v) (alias_of w) g = h v w g
  defined_more (composed l vs) (composed m ws) g = (g.0, listed_more R Q h vs ws g.1)
  defined_more (alias_of v) (composed m ws) g = absurd g
  defined_more (composed l vs) (alias_of w) g = absurd g

-- a fact of the ids in each is one of all
module _ (R : ValueType → ValueType → Type 0) (P : Key → Type 0) (h : (v w : ValueType) → R v w → Each P (value_keys w)) where
  each_any : (a b : Option ValueType) → IfAny R a b → Each P (optional_keys value_keys b)
  each_any a b neither = tt
  each_any a b (both {x = v} {y = w} g) = h v w g

  each_listed : (vs ws : List ValueType) → AreValuesPaired R vs ws → Each P (flat_map value_keys ws)
  each_listed vs ws none = tt
  each_listed vs ws (one {x = v} {y = w} {xs = us} {ys = ys} g m) = Each-append P (value_keys w) (flat_map value_keys ys) (h v w g) (each_listed us ys m)

  pub each_func : (x z : FuncContent) → AreFuncs R x z → Each P (func_keys z)
  each_func x z g = Each-append P (named_keys value_keys z.params) (optional_keys value_keys z.«result») (mapped_keys R value_keys P h x.params z.params g.params) (each_any x.«result» z.«result» g.«result»)

  pub each_defined : (x z : DefinedContent) → AreDefined R x z → Each P (defined_keys z)
  each_defined (alias_of v) (alias_of w) g = h v w g
  each_defined (composed l vs) (composed m ws) g = each_listed vs ws g.1
  each_defined (alias_of v) (composed m ws) g = absurd g
  each_defined (composed l vs) (alias_of w) g = absurd g
