-- Values, functions and resources that were taken in, or copied.
use Rattle.std.specs.Prelude.{◌≡◌, List, [], ◌∷◌, Option, Some, None}
use Rattle.wac_model.specs.Text.{Text}
use Rattle.wac_component.specs.Collection.{Collection, DefinedContent, alias_of, composed, FuncContent, ResourceContent}
use Rattle.wac_component.specs.Key.{AllStand, value_keys}
use Rattle.wac_component.specs.Tree.{value_tree, root_name}
use Rattle.wac_component.specs.declared.items.ValueType.{ValueType}
use Rattle.wac_aggregator_narrowing.specs.Apart.{AreKeysApart}
use Rattle.wac_aggregator_narrowing.specs.State.{State}
use Rattle.wac_aggregator_narrowing.specs.Taking.{AreTakenKeys, AreCopiedKeys, AreMapped}

-- an own value type that stands, has the tree of the foreign one, and names what may be
-- remembered for what that names
pub record IsTakenValue {T : Type 0} (track : Text → T) (f : Collection) (s : State) (v w : ValueType) : Type 0 where
  pub stands : AllStand s.own (value_keys w)
  pub same : value_tree s.own w ≡ value_tree f v
  pub keys : AreTakenKeys track f s (value_keys v) (value_keys w)

-- a copy of a foreign one
pub record IsCopiedValue (f : Collection) (s : State) (v w : ValueType) : Type 0 where
  pub stands : AllStand s.own (value_keys w)
  pub apart : AreKeysApart s.own s.shared (value_keys w)
  pub keys : AreCopiedKeys f s (value_keys v) (value_keys w)
  pub same : value_tree s.own w ≡ value_tree f v

-- the two value types have the same tree
abbrev pub SameValue : Collection → Collection → ValueType → ValueType → Type 0
SameValue f c v w = value_tree c w ≡ value_tree f v

-- two lists of values of this relation, one by one; two values, if there are any
pub data AreValuesPaired {V W : Type 0} (R : V → W → Type 0) : List V → List W → Type 0 where
  none : AreValuesPaired R [] []
  one : {x : V} {y : W} {xs : List V} {ys : List W} → R x y → AreValuesPaired R xs ys → AreValuesPaired R (x ∷ xs) (y ∷ ys)

pub data IfAny {V W : Type 0} (R : V → W → Type 0) : Option V → Option W → Type 0 where
  neither : IfAny R None None
  both : {x : V} {y : W} → R x y → IfAny R (Some x) (Some y)

-- functions of the same parameters and result; defined types of the same label and members, or
-- other names of the same; resources of the same name, or other names of one of the same
pub record AreFuncs (R : ValueType → ValueType → Type 0) (x z : FuncContent) : Type 0 where
  pub params : AreMapped R x.params z.params
  pub «result» : IfAny R x.«result» z.«result»
  pub is_async : z.is_async ≡ x.is_async

abbrev pub AreDefined : (ValueType → ValueType → Type 0) → DefinedContent → DefinedContent → Type 0
AreDefined R (alias_of v) (alias_of w) = R v w
AreDefined R (composed l vs) (composed m ws) = (m ≡ l) × AreValuesPaired R vs ws
AreDefined R x z = ⊥

pub record AreSameResources (f c : Collection) (x z : ResourceContent) : Type 0 where
  pub name : z.name ≡ x.name
  pub alias : IfAny (λ a b. root_name c b.source ≡ root_name f a.source) x.alias z.alias
