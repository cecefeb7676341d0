-- A function's type from its parts.
use Rattle.std.proofs.Common.{◌≡◌, ◌⊎◌, inl, inr, Bool, true, rules, List, [], ◌∷◌, ◌++◌, Option, String, Global, refl, ◌∙◌, ap, map}
use Rattle.std.specs.Bool.{beq}
use Rattle.std.specs.Option.{option_map}
use Rattle.wac_model.specs.Text.{Text}
use Rattle.wac_model.specs.ValueTree.{FuncTree, ValueTree}
use Rattle.wac_component.specs.Collection.{Collection}
use Rattle.wac_component.specs.Content.{func_content, names, types_of, named}
use Rattle.wac_component.specs.Tree.{value_tree, func_content_tree}
use Rattle.wac_component.specs.declared.functions.FuncType.{FuncType}
use Rattle.wac_component.specs.declared.items.ValueType.{ValueType}
use Rattle.wac_wit_validation_types.specs.Denoted.{AreFieldsOf, Setting, field_names}
use Rattle.wac_wit_validation_types.specs.Functions.{IsFuncOf, IsReturned, made, with_names}
use Rattle.wac_wit_syntax.specs.declared.tree.MethodKind.{MethodKind}
use Rattle.wac_wit_syntax.specs.declared.tree.MethodKind.TheVariants as kind
use Rattle.wac_wit_syntax.specs.declared.tree.Signature.{Signature}

pub same_flag : (a b : Bool) → beq a b ≡ true → a ≡ b
same_flag a b h = search rules

-- only a constructor makes something that isn't written
pub made-other : (k : MethodKind) (root : Text) (o : Option ValueTree) → (k ≡ kind.Method) ⊎ (k ≡ kind.Static) → made k root o ≡ o
made-other k root o (inl is) = rw is refl
made-other k root o (inr is) = rw is refl

with_names-named : (f : ValueType → ValueTree) (es : List (String Global × ValueType)) → named f es ≡ with_names (names es) (map f (types_of es))
with_names-named f [] = refl
with_names-named f (e ∷ es) = let others = with_names-named f es in cc

map-named : (f : ValueType → ValueTree) (es : List (String Global × ValueType)) → map (λ (p : Text × ValueType). (p.0, f p.1)) (named (λ v. v) es) ≡ named f es
map-named f [] = refl
map-named f (e ∷ es) = let others = map-named f es in cc

-- what a function's type says of what is written: its own parameters are the entries that are given
pub record IsFuncIn (s : Setting) (c : Collection) (sig : Signature) (f : FuncType) (before : List (Text × ValueTree)) («result» : Option ValueTree → Option ValueTree) : Type 0 where
  pub own : List (String Global × ValueType)
  pub params : named (value_tree c) f.params.entries ≡ before ++ named (value_tree c) own
  pub names : names own ≡ field_names sig.params.items
  pub types : AreFieldsOf s sig.params.items (map (value_tree c) (types_of own))
  pub returns : Option ValueTree
  pub are_returns : IsReturned s sig.returns returns
  pub given : option_map (value_tree c) f.«result» ≡ «result» returns
  pub is_async : f.is_async ≡ sig.is_async

pub IsFuncOf-parts : (s : Setting) (c : Collection) (sig : Signature) (f : FuncType) (before : List (Text × ValueTree)) («result» : Option ValueTree → Option ValueTree) (t : FuncTree) → t ≡ func_content_tree c (func_content f) → IsFuncIn s c sig f before «result» → IsFuncOf s sig before «result» t
IsFuncOf-parts s c sig f before «result» t tree h = record {
  params = map (value_tree c) (types_of h.own);
  are_params = h.types;
  named = ap (λ (g : FuncTree). g.params) tree ∙ map-named (value_tree c) f.params.entries ∙ h.params ∙ ap (λ (ps : List (Text × ValueTree)). before ++ ps) (with_names-named (value_tree c) h.own)
      ∙ ap (λ (ns : List Text). before ++ with_names ns (map (value_tree c) (types_of h.own))) h.names;
  returns = h.returns;
  are_returns = h.are_returns;
  given = ap (λ (g : FuncTree). g.«result») tree ∙ h.given;
  is_async = ap (λ (g : FuncTree). g.is_async) tree ∙ h.is_async;
}
