-- What functions stand for (WIT.md, "Item: `func`" and "Item: `resource`").
use Rattle.std.specs.Prelude.{◌≡◌, codes, List, [], ◌∷◌, ◌++◌, Contains, Option, Some, None, Vec}
use Rattle.std.specs.declared.alloc.Global.{Global}
use Rattle.wac_model.specs.Text.{Text}
use Rattle.wac_model.specs.ValueTree.{FuncTree, ValueTree, borrow, no_parts, node, own}
use Rattle.wac_wit_scopes.specs.WitSources.{IsEnabled, ident_text}
use Rattle.wac_wit_validation_types.specs.Denoted.{AreFieldsOf, IsValue, Setting, field_names, type_name}
use Rattle.wac_wit_syntax.specs.declared.tree.Method.{Method}
use Rattle.wac_wit_syntax.specs.declared.tree.MethodKind.{MethodKind}
use Rattle.wac_wit_syntax.specs.declared.tree.MethodKind.TheVariants as kind
use Rattle.wac_wit_syntax.specs.declared.tree.Signature.{Signature}
use Rattle.wac_wit_syntax.specs.declared.tree.TypeDef.TheVariants as def
use Rattle.wac_wit_syntax.specs.declared.tree.TypeExpr.{TypeExpr}
use Rattle.wac_wit_syntax.specs.declared.tree.TypeItem.{TypeItem}

-- what a function says that it returns, if it says that
pub data IsReturned (s : Setting) : Option TypeExpr → Option ValueTree → Type 0 where
  returns_nothing : IsReturned s None None
  returns : {t : TypeExpr} {v : ValueTree} → IsValue s t v → IsReturned s (Some t) (Some v)

-- each name with what is at its place
abbrev pub with_names : List Text → List ValueTree → List (Text × ValueTree)
with_names [] vs = []
with_names (n ∷ ns) [] = []
with_names (n ∷ ns) (v ∷ vs) = (n, v) ∷ with_names ns vs

-- the name of a resource's function (explainer, "Import and Export Definitions", `plainname`)
abbrev pub method_name : MethodKind → Text → Text → Text
method_name kind.Method r f = codes "[method]" ++ r ++ codes "." ++ f
method_name kind.Static r f = codes "[static]" ++ r ++ codes "." ++ f
method_name kind.Constructor r f = codes "[constructor]" ++ r

-- the parameter that a resource's function takes before its own: a method takes the resource
abbrev pub self_param : MethodKind → Text → List (Text × ValueTree)
self_param kind.Method root = (codes "self", node (borrow root) no_parts) ∷ []
self_param kind.Static root = []
self_param kind.Constructor root = []

-- what it returns where it doesn't say so: a constructor returns the resource
abbrev pub made : MethodKind → Text → Option ValueTree → Option ValueTree
made kind.Constructor root None = Some (node (own root) no_parts)
made k root o = o

-- what it returns, as it says, or the resource
abbrev pub IsMade : Setting → MethodKind → Text → Option TypeExpr → Option ValueTree → Type 0
IsMade s k root t v = (o : Option ValueTree) × IsReturned s t o × (v ≡ made k root o)

abbrev pub IsConstructed : Setting → Text → Option TypeExpr → Option ValueTree → Type 0
IsConstructed s root t v = IsMade s kind.Constructor root t v

-- the type of a function, with parameters before its own
pub record IsFuncOf (s : Setting) (sig : Signature) (before : List (Text × ValueTree)) («result» : Option ValueTree → Option ValueTree) (f : FuncTree) : Type 0 where
  pub params : List ValueTree
  pub are_params : AreFieldsOf s sig.params.items params
  pub named : f.params ≡ before ++ with_names (field_names sig.params.items) params
  pub returns : Option ValueTree
  pub are_returns : IsReturned s sig.returns returns
  pub given : f.«result» ≡ «result» returns
  pub is_async : f.is_async ≡ sig.is_async

-- the type of a function of a resource
abbrev pub IsMethodOf : Setting → Method → Text → FuncTree → Type 0
IsMethodOf s m root f = IsFuncOf s m.signature (self_param m.kind root) (made m.kind root) f

-- a function of a resource, which has its name
pub data HasMethod (s : Setting) : Text → FuncTree → Type 0 where
  of_resource : {f : FuncTree} (t : TypeItem) (ms : Vec Method Global) (m : Method) → Contains s.types t → IsEnabled s.sources t.gates
      → t.def ≡ def.Resource ms → Contains ms.items m → IsEnabled s.sources m.gates
      → IsMethodOf s m (type_name s t) f → HasMethod s (method_name m.kind (type_name s t) (ident_text m.name)) f
