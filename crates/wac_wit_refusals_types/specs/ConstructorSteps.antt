-- What is known while constructors are looked at.
use Rattle.std.specs.Prelude.{◌≡◌, Box, Option, Some}
use Rattle.std.specs.declared.alloc.Global.{Global}
use Rattle.wac_model.specs.Text.{Text}
use Rattle.wac_wit_refusals_types.specs.Constructors.{IsConstructedType, IsHandleNamed, IsReturnedPlace, StandsThere}
use Rattle.wac_wit_refusals_sites.specs.declared.type_items.PlacedMethod.{PlacedMethod}
use Rattle.wac_wit_scopes.specs.WitSources.{ident_text}
use Rattle.wac_wit_syntax.specs.declared.positions.Span.{Span}
use Rattle.wac_wit_syntax.specs.declared.tree.MethodKind.TheVariants.{Constructor}
use Rattle.wac_wit_syntax.specs.declared.tree.TypeExpr.{TypeExpr}

-- a type isn't written as the resource of a function, and stands at a place
pub record ReturnsOtherType (p : PlacedMethod) (e : TypeExpr) (span : Span) : Type 0 where
  pub other : IsConstructedType e (ident_text p.resource.now.name) → ⊥
  pub place : IsReturnedPlace p.method.now e span

-- it is a constructor that returns such a type
pub record ReturnsOther (p : PlacedMethod) (span : Span) : Type 0 where
  pub kind : p.method.now.kind ≡ Constructor
  pub returned : TypeExpr
  pub returns : p.method.now.signature.returns ≡ Some returned
  pub other : ReturnsOtherType p returned span

-- what a `result` has
abbrev pub HasNamedOk : Option (Box TypeExpr Global) → Text → Type 0
HasNamedOk o n = (t : Box TypeExpr Global) × (o ≡ Some t) × IsHandleNamed t.value n

abbrev pub HasOkThere : Option (Box TypeExpr Global) → Span → Type 0
HasOkThere o span = (t : Box TypeExpr Global) × (o ≡ Some t) × StandsThere t.value span
