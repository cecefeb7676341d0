-- Whether two labels or two leaves are equal is decided.
use Rattle.std.proofs.Common.{◌≡◌, refl, ap, ℕ, Bool, List, [], ◌∷◌, Option, Some, None, slice_get}
use Rattle.std.specs.Option.{option_to_list}
use Rattle.std.proofs.Math.Decide.{ℕ_discrete, map_dec}
use Rattle.std.proofs.Math.Bool.{Bool-discrete}
use mathlib.Core.HLevel.{×_discrete}
use mathlib.Core.List.{List-discrete}
use Rattle.wac_model.specs.declared.primitive.PrimitiveType.{PrimitiveType}
use Rattle.wac_model.specs.declared.primitive.PrimitiveType.TheVariants.{U8, S8, U16, S16, U32, S32, U64, S64, F32, F64, Char, Bool as BoolType, String, ErrorContext}
use Rattle.wac_model.specs.Text.{Text}
use Rattle.wac_model.specs.CoreTree.{HeapTree-discrete, RefTree, CoreTypeTree, CoreTypeTree-discrete, CoreLabel, CoreLabel-discrete, LimitedLabel, LimitedLabel-discrete}
use Rattle.wac_model.specs.ValueTree.{ValueLabel, ValueLabel-discrete, ValueTree, ValueTree-discrete, FuncTree}
use Rattle.wac_model.specs.ItemTree.{Leaf, Leaf-discrete}

-- by what f makes of two values, where it makes different things of different ones
discrete_by : {A B : Type 0} (f : A → B) → ((x y : A) → f x ≡ f y → x ≡ y) → Discrete B → Discrete A
discrete_by f same d x y = map_dec (same x y) (ap f) (d (f x) (f y))

Option-discrete : {A : Type 0} → Discrete A → Discrete (Option A)
Option-discrete {A} d = discrete_by option_to_list same (List-discrete d)
  where
    same : (x y : Option A) → option_to_list x ≡ option_to_list y → x ≡ y
    same None None e = refl
    same None (Some y) e = absurd (cc)
    same (Some x) None e = absurd (cc)
    same (Some x) (Some y) e = cc

Text-discrete : Discrete Text
Text-discrete = List-discrete ℕ_discrete

primitives : List PrimitiveType
primitives = U8 ∷ S8 ∷ U16 ∷ S16 ∷ U32 ∷ S32 ∷ U64 ∷ S64 ∷ F32 ∷ F64 ∷ Char ∷ BoolType ∷ String ∷ ErrorContext ∷ []

number_of : PrimitiveType → ℕ
number_of U8 = 0
number_of S8 = 1
number_of U16 = 2
number_of S16 = 3
number_of U32 = 4
number_of S32 = 5
number_of U64 = 6
number_of S64 = 7
number_of F32 = 8
number_of F64 = 9
number_of Char = 10
number_of BoolType = 11
number_of String = 12
number_of ErrorContext = 13

at_number : (p : PrimitiveType) → slice_get primitives (number_of p) ≡ Some p
unfolding primitives number_of
at_number U8 = refl
at_number p = refl

Primitive-discrete : Discrete PrimitiveType
Primitive-discrete = discrete_by number_of (λ p q e. let f = at_number p in let g = at_number q in cc) ℕ_discrete

Label-discrete : Discrete ValueLabel
Label-discrete = ValueLabel-discrete Primitive-discrete Text-discrete ℕ_discrete Bool-discrete (List-discrete (×_discrete Text-discrete Bool-discrete)) (List-discrete Text-discrete)

Value-discrete : Discrete ValueTree
Value-discrete = ValueTree-discrete Label-discrete

Func-discrete : Discrete FuncTree
Func-discrete = discrete_by {B = List (Text × ValueTree) × (Option ValueTree × Bool)} (λ f. (f.params, (f.«result», f.is_async))) (λ f g e. λ i. record { params = (e i).0; «result» = (e i).1.0; is_async = (e i).1.1 })
    (×_discrete (List-discrete (×_discrete Text-discrete Value-discrete)) (×_discrete (Option-discrete Value-discrete) Bool-discrete))

Ref-discrete : Discrete RefTree
Ref-discrete = discrete_by (λ r. (r.nullable, r.heap_type)) (λ r s e. λ i. record { nullable = (e i).0; heap_type = (e i).1 }) (×_discrete Bool-discrete (HeapTree-discrete ℕ_discrete))

CoreType-discrete : Discrete CoreTypeTree
CoreType-discrete = CoreTypeTree-discrete Ref-discrete

pub Core-discrete : Discrete CoreLabel
Core-discrete = CoreLabel-discrete (List-discrete CoreType-discrete) CoreType-discrete Bool-discrete

pub Limited-discrete : Discrete LimitedLabel
Limited-discrete = LimitedLabel-discrete Ref-discrete Bool-discrete (Option-discrete ℕ_discrete)

pub leaves_decided : Discrete Leaf
leaves_decided = Leaf-discrete Text-discrete Func-discrete Value-discrete
