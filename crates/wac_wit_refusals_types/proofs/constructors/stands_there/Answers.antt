use Rattle.wac_wit_refusals_types.specs.Constructors.{a_borrow, a_fixed_list, a_map, a_name, a_primitive, a_tuple, an_own}
use Rattle.wac_wit_refusals_types.proofs.ConstructorFacts.{stands_at}
use Rattle.wac_wit_refusals_types.proofs.constructors.stands_there.Goals as goal

pub returns-in-Primitive : goal.returns-in-Primitive
returns-in-Primitive c = λ h. stands_at c.args.ty.now _ _ c.args.span c.in-Primitive.is (c.is_at.ensures h) (a_primitive _ _)

pub returns-in-FixedList : goal.returns-in-FixedList
returns-in-FixedList c = λ h. stands_at c.args.ty.now _ _ c.args.span c.in-FixedList.is (c.is_at-in-FixedList.ensures h) (a_fixed_list _ _ _)

pub returns-in-Tuple : goal.returns-in-Tuple
returns-in-Tuple c = λ h. stands_at c.args.ty.now _ _ c.args.span c.in-Tuple.is (c.is_at-in-Tuple.ensures h) (a_tuple _ _)

pub returns-in-Map : goal.returns-in-Map
returns-in-Map c = λ h. stands_at c.args.ty.now _ _ c.args.span c.in-Map.is (c.is_at-in-Map.ensures h) (a_map _ _ _)

pub returns-in-Name : goal.returns-in-Name
returns-in-Name c = λ h. stands_at c.args.ty.now _ _ c.args.span c.in-Name.is (c.is_at-in-Name.ensures h) (a_name _)

pub returns-in-Own : goal.returns-in-Own
returns-in-Own c = λ h. stands_at c.args.ty.now _ _ c.args.span c.in-Own.is (c.is_at-in-Own.ensures h) (an_own _)

pub returns-in-Borrow : goal.returns-in-Borrow
returns-in-Borrow c = λ h. stands_at c.args.ty.now _ _ c.args.span c.in-Borrow.is (c.is_at-in-Borrow.ensures h) (a_borrow _)
