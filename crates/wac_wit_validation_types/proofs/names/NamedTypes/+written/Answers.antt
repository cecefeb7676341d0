use Rattle.std.proofs.Common.{refl, sym, subst, map, ◌∙◌}
use Rattle.wac_component.specs.declared.items.ValueType.TheVariants.{Primitive}
use Rattle.wac_component.specs.Tree.{value_tree}
use Rattle.wac_wit_validation_types.specs.Denoted.{IsValue, a_list, a_map, a_primitive, a_tuple, an_option, fixed_list, no_values, nothing, something}
use Rattle.wac_wit_validation_types.proofs.ValueFacts.{AreValuesOf-all, AreValuesOf-more, future-value, result-value, stream-value, value_exact}
use Rattle.wac_wit_validation_types.proofs.names.NamedTypes.+written.Goals as goal

pub is_composed-returns-in-List-List : goal.is_composed-returns-in-List-List
is_composed-returns-in-List-List t c = λ h s all. rw (c.in-List-List.is-0, c.in-List-List.is-1) (a_list (subst (λ e. IsValue s e (value_tree c.args.self.now.types.now c.in-List-List.of)) c.deref.ensures (c.is_value.ensures h s all)))

pub is_composed-returns-in-Option-Option : goal.is_composed-returns-in-Option-Option
is_composed-returns-in-Option-Option t c = λ h s all. rw (c.in-Option-Option.is-0, c.in-Option-Option.is-1) (an_option (subst (λ e. IsValue s e (value_tree c.args.self.now.types.now c.in-Option-Option.of)) c.deref-in-Option-Option.ensures (c.is_value-in-Option-Option.ensures h s all)))

pub is_composed-returns-then-length-size : goal.is_composed-returns-then-length-size
is_composed-returns-then-length-size t c = λ h s all. rw (c.in-FixedList-FixedSizeList.is-0, c.in-FixedList-FixedSizeList.is-1, sym c.if-length-size.true) (fixed_list (subst (λ e. IsValue s e (value_tree c.args.self.now.types.now c.in-FixedList-FixedSizeList.of)) c.deref-then-length-size.ensures (c.is_value-then-length-size.ensures h s all)))

pub is_composed-returns-then-is_optional : goal.is_composed-returns-then-is_optional
is_composed-returns-then-is_optional t c = λ h s all. rw (c.in-Result-Result.is-0, c.in-Result-Result.is-1) (result-value s (value_tree c.args.self.now.types.now) c.in-Result-Result.ok c.in-Result-Result.err c.in-Result-Result.x c.in-Result-Result.y (c.if-is_optional.ensures refl s all) (c.is_optional-then-is_optional.ensures h s all))

pub is_composed-returns-in-Tuple-Tuple : goal.is_composed-returns-in-Tuple-Tuple
is_composed-returns-in-Tuple-Tuple t c = λ h s all. rw (c.in-Tuple-Tuple.is-0, c.in-Tuple-Tuple.is-1) (a_tuple {s = s} c.in-Tuple-Tuple.types {vs = map (value_tree c.args.self.now.types.now) c.in-Tuple-Tuple.of.items} (rw (← c.deref-in-Tuple-Tuple.ensures.value, ← c.deref-in-Tuple-Tuple-2.ensures.value) (c.are_values.ensures h s all)))

pub is_composed-returns-then-is_value : goal.is_composed-returns-then-is_value
is_composed-returns-then-is_value t c = λ h s all. rw (c.in-Map-Map.is-0, c.in-Map-Map.is-1) (a_map (subst (λ e. IsValue s e (value_tree c.args.self.now.types.now c.in-Map-Map.k)) c.deref-in-Map-Map.ensures (c.if-is_value.ensures refl s all)) (subst (λ e. IsValue s e (value_tree c.args.self.now.types.now c.in-Map-Map.of)) c.deref-then-is_value.ensures (c.is_value-then-is_value.ensures h s all)))

pub is_composed-returns-in-Future-Future : goal.is_composed-returns-in-Future-Future
is_composed-returns-in-Future-Future t c = λ h s all. rw (c.in-Future-Future.is-0, c.in-Future-Future.is-1) (future-value s (value_tree c.args.self.now.types.now) c.in-Future-Future.ty c.in-Future-Future.of (c.is_optional-in-Future-Future.ensures h s all))

pub is_composed-returns-in-Stream-Stream : goal.is_composed-returns-in-Stream-Stream
is_composed-returns-in-Stream-Stream t c = λ h s all. rw (c.in-Stream-Stream.is-0, c.in-Stream-Stream.is-1) (stream-value s (value_tree c.args.self.now.types.now) c.in-Stream-Stream.ty c.in-Stream-Stream.of (c.is_optional-in-Stream-Stream.ensures h s all))

pub is_optional-returns-in-Some-Some : goal.is_optional-returns-in-Some-Some
is_optional-returns-in-Some-Some t c = λ h s all. rw (c.in-Some-Some.is-0, c.in-Some-Some.is-1) (something (subst (λ e. IsValue s e (value_tree c.args.self.now.types.now c.in-Some-Some.of)) c.deref.ensures (c.is_value.ensures h s all)))

pub is_optional-returns-in-None-None : goal.is_optional-returns-in-None-None
is_optional-returns-in-None-None t c = λ h s all. rw (c.in-None-None.is-0, c.in-None-None.is-1) nothing

pub is_value-returns-in-Primitive : goal.is_value-returns-in-Primitive
is_value-returns-in-Primitive t c = λ h s all. rw (c.in-Primitive.is, value_exact c.args.of.now (Primitive c.in-Primitive.primitive) (sym c.eq.ensures ∙ h)) a_primitive

pub is_value-returns-in-Name : goal.is_value-returns-in-Name
is_value-returns-in-Name t c = λ h s all. rw c.in-Name.is (c.is_name.ensures h s all)

pub is_value-returns-in-Own : goal.is_value-returns-in-Own
is_value-returns-in-Own t c = λ h s all. rw c.in-Own.is (c.is_own.ensures.owned h s all)

pub is_value-returns-in-Borrow : goal.is_value-returns-in-Borrow
is_value-returns-in-Borrow t c = λ h s all. rw c.in-Borrow.is (c.is_borrow.ensures h s all)

pub is_value-returns-in-Some : goal.is_value-returns-in-Some
is_value-returns-in-Some t c = λ h s all. rw c.in-Some.ensures (c.is_composed.ensures h s all)

pub are_values-loop-index-init : goal.are_values-loop-index-init
are_values-loop-index-init t c = λ s all. no_values

pub are_values-loop-index-preserved : goal.are_values-loop-index-preserved
are_values-loop-index-preserved t c = λ s all.
    AreValuesOf-more s c.args.self.now.types.now c.args.types.now c.args.of.now c.loop-index.index c.index-types-index.result c.in-Some.of.now c.loop-index-test.true c.in-Some.ensures.lookup.0 c.index-types-index.is c.in-Some.ensures.lookup.1
    (c.loop-index.invariant s all) (c.if-not-is_value.ensures refl s all)

pub are_values-returns : goal.are_values-returns
are_values-returns t c = λ h s all. AreValuesOf-all s c.args.self.now.types.now c.args.types.now c.args.of.now c.loop-index.index c.loop-index-test.false c.if-types-of.false (c.loop-index.invariant s all)
