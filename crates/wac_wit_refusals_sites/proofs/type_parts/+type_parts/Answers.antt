use Rattle.std.proofs.Common.{Contains, List, refl, subst, sym}
use Rattle.wac_wit_refusals_sites.specs.TypeLists.{AreElementsIn, IsOptionalIn}
use Rattle.wac_wit_refusals_sites.specs.TypeSites.{IsPart, IsWritten, of_err, of_fixed_list, of_future, of_key, of_list, of_ok, of_option, of_stream, of_tuple, of_value}
use Rattle.wac_wit_syntax.specs.declared.tree.TypeExpr.{TypeExpr}
use Rattle.wac_wit_syntax.specs.declared.tree.TypeExpr.TheVariants as ty
use Rattle.wac_wit_refusals_sites.proofs.TypeFacts.{among_read}
use Rattle.wac_wit_refusals_sites.proofs.WrittenFacts.{optional_part, pushed_both, pushed_then, written_part}
use Rattle.wac_wit_refusals_sites.proofs.type_parts.+type_parts.Goals as goal

pub push_type-returns-in-List : goal.push_type-returns-in-List
push_type-returns-in-List t c = pushed_then c.args.ty.now c.args.types.now.items c.push.new.self.items c.args.ty c.in_ok-push.ensures.items refl c.push_type.result (λ s. IsWritten s c.deref.result.now) c.push_type.new.types.items (λ s w. written_part s c.args.ty.now _ c.in-List.of.value _ c.in-List.is c.deref.ensures (of_list c.in-List.of) w) c.push_type.ensures

pub push_type-returns-in-FixedList : goal.push_type-returns-in-FixedList
push_type-returns-in-FixedList t c = pushed_then c.args.ty.now c.args.types.now.items c.push.new.self.items c.args.ty c.in_ok-push.ensures.items refl c.push_type-in-FixedList.result (λ s. IsWritten s c.deref-in-FixedList.result.now) c.push_type-in-FixedList.new.types.items (λ s w. written_part s c.args.ty.now _ c.in-FixedList.of.value _ c.in-FixedList.is c.deref-in-FixedList.ensures (of_fixed_list c.in-FixedList.of c.in-FixedList.field-1 c.in-FixedList.field-2) w) c.push_type-in-FixedList.ensures

pub push_type-returns-in-Option : goal.push_type-returns-in-Option
push_type-returns-in-Option t c = pushed_then c.args.ty.now c.args.types.now.items c.push.new.self.items c.args.ty c.in_ok-push.ensures.items refl c.push_type-in-Option.result (λ s. IsWritten s c.deref-in-Option.result.now) c.push_type-in-Option.new.types.items (λ s w. written_part s c.args.ty.now _ c.in-Option.of.value _ c.in-Option.is c.deref-in-Option.ensures (of_option c.in-Option.of) w) c.push_type-in-Option.ensures

pub push_type-returns-in-Future : goal.push_type-returns-in-Future
push_type-returns-in-Future t c = pushed_then c.args.ty.now c.args.types.now.items c.push.new.self.items c.args.ty c.in_ok-push.ensures.items refl c.push_optional-in-Future.result (λ s. IsOptionalIn s c.in-Future.of) c.push_optional-in-Future.new.types.items (λ s w. optional_part s c.args.ty.now _ c.in-Future.of c.in-Future.is (λ b at. subst (λ o. IsPart (ty.Future o) b.value) (sym at) (of_future b)) w) c.push_optional-in-Future.ensures

pub push_type-returns-in-Stream : goal.push_type-returns-in-Stream
push_type-returns-in-Stream t c = pushed_then c.args.ty.now c.args.types.now.items c.push.new.self.items c.args.ty c.in_ok-push.ensures.items refl c.push_optional-in-Stream.result (λ s. IsOptionalIn s c.in-Stream.of) c.push_optional-in-Stream.new.types.items (λ s w. optional_part s c.args.ty.now _ c.in-Stream.of c.in-Stream.is (λ b at. subst (λ o. IsPart (ty.Stream o) b.value) (sym at) (of_stream b)) w) c.push_optional-in-Stream.ensures

pub push_type-returns-in-Tuple : goal.push_type-returns-in-Tuple
push_type-returns-in-Tuple t c = pushed_then c.args.ty.now c.args.types.now.items c.push.new.self.items c.args.ty c.in_ok-push.ensures.items refl c.push_elements.result (λ s. AreElementsIn s c.deref-in-Tuple.result.now) c.push_elements.new.types.items
    (λ s w e among. written_part s c.args.ty.now _ e e c.in-Tuple.is refl (of_tuple c.in-Tuple.elements c.in-Tuple.field-1 e (subst (λ (es : List TypeExpr). Contains es e) c.deref-in-Tuple.ensures.value among)) w) c.push_elements.ensures

pub push_type-returns-in_ok-push_optional-in-Result : goal.push_type-returns-in_ok-push_optional-in-Result
push_type-returns-in_ok-push_optional-in-Result t c = pushed_both c.args.ty.now c.args.types.now.items c.push.new.self.items c.args.ty c.in_ok-push.ensures.items refl c.push_optional-in-Result.result (λ s. IsOptionalIn s c.in-Result.ok) (λ s. IsOptionalIn s c.in-Result.err) c.push_optional.new.types.items c.push_optional-in-Result.new.types.items
    (λ s w. optional_part s c.args.ty.now _ c.in-Result.ok c.in-Result.is (λ b at. subst (λ o. IsPart (ty.Result o c.in-Result.err) b.value) (sym at) (of_ok b c.in-Result.err)) w)
    (λ s w. optional_part s c.args.ty.now _ c.in-Result.err c.in-Result.is (λ b at. subst (λ o. IsPart (ty.Result c.in-Result.ok o) b.value) (sym at) (of_err c.in-Result.ok b)) w)
    c.in_ok-push_optional-in-Result.ensures c.push_optional-in-Result.ensures

pub push_type-returns-in_ok-push_type-in-Map : goal.push_type-returns-in_ok-push_type-in-Map
push_type-returns-in_ok-push_type-in-Map t c = pushed_both c.args.ty.now c.args.types.now.items c.push.new.self.items c.args.ty c.in_ok-push.ensures.items refl c.push_type-in-Map-2.result (λ s. IsWritten s c.deref-in-Map.result.now) (λ s. IsWritten s c.deref-in-Map-2.result.now) c.push_type-in-Map.new.types.items c.push_type-in-Map-2.new.types.items
    (λ s w. written_part s c.args.ty.now _ c.in-Map.key.value _ c.in-Map.is c.deref-in-Map.ensures (of_key c.in-Map.key c.in-Map.value c.in-Map.field-2) w)
    (λ s w. written_part s c.args.ty.now _ c.in-Map.value.value _ c.in-Map.is c.deref-in-Map-2.ensures (of_value c.in-Map.key c.in-Map.value c.in-Map.field-2) w)
    c.in_ok-push_type-in-Map.ensures c.push_type-in-Map-2.ensures

pub push_elements-loop-element-preserved : goal.push_elements-loop-element-preserved
push_elements-loop-element-preserved t c = λ s elements all. c.in_ok-push_type.ensures s (elements c.element-item.result (among_read c.args.elements.now c.loop-element.element-index c.element-item.result c.loop-element-test.true c.element-item.is)) (c.loop-element.invariant s elements all)

pub push_elements-returns : goal.push_elements-returns
push_elements-returns t c = c.loop-element.invariant
