use Rattle.std.proofs.Common.{◌+◌, ◌∙◌, Err, length, refl, sym, subst₂, arith}
use Rattle.wac_component.specs.Id.{Id}
use Rattle.wac_component.specs.Content.{func_content}
use Rattle.wac_component.specs.Height.{keys_height}
use Rattle.wac_component.specs.Key.{func_keys}
use Rattle.wac_component.specs.Tree.{func_content_tree}
use Rattle.wac_checker_parts.specs.Pairs.{Funcs}
use Rattle.wac_checker_parts.specs.Listing.{IsTurn, func_side}
use Rattle.wac_checker_parts.proofs.DefinedListing.{func_results}
use Rattle.wac_checker_parts.proofs.DifferenceLemmas.{asyncs_differ, param_counts_differ}
use Rattle.wac_checker_parts.proofs.FuncLemmas.{length-params, result_stands}
use Rattle.wac_mismatch.specs.declared.difference.Difference.TheVariants as difference
use Rattle.wac_checker_parts.specs.declared.parts.Halt.TheVariants as halt
use Rattle.wac_checker_parts.proofs.ListingLemmas.{func_turn, none_listed, not_whole, halted, turn_other}
use Rattle.wac_checker_parts.proofs.sides.Sides.list_func.Goals as goal

pub list_optional-requires-clause-left : goal.list_optional-requires-clause-left
list_optional-requires-clause-left c = result_stands c.args.self.now.left.now c.index-left.result.now c.index-left.ensures.standing

pub list_optional-requires-clause-right : goal.list_optional-requires-clause-right
list_optional-requires-clause-right c = result_stands c.args.self.now.right.now c.index-right.result.now c.index-right.ensures.standing

pub returns-clause-listed : goal.returns-clause-listed
returns-clause-listed c = subst₂ (λ (a b : Id). IsTurn c.args.self.now.left.now c.args.self.now.right.now c.args.self.now.swapped (Funcs a b) c.list_optional.new.parts.items c.list_optional.result) c.func_at-a.ensures c.func_at-b.ensures (func_turn c.args.self.now.left.now c.args.self.now.right.now c.args.self.now.swapped c.func_at-a.result c.func_at-b.result (func_content c.index-left.result.now) (func_content c.index-right.result.now) c.list_optional.new.parts.items c.index-left.ensures.tree c.index-right.ensures.tree c.index-left.ensures.lower c.index-right.ensures.lower c.list_optional.result (func_results c.args.self.now.left.now c.args.self.now.right.now c.args.self.now.swapped c.index-left.result.now c.index-right.result.now c.list_params.new.parts.items c.list_optional.new.parts.items c.list_optional.result (grind arith) (omega arith) (omega arith) c.in_ok-list_params.ensures.listed (rw (c.len-count.ensures.len, c.is_some.ensures, c.is_some-2.ensures) at c.list_optional.ensures.listed)))

pub returns-in_err-list_params-clause-listed : goal.returns-in_err-list_params-clause-listed
returns-in_err-list_params-clause-listed c = rw (halted c.from_residual.result c.list_params.result c.in_err-list_params.field-0.0 c.from_residual.ensures.1 c.in_err-list_params.was) (subst₂ (λ (a b : Id). IsTurn c.args.self.now.left.now c.args.self.now.right.now c.args.self.now.swapped (Funcs a b) c.list_params.new.parts.items c.list_params.result) c.func_at-a.ensures c.func_at-b.ensures (func_turn c.args.self.now.left.now c.args.self.now.right.now c.args.self.now.swapped c.func_at-a.result c.func_at-b.result (func_content c.index-left.result.now) (func_content c.index-right.result.now) c.list_params.new.parts.items c.index-left.ensures.tree c.index-right.ensures.tree c.index-left.ensures.lower c.index-right.ensures.lower c.list_params.result (λ j. turn_other c.args.self.now.left.now c.args.self.now.right.now c.args.self.now.swapped (func_side j c.args.self.now.left.now (func_content c.index-left.result.now)) (func_side j c.args.self.now.right.now (func_content c.index-right.result.now)) (keys_height c.args.self.now.left.now (func_keys (func_content c.index-left.result.now)) + 1) (keys_height c.args.self.now.right.now (func_keys (func_content c.index-right.result.now)) + 1) (length (func_content c.index-left.result.now).params) c.list_params.new.parts.items c.list_params.result (not_whole c.list_params.result c.in_err-list_params.field-0.0 c.in_err-list_params.was) (c.list_params.ensures.listed j))))

pub returns-then-left-right-clause-listed : goal.returns-then-left-right-clause-listed
returns-then-left-right-clause-listed c = subst₂ (λ (a b : Id). IsTurn c.args.self.now.left.now c.args.self.now.right.now c.args.self.now.swapped (Funcs a b) c.args.parts.now.items (Err (halt.Apart (difference.Async c.index-left.result.now.is_async c.index-right.result.now.is_async)))) c.func_at-a.ensures c.func_at-b.ensures (func_turn c.args.self.now.left.now c.args.self.now.right.now c.args.self.now.swapped c.func_at-a.result c.func_at-b.result (func_content c.index-left.result.now) (func_content c.index-right.result.now) c.args.parts.now.items c.index-left.ensures.tree c.index-right.ensures.tree c.index-left.ensures.lower c.index-right.ensures.lower (Err (halt.Apart (difference.Async c.index-left.result.now.is_async c.index-right.result.now.is_async))) (λ j. (none_listed c.args.self.now.left.now c.args.self.now.right.now c.args.self.now.swapped (func_side j c.args.self.now.left.now (func_content c.index-left.result.now)) (func_side j c.args.self.now.right.now (func_content c.index-right.result.now)) (keys_height c.args.self.now.left.now (func_keys (func_content c.index-left.result.now)) + 1) (keys_height c.args.self.now.right.now (func_keys (func_content c.index-right.result.now)) + 1) c.args.parts.now.items c.requires.none, asyncs_differ j (func_content_tree c.args.self.now.left.now (func_content c.index-left.result.now)) (func_content_tree c.args.self.now.right.now (func_content c.index-right.result.now)) c.index-left.result.now.is_async c.index-right.result.now.is_async refl refl (grind arith))))

pub returns-then-count-others-clause-listed : goal.returns-then-count-others-clause-listed
returns-then-count-others-clause-listed c = subst₂ (λ (a b : Id). IsTurn c.args.self.now.left.now c.args.self.now.right.now c.args.self.now.swapped (Funcs a b) c.args.parts.now.items (Err (halt.Apart (difference.ParamCount c.len-count.result c.len-others.result)))) c.func_at-a.ensures c.func_at-b.ensures (func_turn c.args.self.now.left.now c.args.self.now.right.now c.args.self.now.swapped c.func_at-a.result c.func_at-b.result (func_content c.index-left.result.now) (func_content c.index-right.result.now) c.args.parts.now.items c.index-left.ensures.tree c.index-right.ensures.tree c.index-left.ensures.lower c.index-right.ensures.lower (Err (halt.Apart (difference.ParamCount c.len-count.result c.len-others.result))) (λ j. (none_listed c.args.self.now.left.now c.args.self.now.right.now c.args.self.now.swapped (func_side j c.args.self.now.left.now (func_content c.index-left.result.now)) (func_side j c.args.self.now.right.now (func_content c.index-right.result.now)) (keys_height c.args.self.now.left.now (func_keys (func_content c.index-left.result.now)) + 1) (keys_height c.args.self.now.right.now (func_keys (func_content c.index-right.result.now)) + 1) c.args.parts.now.items c.requires.none, param_counts_differ j (func_content_tree c.args.self.now.left.now (func_content c.index-left.result.now)) (func_content_tree c.args.self.now.right.now (func_content c.index-right.result.now)) c.len-count.result c.len-others.result (c.len-count.ensures.len ∙ sym (length-params c.args.self.now.left.now c.index-left.result.now.params.entries)) (c.len-others.ensures.len ∙ sym (length-params c.args.self.now.right.now c.index-right.result.now.params.entries)) (λ e. absurd (omega (arith, e, c.if-count-others.true))))))
