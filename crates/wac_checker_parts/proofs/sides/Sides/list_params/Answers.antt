use Rattle.std.proofs.Common.{◌≡◌, ◌∙◌, ◌+◌, Ok, string_bytes, Some, refl, ap, arith}
use Rattle.wac_component.proofs.Members.{AllStand-member}
use Rattle.wac_component.specs.Height.{keys_height}
use Rattle.wac_checker_parts.specs.Listing.{func_side}
use Rattle.wac_checker_parts.proofs.DefinedListing.{length-named}
use Rattle.wac_checker_parts.proofs.ListingLemmas.{not_whole, halted, turn_at, turn_last}
use Rattle.wac_component.specs.Content.{types_of, func_content}
use Rattle.wac_component.specs.Key.{func_keys}
use Rattle.wac_component.specs.Tree.{func_content_tree}
use Rattle.wac_checker_parts.proofs.NameLemmas.{same_text, other_text}
use Rattle.wac_checker_parts.proofs.DifferenceLemmas.{param_names_differ}
use Rattle.wac_checker_parts.proofs.FuncLemmas.{params_stand, param_lower}
use Rattle.wac_checker_parts.proofs.FuncPartLemmas.{params_at}
use Rattle.wac_checker_parts.proofs.sides.Sides.list_params.Goals as goal

pub returns-then-ne-clause-listed : goal.returns-then-ne-clause-listed
returns-then-ne-clause-listed c = λ k. ((c.loop-i.invariant.turn k).0, param_names_differ k c.args.self.now.left.now c.args.self.now.right.now (func_content_tree c.args.self.now.left.now (func_content c.args.a.now)) (func_content_tree c.args.self.now.right.now (func_content c.args.b.now)) c.args.a.now.params.entries c.args.b.now.params.entries c.loop-i.i c.entry_at.result.0 c.entry_at-in-loop-i.result.0 refl refl (other_text c.entry_at.result.0.now c.entry_at-in-loop-i.result.0.now c.ne.result c.ne.ensures c.if-ne.true) c.entry_at.ensures.name c.entry_at-in-loop-i.ensures.name)

pub list_values-requires-clause-left : goal.list_values-requires-clause-left
list_values-requires-clause-left c = AllStand-member c.args.self.now.left.now (types_of c.args.a.now.params.entries) c.loop-i.i c.entry_at.result.1.now c.entry_at.ensures.ty (params_stand c.args.self.now.left.now c.args.a.now c.requires.left)

pub list_values-requires-clause-right : goal.list_values-requires-clause-right
list_values-requires-clause-right c = AllStand-member c.args.self.now.right.now (types_of c.args.b.now.params.entries) c.loop-i.i c.entry_at-in-loop-i.result.1.now c.entry_at-in-loop-i.ensures.ty (params_stand c.args.self.now.right.now c.args.b.now c.requires.right)

pub returns-in_err-list_values-clause-listed : goal.returns-in_err-list_values-clause-listed
returns-in_err-list_values-clause-listed c =
    rw (halted c.from_residual.result c.list_values.result c.in_err-list_values.field-0.0 c.from_residual.ensures.1 c.in_err-list_values.was) (λ k.
    let same_name : string_bytes c.entry_at.result.0.now ≡ string_bytes c.entry_at-in-loop-i.result.0.now = same_text c.entry_at.result.0.now c.entry_at-in-loop-i.result.0.now c.ne.result c.ne.ensures c.if-ne.false in
    let left = param_lower c.args.self.now.left.now c.args.a.now c.loop-i.i c.entry_at.result.1.now c.entry_at.ensures.ty in
    let right = param_lower c.args.self.now.right.now c.args.b.now c.loop-i.i c.entry_at-in-loop-i.result.1.now c.entry_at-in-loop-i.ensures.ty in
    turn_at c.args.self.now.left.now c.args.self.now.right.now c.args.self.now.swapped (func_side k c.args.self.now.left.now (func_content c.args.a.now)) (func_side k c.args.self.now.right.now (func_content c.args.b.now)) (keys_height c.args.self.now.left.now (func_keys (func_content c.args.a.now)) + 1) (keys_height c.args.self.now.right.now (func_keys (func_content c.args.b.now)) + 1) (c.loop-i.i + 1) _ c.list_values.new.parts.items c.list_values.result (not_whole c.list_values.result c.in_err-list_values.field-0.0 c.in_err-list_values.was) (turn_last c.args.self.now.left.now c.args.self.now.right.now c.args.self.now.swapped (func_side k c.args.self.now.left.now (func_content c.args.a.now)) (func_side k c.args.self.now.right.now (func_content c.args.b.now)) (keys_height c.args.self.now.left.now (func_keys (func_content c.args.a.now)) + 1) (keys_height c.args.self.now.right.now (func_keys (func_content c.args.b.now)) + 1) c.loop-i.i c.entry_at.result.1.now c.entry_at-in-loop-i.result.1.now c.loop-i.parts.items c.list_values.new.parts.items (omega arith) (params_at c.args.self.now.left.now c.args.self.now.right.now (func_content_tree c.args.self.now.left.now (func_content c.args.a.now)) (func_content_tree c.args.self.now.right.now (func_content c.args.b.now)) c.args.a.now.params.entries c.args.b.now.params.entries c.loop-i.i (string_bytes c.entry_at-in-loop-i.result.0.now) c.entry_at.result.1.now c.entry_at-in-loop-i.result.1.now k refl refl (omega arith) (omega arith) (c.entry_at.ensures.name ∙ ap Some same_name) c.entry_at-in-loop-i.ensures.name c.entry_at.ensures.ty c.entry_at-in-loop-i.ensures.ty (rw same_name at c.entry_at.ensures.lookup) c.entry_at-in-loop-i.ensures.lookup) (omega (arith, left)) (omega (arith, right)) c.list_values.result c.list_values.ensures.listed (c.loop-i.invariant.turn k)))

pub loop-i-preserved : goal.loop-i-preserved
loop-i-preserved c = record {
  turn = λ k.
      let same_name : string_bytes c.entry_at.result.0.now ≡ string_bytes c.entry_at-in-loop-i.result.0.now = same_text c.entry_at.result.0.now c.entry_at-in-loop-i.result.0.now c.ne.result c.ne.ensures c.if-ne.false in
      let left = param_lower c.args.self.now.left.now c.args.a.now c.loop-i.i c.entry_at.result.1.now c.entry_at.ensures.ty in
      let right = param_lower c.args.self.now.right.now c.args.b.now c.loop-i.i c.entry_at-in-loop-i.result.1.now c.entry_at-in-loop-i.ensures.ty in
      turn_last c.args.self.now.left.now c.args.self.now.right.now c.args.self.now.swapped (func_side k c.args.self.now.left.now (func_content c.args.a.now)) (func_side k c.args.self.now.right.now (func_content c.args.b.now)) (keys_height c.args.self.now.left.now (func_keys (func_content c.args.a.now)) + 1) (keys_height c.args.self.now.right.now (func_keys (func_content c.args.b.now)) + 1) c.loop-i.i c.entry_at.result.1.now c.entry_at-in-loop-i.result.1.now c.loop-i.parts.items c.list_values.new.parts.items (omega arith) (params_at c.args.self.now.left.now c.args.self.now.right.now (func_content_tree c.args.self.now.left.now (func_content c.args.a.now)) (func_content_tree c.args.self.now.right.now (func_content c.args.b.now)) c.args.a.now.params.entries c.args.b.now.params.entries c.loop-i.i (string_bytes c.entry_at-in-loop-i.result.0.now) c.entry_at.result.1.now c.entry_at-in-loop-i.result.1.now k refl refl (omega arith) (omega arith) (c.entry_at.ensures.name ∙ ap Some same_name) c.entry_at-in-loop-i.ensures.name c.entry_at.ensures.ty c.entry_at-in-loop-i.ensures.ty (rw same_name at c.entry_at.ensures.lookup) c.entry_at-in-loop-i.ensures.lookup) (omega (arith, left)) (omega (arith, right)) (Ok tt) c.in_ok-list_values.ensures.listed (c.loop-i.invariant.turn k);
  kept = c.list_values.ensures.kept ∙ c.loop-i.invariant.kept;
}

pub returns-clause-listed : goal.returns-clause-listed
returns-clause-listed c = λ k. ((c.loop-i.invariant.turn k).0, λ all j b. (c.loop-i.invariant.turn k).1 all j (let count = length-named c.args.a.now.params.entries in omega (arith, b, count)))
