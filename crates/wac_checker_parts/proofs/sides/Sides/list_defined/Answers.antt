use Rattle.std.proofs.Common.{◌≡◌, Err, ◌+◌, ◌∷◌, [], List, map, subst₂, arith}
use Rattle.wac_component.specs.Height.{keys_height}
use Rattle.wac_component.specs.Key.{defined_keys}
use Rattle.wac_component.specs.Tree.{content_tree, value_tree}
use Rattle.wac_mismatch.specs.Place.{value_side}
use Rattle.wac_component.specs.Id.{Id}
use Rattle.wac_model.specs.ValueTree.{parts_of, tuple}
use Rattle.wac_component.specs.declared.items.ValueType.{ValueType}
use Rattle.wac_component.specs.Content.{defined_content}
use Rattle.wac_component.specs.declared.defined.DefinedType.TheVariants as of
use Rattle.wac_checker_parts.specs.Pairs.{DefinedTypes}
use Rattle.wac_checker_parts.specs.Listing.{AreComposed, IsTurn}
use Rattle.wac_mismatch.specs.declared.difference.Difference.TheVariants as difference
use Rattle.wac_checker_parts.specs.declared.parts.Halt.TheVariants as halt
use Rattle.wac_checker_parts.proofs.DefinedListing.{enums_turn, flags_turn, map_keys, map_values, others_turn, result_errs, result_oks}
use Rattle.wac_checker_parts.proofs.DifferenceLemmas.{sizes_differ}
use Rattle.wac_checker_parts.proofs.ListingLemmas.{defined_turn, fixed_turn, list_turn, none_listed, not_whole, option_turn, halted}
use Rattle.wac_checker_parts.proofs.sides.Sides.list_defined.Goals as goal

pub returns-in-Tuple-Tuple-clause-listed : goal.returns-in-Tuple-Tuple-clause-listed
returns-in-Tuple-Tuple-clause-listed c = subst₂ (λ (a b : Id). IsTurn c.args.self.now.left.now c.args.self.now.right.now c.args.self.now.swapped (DefinedTypes a b) c.list_items.new.parts.items c.list_items.result) c.defined_at-a.ensures c.defined_at-b.ensures (defined_turn c.args.self.now.left.now c.args.self.now.right.now c.args.self.now.swapped c.defined_at-a.result c.defined_at-b.result (defined_content (of.Tuple c.in-Tuple-Tuple.x)) (defined_content (of.Tuple c.in-Tuple-Tuple.y)) c.list_items.new.parts.items (rw c.in-Tuple-Tuple.is-0 at c.index.ensures.tree) (rw c.in-Tuple-Tuple.is-1 at c.index-2.ensures.tree) (rw c.in-Tuple-Tuple.is-0 at c.index.ensures.lower) (rw c.in-Tuple-Tuple.is-1 at c.index-2.ensures.lower) c.list_items.result (subst₂ (λ (u v : List ValueType). AreComposed c.args.self.now.left.now c.args.self.now.right.now c.args.self.now.swapped tuple u tuple v c.list_items.new.parts.items c.list_items.result) c.deref.ensures.value c.deref-in-Tuple-Tuple.ensures.value c.list_items.ensures.listed))

pub returns-in-List-List-clause-listed : goal.returns-in-List-List-clause-listed
returns-in-List-List-clause-listed c = subst₂ (λ (a b : Id). IsTurn c.args.self.now.left.now c.args.self.now.right.now c.args.self.now.swapped (DefinedTypes a b) c.list_values.new.parts.items c.list_values.result) c.defined_at-a.ensures c.defined_at-b.ensures (defined_turn c.args.self.now.left.now c.args.self.now.right.now c.args.self.now.swapped c.defined_at-a.result c.defined_at-b.result (defined_content (of.List c.in-List-List.x)) (defined_content (of.List c.in-List-List.y)) c.list_values.new.parts.items (rw c.in-List-List.is-0 at c.index.ensures.tree) (rw c.in-List-List.is-1 at c.index-2.ensures.tree) (rw c.in-List-List.is-0 at c.index.ensures.lower) (rw c.in-List-List.is-1 at c.index-2.ensures.lower) c.list_values.result (list_turn c.args.self.now.left.now c.args.self.now.right.now c.args.self.now.swapped c.in-List-List.x c.in-List-List.y c.args.parts.now.items c.list_values.new.parts.items c.requires.none c.list_values.result c.list_values.ensures.listed))

pub returns-then-m-n-clause-listed : goal.returns-then-m-n-clause-listed
returns-then-m-n-clause-listed c = subst₂ (λ (a b : Id). IsTurn c.args.self.now.left.now c.args.self.now.right.now c.args.self.now.swapped (DefinedTypes a b) c.args.parts.now.items (Err (halt.Apart difference.FixedSize))) c.defined_at-a.ensures c.defined_at-b.ensures (defined_turn c.args.self.now.left.now c.args.self.now.right.now c.args.self.now.swapped c.defined_at-a.result c.defined_at-b.result (defined_content (of.FixedSizeList c.in-FixedSizeList-FixedSizeList.x c.in-FixedSizeList-FixedSizeList.m)) (defined_content (of.FixedSizeList c.in-FixedSizeList-FixedSizeList.y c.in-FixedSizeList-FixedSizeList.n)) c.args.parts.now.items (rw c.in-FixedSizeList-FixedSizeList.is-0 at c.index.ensures.tree) (rw c.in-FixedSizeList-FixedSizeList.is-1 at c.index-2.ensures.tree) (rw c.in-FixedSizeList-FixedSizeList.is-0 at c.index.ensures.lower) (rw c.in-FixedSizeList-FixedSizeList.is-1 at c.index-2.ensures.lower) (Err (halt.Apart difference.FixedSize)) ((none_listed c.args.self.now.left.now c.args.self.now.right.now c.args.self.now.swapped (value_side (content_tree (value_tree c.args.self.now.left.now) (defined_content (of.FixedSizeList c.in-FixedSizeList-FixedSizeList.x c.in-FixedSizeList-FixedSizeList.m)))) (value_side (content_tree (value_tree c.args.self.now.right.now) (defined_content (of.FixedSizeList c.in-FixedSizeList-FixedSizeList.y c.in-FixedSizeList-FixedSizeList.n)))) (keys_height c.args.self.now.left.now (defined_keys (defined_content (of.FixedSizeList c.in-FixedSizeList-FixedSizeList.x c.in-FixedSizeList-FixedSizeList.m))) + 1) (keys_height c.args.self.now.right.now (defined_keys (defined_content (of.FixedSizeList c.in-FixedSizeList-FixedSizeList.y c.in-FixedSizeList-FixedSizeList.n))) + 1) c.args.parts.now.items c.requires.none, sizes_differ c.in-FixedSizeList-FixedSizeList.m c.in-FixedSizeList-FixedSizeList.n (parts_of (map (value_tree c.args.self.now.left.now) (c.in-FixedSizeList-FixedSizeList.x ∷ []))) (parts_of (map (value_tree c.args.self.now.right.now) (c.in-FixedSizeList-FixedSizeList.y ∷ []))) (λ e. absurd (omega (arith, e, c.if-m-n.true))))))

pub returns-else-m-n-clause-listed : goal.returns-else-m-n-clause-listed
returns-else-m-n-clause-listed c = subst₂ (λ (a b : Id). IsTurn c.args.self.now.left.now c.args.self.now.right.now c.args.self.now.swapped (DefinedTypes a b) c.list_values-in-FixedSizeList-FixedSizeList.new.parts.items c.list_values-in-FixedSizeList-FixedSizeList.result) c.defined_at-a.ensures c.defined_at-b.ensures (defined_turn c.args.self.now.left.now c.args.self.now.right.now c.args.self.now.swapped c.defined_at-a.result c.defined_at-b.result (defined_content (of.FixedSizeList c.in-FixedSizeList-FixedSizeList.x c.in-FixedSizeList-FixedSizeList.m)) (defined_content (of.FixedSizeList c.in-FixedSizeList-FixedSizeList.y c.in-FixedSizeList-FixedSizeList.n)) c.list_values-in-FixedSizeList-FixedSizeList.new.parts.items (rw c.in-FixedSizeList-FixedSizeList.is-0 at c.index.ensures.tree) (rw c.in-FixedSizeList-FixedSizeList.is-1 at c.index-2.ensures.tree) (rw c.in-FixedSizeList-FixedSizeList.is-0 at c.index.ensures.lower) (rw c.in-FixedSizeList-FixedSizeList.is-1 at c.index-2.ensures.lower) c.list_values-in-FixedSizeList-FixedSizeList.result (let same : c.in-FixedSizeList-FixedSizeList.m ≡ c.in-FixedSizeList-FixedSizeList.n = omega (arith, c.if-m-n.false) in rw same (fixed_turn c.args.self.now.left.now c.args.self.now.right.now c.args.self.now.swapped c.in-FixedSizeList-FixedSizeList.x c.in-FixedSizeList-FixedSizeList.y c.args.parts.now.items c.list_values-in-FixedSizeList-FixedSizeList.new.parts.items c.requires.none c.list_values-in-FixedSizeList-FixedSizeList.result c.list_values-in-FixedSizeList-FixedSizeList.ensures.listed c.in-FixedSizeList-FixedSizeList.n)))

pub returns-in_ok-list_values-in-Map-Map-clause-listed : goal.returns-in_ok-list_values-in-Map-Map-clause-listed
returns-in_ok-list_values-in-Map-Map-clause-listed c = subst₂ (λ (a b : Id). IsTurn c.args.self.now.left.now c.args.self.now.right.now c.args.self.now.swapped (DefinedTypes a b) c.list_values-in-Map-Map-2.new.parts.items c.list_values-in-Map-Map-2.result) c.defined_at-a.ensures c.defined_at-b.ensures (defined_turn c.args.self.now.left.now c.args.self.now.right.now c.args.self.now.swapped c.defined_at-a.result c.defined_at-b.result (defined_content (of.Map c.in-Map-Map.x c.in-Map-Map.v)) (defined_content (of.Map c.in-Map-Map.y c.in-Map-Map.w)) c.list_values-in-Map-Map-2.new.parts.items (rw c.in-Map-Map.is-0 at c.index.ensures.tree) (rw c.in-Map-Map.is-1 at c.index-2.ensures.tree) (rw c.in-Map-Map.is-0 at c.index.ensures.lower) (rw c.in-Map-Map.is-1 at c.index-2.ensures.lower) c.list_values-in-Map-Map-2.result (map_values c.args.self.now.left.now c.args.self.now.right.now c.args.self.now.swapped c.in-Map-Map.x c.in-Map-Map.v c.in-Map-Map.y c.in-Map-Map.w c.args.parts.now.items c.list_values-in-Map-Map.new.parts.items c.requires.none c.list_values-in-Map-Map-2.new.parts.items c.list_values-in-Map-Map-2.result c.in_ok-list_values-in-Map-Map.ensures.listed c.list_values-in-Map-Map-2.ensures.listed))

pub returns-in_err-list_values-in-Map-Map-clause-listed : goal.returns-in_err-list_values-in-Map-Map-clause-listed
returns-in_err-list_values-in-Map-Map-clause-listed c = rw (halted c.from_residual.result c.list_values-in-Map-Map.result c.in_err-list_values-in-Map-Map.field-0.0 c.from_residual.ensures.1 c.in_err-list_values-in-Map-Map.was) (subst₂ (λ (a b : Id). IsTurn c.args.self.now.left.now c.args.self.now.right.now c.args.self.now.swapped (DefinedTypes a b) c.list_values-in-Map-Map.new.parts.items c.list_values-in-Map-Map.result) c.defined_at-a.ensures c.defined_at-b.ensures (defined_turn c.args.self.now.left.now c.args.self.now.right.now c.args.self.now.swapped c.defined_at-a.result c.defined_at-b.result (defined_content (of.Map c.in-Map-Map.x c.in-Map-Map.v)) (defined_content (of.Map c.in-Map-Map.y c.in-Map-Map.w)) c.list_values-in-Map-Map.new.parts.items (rw c.in-Map-Map.is-0 at c.index.ensures.tree) (rw c.in-Map-Map.is-1 at c.index-2.ensures.tree) (rw c.in-Map-Map.is-0 at c.index.ensures.lower) (rw c.in-Map-Map.is-1 at c.index-2.ensures.lower) c.list_values-in-Map-Map.result (map_keys c.args.self.now.left.now c.args.self.now.right.now c.args.self.now.swapped c.in-Map-Map.x c.in-Map-Map.v c.in-Map-Map.y c.in-Map-Map.w c.args.parts.now.items c.list_values-in-Map-Map.new.parts.items c.requires.none c.list_values-in-Map-Map.result (not_whole c.list_values-in-Map-Map.result c.in_err-list_values-in-Map-Map.field-0.0 c.in_err-list_values-in-Map-Map.was) c.list_values-in-Map-Map.ensures.listed)))

pub returns-in-Option-Option-clause-listed : goal.returns-in-Option-Option-clause-listed
returns-in-Option-Option-clause-listed c = subst₂ (λ (a b : Id). IsTurn c.args.self.now.left.now c.args.self.now.right.now c.args.self.now.swapped (DefinedTypes a b) c.list_values-in-Option-Option.new.parts.items c.list_values-in-Option-Option.result) c.defined_at-a.ensures c.defined_at-b.ensures (defined_turn c.args.self.now.left.now c.args.self.now.right.now c.args.self.now.swapped c.defined_at-a.result c.defined_at-b.result (defined_content (of.Option c.in-Option-Option.x)) (defined_content (of.Option c.in-Option-Option.y)) c.list_values-in-Option-Option.new.parts.items (rw c.in-Option-Option.is-0 at c.index.ensures.tree) (rw c.in-Option-Option.is-1 at c.index-2.ensures.tree) (rw c.in-Option-Option.is-0 at c.index.ensures.lower) (rw c.in-Option-Option.is-1 at c.index-2.ensures.lower) c.list_values-in-Option-Option.result (option_turn c.args.self.now.left.now c.args.self.now.right.now c.args.self.now.swapped c.in-Option-Option.x c.in-Option-Option.y c.args.parts.now.items c.list_values-in-Option-Option.new.parts.items c.requires.none c.list_values-in-Option-Option.result c.list_values-in-Option-Option.ensures.listed))

pub returns-in_ok-list_optional-in-Result-Result-clause-listed : goal.returns-in_ok-list_optional-in-Result-Result-clause-listed
returns-in_ok-list_optional-in-Result-Result-clause-listed c = subst₂ (λ (a b : Id). IsTurn c.args.self.now.left.now c.args.self.now.right.now c.args.self.now.swapped (DefinedTypes a b) c.list_optional-in-Result-Result.new.parts.items c.list_optional-in-Result-Result.result) c.defined_at-a.ensures c.defined_at-b.ensures (defined_turn c.args.self.now.left.now c.args.self.now.right.now c.args.self.now.swapped c.defined_at-a.result c.defined_at-b.result (defined_content (of.Result c.in-Result-Result.ok c.in-Result-Result.err)) (defined_content (of.Result c.in-Result-Result.ok2 c.in-Result-Result.err2)) c.list_optional-in-Result-Result.new.parts.items (rw c.in-Result-Result.is-0 at c.index.ensures.tree) (rw c.in-Result-Result.is-1 at c.index-2.ensures.tree) (rw c.in-Result-Result.is-0 at c.index.ensures.lower) (rw c.in-Result-Result.is-1 at c.index-2.ensures.lower) c.list_optional-in-Result-Result.result (result_errs c.args.self.now.left.now c.args.self.now.right.now c.args.self.now.swapped c.in-Result-Result.ok c.in-Result-Result.ok2 c.in-Result-Result.err c.in-Result-Result.err2 c.args.parts.now.items c.list_optional.new.parts.items c.requires.none c.list_optional-in-Result-Result.new.parts.items c.list_optional-in-Result-Result.result (rw (c.in_ok-list_optional-in-Result-Result.was, c.is_some.ensures, c.is_some-in-Result-Result.ensures) at c.list_optional.ensures.listed) (rw (c.is_some-in-Result-Result-2.ensures, c.is_some-in-Result-Result-3.ensures) at c.list_optional-in-Result-Result.ensures.listed)))

pub returns-in_err-list_optional-in-Result-Result-clause-listed : goal.returns-in_err-list_optional-in-Result-Result-clause-listed
returns-in_err-list_optional-in-Result-Result-clause-listed c = rw (halted c.from_residual-in_err-list_optional-in-Result-Result.result c.list_optional.result c.in_err-list_optional-in-Result-Result.field-0.0 c.from_residual-in_err-list_optional-in-Result-Result.ensures.1 c.in_err-list_optional-in-Result-Result.was) (subst₂ (λ (a b : Id). IsTurn c.args.self.now.left.now c.args.self.now.right.now c.args.self.now.swapped (DefinedTypes a b) c.list_optional.new.parts.items c.list_optional.result) c.defined_at-a.ensures c.defined_at-b.ensures (defined_turn c.args.self.now.left.now c.args.self.now.right.now c.args.self.now.swapped c.defined_at-a.result c.defined_at-b.result (defined_content (of.Result c.in-Result-Result.ok c.in-Result-Result.err)) (defined_content (of.Result c.in-Result-Result.ok2 c.in-Result-Result.err2)) c.list_optional.new.parts.items (rw c.in-Result-Result.is-0 at c.index.ensures.tree) (rw c.in-Result-Result.is-1 at c.index-2.ensures.tree) (rw c.in-Result-Result.is-0 at c.index.ensures.lower) (rw c.in-Result-Result.is-1 at c.index-2.ensures.lower) c.list_optional.result (result_oks c.args.self.now.left.now c.args.self.now.right.now c.args.self.now.swapped c.in-Result-Result.ok c.in-Result-Result.ok2 c.in-Result-Result.err c.in-Result-Result.err2 c.args.parts.now.items c.list_optional.new.parts.items c.requires.none c.list_optional.result (not_whole c.list_optional.result c.in_err-list_optional-in-Result-Result.field-0.0 c.in_err-list_optional-in-Result-Result.was) (rw (c.is_some.ensures, c.is_some-in-Result-Result.ensures) at c.list_optional.ensures.listed))))

pub returns-in-Variant-Variant-clause-listed : goal.returns-in-Variant-Variant-clause-listed
returns-in-Variant-Variant-clause-listed c = subst₂ (λ (a b : Id). IsTurn c.args.self.now.left.now c.args.self.now.right.now c.args.self.now.swapped (DefinedTypes a b) c.list_cases.new.parts.items c.list_cases.result) c.defined_at-a.ensures c.defined_at-b.ensures (defined_turn c.args.self.now.left.now c.args.self.now.right.now c.args.self.now.swapped c.defined_at-a.result c.defined_at-b.result (defined_content (of.Variant c.in-Variant-Variant.x)) (defined_content (of.Variant c.in-Variant-Variant.y)) c.list_cases.new.parts.items (rw c.in-Variant-Variant.is-0 at c.index.ensures.tree) (rw c.in-Variant-Variant.is-1 at c.index-2.ensures.tree) (rw c.in-Variant-Variant.is-0 at c.index.ensures.lower) (rw c.in-Variant-Variant.is-1 at c.index-2.ensures.lower) c.list_cases.result (c.list_cases.ensures.listed))

pub returns-in-Record-Record-clause-listed : goal.returns-in-Record-Record-clause-listed
returns-in-Record-Record-clause-listed c = subst₂ (λ (a b : Id). IsTurn c.args.self.now.left.now c.args.self.now.right.now c.args.self.now.swapped (DefinedTypes a b) c.list_record.new.parts.items c.list_record.result) c.defined_at-a.ensures c.defined_at-b.ensures (defined_turn c.args.self.now.left.now c.args.self.now.right.now c.args.self.now.swapped c.defined_at-a.result c.defined_at-b.result (defined_content (of.Record c.in-Record-Record.x)) (defined_content (of.Record c.in-Record-Record.y)) c.list_record.new.parts.items (rw c.in-Record-Record.is-0 at c.index.ensures.tree) (rw c.in-Record-Record.is-1 at c.index-2.ensures.tree) (rw c.in-Record-Record.is-0 at c.index.ensures.lower) (rw c.in-Record-Record.is-1 at c.index-2.ensures.lower) c.list_record.result (c.list_record.ensures.listed))

pub returns-in-Flags-Flags-clause-listed : goal.returns-in-Flags-Flags-clause-listed
returns-in-Flags-Flags-clause-listed c = subst₂ (λ (a b : Id). IsTurn c.args.self.now.left.now c.args.self.now.right.now c.args.self.now.swapped (DefinedTypes a b) c.args.parts.now.items c.compare_names.result) c.defined_at-a.ensures c.defined_at-b.ensures (defined_turn c.args.self.now.left.now c.args.self.now.right.now c.args.self.now.swapped c.defined_at-a.result c.defined_at-b.result (defined_content (of.Flags c.in-Flags-Flags.x)) (defined_content (of.Flags c.in-Flags-Flags.y)) c.args.parts.now.items (rw c.in-Flags-Flags.is-0 at c.index.ensures.tree) (rw c.in-Flags-Flags.is-1 at c.index-2.ensures.tree) (rw c.in-Flags-Flags.is-0 at c.index.ensures.lower) (rw c.in-Flags-Flags.is-1 at c.index-2.ensures.lower) c.compare_names.result (flags_turn c.args.self.now.left.now c.args.self.now.right.now c.args.self.now.swapped _ _ _ _ c.args.parts.now.items c.requires.none c.compare_names.result c.compare_names.ensures))

pub returns-in-Enum-Enum-clause-listed : goal.returns-in-Enum-Enum-clause-listed
returns-in-Enum-Enum-clause-listed c = subst₂ (λ (a b : Id). IsTurn c.args.self.now.left.now c.args.self.now.right.now c.args.self.now.swapped (DefinedTypes a b) c.args.parts.now.items c.compare_names-in-Enum-Enum.result) c.defined_at-a.ensures c.defined_at-b.ensures (defined_turn c.args.self.now.left.now c.args.self.now.right.now c.args.self.now.swapped c.defined_at-a.result c.defined_at-b.result (defined_content (of.Enum c.in-Enum-Enum.x)) (defined_content (of.Enum c.in-Enum-Enum.y)) c.args.parts.now.items (rw c.in-Enum-Enum.is-0 at c.index.ensures.tree) (rw c.in-Enum-Enum.is-1 at c.index-2.ensures.tree) (rw c.in-Enum-Enum.is-0 at c.index.ensures.lower) (rw c.in-Enum-Enum.is-1 at c.index-2.ensures.lower) c.compare_names-in-Enum-Enum.result (enums_turn c.args.self.now.left.now c.args.self.now.right.now c.args.self.now.swapped _ _ _ _ c.args.parts.now.items c.requires.none c.compare_names-in-Enum-Enum.result c.compare_names-in-Enum-Enum.ensures))

pub returns-in-Stream-Stream-clause-listed : goal.returns-in-Stream-Stream-clause-listed
returns-in-Stream-Stream-clause-listed c = subst₂ (λ (a b : Id). IsTurn c.args.self.now.left.now c.args.self.now.right.now c.args.self.now.swapped (DefinedTypes a b) c.list_payload.new.parts.items c.list_payload.result) c.defined_at-a.ensures c.defined_at-b.ensures (defined_turn c.args.self.now.left.now c.args.self.now.right.now c.args.self.now.swapped c.defined_at-a.result c.defined_at-b.result (defined_content (of.Stream c.in-Stream-Stream.x)) (defined_content (of.Stream c.in-Stream-Stream.y)) c.list_payload.new.parts.items (rw c.in-Stream-Stream.is-0 at c.index.ensures.tree) (rw c.in-Stream-Stream.is-1 at c.index-2.ensures.tree) (rw c.in-Stream-Stream.is-0 at c.index.ensures.lower) (rw c.in-Stream-Stream.is-1 at c.index-2.ensures.lower) c.list_payload.result (c.list_payload.ensures.stream))

pub returns-in-Future-Future-clause-listed : goal.returns-in-Future-Future-clause-listed
returns-in-Future-Future-clause-listed c = subst₂ (λ (a b : Id). IsTurn c.args.self.now.left.now c.args.self.now.right.now c.args.self.now.swapped (DefinedTypes a b) c.list_payload-in-Future-Future.new.parts.items c.list_payload-in-Future-Future.result) c.defined_at-a.ensures c.defined_at-b.ensures (defined_turn c.args.self.now.left.now c.args.self.now.right.now c.args.self.now.swapped c.defined_at-a.result c.defined_at-b.result (defined_content (of.Future c.in-Future-Future.x)) (defined_content (of.Future c.in-Future-Future.y)) c.list_payload-in-Future-Future.new.parts.items (rw c.in-Future-Future.is-0 at c.index.ensures.tree) (rw c.in-Future-Future.is-1 at c.index-2.ensures.tree) (rw c.in-Future-Future.is-0 at c.index.ensures.lower) (rw c.in-Future-Future.is-1 at c.index-2.ensures.lower) c.list_payload-in-Future-Future.result (c.list_payload-in-Future-Future.ensures.future))

pub returns-in_default-clause-listed : goal.returns-in_default-clause-listed
returns-in_default-clause-listed c = subst₂ (λ (a b : Id). IsTurn c.args.self.now.left.now c.args.self.now.right.now c.args.self.now.swapped (DefinedTypes a b) c.args.parts.now.items (Err (halt.Apart c.values_apart.result))) c.defined_at-a.ensures c.defined_at-b.ensures (others_turn c.args.self.now.left.now c.args.self.now.right.now c.args.self.now.swapped c.defined_at-a.result c.defined_at-b.result c.args.parts.now.items c.values_apart.result c.requires.none c.values_apart.ensures)
