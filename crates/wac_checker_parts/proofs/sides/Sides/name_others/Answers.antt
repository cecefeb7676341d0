use Rattle.std.proofs.Common.{refl}
use Rattle.wac_component.specs.Content.{defined_content}
use Rattle.wac_checker_parts.proofs.ListingLemmas.{resolved_here, values_as}
use Rattle.wac_checker_parts.proofs.sides.Sides.name_others.Goals as goal

pub name_resolved-requires-clause-left_resolved : goal.name_resolved-requires-clause-left_resolved
name_resolved-requires-clause-left_resolved c = rw c.in-Defined-Defined.is-0 (resolved_here c.args.self.now.left.now c.in-Defined-Defined.x (defined_content c.index.result.now) c.index.ensures.entry c.index.ensures.tree (c.if-not-is_alias.ensures.resolved refl) (c.if-not-is_alias.ensures.compound refl c.args.self.now.left.now))

pub name_resolved-requires-clause-right_resolved : goal.name_resolved-requires-clause-right_resolved
name_resolved-requires-clause-right_resolved c = rw c.in-Defined-Defined.is-1 (resolved_here c.args.self.now.right.now c.in-Defined-Defined.y (defined_content c.index-in-Defined-Defined.result.now) c.index-in-Defined-Defined.ensures.entry c.index-in-Defined-Defined.ensures.tree (c.if-not-is_alias-2.ensures.resolved refl) (c.if-not-is_alias-2.ensures.compound refl c.args.self.now.right.now))

pub returns-clause-listed : goal.returns-clause-listed
returns-clause-listed c = values_as c.args.self.now.left.now c.args.self.now.right.now c.args.self.now.swapped c.args.index c.resolve_value_type-x.result c.resolve_value_type-y.result c.args.a.now c.args.b.now c.args.parts.now.items c.name_resolved-2.new.parts.items c.name_resolved-2.result c.resolve_value_type-x.ensures.tree c.resolve_value_type-y.ensures.tree c.resolve_value_type-x.ensures.lower c.resolve_value_type-y.ensures.lower c.name_resolved-2.ensures.listed
