use Rattle.std.proofs.Common.{ap, subst, ◌∙◌, ◌++◌}
use Rattle.std.specs.Option.{option_to_list}
use Rattle.wac_item_text.specs.Rest.{AreStanding}
use Rattle.wac_item_text.proofs.Keys.{standing_popped}
use Rattle.wac_item_text.proofs.items.put_chunk.Goals as goal

pub begin_type-requires-clause-before : goal.begin_type-requires-clause-before
begin_type-requires-clause-before c =
    let popped = c.pop-in-Type.ensures.items ∙ ap (λ o. c.pop-in-Type.new.self.items ++ option_to_list o) c.in-Some.is in
    (standing_popped c.args.types.now c.pop-in-Type.new.self.items c.in-Some.pending (subst (AreStanding c.args.types.now) popped c.requires)).0

pub begin_type-requires-clause-ty : goal.begin_type-requires-clause-ty
begin_type-requires-clause-ty c =
    let popped = c.pop-in-Type.ensures.items ∙ ap (λ o. c.pop-in-Type.new.self.items ++ option_to_list o) c.in-Some.is in
    (standing_popped c.args.types.now c.pop-in-Type.new.self.items c.in-Some.pending (subst (AreStanding c.args.types.now) popped c.requires)).1
