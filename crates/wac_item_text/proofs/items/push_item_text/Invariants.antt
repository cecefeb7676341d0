use Rattle.wac_item_text.specs.Rest.{AreStanding}
use Rattle.wac_item_text.proofs.items.push_item_text.Given as goal

abbrev pub invariant-loop : goal.invariant-loop
invariant-loop l = AreStanding l.types l.rest.pending.items
