use Rattle.wac_item_text.specs.Rest.{AreStanding}
use Rattle.wac_item_text.proofs.values.push_fields.Given as goal

abbrev pub invariant-loop-i : goal.invariant-loop-i
invariant-loop-i l = AreStanding l.types l.rest.pending.items
