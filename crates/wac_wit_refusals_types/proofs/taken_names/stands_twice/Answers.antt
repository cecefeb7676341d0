use Rattle.wac_wit_refusals_sites.proofs.TypeFacts.{among_read}
use Rattle.wac_wit_refusals_types.proofs.taken_names.stands_twice.Goals as goal

pub returns-then-is_taken_again : goal.returns-then-is_taken_again
returns-then-is_taken_again c is = record {
  taken = c.taken-item.result;
  among = among_read c.args.names.now c.loop-taken.taken-index c.taken-item.result c.loop-taken-test.true c.taken-item.is;
  place = c.is_at.ensures c.if-is_at.true;
  again = c.is_taken_again.ensures c.if-is_taken_again.true;
}
