-- The theorem of merging, from what is answered to a list.
use Rattle.std.proofs.Common.{◌⊎◌, List, inl, inr}
use Rattle.wac_aggregator_promises.specs.Call.{Call}
use Rattle.wac_aggregator_promises.specs.Laws.{ImportsAreGreatestBounds}
use Rattle.wac_aggregator_promises.specs.PlainList.{IsPlainList}
use Rattle.wac_aggregator_promises.specs.WitList.{IsWitList}
use Rattle.wac_aggregator_promises.proofs.AnyOrder.{answers_exact, wit_in_any_order}
use Rattle.wac_aggregator_promises.proofs.ByTrack.{names_lead}
use Rattle.wac_aggregator_promises.proofs.PlainAsWit.{plain_as_wit}

is_wit : (calls : List Call) → IsPlainList calls ⊎ IsWitList calls → IsWitList calls
is_wit calls (inl plain) = plain_as_wit.is_wit calls plain
is_wit calls (inr wit) = wit

pub greatest_bounds : ImportsAreGreatestBounds
greatest_bounds = record {
  serves = λ calls a h c d m n same. let led = h.served c d m n same in (led.import, led.is_import, led.fits);
  accepts = λ calls answer list h. answers_exact.wit calls answer (h (is_wit calls list));
  greatest = λ calls a list h tracks name import is. (h (is_wit calls list)).1.meets _ _ (names_lead a name import tracks is);
  any_order = λ calls others answer other list permuted h g.
      let wit = is_wit calls list in
      wit_in_any_order.answers calls others answer other permuted (h wit) (g (wit_in_any_order.is_wit calls others permuted wit));
}
