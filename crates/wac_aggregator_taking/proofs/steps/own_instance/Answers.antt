use Rattle.std.proofs.Common.{◌≡◌, Some, is_some, ap, sym}
use Rattle.std.specs.Option.{option_map_or}
use Rattle.wac_component.specs.Id.{Id}
use Rattle.wac_component.specs.Key.{interface_key}
use Rattle.wac_component.specs.declared.items.ItemKind.TheVariants.{Instance}
use Rattle.wac_aggregator_memo.specs.Memo.{Remembered, memo_of}
use Rattle.wac_aggregator_taking.specs.Steps.{IsOwnItem}
use Rattle.wac_aggregator_taking.proofs.steps.own_instance.Goals as goal

own_is : (m : Remembered) (i o : Id) → Some (interface_key o) ≡ m (interface_key i) → IsOwnItem m (Instance i) (Instance o)
own_is m i o is = record {
  has = (ap (λ k. is_some k) (sym is), tt);
  renamed = ap Instance (ap (λ k. option_map_or (λ o. o.id) k i) is);
}

pub returns : goal.returns
returns c = rw c.in-Instance.is (own_is (memo_of c.args.taken.now) c.in-Instance.id c.in_ok-own.own c.in_ok-own.ensures)
