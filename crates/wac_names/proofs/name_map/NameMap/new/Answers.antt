use Rattle.wac_names.proofs.Standing.{stands_empty}
use Rattle.wac_names.proofs.name_map.NameMap.new.Goals as goal

pub returns : goal.returns
returns g c = record { empty = λ f. stands_empty _ f _ c.new.ensures.empty c.new-2.ensures.empty }
