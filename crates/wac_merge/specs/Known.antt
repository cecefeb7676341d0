-- What is known of meets, while more and more is asked.
use Rattle.wac_component.specs.Collection.{Collection}
use Rattle.wac_merge.specs.Runs.{IsUnderWay}
use Rattle.wac_merge.specs.declared.meets.Meets.{Meets}

-- from c, where nothing was built, to d, all that was built is remembered, with what has no meet
abbrev pub KnowsMeets : Collection → Collection → Meets → Type 0
KnowsMeets c d m = IsUnderWay c d m.memo
