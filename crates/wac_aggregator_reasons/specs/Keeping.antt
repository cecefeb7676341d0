-- What merging keeps of what comes from sources.
use Rattle.wac_component.specs.Key.{Key, Stands}
use Rattle.wac_aggregator_promises.specs.Attempt.{Sources, IsSource}
use Rattle.wac_aggregator_narrowing.specs.State.{State, IsStateKept}
use Rattle.wac_aggregator_reasons.specs.Sharing.{AreSourced}
use Rattle.wac_aggregator_reasons.specs.Sourced.{IsSourced}

-- where all comes from sources, it still does, and so does what an id openly leads to
pub record StaySourced (sources : Sources) (s t : State) : Type 0 where
  pub all : AreSourced sources t
  pub keys : (k : Key) → Stands s.own k → IsSourced (IsSource sources) s.own k → IsSourced (IsSource sources) t.own k

-- from a state in order, all of which comes from sources, to one of which all does
abbrev pub KeepsSourced : Sources → State → State → Type 0
KeepsSourced sources s t = IsStateKept s → AreSourced sources s → StaySourced sources s t
