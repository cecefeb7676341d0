-- Open walks that start where all that they lead to are sources.
use Rattle.std.specs.Prelude.{List}
use Rattle.wac_component.specs.Collection.{Collection}
use Rattle.wac_component.specs.Key.{Key, Stands}
use Rattle.wac_component.specs.Sound.{IsSound}
use Rattle.wac_component.specs.Open.{OpenReaches}
use Rattle.wac_aggregator_promises.specs.Attempt.{Sources, IsSource}
use Rattle.wac_aggregator_narrowing.specs.Traced.{Root, IsAmongRoots}

-- the id stands in a sound collection, and what it openly leads to is a source
pub record IsSourceRoot (sources : Sources) (c : Collection) (k : Key) : Type 0 where
  pub sound : IsSound c
  pub stands : Stands c k
  pub leads_to : (t : Key) → OpenReaches c k t → IsSource sources c t

-- each of these roots is such
abbrev pub RootsAreSources : Sources → List Root → Type 0
RootsAreSources sources rs = (c : Collection) (k : Key) → IsAmongRoots c k rs → IsSourceRoot sources c k
