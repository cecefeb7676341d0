-- Sources with more calls.
use Rattle.std.proofs.Common.{List, Contains}
use Rattle.wac_component.specs.Collection.{Collection}
use Rattle.wac_component.specs.Key.{Key, interface_key}
use Rattle.wac_names.specs.Class.{Class}
use Rattle.wac_aggregator_promises.specs.Attempt.{Sources, IsSource, held, reached}
use Rattle.wac_aggregator_promises.specs.Call.{Call}
use Rattle.wac_aggregator_promises.specs.Compatible.{LeadsOver, one, more}
use Rattle.wac_aggregator_promises.specs.Laws.{SourcesGrow}
use Rattle.wac_aggregator_promises.specs.Reason.{TrackLeads}

module _ (start : Collection) (calls others : List Call) (among : (c : Call) → Contains calls c → Contains others c) where
  abbrev before : Sources
  before = record { start = start; calls = calls }

  abbrev after : Sources
  after = record { start = start; calls = others }

  source_more : (c : Collection) (k : Key) → IsSource before c k → IsSource after c k
  source_more c k (held e h) = held e h
  source_more c k (reached call m e w) = reached call (among call m) e w

  track_more : (s t : Class) → TrackLeads before s t → TrackLeads after s t
  track_more s t r = record {
    types = r.types;
    from = r.from;
    to = r.to;
    from_source = source_more r.types (interface_key r.from) r.from_source;
    to_source = source_more r.types (interface_key r.to) r.to_source;
    from_on = r.from_on;
    to_on = r.to_on;
    another = r.another;
    walk = r.walk;
  }

  leads_more : (s t : Class) → LeadsOver (TrackLeads before) s t → LeadsOver (TrackLeads after) s t
  leads_more s t (one r) = one (track_more s t r)
  leads_more s t (more {t = u} r l) = more (track_more s u r) (leads_more u t l)

pub sources_grow : SourcesGrow
sources_grow = record { sources = source_more; leads = leads_more }
