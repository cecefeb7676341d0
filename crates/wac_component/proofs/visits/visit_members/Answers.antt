use Rattle.wac_component.proofs.VisitLemmas.{flat_map-cases}
use Rattle.wac_component.proofs.visits.visit_members.Goals as goal

pub returns-in-Variant : goal.returns-in-Variant
returns-in-Variant g c = record { visited = rw (c.in-Variant.is, flat_map-cases c.in-Variant.variant.cases.entries) c.visit_cases.ensures.visited }

pub visit_cases-requires : goal.visit_cases-requires
visit_cases-requires g c = rw (c.in-Variant.is, flat_map-cases c.in-Variant.variant.cases.entries) at c.requires
