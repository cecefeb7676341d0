use Rattle.std.proofs.Common.{List, [], ◌∷◌, Result}
use Rattle.std.specs.Borrow.{Bor}
use denote.Param.Members.{mut_of}
use Rattle.wac_component.specs.Collection.{Collection}
use Rattle.wac_component.specs.Id.{Id}
use Rattle.wac_component.specs.Visits.{MayVisit}
use Rattle.wac_script_session.proofs.visits.push_visit.Goals as goal

-- a visitor whose calls ask for nothing may be called on any list
may_visit : {F E : Type 0} (post : F → Bor Collection × (Id × Unit {0}) → Result (Unit {0}) E → F → Type 0) (c : Collection) (xs : List Id) (f : F) → MayVisit (mut_of (λ f a. Unit {0}) post) c f xs
may_visit post c [] f = tt
may_visit post c (x ∷ xs) f = (λ shown shows. tt, λ g s. may_visit post c xs g)

pub visit_defined_types-requires-clause-callable : goal.visit_defined_types-requires-clause-callable
visit_defined_types-requires-clause-callable c = may_visit _ _ _ _
