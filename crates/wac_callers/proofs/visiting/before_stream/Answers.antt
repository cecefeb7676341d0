-- A visitor whose calls ask that the id stands may be called on each that does.
use Rattle.std.proofs.Common.{[], ◌∷◌, List, Result, map, subst, sym}
use Rattle.std.specs.Borrow.{Bor}
use denote.Param.Members.{mut_of}
use Rattle.wac_types.specs.Collection.{Collection}
use Rattle.wac_types.specs.Id.{Id}
use Rattle.wac_types.specs.Key.{Stands, AllStand, defined_key}
use Rattle.wac_types.specs.Visits.{MayVisit, visits}
use Rattle.wac_callers.proofs.visiting.before_stream.Goals as goal

may_visit : {F E : Type 0} (post : F → Bor Collection × (Id × Unit {0}) → Result (Unit {0}) E → F → Type 0) (c : Collection) (ids : List Id) (f : F)
    → AllStand c (map defined_key ids) → MayVisit (mut_of (λ f a. Stands a.0.now (defined_key a.1.0)) post) c f ids
may_visit post c [] f standing = tt
may_visit post c (i ∷ ids) f standing = (λ shown shows. subst (λ d. Stands d (defined_key i)) (sym shows) standing.0, λ g step. may_visit post c ids g standing.1)

pub visit_defined_types-requires-clause-callable : goal.visit_defined_types-requires-clause-callable
visit_defined_types-requires-clause-callable c = may_visit _ c.args.types.now (visits c.args.types.now c.args.ty) _ (c.visited_types_stand.ensures c.args.types.now c.sound.ensures c.args.ty c.requires)
