use Rattle.std.proofs.Common.{[], ◌∷◌, List, Result, map, subst, sym}
use Rattle.std.specs.Borrow.{Bor}
use Rattle.std.specs.Fn.{Mut, Takes}
use Rattle.wac_types.specs.Collection.{Collection}
use Rattle.wac_types.specs.Id.{Id}
use Rattle.wac_types.specs.Key.{Stands, AllStand, defined_key}
use Rattle.wac_types.specs.Visits.{MayVisit, visits}
use Rattle.wac_types.specs.declared.Type.TheVariants.{Value as TypeValue}
use Rattle.wac_types.specs.declared.ValueType.TheVariants.{Defined}
use Rattle.wac_test_tools.proofs.visiting.lists_seen.Goals as goal

-- a visitor that may be called on each id that stands may be called on these, if they stand
MayVisit-standing : {F E : Type 0} (calls : Mut F (Bor Collection × (Id × Unit {0})) (Result (Unit {0}) E)) (c : Collection)
    → ((f : F) (shown : Bor Collection) (id : Id) → Stands shown.now (defined_key id) → Takes calls f (shown, (id, tt)))
    → (xs : List Id) (f : F) → AllStand c (map defined_key xs) → MayVisit calls c f xs
MayVisit-standing calls c takes [] f st = tt
MayVisit-standing calls c takes (x ∷ xs) f st = (λ shown shows. takes f shown x (subst (λ d. Stands d (defined_key x)) (sym shows) st.0), λ g s. MayVisit-standing calls c takes xs g st.1)

pub visit_defined_types-requires-clause-callable : goal.visit_defined_types-requires-clause-callable
visit_defined_types-requires-clause-callable c =
    let ty = TypeValue (Defined c.args.ty) in
    MayVisit-standing _ c.args.types.now (λ f shown id st. st) (visits c.args.types.now ty) _ (c.visited_types_stand.ensures c.args.types.now c.sound.ensures ty (c.requires, tt))
