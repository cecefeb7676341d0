-- Where a world runs, the library's report says nothing.
use Rattle.std.proofs.Common.{◌≡◌, ◌↔◌, ◌<◌, true, cond, List, [], ◌∷◌, Some, Contains, IfOk, Result, Ok, Err, Vec, Global, refl, subst, ap, arith}
use Rattle.std.specs.Cmp.Lexicographic.{bytes_decides}
use Rattle.std.specs.Str.{bytes_eq}
use Rattle.wac_component.specs.Collection.{Collection, WorldContent}
use Rattle.wac_component.specs.declared.items.ItemKind.{ItemKind}
use Rattle.wac_component.specs.declared.worlds.ExternKind.{ExternKind}
use Rattle.wac_component.specs.declared.worlds.ExternKind.TheVariants.{Import, Export}
use Rattle.wac_types.specs.Pairs.{value_at}
use Rattle.wac_types.specs.Report.{Misfits, IsMismatched, IsReport, IsClean, IsAnswer}
use Rattle.wac_types.specs.ReportParts.{not_in_target, missing, mismatched}
use Rattle.wac_types.specs.Text.{Text}
use Rattle.wac_types.specs.Wanted.{Lacks, wanted, given}
use Rattle.wac_types.specs.declared.TargetValidationReport.{TargetValidationReport}
use Rattle.wac_wit_changes.specs.Worlds.{RunsWhere}
use Rattle.wac_wit_changes.specs.declared.problem.Problem.{Problem}

nothing_in : {A : Type 0} (x : A) → Contains [] x → ⊥
nothing_in x among = let no : among.0 < 0 = among.1 in absurd (omega arith)

none_at : {V : Type 0} (name : Text) (v : V) → value_at [] name ≡ Some v → ⊥
none_at name v found = absurd (cc (found))

empty_from : {A : Type 0} (xs : List A) → ((x : A) → Contains xs x → ⊥) → xs ≡ []
empty_from [] none = refl
empty_from (x ∷ xs) none = absurd (none x (0, omega arith, refl))

same_bytes : (s : Text) → bytes_eq s s ≡ true
same_bytes s = (bytes_decides s s).1 refl

empty_map_from : {V : Type 0} (ps : List (Text × V)) → ((name : Text) (v : V) → value_at ps name ≡ Some v → ⊥) → ps ≡ []
empty_map_from [] none = refl
empty_map_from {V} (p ∷ ps) none = absurd (none p.0 p.1 (ap (λ b. cond b (Some p.1) (value_at ps p.0)) (same_bytes p.0)))

module _ (types : Collection) (target component : WorldContent) where
  runs_where_clean : (r : TargetValidationReport) → IsReport types target component r → IsClean r → RunsWhere types target component
  runs_where_clean r is clean = record { there = there; fits = fits }
    where
      there : (k : ExternKind) (name : Text) (b : ItemKind) → Lacks (given types target component k) (wanted types target component k) name b → ⊥
      there Import name b lack = nothing_in name (subst (λ xs. Contains xs name) clean.not_in_target ((is.imports_not_in_target name).1 (b, lack)))
      there Export name b lack = none_at name b (subst (λ xs. value_at xs name ≡ Some b) clean.missing ((is.missing_exports name b).1 lack))

      export_fits : (name : Text) → Misfits types target component Export name → ⊥
      export_fits name misfit = let told = (is.mismatched_types name Export).1 misfit in none_at name (Export, told.0) (subst (λ xs. value_at xs name ≡ Some (Export, told.0)) clean.mismatched told.1)

      fits : (k : ExternKind) (name : Text) → Misfits types target component k name → ⊥
      fits Export name misfit = export_fits name misfit
      fits Import name misfit = let told = (is.mismatched_types name Import).1 (misfit, export_fits name) in none_at name (Import, told.0) (subst (λ xs. value_at xs name ≡ Some (Import, told.0)) clean.mismatched told.1)

  clean_where_runs : (r : TargetValidationReport) → IsReport types target component r → RunsWhere types target component → IsClean r
  clean_where_runs r is runs = record {
    not_in_target = empty_from (not_in_target r) (λ name among. let lack = (is.imports_not_in_target name).0 among in runs.there Import name lack.0 lack.1);
    missing = empty_map_from (missing r) (λ name b found. runs.there Export name b ((is.missing_exports name b).0 found));
    mismatched = empty_map_from (mismatched r) (λ name v found. misfit name v.0 ((is.mismatched_types name v.0).0 (v.1, found)));
  }
    where
      misfit : (name : Text) (k : ExternKind) → IsMismatched types target component k name → ⊥
      misfit name Import told = runs.fits Import name told.0
      misfit name Export told = runs.fits Export name told

  -- a yes
  pub runs_by_yes : IsAnswer types target component (Ok tt) → RunsWhere types target component
  runs_by_yes answer = runs_where_clean answer.0 answer.1 answer.2

  -- problems that a no's report has only where it isn't clean
  pub problems_of_no : {E : Type 0} (s : TargetValidationReport) (r : Result (Vec Problem Global) E) → IsAnswer types target component (Err s) → IfOk r (λ ps. ps.items ≡ [] → IsClean s) → IfOk r (λ ps. (ps.items ≡ []) ↔ RunsWhere types target component)
  problems_of_no s (Err e) answer clean = tt
  problems_of_no s (Ok ps) answer clean = (
    (λ none. absurd (answer.2.1 (subst IsClean answer.2.0 (clean none)))),
    (λ runs. absurd (answer.2.1 (clean_where_runs answer.0 answer.1 runs))),
  )
