use Rattle.std.proofs.Common.{ap, sym, ◌∙◌, None}
use Rattle.std.proofs.lemmas.List.{get_or_default}
use Rattle.std.specs.Option.{option_and_then, option_copied}
use Rattle.wac_aggregator_imports.proofs.Places.{lookup-imports_in, within}
use Rattle.wac_aggregator_imports.specs.Places.{import_in}
use Rattle.wac_aggregator_imports.proofs.list.ImportList.get.Goals as goal

pub returns-in_err-place-clause-value : goal.returns-in_err-place-clause-value
returns-in_err-place-clause-value c = rw (← c.self.view_is, lookup-imports_in _ _ c.self.invariant.0 c.args.class.now)
    (ap option_copied c.from_residual.ensures ∙ ap (option_and_then (import_in c.self.inside.places.items)) c.in_err-place.ensures.value)

pub returns-clause-value : goal.returns-clause-value
returns-clause-value c = rw (← c.self.view_is, lookup-imports_in _ _ c.self.invariant.0 c.args.class.now)
    (c.as_ref.ensures.value ∙ c.index.ensures
    ∙ get_or_default c.self.inside.places.items c.in_ok-place.field-0.now c.index.result.now None (within _ _ c.self.invariant.0 c.args.class.now c.in_ok-place.field-0.now (sym c.in_ok-place.ensures.value))
    ∙ ap (option_and_then (import_in c.self.inside.places.items)) c.in_ok-place.ensures.value)
