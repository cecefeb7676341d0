use Rattle.wac_component.specs.Key.{Stands}
use Rattle.wac_component.proofs.AnyBorrow.{Each-case}
use Rattle.wac_item_text.proofs.values.push_cases.Goals as goal

pub push_case-requires-clause-ty : goal.push_case-requires-clause-ty
push_case-requires-clause-ty c = Each-case (Stands c.args.types.now) c.args.cases.now.entries _ c.case_at-ty.result.1 c.case_at-ty.ensures c.requires.cases
