use Rattle.std.proofs.Common.{ap, sym, subst, ◌∙◌, Some}
use Rattle.std.specs.Option.{option_copied}
use Rattle.wac_names.specs.Pairs.{IsFound}
use Rattle.wac_targets.specs.Given.{items_in}
use Rattle.wac_targets.proofs.GivenLemmas.{own-found}
use Rattle.wac_targets.proofs.Standing.{found-stands}
use Rattle.wac_targets.proofs.checks.judge.Goals as goal

pub judge_found-requires-clause-found : goal.judge_found-requires-clause-found
judge_found-requires-clause-found c =
    let found : IsFound (items_in c.args.given.now) c.args.name.now (Some c.in-Some.found.now) = own-found c.args.given.now c.args.name.now c.in-Some.found.now c.requires.given (sym c.own.ensures ∙ ap option_copied c.in-Some.is) in
    found-stands c.args.types.now (items_in c.args.given.now) c.args.name.now c.in-Some.found.now c.requires.standing found

pub returns-in-Some-clause-verdict : goal.returns-in-Some-clause-verdict
returns-in-Some-clause-verdict c =
    c.judge_found.ensures.verdict (items_in c.args.given.now) c.args.name.now (own-found c.args.given.now c.args.name.now c.in-Some.found.now c.requires.given (sym c.own.ensures ∙ ap option_copied c.in-Some.is))

pub judge_found-requires-2-clause-found : goal.judge_found-requires-2-clause-found
judge_found-requires-2-clause-found c =
    let found : IsFound (items_in c.index.new.self) c.args.name.now (Some c.in-Some-2.found.now) = subst (λ o. IsFound (items_in c.index.new.self) c.args.name.now (option_copied o)) c.in-Some-2.is c.in_ok-found.ensures.found in
    found-stands c.args.types.now (items_in c.args.given.now) c.args.name.now c.in-Some-2.found.now c.requires.standing (subst (λ ps. IsFound ps c.args.name.now (Some c.in-Some-2.found.now)) c.index.ensures.same found)
