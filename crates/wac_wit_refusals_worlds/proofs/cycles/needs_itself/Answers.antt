use Rattle.std.proofs.lemmas.Result.{IfOk-weaker}
use Rattle.wac_wit_scopes.specs.Scopes.{scope_syntax}
use Rattle.wac_wit_refusals_worlds.proofs.NeededFacts.{needs_first}
use Rattle.wac_wit_refusals_worlds.proofs.Reached.{needs_back}
use Rattle.wac_wit_refusals_sites.proofs.Walks.{among_none}
use Rattle.wac_wit_refusals_worlds.specs.NeededSteps.{this_item}
use Rattle.wac_wit_refusals_worlds.proofs.cycles.needs_itself.Goals as goal

pub returns : goal.returns
returns c = IfOk-weaker c.is_among.result _ _ (λ b found is of judges placed.
    let self = c.args.judge.now in
    let start = c.args.start.now in
    let itself = this_item (scope_syntax start.scope) start.item.now in
    let first = c.in_ok-push_next.ensures of judges itself (needs_first of self start) (λ l among. absurd (among_none _ l c.new-reached.ensures among)) in
    let other = found is in
    let need = c.in_ok-push_all_needs.ensures of judges itself first other.0 other.1 in
    needs_back self other.0 start other.2 need.placed placed of need.needed) c.is_among.ensures
