use Rattle.wac_wit_scopes.proofs.PathFacts.{contains_at, read_from}
use Rattle.wac_wit_refusals_worlds.proofs.NeededFacts.{needs_next}
use Rattle.wac_wit_refusals_worlds.proofs.needs.push_all_needs.Goals as goal

pub loop-index-init : goal.loop-index-init
loop-index-init c = λ of judges n all. all

pub loop-index-preserved : goal.loop-index-preserved
loop-index-preserved c = λ of judges n all.
    let found = c.loop-index.needed.found.items in
    let next = c.in-Some.next.now in
    let among = contains_at found c.loop-index.index next (read_from found c.deref.result.now c.loop-index.index next c.deref.ensures.value c.in-Some.ensures.lookup.0 c.in-Some.ensures.lookup.1) in
    let before = c.loop-index.invariant of judges n all in
    c.in_ok-push_next.ensures of judges n (needs_next of c.args.judge.now n next (before next among)) before

pub returns : goal.returns
returns c = c.loop-index.invariant

pub returns-in_default : goal.returns-in_default
returns-in_default c = c.loop-index.invariant
