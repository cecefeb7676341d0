use Rattle.wac_wit_scopes.proofs.PathFacts.{contains_at, read_from}
use Rattle.wac_wit_refusals_types.specs.Following.{body_place}
use Rattle.wac_wit_refusals_types.proofs.wanted.leads_to.Goals as goal

pub loop-index-init : goal.loop-index-init
loop-index-init c of knows t among h = (t, among, h)

pub loop-index-preserved : goal.loop-index-preserved
loop-index-preserved c of knows =
    let found = c.loop-index.followed.found.items in
    let next = c.in-Some.next.now in
    let among = contains_at found c.loop-index.index next (read_from found c.deref.result.now c.loop-index.index next c.deref.ensures.value c.in-Some.ensures.lookup.0 c.in-Some.ensures.lookup.1) in
    c.in_ok-push_named.ensures of knows _ (c.loop-index.invariant of knows next among) (c.loop-index.invariant of knows)

pub returns-then-is_wanted : goal.returns-then-is_wanted
returns-then-is_wanted c is of knows =
    let found = c.loop-index.followed.found.items in
    let next = c.in-Some.next.now in
    let among = contains_at found c.loop-index.index next (read_from found c.deref.result.now c.loop-index.index next c.deref.ensures.value c.in-Some.ensures.lookup.0 c.in-Some.ensures.lookup.1) in
    c.loop-index.invariant of knows next among (c.is_wanted.ensures c.if-is_wanted.true of (body_place next.placed))
