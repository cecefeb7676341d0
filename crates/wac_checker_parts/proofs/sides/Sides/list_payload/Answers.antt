use Rattle.std.proofs.Common.{◌≢◌, is_some, arith}
use Rattle.wac_checker_parts.proofs.ListingLemmas.{stream_turn, future_turn, stream_apart, future_apart}
use Rattle.wac_checker_parts.proofs.sides.Sides.list_payload.Goals as goal
use Rattle.wac_checker_parts.proofs.sides.Sides.list_payload.Goals.{in_default-via-in-None+in_default, in_default-via-in-Some+in_default}

pub returns-in-Some-Some-clause-stream : goal.returns-in-Some-Some-clause-stream
returns-in-Some-Some-clause-stream c = rw (c.in-Some-Some.is-0, c.in-Some-Some.is-1) (stream_turn c.args.self.now.left.now c.args.self.now.right.now c.args.self.now.swapped c.in-Some-Some.x c.in-Some-Some.y c.args.parts.now.items c.list_values.new.parts.items c.requires.none c.list_values.result c.list_values.ensures.listed)

pub returns-in_default-clause-stream : goal.returns-in_default-clause-stream
returns-in_default-clause-stream c =
    let differ : is_some c.args.a.now ≢ is_some c.args.b.now = elim c.in_default.branch [ in_default-via-in-None+in_default w ↦ grind arith | in_default-via-in-Some+in_default w ↦ grind arith ] in
    rw (c.is_some.ensures, c.is_some-in_default.ensures) (stream_apart c.args.self.now.left.now c.args.self.now.right.now c.args.self.now.swapped c.args.parts.now.items c.requires.none c.args.a.now c.args.b.now differ)

pub returns-in-Some-Some-clause-future : goal.returns-in-Some-Some-clause-future
returns-in-Some-Some-clause-future c = rw (c.in-Some-Some.is-0, c.in-Some-Some.is-1) (future_turn c.args.self.now.left.now c.args.self.now.right.now c.args.self.now.swapped c.in-Some-Some.x c.in-Some-Some.y c.args.parts.now.items c.list_values.new.parts.items c.requires.none c.list_values.result c.list_values.ensures.listed)

pub returns-in_default-clause-future : goal.returns-in_default-clause-future
returns-in_default-clause-future c =
    let differ : is_some c.args.a.now ≢ is_some c.args.b.now = elim c.in_default.branch [ in_default-via-in-None+in_default w ↦ grind arith | in_default-via-in-Some+in_default w ↦ grind arith ] in
    rw (c.is_some.ensures, c.is_some-in_default.ensures) (future_apart c.args.self.now.left.now c.args.self.now.right.now c.args.self.now.swapped c.args.parts.now.items c.requires.none c.args.a.now c.args.b.now differ)
