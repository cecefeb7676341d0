use Rattle.std.proofs.Common.{◌≡◌, ◌∙◌, sym, subst}
use Rattle.std.specs.Cmp.Lexicographic.{bytes_decides}
use Rattle.semver.specs.Identifiers.{parts_of}
use Rattle.wac_model.specs.Text.{Text}
use Rattle.wac_names.specs.Track.{IsTracked}
use Rattle.wac_names.proofs.Tracks.{keys_apart}
use Rattle.wac_names.proofs.track.version_cmp.Goals as goal

pub returns-in_default-clause-answer : goal.returns-in_default-clause-answer
returns-in_default-clause-answer c = let none = rw c.in_default.is at c.in_ok-key.ensures.key in λ s. none s.0 s.1.0 s.1.1

pub returns-in_default-2-clause-answer : goal.returns-in_default-2-clause-answer
returns-in_default-2-clause-answer c = let none = rw c.in_default-2.is at c.in_ok-other.ensures.key in λ s. none s.0 s.2.0 s.2.1

pub returns-then-eq-clause-answer : goal.returns-then-eq-clause-answer
returns-then-eq-clause-answer c =
    let one = rw c.in-Some.is at c.in_ok-key.ensures.key in
    let two = rw c.in-Some-2.is at c.in_ok-other.ensures.key in
    let same : c.in-Some.key.now ≡ c.in-Some-2.other.now = (bytes_decides c.in-Some.key.now c.in-Some-2.other.now).0 (sym c.eq.ensures ∙ c.if-eq.true) in
    (c.in-Some-2.other.now, parts_of c.in-Some.version, parts_of c.in-Some-2.other_version, subst (λ (k : Text). IsTracked c.args.a.now k (parts_of c.in-Some.version)) same one, two, c.cmp.ensures)

pub returns-clause-answer : goal.returns-clause-answer
returns-clause-answer c =
    let one = rw c.in-Some.is at c.in_ok-key.ensures.key in
    let two = rw c.in-Some-2.is at c.in_ok-other.ensures.key in
    keys_apart c.args.a.now c.args.b.now c.in-Some.key.now c.in-Some-2.other.now (sym c.eq.ensures ∙ c.if-eq.false) (parts_of c.in-Some.version, one) (parts_of c.in-Some-2.other_version, two)
