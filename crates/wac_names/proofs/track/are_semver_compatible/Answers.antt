use Rattle.std.proofs.Common.{sym, ◌∙◌}
use Rattle.wac_names.proofs.Tracks.{compatible_equivalence, keys_compare, not_same, stands_alone}
use Rattle.wac_names.proofs.track.are_semver_compatible.Goals as goal

pub returns-in_default-clause-answer : goal.returns-in_default-clause-answer
returns-in_default-clause-answer c =
    let none = rw c.in_default.is at c.in_ok-key.ensures.key in
    let ne = not_same c.args.a.now c.args.b.now (sym c.eq.ensures ∙ c.if-eq.false) in
    (λ h. absurd (cc h), λ h. absurd (stands_alone _ _ (λ e. ne (sym e)) none (compatible_equivalence.symmetric _ _ h)))

pub returns-in-Some-2-clause-answer : goal.returns-in-Some-2-clause-answer
returns-in-Some-2-clause-answer c =
    let one = rw c.in-Some.is at c.in_ok-key.ensures.key in
    let two = rw c.in-Some-2.is at c.in_ok-other.ensures.key in
    let ne = not_same c.args.a.now c.args.b.now (sym c.eq.ensures ∙ c.if-eq.false) in
    keys_compare _ _ _ _ _ ne one two c.eq-in-Some-2.ensures

pub returns-in-None-clause-answer : goal.returns-in-None-clause-answer
returns-in-None-clause-answer c =
    let none = rw c.in-None.is at c.in_ok-other.ensures.key in
    let ne = not_same c.args.a.now c.args.b.now (sym c.eq.ensures ∙ c.if-eq.false) in
    (λ h. absurd (cc h), λ h. absurd (stands_alone _ _ ne none h))
