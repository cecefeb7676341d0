use Rattle.std.proofs.Common.{◌≡◌, sym, arith, ◌∙◌, inl, inr, ap, length, true, ◌==◌}
use Rattle.std.proofs.lemmas.Str.Pattern.{split_parts}
use Rattle.std.proofs.lemmas.Bool.{eq-eqb, eqb-true}
use Rattle.std.proofs.lemmas.List.{nil_from_length}
use Rattle.std.proofs.lemmas.Grind.{common_steps}
use Rattle.semver.specs.Identifiers.{parts_of}
use Rattle.semver.specs.Parse.{Parts}
use Rattle.wac_names.specs.Reading.{IsVersionText}
use Rattle.wac_names.proofs.Tracks.{parts_same}
use Rattle.wac_names.proofs.Cuts.{no_at, no_key, tracked_at, version_after, versioned_at}
use Rattle.wac_names.proofs.track.tracked.Goals as goal

pub returns-in_default-clause-key : goal.returns-in_default-clause-key
returns-in_default-clause-key c = λ key p t.
    let none = rw c.in_default.is at (split_parts 64 c.args.name.now _ c.split_once.ensures.cases (omega arith)) in
    no_at _ _ _ none t.versioned.written

pub returns-in_err-version-clause-no_memory : goal.returns-in_err-version-clause-no_memory
returns-in_err-version-clause-no_memory c =
    let cut = rw c.in-Some.is at (split_parts 64 c.args.name.now _ c.split_once.ensures.cases (omega arith)) in
    elim [
      | inl none ↦ absurd (no_at _ _ _ none cut.0)
      | inr rest ↦ elim rest [
        | inl none ↦ cc (c.in_err-version.ensures.no_version (λ p v. none _ p (versioned_at _ _ _ p cut.0 cut.1 v)))
        | inr v ↦ cc (c.in_err-version.ensures.plain v.1 (version_after _ _ _ _ _ cut.0 cut.1 v.2) v.3 v.4)
      ]
    ]

pub returns-in_default-2-clause-key : goal.returns-in_default-2-clause-key
returns-in_default-2-clause-key c = λ key p t.
    let cut = rw c.in-Some.is at (split_parts 64 c.args.name.now _ c.split_once.ensures.cases (omega arith)) in
    let none = rw c.in_default-2.is at c.in_ok-version.ensures.read in
    none p (version_after _ _ _ _ _ cut.0 cut.1 t.versioned)

pub returns-then-not-is_empty-clause-key : goal.returns-then-not-is_empty-clause-key
returns-then-not-is_empty-clause-key c = λ key p t.
    let cut = rw c.in-Some.is at (split_parts 64 c.args.name.now _ c.split_once.ensures.cases (omega arith)) in
    let read = rw c.in-Some-2.is at c.in_ok-version.ensures.read in
    let other : IsVersionText c.in-Some.text.now p = version_after _ _ _ _ _ cut.0 cut.1 t.versioned in
    let same : parts_of c.in-Some-2.version ≡ p = parts_same _ _ read.1 other.1 (sym read.0 ∙ other.0) in
    let pre : (parts_of c.in-Some-2.version).3 ≡ p.3 = ap (λ (q : Parts). q.3) same in
    let none = eq-eqb _ 0 (ap length (pre ∙ t.release)) in
    cc (none, c.is_empty.ensures, c.if-not-is_empty.true)

pub returns-in_default-key_front-clause-key : goal.returns-in_default-key_front-clause-key
returns-in_default-key_front-clause-key c = λ key p t.
    let cut = rw c.in-Some.is at (split_parts 64 c.args.name.now _ c.split_once.ensures.cases (omega arith)) in
    let read = rw c.in-Some-2.is at c.in_ok-version.ensures.read in
    let other : IsVersionText c.in-Some.text.now p = version_after _ _ _ _ _ cut.0 cut.1 t.versioned in
    let same : parts_of c.in-Some-2.version ≡ p = parts_same _ _ read.1 other.1 (sym read.0 ∙ other.0) in
    let zeros = rw c.in_default-key_front.is at c.key_front.ensures in
    no_key _ p key t.key_text (sym (ap (λ (q : Parts). q.0) same) ∙ zeros.0) (sym (ap (λ (q : Parts). q.1) same) ∙ zeros.1)

pub returns-clause-key : goal.returns-clause-key
returns-clause-key c =
    let cut = rw c.in-Some.is at (split_parts 64 c.args.name.now _ c.split_once.ensures.cases (omega arith)) in
    let read = rw c.in-Some-2.is at c.in_ok-version.ensures.read in
    let front = rw c.in-Some-key_front.is at c.key_front.ensures in
    let empty : (length (parts_of c.in-Some-2.version).3 == 0) ≡ true = cc (c.is_empty.ensures, c.if-not-is_empty.false) in
    let none = nil_from_length _ (eqb-true _ _ empty) in
    tracked_at c.args.name.now c.in-Some.base.now c.in-Some.text.now _ c.in-Some-key_front.n (parts_of c.in-Some-2.version) cut.0 cut.1 read none front.2
    (grind (arith, common_steps, c.range.ensures.value))
