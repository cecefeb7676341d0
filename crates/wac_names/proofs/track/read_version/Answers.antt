use Rattle.std.proofs.Common.{sym, ◌∙◌, inl, inr, ap, length}
use Rattle.semver.proofs.Grammar.{version_parts-complete, version_parts-sound}
use Rattle.semver.specs.Parse.{version_parts}
use Rattle.wac_names.proofs.Refusals.{refused_not_memory}
use Rattle.wac_names.proofs.track.read_version.Goals as goal

pub returns-in-Ok-clause-read : goal.returns-in-Ok-clause-read
returns-in-Ok-clause-read c = let s = version_parts-sound _ _ c.in-Ok.ensures.ok in (sym s.0, s.1)

pub returns-in-Ok-clause-no_version : goal.returns-in-Ok-clause-no_version
returns-in-Ok-clause-no_version c = λ none. let s = version_parts-sound _ _ c.in-Ok.ensures.ok in absurd (none _ (sym s.0, s.1))

pub returns-then-is_memory-clause-no_version : goal.returns-then-is_memory-clause-no_version
returns-then-is_memory-clause-no_version c = λ none.
    absurd (refused_not_memory _ _ c.in-Err.ensures.refused none (c.is_memory.ensures.0 c.if-is_memory.true))

pub returns-then-is_memory-clause-plain : goal.returns-then-is_memory-clause-plain
returns-then-is_memory-clause-plain c = λ p v e f.
    let reads = ap version_parts v.0 ∙ version_parts-complete p v.1 in
    let plain = rw reads at c.in-Err.ensures.plain in
    plain (ap length e) (ap length f)

pub returns-else-is_memory-clause-read : goal.returns-else-is_memory-clause-read
returns-else-is_memory-clause-read c = λ p v.
    let reads = ap version_parts v.0 ∙ version_parts-complete p v.1 in
    elim c.in-Err.ensures.err [
      | inl m ↦ cc (c.is_memory.ensures.1 m, c.if-is_memory.false)
      | inr e ↦ cc (reads, e)
    ]
