-- The place ends behind the character.
use Rattle.std.proofs.Common.{◌≡◌, ◌⊎◌, ℕ, ◌+◌, Contains, subst}
use Rattle.wac_wit_syntax.proofs.characters.note_character.Goals as goal

pub returns-clause-only : goal.returns-clause-only
returns-clause-only c = λ r h.
    let P : ℕ → Type 0 = λ n. Contains c.args.refusals.now.found.items r ⊎ (r.span ≡ record { start = c.args.at; end = c.args.at + n }) in
    subst P c.len_utf8.ensures.value (c.add.ensures.only r h)
