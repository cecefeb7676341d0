use Rattle.std.proofs.Common.{sym, ◌∙◌, inl, refl}
use Rattle.wac_names.proofs.name_map.note.Goals as goal

pub returns-then-is_before-clause-ok : goal.returns-then-is_before-clause-ok
returns-then-is_before-clause-ok g c = inl (c.in-Some.field-0.now, sym (rw c.in-Some.is at c.get.ensures.value), sym c.is_before.ensures ∙ c.if-is_before.true, refl)
