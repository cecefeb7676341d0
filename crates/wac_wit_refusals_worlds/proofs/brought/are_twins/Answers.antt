use Rattle.std.proofs.Common.{◌∙◌, ap, sym}
use Rattle.std.specs.Str.{str_to_ascii_lowercase}
use Rattle.wac_wit_refusals_worlds.proofs.brought.are_twins.Goals as goal

pub returns-then-come_apart : goal.returns-then-come_apart
returns-then-come_apart c is = record { apart = c.come_apart.ensures c.if-come_apart.true; same = ap str_to_ascii_lowercase (sym c.deref.ensures) ∙ c.eq_ignore_ascii_case.ensures.test.0 is ∙ ap str_to_ascii_lowercase c.deref-then-come_apart.ensures }
