use Rattle.std.proofs.Common.{◌∙◌, ap, sym}
use Rattle.std.specs.Str.{str_to_ascii_lowercase}
use Rattle.wac_wit_refusals_types.proofs.taken_names.are_twice.Goals as goal

pub returns-then-is_apart : goal.returns-then-is_apart
returns-then-is_apart c is = record { apart = c.is_apart.ensures c.if-is_apart.true; same = ap str_to_ascii_lowercase (sym c.deref.ensures) ∙ c.eq_ignore_ascii_case.ensures.test.0 is ∙ ap str_to_ascii_lowercase c.deref-then-is_apart.ensures }
