use Rattle.std.proofs.Common.{subst}
use Rattle.wac_wit_refusals.specs.Packages.{HasUpperCase, in_name, in_namespace}
use Rattle.wac_wit_refusals.proofs.packages.has_upper_case.Goals as goal

pub returns-then-is_upper_case_at : goal.returns-then-is_upper_case_at
returns-then-is_upper_case_at c is = subst (HasUpperCase c.args.name.now) (c.if-is_upper_case_at.ensures.stands is) (in_namespace (c.if-is_upper_case_at.ensures.has is))

pub returns : goal.returns
returns c is = subst (HasUpperCase c.args.name.now) (c.is_upper_case_at-2.ensures.stands is) (in_name (c.is_upper_case_at-2.ensures.has is))
