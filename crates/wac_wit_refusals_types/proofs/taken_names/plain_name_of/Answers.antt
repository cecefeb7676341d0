use Rattle.std.proofs.Common.{subst, sym}
use Rattle.wac_wit_refusals_types.specs.NamesTwice.{HasPlainName, plain_function, plain_interface}
use Rattle.wac_wit_syntax.specs.declared.tree.Extern.{Extern}
use Rattle.wac_wit_refusals_types.proofs.taken_names.plain_name_of.Goals as goal

pub returns-in-Func : goal.returns-in-Func
returns-in-Func c = subst (λ (x : Extern). HasPlainName x c.in-Func.name) (sym c.in-Func.is) (plain_function c.in-Func.name c.in-Func.field-1)

pub returns-in-Inline : goal.returns-in-Inline
returns-in-Inline c = subst (λ (x : Extern). HasPlainName x c.in-Inline.name) (sym c.in-Inline.is) (plain_interface c.in-Inline.name c.in-Inline.field-1)
