-- What stands behind the name, by the word.
use Rattle.std.proofs.Common.{inr, refl}
use Rattle.wac_wit_syntax.proofs.Finishing.{completes_as_failed, completes_weaker, completes_with}
use Rattle.wac_wit_syntax.specs.declared.typedefs.DefWord.TheVariants as word
use Rattle.wac_wit_syntax.proofs.ItemsLeft.{body_of, cases_begin, fields_begin, names_begin}
use Rattle.wac_wit_syntax.proofs.typedefs.read_def.Goals as goal

pub returns-in-Alias-clause-complete : goal.returns-in-Alias-clause-complete
returns-in-Alias-clause-complete c = completes_weaker (body_of c.args.word word.Alias c.in-Alias.is) c.read_alias.ensures.complete

pub returns-in_err-read_list-in-Record-clause-complete : goal.returns-in_err-read_list-in-Record-clause-complete
returns-in_err-read_list-in-Record-clause-complete c = completes_weaker (body_of c.args.word word.Record c.in-Record.is) (completes_as_failed (c.in_err-read_list-in-Record.ensures.complete fields_begin (inr refl) (λ e. cc)) c.from_residual.ensures)

pub returns-in_ok-read_list-in-Record-clause-complete : goal.returns-in_ok-read_list-in-Record-clause-complete
returns-in_ok-read_list-in-Record-clause-complete c = completes_weaker (body_of c.args.word word.Record c.in-Record.is) (completes_with (c.in_ok-read_list-in-Record.ensures.complete fields_begin (inr refl) (λ e. cc)))

pub returns-in_err-read_list-in-Variant-clause-complete : goal.returns-in_err-read_list-in-Variant-clause-complete
returns-in_err-read_list-in-Variant-clause-complete c = completes_weaker (body_of c.args.word word.Variant c.in-Variant.is) (completes_as_failed (c.in_err-read_list-in-Variant.ensures.complete cases_begin (inr refl) (λ e. cc)) c.from_residual-in_err-read_list-in-Variant.ensures)

pub returns-in_ok-read_list-in-Variant-clause-complete : goal.returns-in_ok-read_list-in-Variant-clause-complete
returns-in_ok-read_list-in-Variant-clause-complete c = completes_weaker (body_of c.args.word word.Variant c.in-Variant.is) (completes_with (c.in_ok-read_list-in-Variant.ensures.complete cases_begin (inr refl) (λ e. cc)))

pub returns-in_err-read_list-in-Flags-clause-complete : goal.returns-in_err-read_list-in-Flags-clause-complete
returns-in_err-read_list-in-Flags-clause-complete c = completes_weaker (body_of c.args.word word.Flags c.in-Flags.is) (completes_as_failed (c.in_err-read_list-in-Flags.ensures.complete names_begin (inr refl) (λ e. cc)) c.from_residual-in_err-read_list-in-Flags.ensures)

pub returns-in_ok-read_list-in-Flags-clause-complete : goal.returns-in_ok-read_list-in-Flags-clause-complete
returns-in_ok-read_list-in-Flags-clause-complete c = completes_weaker (body_of c.args.word word.Flags c.in-Flags.is) (completes_with (c.in_ok-read_list-in-Flags.ensures.complete names_begin (inr refl) (λ e. cc)))

pub returns-in_err-read_list-in-Enum-clause-complete : goal.returns-in_err-read_list-in-Enum-clause-complete
returns-in_err-read_list-in-Enum-clause-complete c = completes_weaker (body_of c.args.word word.Enum c.in-Enum.is) (completes_as_failed (c.in_err-read_list-in-Enum.ensures.complete names_begin (inr refl) (λ e. cc)) c.from_residual-in_err-read_list-in-Enum.ensures)

pub returns-in_ok-read_list-in-Enum-clause-complete : goal.returns-in_ok-read_list-in-Enum-clause-complete
returns-in_ok-read_list-in-Enum-clause-complete c = completes_weaker (body_of c.args.word word.Enum c.in-Enum.is) (completes_with (c.in_ok-read_list-in-Enum.ensures.complete names_begin (inr refl) (λ e. cc)))

pub returns-in_err-read_methods-in-Resource-clause-complete : goal.returns-in_err-read_methods-in-Resource-clause-complete
returns-in_err-read_methods-in-Resource-clause-complete c = completes_weaker (body_of c.args.word word.Resource c.in-Resource.is) (completes_as_failed c.in_err-read_methods-in-Resource.ensures.complete c.from_residual-in_err-read_methods-in-Resource.ensures)

pub returns-in_ok-read_methods-in-Resource-clause-complete : goal.returns-in_ok-read_methods-in-Resource-clause-complete
returns-in_ok-read_methods-in-Resource-clause-complete c = completes_weaker (body_of c.args.word word.Resource c.in-Resource.is) (completes_with c.in_ok-read_methods-in-Resource.ensures.complete)
