-- The path, and the name that it gets.
use Rattle.wac_wit_syntax.specs.declared.token.TokenKind.TheVariants.{Word}
use Rattle.wac_wit_syntax.proofs.Finishing.{completes_failed, completes_take, completes_then, completes_weaker}
use Rattle.wac_wit_syntax.proofs.TopLeft.{top_use_parts}
use Rattle.wac_wit_syntax.proofs.documents.read_top_use.Goals as goal

pub returns-in_err-path-clause-complete : goal.returns-in_err-path-clause-complete
returns-in_err-path-clause-complete c = completes_weaker top_use_parts (completes_then (completes_take c.args.cursor.now c.take.new.self Word c.take.result (λ e. cc) c.take.ensures.token c.take.ensures.rest c.take.ensures.next) (completes_failed c.in_err-path.ensures.complete c.from_residual.ensures))

pub returns-in_err-alias-clause-complete : goal.returns-in_err-alias-clause-complete
returns-in_err-alias-clause-complete c = completes_weaker top_use_parts (completes_then (completes_take c.args.cursor.now c.take.new.self Word c.take.result (λ e. cc) c.take.ensures.token c.take.ensures.rest c.take.ensures.next) (completes_then c.in_ok-path.ensures.complete (completes_failed c.in_err-alias.ensures.complete c.from_residual-in_err-alias.ensures)))

pub returns-clause-complete : goal.returns-clause-complete
returns-clause-complete c = completes_weaker top_use_parts (completes_then (completes_take c.args.cursor.now c.take.new.self Word c.take.result (λ e. cc) c.take.ensures.token c.take.ensures.rest c.take.ensures.next) (completes_then c.in_ok-path.ensures.complete (completes_then c.in_ok-alias.ensures.complete (c.ended.ensures.complete))))
