-- The word, the path and the names.
use Rattle.wac_wit_syntax.specs.declared.token.TokenKind.TheVariants.{Word}
use Rattle.wac_wit_syntax.proofs.Finishing.{completes_as_failed, completes_failed, completes_take, completes_then, completes_weaker, completes_with}
use Rattle.wac_wit_syntax.proofs.WorldsLeft.{include_parts}
use Rattle.std.proofs.Common.{codes}
use Rattle.wac_wit_syntax.proofs.Covering.{reads_then}
use Rattle.wac_wit_syntax.proofs.NameTokens.{reads_word}
use Rattle.wac_wit_syntax.proofs.worlds.read_include.Goals as goal

pub returns-clause-read : goal.returns-clause-read
returns-clause-read c = λ before h says.
    let word = reads_word c.args.cursor.now c.take.new.self c.take.result (codes "include") says c.take.ensures.token c.take.ensures.rest c.take.ensures.next in
    reads_then h (reads_then word (reads_then c.in_ok-path.ensures.read c.in_ok-renames.ensures.read))

pub returns-in_err-path-clause-complete : goal.returns-in_err-path-clause-complete
returns-in_err-path-clause-complete c = completes_weaker include_parts (completes_then (completes_take c.args.cursor.now c.take.new.self Word c.take.result (λ e. cc) c.take.ensures.token c.take.ensures.rest c.take.ensures.next) (completes_failed c.in_err-path.ensures.complete c.from_residual.ensures))

pub returns-in_err-renames-clause-complete : goal.returns-in_err-renames-clause-complete
returns-in_err-renames-clause-complete c = completes_weaker include_parts (completes_then (completes_take c.args.cursor.now c.take.new.self Word c.take.result (λ e. cc) c.take.ensures.token c.take.ensures.rest c.take.ensures.next) (completes_then c.in_ok-path.ensures.complete (completes_as_failed c.in_err-renames.ensures.complete c.from_residual-in_err-renames.ensures)))

pub returns-clause-complete : goal.returns-clause-complete
returns-clause-complete c = completes_weaker include_parts (completes_then (completes_take c.args.cursor.now c.take.new.self Word c.take.result (λ e. cc) c.take.ensures.token c.take.ensures.rest c.take.ensures.next) (completes_then c.in_ok-path.ensures.complete (completes_with c.in_ok-renames.ensures.complete)))
