-- The word, the name and the items.
use Rattle.wac_wit_syntax.specs.declared.token.TokenKind.TheVariants.{Word}
use Rattle.wac_wit_syntax.proofs.Finishing.{completes_as_failed, completes_failed, completes_take, completes_then, completes_with}
use Rattle.wac_wit_syntax.proofs.ItemsBegin.{world_items_begin}
use Rattle.wac_wit_syntax.proofs.documents.read_world.Goals as goal

pub returns-in_err-name-clause-complete : goal.returns-in_err-name-clause-complete
returns-in_err-name-clause-complete c = completes_then (completes_take c.args.cursor.now c.take.new.self Word c.take.result (λ e. cc) c.take.ensures.token c.take.ensures.rest c.take.ensures.next) (completes_failed c.in_err-name.ensures.complete c.from_residual.ensures)

pub returns-in_err-items-clause-complete : goal.returns-in_err-items-clause-complete
returns-in_err-items-clause-complete c = completes_then (completes_take c.args.cursor.now c.take.new.self Word c.take.result (λ e. cc) c.take.ensures.token c.take.ensures.rest c.take.ensures.next) (completes_then c.in_ok-name.ensures.complete (completes_as_failed (c.in_err-items.ensures.complete world_items_begin) c.from_residual-in_err-items.ensures))

pub returns-clause-complete : goal.returns-clause-complete
returns-clause-complete c = completes_then (completes_take c.args.cursor.now c.take.new.self Word c.take.result (λ e. cc) c.take.ensures.token c.take.ensures.rest c.take.ensures.next) (completes_then c.in_ok-name.ensures.complete (completes_with (c.in_ok-items.ensures.complete world_items_begin)))
