-- A path, or a name and what has it.
use Rattle.wac_wit_syntax.specs.Behind.{IsNamedRest}
use Rattle.wac_wit_syntax.specs.Cursors.{source}
use Rattle.wac_wit_syntax.specs.Productions.{IsKind}
use Rattle.wac_wit_syntax.specs.declared.token.TokenKind.TheVariants.{Semicolon}
use Rattle.wac_wit_syntax.proofs.Finishing.{completes_failed, completes_given, completes_then, completes_weaker}
use Rattle.wac_wit_syntax.proofs.WorldsLeft.{extern_parts, name_ahead, path_ahead}
use Rattle.wac_wit_syntax.proofs.worlds.read_extern.Goals as goal

pub returns-in_err-first-clause-complete : goal.returns-in_err-first-clause-complete
returns-in_err-first-clause-complete c = completes_weaker extern_parts (completes_failed c.in_err-first.ensures.complete c.from_residual.ensures)

pub returns-in_err-path-clause-complete : goal.returns-in_err-path-clause-complete
returns-in_err-path-clause-complete c = completes_weaker extern_parts (completes_then c.in_ok-first.ensures.complete (completes_given (λ cut j p. path_ahead (source c.ident.new.self) c.ident.new.self.next j (c.is_path_ahead.ensures.path c.if-is_path_ahead.true) p) (completes_failed {Q = IsKind Semicolon} c.in_err-path.ensures.complete c.from_residual-in_err-path.ensures)))

pub returns-then-is_path_ahead-clause-complete : goal.returns-then-is_path_ahead-clause-complete
returns-then-is_path_ahead-clause-complete c = completes_weaker extern_parts (completes_then c.in_ok-first.ensures.complete (completes_given (λ cut j p. path_ahead (source c.ident.new.self) c.ident.new.self.next j (c.is_path_ahead.ensures.path c.if-is_path_ahead.true) p) (completes_then c.in_ok-path.ensures.complete c.ended.ensures.complete)))

pub returns-in_err-expect-clause-complete : goal.returns-in_err-expect-clause-complete
returns-in_err-expect-clause-complete c = completes_weaker extern_parts (completes_then c.in_ok-first.ensures.complete (completes_given (λ cut j p. (let b = c.is_path_ahead.ensures.colon c.if-is_path_ahead.false in name_ahead (source c.ident.new.self) c.ident.new.self.next j b.0 b.1 p)) (completes_failed {Q = IsNamedRest} (c.in_err-expect.ensures.complete (λ e. cc)) c.from_residual-in_err-expect.ensures)))

pub returns-clause-complete : goal.returns-clause-complete
returns-clause-complete c = completes_weaker extern_parts (completes_then c.in_ok-first.ensures.complete (completes_given (λ cut j p. (let b = c.is_path_ahead.ensures.colon c.if-is_path_ahead.false in name_ahead (source c.ident.new.self) c.ident.new.self.next j b.0 b.1 p)) (completes_then (c.in_ok-expect.ensures.complete (λ e. cc)) c.read_named_extern.ensures.complete)))
