-- The parameters, the result and the end.
use Rattle.std.proofs.Common.{inl, refl}
use Rattle.wac_wit_syntax.proofs.Finishing.{completes_failed, completes_then, completes_weaker}
use Rattle.wac_wit_syntax.proofs.ItemsLeft.{fields_begin, signature_parts}
use Rattle.wac_wit_syntax.specs.declared.tree.Signature.{Signature}
use Rattle.wac_wit_syntax.proofs.Covering.{reads_then}
use Rattle.wac_wit_syntax.proofs.Signatures.{signature_ended}
use Rattle.wac_wit_syntax.proofs.functions.signature_after.Goals as goal

pub returns-clause-read : goal.returns-clause-read
returns-clause-read c =
    let f : Signature = record { params = c.in_ok-params.params; returns = c.in_ok-returns.returns; is_async = c.args.is_async; span = c.to-span.result } in
    signature_ended c.args.start c.last_span.result f c.args.cursor.now c.read_returns.new.cursor c.ended.new.self c.ended.result (reads_then (c.in_ok-params.ensures.read (λ e. cc) (λ e. cc)) c.in_ok-returns.ensures.read)
    c.last_span.ensures c.to-span.ensures c.ended.ensures.end c.ended.ensures.value

pub returns-in_err-params-clause-complete : goal.returns-in_err-params-clause-complete
returns-in_err-params-clause-complete c = completes_weaker signature_parts (completes_failed (c.in_err-params.ensures.complete fields_begin (inl refl) (λ e. cc)) c.from_residual.ensures)

pub returns-in_err-returns-clause-complete : goal.returns-in_err-returns-clause-complete
returns-in_err-returns-clause-complete c = completes_weaker signature_parts (completes_then (c.in_ok-params.ensures.complete fields_begin (inl refl) (λ e. cc)) (completes_failed c.in_err-returns.ensures.complete c.from_residual-in_err-returns.ensures))

pub returns-clause-complete : goal.returns-clause-complete
returns-clause-complete c = completes_weaker signature_parts (completes_then (c.in_ok-params.ensures.complete fields_begin (inl refl) (λ e. cc)) (completes_then c.in_ok-returns.ensures.complete (c.ended.ensures.complete)))
