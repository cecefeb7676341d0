-- Functions, piece by piece.
use Rattle.std.proofs.Common.{◌≡◌, ◌-◌, Bool, true, false, codes, Result, Ok, Err, IfOk, OnOk, refl, sym, subst}
use Rattle.wac_wit_syntax.specs.Behind.{ReadsSignature}
use Rattle.wac_wit_syntax.specs.Cursors.{Reads, source}
use Rattle.wac_wit_syntax.specs.Functions.{IsParams, IsReturns, IsSignature, MayBeAsync}
use Rattle.wac_wit_syntax.specs.Productions.{◌▸◌, IsKind, IsWord, token_at}
use Rattle.wac_wit_syntax.specs.declared.cursor.Cursor.{Cursor}
use Rattle.wac_wit_syntax.specs.declared.error.Fault.{Fault}
use Rattle.wac_wit_syntax.specs.declared.positions.Span.{Span}
use Rattle.wac_wit_syntax.specs.declared.token.TokenKind.TheVariants.{Semicolon}
use Rattle.wac_wit_syntax.specs.declared.tree.Signature.{Signature}
use Rattle.wac_wit_syntax.proofs.Covering.{reads_nothing, reads_spanning, reads_then}

-- `async`, where it was eaten
pub reads_async : (b : Bool) (c d : Cursor) → (b ≡ true → Reads c d (IsWord (codes "async"))) → (b ≡ false → d ≡ c) → Reads c d (MayBeAsync b)
reads_async true c d h g = h refl
reads_async false c d h g = reads_nothing c d (g refl)

-- the `;` behind what was made of the parameters and the result
pub signature_ended : (start last : Span) (f : Signature) (c e d : Cursor) (r : Result Signature Fault) → Reads c e (IsParams f.params.items ▸ IsReturns f.returns) → last ≡ (token_at (source e) (e.next - 1)).span
    → f.span ≡ record { start = start.start; end = last.end } → OnOk r (Reads e d (IsKind Semicolon)) → IfOk r (λ s. s ≡ f) → IfOk r (λ s. ReadsSignature start s c d)
signature_ended start last f c e d (Ok s) h l p g same = subst (λ x. ReadsSignature start x c d) (sym same) (record { end = e; last = last; parts = h; semicolon = g; last_is = l; span_is = p })
signature_ended start last f c e d (Err x) h l p g same = tt

pub signature_read : (b : Bool) (start : Span) (c d e f : Cursor) (r : Result Signature Fault) → Reads c d (MayBeAsync b) → Reads d e (IsWord (codes "func")) → start ≡ (token_at (source c) c.next).span
    → IfOk r (λ s. ReadsSignature start s e f) → IfOk r (λ s. s.is_async ≡ b) → IfOk r (λ s. Reads c f (IsSignature s))
signature_read b start c d e f (Ok s) h g l x same =
    let async = subst (λ v. Reads c d (MayBeAsync v)) (sym same) h in
    reads_then (reads_spanning (reads_then async (reads_then g x.parts)) start x.last s.span l x.last_is x.span_is) x.semicolon
signature_read b start c d e f (Err x) h g l y same = tt
