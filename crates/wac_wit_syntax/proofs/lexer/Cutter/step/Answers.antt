-- Each piece is a step.
use Rattle.std.proofs.Common.{Some, Result, Ok, Err, OnOk, refl, subst, arith}
use Rattle.wac_wit_syntax.specs.Reading.{IsPieceAt}
use Rattle.wac_wit_syntax.specs.declared.lexer.Piece.TheVariants as piece
use Rattle.wac_wit_syntax.proofs.Cutting.{comment_step, docs_step, refused_step, space_step, token_step}
use Rattle.wac_wit_syntax.proofs.lexer.Cutter.step.Goals as goal

-- what follows of an answer without error from three facts of such answers
from_three : {T E : Type 0} (r : Result T E) (A B C D : Type 0) → OnOk r A → OnOk r B → OnOk r C → (A → B → C → D) → OnOk r D
from_three (Ok v) A B C D a b c f = f a b c
from_three (Err e) A B C D a b c f = tt

pub returns-in-Space-clause-step : goal.returns-in-Space-clause-step
returns-in-Space-clause-step c =
    let at : IsPieceAt c.args.text.now c.args.self.now.at (piece.Space c.in-Space.end) = subst (λ t. IsPieceAt t c.args.self.now.at (piece.Space c.in-Space.end)) c.as_bytes.ensures.value c.in-Space.ensures in
    space_step c.args.text.now c.args.self.now (record { found = c.args.self.now.found; at = c.in-Space.end; docs = c.args.self.now.docs }) c.args.refusals.now.found.items c.in-Space.end refl at refl refl

pub returns-in-Comment-clause-step : goal.returns-in-Comment-clause-step
returns-in-Comment-clause-step c =
    let at : IsPieceAt c.args.text.now c.args.self.now.at (piece.Comment c.in-Comment.end) = subst (λ t. IsPieceAt t c.args.self.now.at (piece.Comment c.in-Comment.end)) c.as_bytes.ensures.value c.in-Comment.ensures in
    comment_step c.args.text.now c.args.self.now (record { found = c.args.self.now.found; at = c.in-Comment.end; docs = c.args.self.now.docs }) c.args.refusals.now.found.items c.in-Comment.end refl at refl refl

pub returns-in-Docs-clause-step : goal.returns-in-Docs-clause-step
returns-in-Docs-clause-step c =
    let at : IsPieceAt c.args.text.now c.args.self.now.at (piece.Docs c.in-Docs.end) = subst (λ t. IsPieceAt t c.args.self.now.at (piece.Docs c.in-Docs.end)) c.as_bytes.ensures.value c.in-Docs.ensures in
    docs_step c.args.text.now c.args.self.now (record { found = c.args.self.now.found; at = c.in-Docs.end; docs = Some c.joined.result }) c.args.refusals.now.found.items c.in-Docs.end refl at refl c.joined.ensures

pub returns-in-Token-clause-step : goal.returns-in-Token-clause-step
returns-in-Token-clause-step c =
    let at : IsPieceAt c.args.text.now c.args.self.now.at (piece.Token c.in-Token.kind c.in-Token.end) = subst (λ t. IsPieceAt t c.args.self.now.at (piece.Token c.in-Token.kind c.in-Token.end)) c.as_bytes.ensures.value c.in-Token.ensures in
    from_three c.push.result _ _ _ _ c.push.ensures.found c.push.ensures.at c.push.ensures.docs
    (λ found place docs. token_step c.args.text.now c.args.self.now c.push.new.self c.args.refusals.now.found.items c.in-Token.end place c.in-Token.kind at found docs)

pub returns-in_ok-refuse-in-Refused-clause-step : goal.returns-in_ok-refuse-in-Refused-clause-step
returns-in_ok-refuse-in-Refused-clause-step c =
    let at : IsPieceAt c.args.text.now c.args.self.now.at (piece.Refused c.in-Refused.kind c.in-Refused.end) = subst (λ t. IsPieceAt t c.args.self.now.at (piece.Refused c.in-Refused.kind c.in-Refused.end)) c.as_bytes.ensures.value c.in-Refused.ensures in
    from_three c.push-in-Refused.result _ _ _ _ c.push-in-Refused.ensures.found c.push-in-Refused.ensures.at c.push-in-Refused.ensures.docs
    (λ found place docs. refused_step c.args.text.now c.args.self.now c.push-in-Refused.new.self c.args.refusals.now.found.items c.in-Refused.end place c.refuse.new.refusals.found.items c.in-Refused.kind at
    (omega (arith, c.in_ok-refuse-in-Refused.ensures.noted, c.refuse.new.refusals.found.ok.0))
    (λ h. let k = c.refuse.ensures.kept (omega (arith, h, c.refuse.new.refusals.found.ok.0)) in omega (arith, k, c.args.refusals.now.found.ok.0)))
