-- No methods, or a block of them.
use Rattle.std.proofs.Common.{◌≡◌, true, false, sym, ◌∙◌, subst}
use Rattle.wac_wit_syntax.specs.Cursors.{source}
use Rattle.wac_wit_syntax.specs.Productions.{token_at}
use Rattle.wac_wit_syntax.specs.declared.cursor.Cursor.{Cursor}
use Rattle.wac_wit_syntax.specs.declared.token.TokenKind.TheVariants.{OpenBrace}
use Rattle.wac_wit_syntax.proofs.Finishing.{completes_given, completes_there}
use Rattle.wac_wit_syntax.proofs.ItemsLeft.{methods_block, methods_none, methods_there}
use Rattle.wac_wit_syntax.proofs.Lengthening.{methods_begin}
use Rattle.std.proofs.Common.{inl, inr}
use Rattle.wac_wit_syntax.specs.Cursors.{Reads}
use Rattle.wac_wit_syntax.specs.Typedefs.{AreMethods}
use Rattle.wac_wit_syntax.proofs.Covering.{reads_as}
use Rattle.wac_wit_syntax.proofs.Ended.{if_ok_more}
use Rattle.wac_wit_syntax.proofs.Items.{reads_from}
use Rattle.wac_wit_syntax.proofs.typedefs.read_methods.Goals as goal

pub returns-then-eat-clause-read : goal.returns-then-eat-clause-read
returns-then-eat-clause-read c = reads_as (c.eat.ensures.eaten c.if-eat.true) (λ s i j r. inl (c.new.ensures.items, r))

pub returns-clause-read : goal.returns-clause-read
returns-clause-read c =
    if_ok_more c.read_block.result _ (λ ms. Reads c.args.cursor.now c.read_block.new.cursor (AreMethods ms.items)) c.read_block.ensures.read (λ ms h. reads_as (reads_from (c.eat.ensures.left c.if-eat.false) h) (λ s i j r. inr r))

pub returns-then-eat-clause-complete : goal.returns-then-eat-clause-complete
returns-then-eat-clause-complete c = methods_none c.args.cursor.now c.eat.new.self c.eat.result (c.eat.ensures.complete (λ e. cc)) (c.eat.ensures.seen c.if-eat.true)

pub returns-then-not-sees-clause-complete : goal.returns-then-not-sees-clause-complete
returns-then-not-sees-clause-complete c = record {
  ends = λ cut j p.
      let b = methods_block c.args.cursor.now c.eat.new.self c.eat.result j cut (c.eat.ensures.complete (λ e. cc)) c.if-eat.false p in
      let seen : (token_at (source c.eat.new.self) c.eat.new.self.next).kind ≡ OpenBrace = subst (λ (x : Cursor). (token_at (source x) x.next).kind ≡ OpenBrace) (sym (c.eat.ensures.left c.if-eat.false)) b.1.1.0 in
      absurd (let f : false ≡ true = sym c.if-not-sees.true ∙ c.sees.ensures.complete seen in cc);
}

pub returns-clause-complete : goal.returns-clause-complete
returns-clause-complete c = completes_there (sym (c.eat.ensures.left c.if-eat.false)) (completes_given (λ cut j p. methods_there c.args.cursor.now c.eat.new.self c.eat.result j cut (c.eat.ensures.complete (λ e. cc)) c.if-eat.false (c.eat.ensures.left c.if-eat.false) p)
    (c.read_block.ensures.complete methods_begin))
