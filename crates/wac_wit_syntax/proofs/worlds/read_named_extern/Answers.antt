-- A function, an interface or a path, behind its name.
use Rattle.wac_wit_syntax.specs.declared.token.TokenKind.TheVariants.{Semicolon}
use Rattle.std.proofs.Common.{◌≡◌, ◌∙◌, true, false, codes, sym, subst}
use Rattle.wac_wit_syntax.specs.Behind.{IsNamedRest}
use Rattle.wac_wit_syntax.specs.Completing.{IsReadable}
use Rattle.wac_wit_syntax.specs.Cursors.{source}
use Rattle.wac_wit_syntax.specs.Productions.{IsKind, IsWord}
use Rattle.wac_wit_syntax.specs.declared.cursor.Cursor.{Cursor}
use Rattle.wac_wit_syntax.proofs.Finishing.{completes_as_failed, completes_eaten, completes_failed, completes_given, completes_then, completes_there, completes_with}
use Rattle.wac_wit_syntax.proofs.ItemsBegin.{items_begin}
use Rattle.wac_wit_syntax.proofs.WorldsLeft.{named_block, named_func, named_other, named_path, path_ended}
use Rattle.wac_wit_syntax.specs.Behind.{ReadsAfter}
use Rattle.wac_wit_syntax.specs.Productions.{◌▸◌, IsKind, IsName}
use Rattle.wac_wit_syntax.specs.Worlds.{IsExtern}
use Rattle.wac_wit_syntax.specs.declared.token.TokenKind.TheVariants.{Colon}
use Rattle.wac_wit_syntax.specs.declared.tree.Extern.TheVariants as extern
use Rattle.wac_wit_syntax.proofs.Covering.{reads_then}
use Rattle.wac_wit_syntax.proofs.Ended.{ended_as}
use Rattle.wac_wit_syntax.proofs.Items.{reads_from, reads_third}
use Rattle.wac_wit_syntax.proofs.worlds.read_named_extern.Goals as goal

pub returns-then-sees_func-clause-read : goal.returns-then-sees_func-clause-read
returns-then-sees_func-clause-read c = λ before h. reads_third h c.in_ok-read_signature.ensures.read

pub returns-then-eat_word-clause-read : goal.returns-then-eat_word-clause-read
returns-then-eat_word-clause-read c = λ before h. reads_third h (reads_then (c.eat_word.ensures.eaten (λ e. cc) c.if-eat_word.true) c.in_ok-read_block.ensures.read)

pub returns-clause-read : goal.returns-clause-read
returns-clause-read c =
    ended_as c.ended.result (extern.Named c.args.name c.in_ok-path.path) (λ x. ReadsAfter (IsName c.args.name ▸ IsKind Colon) c.args.cursor.now c.ended.new.self (IsExtern x)) c.ended.ensures.value c.ended.ensures.end
    (λ g. λ before h. reads_third h (reads_then (reads_from (c.eat_word.ensures.left c.if-eat_word.false) c.in_ok-path.ensures.read) g))

pub returns-in_err-read_signature-clause-complete : goal.returns-in_err-read_signature-clause-complete
returns-in_err-read_signature-clause-complete c = completes_given (λ cut j p. named_func (source c.args.cursor.now) c.args.cursor.now.next j (c.sees_func.ensures.seen c.if-sees_func.true) p) (completes_as_failed c.in_err-read_signature.ensures.complete c.from_residual.ensures)

pub returns-then-sees_func-clause-complete : goal.returns-then-sees_func-clause-complete
returns-then-sees_func-clause-complete c = completes_given (λ cut j p. named_func (source c.args.cursor.now) c.args.cursor.now.next j (c.sees_func.ensures.seen c.if-sees_func.true) p) (completes_with c.in_ok-read_signature.ensures.complete)

pub returns-in_err-read_block-clause-complete : goal.returns-in_err-read_block-clause-complete
returns-in_err-read_block-clause-complete c = completes_given (λ cut j p. named_block (source c.args.cursor.now) c.args.cursor.now.next j (c.eat_word.ensures.seen (λ e. cc) c.if-eat_word.true) p) (completes_then (completes_eaten c.args.cursor.now c.eat_word.new.self c.eat_word.result (IsWord (codes "interface")) c.eat_word.ensures.complete) (completes_as_failed (c.in_err-read_block.ensures.complete items_begin) c.from_residual-in_err-read_block.ensures))

pub returns-then-eat_word-clause-complete : goal.returns-then-eat_word-clause-complete
returns-then-eat_word-clause-complete c = completes_given (λ cut j p. named_block (source c.args.cursor.now) c.args.cursor.now.next j (c.eat_word.ensures.seen (λ e. cc) c.if-eat_word.true) p) (completes_then (completes_eaten c.args.cursor.now c.eat_word.new.self c.eat_word.result (IsWord (codes "interface")) c.eat_word.ensures.complete) (completes_with (c.in_ok-read_block.ensures.complete items_begin)))

pub returns-then-not-sees_name-clause-complete : goal.returns-then-not-sees_name-clause-complete
returns-then-not-sees_name-clause-complete c = record {
  ends = λ cut j p.
      let d = c.eat_word.new.self in
      let q = named_other c.args.cursor.now c.eat_word.new.self c.sees_func.result c.eat_word.result j (subst (λ (x : Cursor). IsReadable (source x)) (sym (c.eat_word.ensures.left c.if-eat_word.false)) cut) (c.sees_func.ensures.func cut) (c.sees_func.ensures.is_async cut) c.if-sees_func.false c.eat_word.ensures.complete c.if-eat_word.false (c.eat_word.ensures.left c.if-eat_word.false) (subst (λ (x : Cursor). IsNamedRest (source x) x.next j) (sym (c.eat_word.ensures.left c.if-eat_word.false)) p) in
      let n = named_path (source d) d.next j q in
      absurd (let e : false ≡ true = sym c.if-not-sees_name.true ∙ c.sees_name.ensures (subst (λ (x : Cursor). IsReadable (source x)) (sym (c.eat_word.ensures.left c.if-eat_word.false)) cut) n.0 n.1 in cc);
}

pub returns-in_err-path-clause-complete : goal.returns-in_err-path-clause-complete
returns-in_err-path-clause-complete c =
    completes_there (sym (c.eat_word.ensures.left c.if-eat_word.false))
    (completes_given (λ cut j p. path_ended (source c.eat_word.new.self) c.eat_word.new.self.next j (named_other c.args.cursor.now c.eat_word.new.self c.sees_func.result c.eat_word.result j cut (c.sees_func.ensures.func (subst (λ (x : Cursor). IsReadable (source x)) (c.eat_word.ensures.left c.if-eat_word.false) cut)) (c.sees_func.ensures.is_async (subst (λ (x : Cursor). IsReadable (source x)) (c.eat_word.ensures.left c.if-eat_word.false) cut)) c.if-sees_func.false c.eat_word.ensures.complete c.if-eat_word.false (c.eat_word.ensures.left c.if-eat_word.false) p)) (completes_failed {Q = IsKind Semicolon} c.in_err-path.ensures.complete c.from_residual-in_err-path.ensures))

pub returns-clause-complete : goal.returns-clause-complete
returns-clause-complete c =
    completes_there (sym (c.eat_word.ensures.left c.if-eat_word.false))
    (completes_given (λ cut j p. path_ended (source c.eat_word.new.self) c.eat_word.new.self.next j (named_other c.args.cursor.now c.eat_word.new.self c.sees_func.result c.eat_word.result j cut (c.sees_func.ensures.func (subst (λ (x : Cursor). IsReadable (source x)) (c.eat_word.ensures.left c.if-eat_word.false) cut)) (c.sees_func.ensures.is_async (subst (λ (x : Cursor). IsReadable (source x)) (c.eat_word.ensures.left c.if-eat_word.false) cut)) c.if-sees_func.false c.eat_word.ensures.complete c.if-eat_word.false (c.eat_word.ensures.left c.if-eat_word.false) p)) (completes_then c.in_ok-path.ensures.complete c.ended.ensures.complete))
