-- What is read of the tokens, if nothing is refused.
use Rattle.wac_wit_syntax.proofs.FilesLeft.{all_read}
use Rattle.std.proofs.Common.{◌≡◌, true, false, nat_le, string_bytes, ap, sym, ◌∙◌, subst}
use Rattle.wac_wit_syntax.specs.Cursors.{HasNoRefusal}
use Rattle.wac_wit_syntax.specs.declared.cursor.Cursor.{Cursor}
use Rattle.wac_wit_syntax.proofs.Files.{parsed}
use Rattle.wac_wit_syntax.proofs.documents.parse.Goals as goal

pub returns-clause-read : goal.returns-clause-read
returns-clause-read c =
    let e = c.new-cursor.ensures in
    parsed c.args.text.now c.new-cursor.result c.read_document-document.new.cursor c.in_ok-tokens.tokens.items c.finish.result c.read_document-document.result (ap (λ (x : Cursor). string_bytes x.text) e ∙ c.in_ok-owned.ensures.ok)
    (ap (λ (x : Cursor). x.next) e) (ap (λ (x : Cursor). x.tokens.items) e) (λ q. c.in_ok-tokens.ensures.read (subst HasNoRefusal e q)) c.read_document-document.ensures.read c.read_document-document.ensures.end c.finish.ensures.read

pub returns-then-is_full-clause-complete : goal.returns-then-is_full-clause-complete
returns-then-is_full-clause-complete c = λ document says shallow.
    let read = c.in_ok-tokens.ensures.complete says.0 says.1 c.new-refusals.ensures in
    absurd (let g : false ≡ true = ap (λ n. nat_le 20 n) (sym read.1) ∙ sym c.is_full.ensures ∙ c.if-is_full.true in cc)

pub returns-clause-complete : goal.returns-clause-complete
returns-clause-complete c = λ document says shallow.
    let e = c.new-cursor.ensures in
    let cut = c.in_ok-tokens.ensures.complete says.0 says.1 c.new-refusals.ensures in
    let all = all_read c.args.text.now document c.new-cursor.result c.read_document-document.new.cursor c.in_ok-tokens.tokens.items c.read_document-document.result says shallow c.utf8.text (ap (λ (x : Cursor). string_bytes x.text) e ∙ c.in_ok-owned.ensures.ok)
    (ap (λ (x : Cursor). x.next) e) (ap (λ (x : Cursor). x.tokens.items) e) cut.0 (subst HasNoRefusal (sym e) cut.1) c.read_document-document.ensures.complete in
    c.finish.ensures.complete all.0 all.1
