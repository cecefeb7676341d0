-- A name is taken that is no keyword.
use Rattle.std.proofs.Common.{refl}
use Rattle.wac_wit_syntax.specs.declared.tree.Ident.{Ident}
use Rattle.wac_wit_syntax.proofs.NameTokens.{reads_name}
use Rattle.wac_wit_syntax.proofs.cursor.Cursor.ident.Goals as goal

pub returns-clause-read : goal.returns-clause-read
returns-clause-read c =
    let id : Ident = record { name = c.in_ok-name.name; span = c.take.result.span } in
    reads_name c.args.self.now c.take.new.self id c.peek-token.result c.take.result c.in-Some.text.now c.peek-token.ensures c.in-Some.ensures.name (c.is_bare_keyword.ensures.bare c.if-is_bare_keyword.false) c.take.ensures.token c.take.ensures.rest c.take.ensures.next c.in_ok-name.ensures.ok refl
