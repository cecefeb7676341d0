-- Names behind `with`, or none.
use Rattle.std.proofs.Common.{true, codes, refl, sym}
use Rattle.wac_wit_syntax.specs.Cursors.{source}
use Rattle.wac_wit_syntax.specs.Productions.{IsWord}
use Rattle.wac_wit_syntax.proofs.Finishing.{completes_eaten, completes_given, completes_then, completes_there}
use Rattle.wac_wit_syntax.proofs.WorldsLeft.{renames_begin, renames_none, renames_with}
use Rattle.std.proofs.Common.{inl, inr}
use Rattle.wac_wit_syntax.specs.Cursors.{Reads}
use Rattle.wac_wit_syntax.specs.Worlds.{AreRenames}
use Rattle.wac_wit_syntax.proofs.Covering.{reads_as, reads_then}
use Rattle.wac_wit_syntax.proofs.Ended.{ended_as, if_ok_more}
use Rattle.wac_wit_syntax.proofs.Items.{reads_from}
use Rattle.wac_wit_syntax.proofs.worlds.read_renames.Goals as goal

pub returns-then-eat_word-clause-read : goal.returns-then-eat_word-clause-read
returns-then-eat_word-clause-read c =
    if_ok_more c.read_list.result _ (λ rs. Reads c.args.cursor.now c.read_list.new.cursor (AreRenames rs.items)) c.read_list.ensures.read
    (λ rs h. reads_as (reads_then (c.eat_word.ensures.eaten (λ e. cc) c.if-eat_word.true) (h (λ e. cc) (λ e. cc))) (λ s i j r. inr r))

pub returns-clause-read : goal.returns-clause-read
returns-clause-read c =
    ended_as c.ended.result c.new.result (λ rs. Reads c.args.cursor.now c.ended.new.self (AreRenames rs.items)) c.ended.ensures.value c.ended.ensures.end
    (λ g. reads_as (reads_from (c.eat_word.ensures.left c.if-eat_word.false) g) (λ s i j r. inl (c.new.ensures.items, r)))

pub returns-then-eat_word-clause-complete : goal.returns-then-eat_word-clause-complete
returns-then-eat_word-clause-complete c =
    completes_given (λ cut j p. renames_with (source c.args.cursor.now) c.args.cursor.now.next j (c.eat_word.ensures.seen (λ e. cc) c.if-eat_word.true) p)
    (completes_then (completes_eaten c.args.cursor.now c.eat_word.new.self c.eat_word.result (IsWord (codes "with")) c.eat_word.ensures.complete) (c.read_list.ensures.complete (renames_begin true) (inr refl) (λ e. cc)))

pub returns-clause-complete : goal.returns-clause-complete
returns-clause-complete c =
    completes_there (sym (c.eat_word.ensures.left c.if-eat_word.false))
    (completes_given (λ cut j p. renames_none c.args.cursor.now c.eat_word.new.self c.eat_word.result j cut c.eat_word.ensures.complete c.if-eat_word.false (c.eat_word.ensures.left c.if-eat_word.false) p) c.ended.ensures.complete)
