-- A path, and the names behind it.
use Rattle.std.proofs.Common.{false, inr, refl}
use Rattle.wac_wit_syntax.specs.declared.token.TokenKind.TheVariants.{Word}
use Rattle.wac_wit_syntax.proofs.Finishing.{completes_failed, completes_take, completes_then, completes_weaker}
use Rattle.wac_wit_syntax.proofs.WorldsLeft.{renames_begin, use_parts}
use Rattle.std.proofs.Common.{codes, sym, subst}
use Rattle.wac_wit_syntax.specs.Behind.{ReadsAfterWord}
use Rattle.wac_wit_syntax.specs.Cursors.{Reads}
use Rattle.wac_wit_syntax.specs.Gates.{IsGates}
use Rattle.wac_wit_syntax.specs.Interfaces.{IsUse}
use Rattle.wac_wit_syntax.specs.Paths.{IsPath}
use Rattle.wac_wit_syntax.specs.declared.tree.UseItem.{UseItem}
use Rattle.wac_wit_syntax.proofs.Covering.{reads_then}
use Rattle.wac_wit_syntax.proofs.Ended.{ended_as}
use Rattle.wac_wit_syntax.proofs.NameTokens.{reads_word}
use Rattle.wac_wit_syntax.proofs.interfaces.read_use.Goals as goal

pub returns-clause-read : goal.returns-clause-read
returns-clause-read c =
    let u : UseItem = record { gates = c.args.gates; path = c.in_ok-path-2.path; names = c.in_ok-names.names } in
    let path = subst (λ p. Reads c.take.new.self c.read_path.new.cursor (IsPath p)) (sym c.in_ok-path-2.ensures.value) c.in_ok-path.ensures.read in
    ended_as c.ended.result u (λ x. ReadsAfterWord (IsGates c.args.gates) (codes "use") c.args.cursor.now c.ended.new.self (IsUse x)) c.ended.ensures.value c.ended.ensures.end (λ g. λ before h says.
    let word = reads_word c.args.cursor.now c.take.new.self c.take.result (codes "use") says c.take.ensures.token c.take.ensures.rest c.take.ensures.next in
    reads_then h (reads_then word (reads_then path (reads_then c.in_ok-path-2.ensures.kind (reads_then (c.in_ok-names.ensures.read (λ e. cc) (λ e. cc)) g)))))

pub returns-in_err-path-clause-complete : goal.returns-in_err-path-clause-complete
returns-in_err-path-clause-complete c = completes_weaker use_parts (completes_then (completes_take c.args.cursor.now c.take.new.self Word c.take.result (λ e. cc) c.take.ensures.token c.take.ensures.rest c.take.ensures.next) (completes_failed c.in_err-path.ensures.complete c.from_residual.ensures))

pub returns-in_err-path-2-clause-complete : goal.returns-in_err-path-2-clause-complete
returns-in_err-path-2-clause-complete c = completes_weaker use_parts (completes_then (completes_take c.args.cursor.now c.take.new.self Word c.take.result (λ e. cc) c.take.ensures.token c.take.ensures.rest c.take.ensures.next) (completes_then c.in_ok-path.ensures.complete (completes_failed (c.in_err-path-2.ensures.complete (λ e. cc)) c.from_residual-in_err-path-2.ensures)))

pub returns-in_err-names-clause-complete : goal.returns-in_err-names-clause-complete
returns-in_err-names-clause-complete c = completes_weaker use_parts (completes_then (completes_take c.args.cursor.now c.take.new.self Word c.take.result (λ e. cc) c.take.ensures.token c.take.ensures.rest c.take.ensures.next) (completes_then c.in_ok-path.ensures.complete (completes_then (c.in_ok-path-2.ensures.complete (λ e. cc)) (completes_failed (c.in_err-names.ensures.complete (renames_begin false) (inr refl) (λ e. cc)) c.from_residual-in_err-names.ensures))))

pub returns-clause-complete : goal.returns-clause-complete
returns-clause-complete c = completes_weaker use_parts (completes_then (completes_take c.args.cursor.now c.take.new.self Word c.take.result (λ e. cc) c.take.ensures.token c.take.ensures.rest c.take.ensures.next) (completes_then c.in_ok-path.ensures.complete (completes_then (c.in_ok-path-2.ensures.complete (λ e. cc)) (completes_then (c.in_ok-names.ensures.complete (renames_begin false) (inr refl) (λ e. cc)) (c.ended.ensures.complete)))))
