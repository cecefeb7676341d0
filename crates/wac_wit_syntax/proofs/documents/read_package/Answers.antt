-- The name of the file's package, or a package inside the file.
use Rattle.wac_wit_syntax.specs.declared.token.TokenKind.TheVariants.{Word}
use Rattle.wac_wit_syntax.specs.Cursors.{source}
use Rattle.wac_wit_syntax.proofs.Finishing.{completes_as_failed, completes_failed, completes_given, completes_take, completes_then, completes_weaker, completes_with}
use Rattle.wac_wit_syntax.proofs.FilesLeft.{PackageEnd, package_block, package_ended, package_rest}
use Rattle.wac_wit_syntax.proofs.ItemsBegin.{top_items_begin}
use Rattle.std.proofs.Common.{codes, refl}
use Rattle.wac_wit_syntax.specs.Behind.{ReadsAfterWord}
use Rattle.wac_wit_syntax.specs.Documents.{IsDocument}
use Rattle.wac_wit_syntax.specs.declared.tree.Document.{Document}
use Rattle.wac_wit_syntax.specs.declared.tree.NestedPackage.{NestedPackage}
use Rattle.wac_wit_syntax.proofs.Covering.{reads_then}
use Rattle.wac_wit_syntax.proofs.Ended.{on_ok_more}
use Rattle.wac_wit_syntax.proofs.Files.{package_put}
use Rattle.wac_wit_syntax.proofs.NameTokens.{reads_word}
use Rattle.wac_wit_syntax.proofs.documents.read_package.Goals as goal

pub returns-then-not-sees-clause-read : goal.returns-then-not-sees-clause-read
returns-then-not-sees-clause-read c =
    on_ok_more c.name_package.result _ (ReadsAfterWord (IsDocument c.args.document.now) (codes "package") c.args.cursor.now c.name_package.new.cursor (IsDocument c.name_package.new.document)) c.name_package.ensures.read (λ f. λ before h says.
    let word = reads_word c.args.cursor.now c.take.new.self c.take.result (codes "package") says c.take.ensures.token c.take.ensures.rest c.take.ensures.next in
    f before (reads_then h (reads_then word c.in_ok-name.ensures.read)))

pub returns-clause-read : goal.returns-clause-read
returns-clause-read c = λ before h says.
    let word = reads_word c.args.cursor.now c.take.new.self c.take.result (codes "package") says c.take.ensures.token c.take.ensures.rest c.take.ensures.next in
    let d = c.args.document.now in
    let p : NestedPackage = record { name = c.in_ok-name.name; items = c.in_ok-items.items } in
    let e : Document = record d { packages = c.push.new.self } in
    package_put before c.args.cursor.now c.read_block.new.cursor d e p refl refl c.in_ok-push.ensures.items h (reads_then word (reads_then c.in_ok-name.ensures.read c.in_ok-items.ensures.read))

pub returns-in_err-name-clause-complete : goal.returns-in_err-name-clause-complete
returns-in_err-name-clause-complete c = completes_weaker (package_rest c.args.document.now) (completes_then (completes_take c.args.cursor.now c.take.new.self Word c.take.result (λ e. cc) c.take.ensures.token c.take.ensures.rest c.take.ensures.next) (completes_failed {Q = PackageEnd c.args.document.now} c.in_err-name.ensures.complete c.from_residual.ensures))

pub returns-then-not-sees-clause-complete : goal.returns-then-not-sees-clause-complete
returns-then-not-sees-clause-complete c =
    completes_weaker (package_rest c.args.document.now) (completes_then (completes_take c.args.cursor.now c.take.new.self Word c.take.result (λ e. cc) c.take.ensures.token c.take.ensures.rest c.take.ensures.next) (completes_then c.in_ok-name.ensures.complete (package_ended c.args.document.now c.read_package_name.new.cursor c.name_package.new.cursor c.name_package.result c.sees.result c.name_package.ensures.complete c.sees.ensures.complete c.if-not-sees.true)))

pub returns-in_err-items-clause-complete : goal.returns-in_err-items-clause-complete
returns-in_err-items-clause-complete c =
    completes_weaker (package_rest c.args.document.now) (completes_then (completes_take c.args.cursor.now c.take.new.self Word c.take.result (λ e. cc) c.take.ensures.token c.take.ensures.rest c.take.ensures.next) (completes_then {Q = PackageEnd c.args.document.now} c.in_ok-name.ensures.complete (completes_given (λ cut j p. package_block c.args.document.now (source c.read_package_name.new.cursor) c.read_package_name.new.cursor.next j (c.sees.ensures.seen c.if-not-sees.false) p)
    (completes_as_failed (c.in_err-items.ensures.complete top_items_begin) c.from_residual-in_err-items.ensures))))

pub returns-clause-complete : goal.returns-clause-complete
returns-clause-complete c =
    completes_weaker (package_rest c.args.document.now) (completes_then (completes_take c.args.cursor.now c.take.new.self Word c.take.result (λ e. cc) c.take.ensures.token c.take.ensures.rest c.take.ensures.next) (completes_then {Q = PackageEnd c.args.document.now} c.in_ok-name.ensures.complete (completes_given (λ cut j p. package_block c.args.document.now (source c.read_package_name.new.cursor) c.read_package_name.new.cursor.next j (c.sees.ensures.seen c.if-not-sees.false) p)
    (completes_with (c.in_ok-items.ensures.complete top_items_begin)))))
