-- The first thing of a file is its name.
use Rattle.std.proofs.Common.{◌≡◌, ◌∙◌, true, false, sym}
use Rattle.wac_wit_syntax.proofs.Finishing.{completes_as_failed, completes_with}
use Rattle.std.proofs.Common.{Some, refl}
use Rattle.wac_wit_syntax.specs.declared.tree.Document.{Document}
use Rattle.wac_wit_syntax.proofs.Files.{package_named}
use Rattle.wac_wit_syntax.proofs.documents.name_package.Goals as goal

pub returns-clause-read : goal.returns-clause-read
returns-clause-read c = λ before h.
    let d = c.args.document.now in
    let nothing = c.has_nothing.ensures.nothing c.if-not-has_nothing.false in
    let e : Document = record d { «package» = Some c.args.name } in
    package_named before c.args.cursor.now c.expect_end.new.self d e c.args.name nothing.0 nothing.1 nothing.2 refl h c.in_ok-expect_end.ensures.read

pub returns-then-not-has_nothing-clause-complete : goal.returns-then-not-has_nothing-clause-complete
returns-then-not-has_nothing-clause-complete c = λ nothing. absurd (let e : false ≡ true = sym c.if-not-has_nothing.true ∙ c.has_nothing.ensures.complete nothing.0 nothing.1 nothing.2 in cc)

pub returns-in_err-expect_end-clause-complete : goal.returns-in_err-expect_end-clause-complete
returns-in_err-expect_end-clause-complete c = λ nothing. completes_as_failed c.in_err-expect_end.ensures.complete c.from_residual.ensures

pub returns-clause-complete : goal.returns-clause-complete
returns-clause-complete c = λ nothing. completes_with c.in_ok-expect_end.ensures.complete
