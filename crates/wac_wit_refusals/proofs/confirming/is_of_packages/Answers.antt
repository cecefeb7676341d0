use Rattle.std.proofs.Common.{subst, sym}
use Rattle.wac_wit_refusals.specs.Reasons.{IsWrong, another_package, nameless, package_twice, upper_case}
use Rattle.wac_wit_refusals.specs.Trees.{wit_sources}
use Rattle.wac_wit_refusals.proofs.confirming.is_of_packages.Goals as goal

pub returns-in-AnotherPackage : goal.returns-in-AnotherPackage
returns-in-AnotherPackage c = λ is. subst (IsWrong (wit_sources c.args.sources.now) c.args.file c.args.span) (sym c.in-AnotherPackage.is) (another_package (c.is_another_package.ensures is))

pub returns-in-UpperCase : goal.returns-in-UpperCase
returns-in-UpperCase c = λ is. subst (IsWrong (wit_sources c.args.sources.now) c.args.file c.args.span) (sym c.in-UpperCase.is) (upper_case (c.is_upper_case.ensures is))

pub returns-in-PackageTwice : goal.returns-in-PackageTwice
returns-in-PackageTwice c = λ is. subst (IsWrong (wit_sources c.args.sources.now) c.args.file c.args.span) (sym c.in-PackageTwice.is) (package_twice (c.is_package_twice.ensures is))

pub returns-in-Nameless : goal.returns-in-Nameless
returns-in-Nameless c = λ is. subst (IsWrong (wit_sources c.args.sources.now) c.args.file c.args.span) (sym c.in-Nameless.is) (nameless (c.is_nameless.ensures is))
