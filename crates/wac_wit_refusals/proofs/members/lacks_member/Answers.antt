use Rattle.std.proofs.Common.{refl}
use Rattle.wac_wit_scopes.specs.Scopes.{scope_syntax}
use Rattle.wac_wit_scopes.specs.WitSources.{ident_text}
use Rattle.wac_wit_refusals.proofs.Lacking.{lacking_all, lacking_exact, lacking_own}
use Rattle.wac_wit_refusals.proofs.members.lacks_member.Goals as goal

pub returns-in-Some : goal.returns-in-Some
returns-in-Some c = λ is of judges. lacking_exact of c.args.judge.now judges (scope_syntax c.args.from.now) c.args.path.now.package c.in-Some.named (ident_text c.args.path.now.name) c.in-Some.is (c.is_exact.ensures c.if-is_exact.true of judges) (c.is_lacking.ensures is)

pub returns-in-Some-2 : goal.returns-in-Some-2
returns-in-Some-2 c = λ is of judges. lacking_all of c.args.judge.now judges (scope_syntax c.args.from.now) c.args.path.now.package c.in-Some-2.named (ident_text c.args.path.now.name) c.in-Some-2.is (c.are_lacking.ensures is)

pub returns-in-None : goal.returns-in-None
returns-in-None c = λ is of judges. lacking_own of c.args.judge.now judges (scope_syntax c.args.from.now) c.args.path.now.package c.args.from.now.package.now (ident_text c.args.path.now.name) c.in-None.is refl (c.is_lacking-in-None.ensures is)
