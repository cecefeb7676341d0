use Rattle.std.proofs.Common.{nat_eq, sym}
use Rattle.indexmap.specs.IndexMap.{get}
use Rattle.wac_wit_scopes.proofs.AllScopes.{HasGroup-kept, HasGroup-put}
use Rattle.wac_wit_scopes.proofs.packages.add_group.Goals as goal

pub returns-in-Some-clause-has : goal.returns-in-Some-clause-has
returns-in-Some-clause-has c = λ is. record { package_name = c.in-Some.known.now; at = sym c.in-Some.ensures.value; same = c.is_same_package.ensures.0 is }

pub returns-in-Some-clause-clear : goal.returns-in-Some-clause-clear
returns-in-Some-clause-clear c = λ of names groups one. c.is_same_package.ensures.1 (one c.args.group _ _ (groups c.args.group c.in-Some.known.now (sym c.in-Some.ensures.value)) names)

pub returns-clause-keeps : goal.returns-clause-keeps
returns-clause-keeps c = HasGroup-kept (get nat_eq c.args.groups.now) (get nat_eq c.insert.new.self) c.args.group c.args.package c.in_ok-insert.ensures.updates.0 (sym c.in_default.ensures.value)

pub returns-clause-has : goal.returns-clause-has
returns-clause-has c = λ is. HasGroup-put (get nat_eq c.args.groups.now) (get nat_eq c.insert.new.self) c.args.group c.args.package c.in_ok-insert.ensures.updates.0
