use Rattle.std.proofs.Common.{refl}
use Rattle.wac_component.specs.Content.{named}
use Rattle.wac_targets.specs.Named.{borrowed}
use Rattle.wac_targets.proofs.Distinct.{distinct-named, put-all}
use Rattle.wac_targets.proofs.given.Given.new.Goals as goal

pub returns-clause-items : goal.returns-clause-items
returns-clause-items c = put-all (named (λ k. k) c.args.own.now.entries) (borrowed c.args.implicit.entries) (borrowed c.args.implicit.entries) refl

pub returns-clause-distinct : goal.returns-clause-distinct
returns-clause-distinct c = distinct-named c.args.own.now.entries c.len.ensures.unique

pub returns-clause-lawful : goal.returns-clause-lawful
returns-clause-lawful c = record { distinct = distinct-named c.args.own.now.entries c.len.ensures.unique; by_track = tt }
