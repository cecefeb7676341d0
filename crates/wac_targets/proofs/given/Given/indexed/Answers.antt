use Rattle.std.proofs.Common.{[]}
use Rattle.std.specs.Str.{bytes_eq}
use Rattle.indexmap.specs.IndexMap.{insert_all}
use Rattle.wac_targets.specs.Named.{text_keys, borrowed}
use Rattle.wac_targets.proofs.given.Given.indexed.Goals as goal

pub returns-clause-ok : goal.returns-clause-ok
returns-clause-ok c =
    c.in_ok-insert_named.ensures.ok (insert_all bytes_eq [] (borrowed c.args.self.now.implicit.entries)) (c.in_ok-insert_borrowed.ensures.ok [] (c.new-map.ensures.empty text_keys))
