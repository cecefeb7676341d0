use Rattle.std.proofs.Common.{sym, ◌∙◌}
use Rattle.wac_core_merge.proofs.NameLemmas.{with_new-present, insert_entry-with_new}
use Rattle.wac_core_merge.proofs.names.insert_new.Goals as goal

pub returns-then-contains_key : goal.returns-then-contains_key
returns-then-contains_key g c = sym (with_new-present g.K.PartialEq.eq c.args.map.now.entries c.args.name c.args.value (sym c.contains_key.ensures ∙ c.if-contains_key.true))

pub returns : goal.returns
returns g c = insert_entry-with_new g.K.PartialEq.eq c.args.map.now c.args.name c.args.value c.insert.new.self.entries (sym c.contains_key.ensures ∙ c.if-contains_key.false) c.in_ok-insert.ensures.entries
