use Rattle.wac_aggregator_memo.specs.Memo.{memo_of}
use Rattle.wac_aggregator_memo.proofs.RenamedLemmas.{variant_renamed, record_renamed}
use Rattle.wac_aggregator_memo.proofs.memo.Memo.rename_defined.Goals as goal

pub returns-in-Variant : goal.returns-in-Variant
returns-in-Variant c = rw c.in-Variant.is (variant_renamed (memo_of c.args.self.now) c.in-Variant.variant.cases.entries c.rename_cases.new.cases.entries c.rename_cases.ensures)

pub returns-in-Record : goal.returns-in-Record
returns-in-Record c = rw c.in-Record.is (record_renamed (memo_of c.args.self.now) c.in-Record.record.fields.entries c.rename_fields.new.fields.entries c.rename_fields.ensures)
