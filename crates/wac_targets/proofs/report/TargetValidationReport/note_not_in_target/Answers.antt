use Rattle.std.proofs.Common.{true, string_bytes}
use Rattle.std.proofs.lemmas.Map.Text.{btree_set_updates_text}
use Rattle.std.specs.BTreeSet.{contains_text}
use Rattle.std.specs.Str.{bytes_eq}
use Rattle.wac_targets.specs.Noting.{note_of}
use Rattle.wac_targets.proofs.Notes.{absent-changes}
use Rattle.wac_targets.proofs.report.TargetValidationReport.note_not_in_target.Goals as goal

pub returns-clause-noted : goal.returns-clause-noted
returns-clause-noted c = λ wanted n.
    let bytes = string_bytes c.args.name in
    absent-changes (bytes_eq bytes n) (note_of c.args.self.now n) wanted (contains_text c.insert.new.self n) (btree_set_updates_text bytes c.args.self.now.imports_not_in_target c.insert.new.self true c.in_default.ensures.updates n)
