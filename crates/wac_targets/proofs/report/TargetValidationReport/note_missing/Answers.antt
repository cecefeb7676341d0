use Rattle.std.proofs.Common.{Some, string_bytes}
use Rattle.std.proofs.lemmas.Map.Text.{btree_map_updates_text}
use Rattle.std.specs.BTreeMap.{get_by_text}
use Rattle.std.specs.Str.{bytes_eq}
use Rattle.wac_targets.specs.Noting.{note_of}
use Rattle.wac_targets.proofs.Notes.{missing-changes}
use Rattle.wac_targets.proofs.report.TargetValidationReport.note_missing.Goals as goal

pub returns-clause-noted : goal.returns-clause-noted
returns-clause-noted c = λ n.
    let bytes = string_bytes c.args.name in
    missing-changes (bytes_eq bytes n) (note_of c.args.self.now n) c.args.wanted.now (get_by_text c.insert.new.self n) (btree_map_updates_text bytes c.args.self.now.missing_exports c.insert.new.self (Some c.args.wanted.now) c.in_default.ensures.updates n)
