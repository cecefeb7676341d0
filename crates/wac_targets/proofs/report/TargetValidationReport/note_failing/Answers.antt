use Rattle.std.proofs.Common.{◌≡◌, rules, Some, subst, string_bytes}
use Rattle.std.proofs.lemmas.Map.Text.{btree_map_updates_text}
use Rattle.std.specs.BTreeMap.{get_by_text}
use Rattle.std.specs.Str.{bytes_eq}
use Rattle.wac_model.specs.Text.{Text}
use Rattle.wac_targets.specs.Noting.{Changes, with_mismatch, note_of}
use Rattle.wac_targets.proofs.Notes.{mismatch-changes}
use Rattle.wac_targets.proofs.report.TargetValidationReport.note_failing.Goals as goal

pub returns-clause-noted : goal.returns-clause-noted
returns-clause-noted c =
    let same : string_bytes c.in_ok-name.name ≡ c.args.name.now = search rules in
    let changes : Changes (with_mismatch c.args.kind c.args.error) (string_bytes c.in_ok-name.name) (note_of c.args.self.now) (note_of (record c.args.self.now { mismatched_types = c.insert.new.self })) = λ n. mismatch-changes (bytes_eq (string_bytes c.in_ok-name.name) n) (note_of c.args.self.now n) c.args.kind c.args.error (get_by_text c.insert.new.self n) (btree_map_updates_text (string_bytes c.in_ok-name.name) c.args.self.now.mismatched_types c.insert.new.self (Some (c.args.kind, c.args.error)) c.in_default.ensures.updates n) in
    subst (λ (t : Text). Changes (with_mismatch c.args.kind c.args.error) t (note_of c.args.self.now) (note_of (record c.args.self.now { mismatched_types = c.insert.new.self }))) same changes
