use Rattle.std.proofs.Common.{◌∙◌, sym, subst, arith}
use Rattle.std.proofs.lemmas.List.{length-map}
use Rattle.wac_checker_parts.proofs.Lookups.{take_all}
use Rattle.wac_component.specs.Content.{named}
use Rattle.wac_component.specs.Key.{AllStand, item_keys, named_keys}
use Rattle.wac_targets.specs.Given.{items_in}
use Rattle.wac_targets.specs.Noting.{NotesAt, AreNoted, note_of}
use Rattle.wac_targets.proofs.Distinct.{distinct-named}
use Rattle.wac_targets.proofs.Notes.{AreNoted-more}
use Rattle.wac_targets.proofs.Standing.{item-stands}
use Rattle.wac_targets.proofs.checks.check_all.Goals as goal

pub check_one-requires-clause-standing : goal.check_one-requires-clause-standing
check_one-requires-clause-standing c = subst (λ ps. AllStand c.args.types.now (named_keys item_keys ps)) (sym c.loop-i.invariant.same) c.requires.standing

pub check_one-requires-clause-wanted : goal.check_one-requires-clause-wanted
check_one-requires-clause-wanted c = item-stands c.args.types.now (named (λ k. k) c.args.wanted.now.entries) c.loop-i.i c.named_at.result.0.now c.named_at.result.1.now c.named_at.ensures c.requires.wanted

pub loop-i-preserved : goal.loop-i-preserved
loop-i-preserved c = record {
  direction = c.check_one.ensures.direction ∙ c.loop-i.invariant.direction;
  depth = c.check_one.ensures.depth ∙ c.loop-i.invariant.depth;
  remembered = c.check_one.ensures.remembered;
  lawful = c.check_one.ensures.lawful;
  same = c.check_one.ensures.same ∙ c.loop-i.invariant.same;
  noted =
      AreNoted-more c.args.types.now c.args.kind (items_in c.args.given.now) (named (λ k. k) c.args.wanted.now.entries) c.loop-i.i c.named_at.result.0.now c.named_at.result.1.now (note_of c.args.report.now) (note_of c.loop-i.report) (note_of c.check_one.new.report) (distinct-named c.args.wanted.now.entries c.len-i-end.ensures.unique) c.named_at.ensures c.loop-i.invariant.noted
      (subst (λ ps. NotesAt c.args.types.now c.args.kind ps c.named_at.result.0.now c.named_at.result.1.now (note_of c.loop-i.report) (note_of c.check_one.new.report)) c.loop-i.invariant.same c.in_ok-check_one.ensures.noted);
}

pub returns-clause-noted : goal.returns-clause-noted
returns-clause-noted c =
    let wanted = named (λ k. k) c.args.wanted.now.entries in
    subst (λ ws. AreNoted c.args.types.now c.args.kind (items_in c.args.given.now) ws (note_of c.args.report.now) (note_of c.loop-i.report)) (take_all wanted c.loop-i.i (simp length-map (omega arith))) c.loop-i.invariant.noted
