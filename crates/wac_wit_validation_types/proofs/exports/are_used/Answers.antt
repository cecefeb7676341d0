use Rattle.std.proofs.Common.{refl}
use Rattle.wac_wit_syntax.specs.declared.tree.Rename.{Rename}
use Rattle.wac_wit_validation_types.specs.Exports.{HasTypeItem, named_items}
use Rattle.wac_wit_scopes.specs.WitSources.{given_name}
use Rattle.wac_wit_validation_types.proofs.MarkFacts.{AllBelow-contains, AllBelow-more, AllBelow-none, among_at, marks_none, marks_then}
use Rattle.wac_wit_validation_types.proofs.exports.are_used.Goals as goal

pub loop-rename-init : goal.loop-rename-init
loop-rename-init c = record {
  marks = λ one s f all brings. marks_none s c.args.names.now c.args.progress.now;
  covers = AllBelow-none (λ (r : Rename). HasTypeItem (named_items c.args.names.now) (given_name r.name r.alias)) c.args.renames.now;
}

pub loop-rename-preserved : goal.loop-rename-preserved
loop-rename-preserved c = record {
  marks = λ one s f all brings.
      let among = among_at c.args.renames.now c.loop-rename.rename-index c.rename-item.result c.loop-rename-test.true c.rename-item.is in
      marks_then s c.args.names.now c.args.progress.now c.loop-rename.progress c.is_used.new.progress (c.loop-rename.invariant.marks one s f all brings) (c.if-not-is_used.ensures.marks refl one s f all (brings c.rename-item.result among));
  covers = AllBelow-more (λ (r : Rename). HasTypeItem (named_items c.args.names.now) (given_name r.name r.alias)) c.args.renames.now c.loop-rename.rename-index c.rename-item.result c.loop-rename-test.true c.rename-item.is c.loop-rename.invariant.covers (c.if-not-is_used.ensures.covers refl);
}

pub returns-clause-marks : goal.returns-clause-marks
returns-clause-marks c = λ h. c.loop-rename.invariant.marks

pub returns-clause-covers : goal.returns-clause-covers
returns-clause-covers c = λ h r among. AllBelow-contains (λ (q : Rename). HasTypeItem (named_items c.args.names.now) (given_name q.name q.alias)) c.args.renames.now c.loop-rename.rename-index r c.loop-rename-test.false c.loop-rename.invariant.covers among
