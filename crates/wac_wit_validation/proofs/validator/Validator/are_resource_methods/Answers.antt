use Rattle.std.proofs.Common.{refl}
use Rattle.wac_wit_syntax.specs.declared.tree.Method.{Method}
use Rattle.wac_wit_validation_types.specs.Exports.{HasMethodItem, named_items}
use Rattle.wac_wit_scopes.specs.WitSources.{ident_text}
use Rattle.wac_wit_validation_types.proofs.MarkFacts.{AllBelow-contains, AllBelow-more, AllBelow-none, among_at, marks_none, marks_then}
use Rattle.wac_wit_validation.proofs.validator.Validator.are_resource_methods.Goals as goal

pub loop-method-init : goal.loop-method-init
loop-method-init c = record {
  marks = λ own s knows offers. marks_none s c.args.names.now c.args.progress.now;
  covers = λ of knows. AllBelow-none (λ (m : Method). HasMethodItem of (named_items c.args.names.now) (ident_text c.args.name.now) m) c.args.methods.now;
}

pub loop-method-preserved : goal.loop-method-preserved
loop-method-preserved c = record {
  marks = λ own s knows offers.
      let among = among_at c.args.methods.now c.loop-method.method-index c.method-item.result c.loop-method-test.true c.method-item.is in
      marks_then s c.args.names.now c.args.progress.now c.loop-method.progress c.is_method.new.progress (c.loop-method.invariant.marks own s knows offers) (c.if-not-is_method.ensures.marks refl own s knows (offers c.method-item.result among));
  covers = λ of knows.
      AllBelow-more (λ (m : Method). HasMethodItem of (named_items c.args.names.now) (ident_text c.args.name.now) m) c.args.methods.now c.loop-method.method-index c.method-item.result c.loop-method-test.true c.method-item.is
      (c.loop-method.invariant.covers of knows) (c.if-not-is_method.ensures.covers refl of knows);
}

pub returns-clause-marks : goal.returns-clause-marks
returns-clause-marks c = λ h. c.loop-method.invariant.marks

pub returns-clause-covers : goal.returns-clause-covers
returns-clause-covers c = λ h of knows m among. AllBelow-contains (λ (n : Method). HasMethodItem of (named_items c.args.names.now) (ident_text c.args.name.now) n) c.args.methods.now c.loop-method.method-index m c.loop-method-test.false (c.loop-method.invariant.covers of knows) among
