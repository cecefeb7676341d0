use Rattle.std.proofs.Common.{refl}
use Rattle.wac_wit_validation.specs.Listing.{IsOfText}
use Rattle.wac_wit_validation_types.proofs.MarkFacts.{AllBelow-contains, AllBelow-more, AllBelow-none}
use Rattle.wac_wit_validation.proofs.validator.Validator.are_of_texts.Goals as goal

pub loop-index-init : goal.loop-index-init
loop-index-init c = λ of knows. AllBelow-none (IsOfText of) c.args.listed.now

pub loop-index-preserved : goal.loop-index-preserved
loop-index-preserved c = λ of knows. AllBelow-more (IsOfText of) c.args.listed.now c.loop-index.index c.index-listed-index.result c.loop-index-test.true c.index-listed-index.is (c.loop-index.invariant of knows) (c.if-not-is_of_text.ensures refl of knows)

pub returns : goal.returns
returns c = λ is of knows l among. AllBelow-contains (IsOfText of) c.args.listed.now c.loop-index.index l c.loop-index-test.false (c.loop-index.invariant of knows) among
