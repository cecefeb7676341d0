use Rattle.std.proofs.Common.{refl}
use Rattle.std.proofs.lemmas.Result.{IfOk-weaker}
use Rattle.wac_wit_validation.proofs.ListingFacts.{AreAllListed-scopes}
use Rattle.wac_wit_validation.proofs.validator.Validator.lists_all.Goals as goal

pub returns : goal.returns
returns c = IfOk-weaker c.are_of_texts.result _ _ (λ is told yes of knows.
    AreAllListed-scopes of c.args.listed.now (c.if-not-are_scopes_listed.ensures refl of knows.interfaces) (told yes of knows.interfaces)) c.are_of_texts.ensures
