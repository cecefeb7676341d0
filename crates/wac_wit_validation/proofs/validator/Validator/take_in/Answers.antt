use Rattle.std.proofs.Common.{inl, inr, refl, sym, subst, Contains, List}
use Rattle.std.proofs.lemmas.List.Elements.{Contains-append_left, Contains-push}
use Rattle.wac_wit_validation.specs.Checking.{IsValidated}
use Rattle.wac_wit_validation_names.specs.declared.places.FoundInterface.{FoundInterface}
use Rattle.wac_wit_validation.proofs.FoundFacts.{Contains-last}
use Rattle.wac_wit_validation.proofs.WorldFacts.{StaysAs-kept}
use Rattle.wac_wit_validation.proofs.validator.Validator.take_in.Goals as goal

pub returns-in_err-insert-clause-stays : goal.returns-in_err-insert-clause-stays
returns-in_err-insert-clause-stays c = StaysAs-kept c.args.self.now _ refl refl refl refl (λ of f knows among. inl among) (λ f among. among)

pub returns-in_err-push-clause-stays : goal.returns-in_err-push-clause-stays
returns-in_err-push-clause-stays c = StaysAs-kept c.args.self.now _ refl refl refl refl (λ of f knows among. inl (subst (λ (l : List FoundInterface). Contains l f) c.in_err-push.ensures.items among))
    (λ f. subst (λ (l : List FoundInterface). Contains l f) (sym c.in_err-push.ensures.items))

pub returns-clause-stays : goal.returns-clause-stays
returns-clause-stays c = StaysAs-kept c.args.self.now _ refl refl refl refl (λ of f knows among.
    elim (Contains-last c.args.self.now.found.items (record { place = c.in-Some.place; id = c.args.id }) f (subst (λ (l : List FoundInterface). Contains l f) c.in_ok-push.ensures.items among))
    [ inl old ↦ inl old | inr same ↦ inr (subst (IsValidated of c.args.self.now) same (c.in_ok-is_found.ensures c.if-not-branch.false of knows)) ])
    (λ f among. subst (λ (l : List FoundInterface). Contains l f) (sym c.in_ok-push.ensures.items) (Contains-append_left c.args.self.now.found.items _ f among))

pub returns-clause-took : goal.returns-clause-took
returns-clause-took c = record {
  found = record { place = c.in-Some.place; id = c.args.id };
  among = subst (λ (l : List FoundInterface). Contains l (record { place = c.in-Some.place; id = c.args.id })) (sym c.in_ok-push.ensures.items) (Contains-push c.args.self.now.found.items _);
  is = refl;
}
