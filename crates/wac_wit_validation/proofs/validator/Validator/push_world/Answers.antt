use Rattle.std.proofs.Common.{inl, inr, refl, sym, subst, Contains, List}
use Rattle.std.proofs.lemmas.List.Elements.{Contains-append_left, Contains-push}
use Rattle.wac_wit_validation.specs.WorldChecking.{IsValidatedWorld}
use Rattle.wac_wit_validation.specs.declared.validator.FoundWorld.{FoundWorld}
use Rattle.wac_wit_validation.proofs.FoundFacts.{Contains-last}
use Rattle.wac_wit_validation.proofs.WorldFacts.{KnowsWorlds-kept}
use Rattle.wac_wit_validation.proofs.validator.Validator.push_world.Goals as goal

pub returns-in_err-insert-clause-knows : goal.returns-in_err-insert-clause-knows
returns-in_err-insert-clause-knows c = λ of knows here. KnowsWorlds-kept of c.args.self.now _ refl refl refl refl knows (λ f among. inl among)

pub returns-in_err-insert-2-clause-knows : goal.returns-in_err-insert-2-clause-knows
returns-in_err-insert-2-clause-knows c = λ of knows here. KnowsWorlds-kept of c.args.self.now _ refl refl refl refl knows (λ f among. inl among)

pub returns-in_err-push-clause-knows : goal.returns-in_err-push-clause-knows
returns-in_err-push-clause-knows c = λ of knows here. KnowsWorlds-kept of c.args.self.now _ refl refl refl refl knows (λ f among. inl (subst (λ (l : List FoundWorld). Contains l f) c.in_err-push.ensures.items among))

pub returns-clause-knows : goal.returns-clause-knows
returns-clause-knows c = λ of knows here. KnowsWorlds-kept of c.args.self.now _ refl refl refl refl knows (λ f among.
    elim (Contains-last c.args.self.now.worlds.items c.args.found f (subst (λ (l : List FoundWorld). Contains l f) c.in_ok-push.ensures.items among)) [ inl old ↦ inl old | inr same ↦ inr (subst (IsValidatedWorld of c.args.self.now) same here) ])

pub returns-in_err-push-clause-keeps : goal.returns-in_err-push-clause-keeps
returns-in_err-push-clause-keeps c = record { interfaces = λ f among. among; worlds = λ f. subst (λ (l : List FoundWorld). Contains l f) (sym c.in_err-push.ensures.items) }

pub returns-clause-keeps : goal.returns-clause-keeps
returns-clause-keeps c = record {
  interfaces = λ f among. among;
  worlds = λ f among. subst (λ (l : List FoundWorld). Contains l f) (sym c.in_ok-push.ensures.items) (Contains-append_left c.args.self.now.worlds.items _ f among);
}

pub returns-clause-took : goal.returns-clause-took
returns-clause-took c = record {
  found = c.args.found;
  among = subst (λ (l : List FoundWorld). Contains l c.args.found) (sym c.in_ok-push.ensures.items) (Contains-push c.args.self.now.worlds.items c.args.found);
  is = refl;
}
