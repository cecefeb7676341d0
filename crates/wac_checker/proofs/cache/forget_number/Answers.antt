use Rattle.std.proofs.Common.{ap, ◌∙◌, not, ◌||◌}
use Rattle.std.proofs.lemmas.Fn.{filter_same}
use Rattle.wac_checker.specs.Cache.{has_number}
use Rattle.wac_checker.proofs.cache.forget_number.Goals as goal

pub returns : goal.returns
returns c = filter_same _ (λ p. not (has_number c.args.number p.0 || has_number c.args.number p.1)) _ (λ x b g s. (s.called.met.1 ∙ ap (λ p. not (has_number c.args.number p.0 || has_number c.args.number p.1)) s.shows, ap (λ n. record { 0 = n }) s.called.met.0)) _ _ c.retain.ensures.filtered
