use Rattle.std.proofs.Common.{◌≡◌, true, sym, ◌∙◌}
use Rattle.std.proofs.lemmas.Map.Views.{Contains-from_any}
use Rattle.wac_checker_parts.proofs.KnownLemmas.{pair_exact, pair_found}
use Rattle.wac_checker.proofs.known.is_known.Goals as goal

pub returns-then-not-is_empty : goal.returns-then-not-is_empty
returns-then-not-is_empty c = (
  λ h. let f : c.contains.result ≡ true = h in Contains-from_any pair_exact c.args.pair.now c.args.pairs.now.keys (sym c.contains.ensures ∙ f),
  λ m. c.contains.ensures ∙ pair_found c.args.pair.now c.args.pairs.now.keys m,
)
