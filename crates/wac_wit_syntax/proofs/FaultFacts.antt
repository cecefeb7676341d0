-- Places of refusals.
use Rattle.std.proofs.Common.{ℕ, List, get_or, subst, sym, ⊎_elim}
use Rattle.std.proofs.lemmas.List.Elements.{All-contains, Contains-get_or}
use Rattle.wac_wit_syntax.specs.Faults.{AreFaults, IsFault}
use Rattle.wac_wit_syntax.specs.Steps.{AddsOnly}
use Rattle.wac_wit_syntax.specs.declared.error.Refusal.{Refusal}
use Rattle.wac_wit_syntax.specs.declared.positions.Span.{Span}

pub faults_added : (text : List ℕ) (before after : List Refusal) (span : Span) → AddsOnly span before after → IsFault text span → AreFaults text before → AreFaults text after
faults_added text before after span only fault all k d h =
    ⊎_elim (λ there. All-contains (λ (r : Refusal). IsFault text r.span) before (get_or after k d) all there) (λ new. subst (IsFault text) (sym new) fault) (only (get_or after k d) (Contains-get_or after k d h))
