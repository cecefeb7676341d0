use Rattle.wac_wit_refusals_sites.specs.Sites.{BodySyntax}
use Rattle.wac_wit_refusals_types.specs.TypeSteps.{AreNamesLedTo}
use Rattle.wac_wit_refusals_sites.specs.TypeLists.{AreThere}
use Rattle.wac_wit_scopes.specs.WitSources.{WitSources, ident_text}
use Rattle.wac_wit_refusals_types.proofs.type_cycles.leads_back.Given as goal

abbrev pub invariant-loop-turn : goal.invariant-loop-turn
invariant-loop-turn l = (of : WitSources) (b : BodySyntax) → AreThere of b l.types → AreNamesLedTo of b (ident_text l.name) l.open.items
