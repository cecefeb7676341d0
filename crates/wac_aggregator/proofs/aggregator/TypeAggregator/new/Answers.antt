use Rattle.std.proofs.Common.{◌≡◌, [], Some, None, ap, sym, ◌∙◌, arith}
use Rattle.wac_component.specs.Collection.{Collection}
use Rattle.wac_aggregator_imports.specs.Import.{ImportsContent, import_of}
use Rattle.wac_aggregator_imports.specs.Left.{listed_imports}
use Rattle.wac_aggregator.proofs.Front.{none_served}
use Rattle.wac_aggregator.proofs.Remembering.{truly_in, owners_in}
use Rattle.wac_aggregator.proofs.aggregator.TypeAggregator.new.Goals as goal

pub invariant_of-result : goal.invariant_of-result
invariant_of-result c = c.no_imports.ensures.in_order

pub returns-clause-number : goal.returns-clause-number
returns-clause-number c = ap (λ (t : Collection). t.number) c.no_imports.ensures.empty

pub returns-clause-empty : goal.returns-clause-empty
returns-clause-empty c = c.no_imports.ensures.empty

pub returns-clause-imports : goal.returns-clause-imports
returns-clause-imports c = ap listed_imports c.no_imports.ensures.imports

pub returns-clause-owners : goal.returns-clause-owners
returns-clause-owners c = λ f. owners_in f c.no_imports.result (λ theirs own n at number to. let no : None ≡ Some own = sym (c.no_imports.ensures.taken theirs) ∙ at in absurd (cc))

pub returns-clause-remembers_nothing : goal.returns-clause-remembers_nothing
returns-clause-remembers_nothing c =
    let start = c.no_imports.ensures in
    λ f. truly_in f c.no_imports.result ((none_served [] c.no_imports.result start.taken start.copies (λ q. ap (λ (is : ImportsContent). import_of is q) start.imports) start.shared).truly f (λ d m. absurd (omega (arith, m.1))))
