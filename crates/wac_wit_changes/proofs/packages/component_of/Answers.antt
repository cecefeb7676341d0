use Rattle.std.proofs.Common.{ap, string_bytes}
use Rattle.std.specs.Map.{lookup}
use Rattle.std.specs.Str.{bytes_eq}
use Rattle.wac_wit_changes.proofs.Items.{copied_is}
use Rattle.wac_wit_changes.proofs.packages.component_of.Goals as goal

pub returns-in-Some : goal.returns-in-Some
returns-in-Some c = λ none.
    let found = copied_is c.get.result _ c.in-Some.moved c.get.ensures.value c.in-Some.is in
    let nothing = ap (λ es. lookup (λ k. bytes_eq c.args.name.now (string_bytes k)) es) none in
    absurd (cc (found, nothing))
