use Rattle.std.proofs.Common.{ap, ◌∙◌, [], ◌∷◌}
use Rattle.std.proofs.lemmas.List.{map-append}
use Rattle.wac_types.specs.HandedIn.{called, handed_in}
use Rattle.wac_types.specs.declared.Call.{Call}
use Rattle.wac_wit_answers.proofs.handing.push_call.Goals as goal

pub returns-in-Ok : goal.returns-in-Ok
returns-in-Ok c =
    let call : Call = record { name = c.args.name; types = c.args.types; kind = c.args.kind } in
    ap handed_in c.in-Ok.ensures.items ∙ map-append called c.args.calls.now.items (call ∷ [])
