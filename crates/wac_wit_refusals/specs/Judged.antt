-- What is known of refusals whose reasons are looked for.
use Rattle.std.specs.Prelude.{◌≡◌, Contains, List, Option, Some}
use Rattle.wac_wit_names.specs.declared.error.WitRefusal.{WitRefusal}
use Rattle.wac_wit_names.specs.declared.reason.Reason.{Reason}
use Rattle.wac_wit_refusals.specs.Reasons.{IsWrong}
use Rattle.wac_wit_scopes.specs.WitSources.{WitSources}

-- a reason that is named holds
abbrev pub IsJudged : WitSources → WitRefusal → Type 0
IsJudged of r = (x : Reason) → r.reason ≡ Some x → IsWrong of r.file r.refusal.span x

-- a reason of a refusal, if there is one, holds
abbrev pub IsReasonOf : WitSources → WitRefusal → Option Reason → Type 0
IsReasonOf of r o = (x : Reason) → o ≡ Some x → IsWrong of r.file r.refusal.span x

abbrev pub AreJudged : WitSources → List WitRefusal → Type 0
AreJudged of rs = (r : WitRefusal) → Contains rs r → IsJudged of r
