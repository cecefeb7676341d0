-- Refusals that are told still, some without the reasons that they named.
use Rattle.std.specs.Prelude.{◌≡◌, List, [], ◌∷◌, Some, Vec}
use Rattle.std.specs.declared.alloc.Global.{Global}
use Rattle.wac_wit_names.specs.declared.error.WitError.{WitError}
use Rattle.wac_wit_names.specs.declared.error.WitError.TheVariants.{Memory, Missing, Refused}
use Rattle.wac_wit_names.specs.declared.error.WitRefusal.{WitRefusal}
use Rattle.wac_wit_names.specs.declared.reason.Reason.{Reason}

-- the same refusal: its file, its place and its message. If it names a reason, that is the one that it named
pub record IsKeptRefusal (r q : WitRefusal) : Type 0 where
  pub file : q.file ≡ r.file
  pub refusal : q.refusal ≡ r.refusal
  pub reason : (x : Reason) → q.reason ≡ Some x → r.reason ≡ Some x

-- each of them, in order
pub data AreKeptRefusals : List WitRefusal → List WitRefusal → Type 0 where
  none_kept : AreKeptRefusals [] []
  one_kept : (r q : WitRefusal) (rs qs : List WitRefusal) → IsKeptRefusal r q → AreKeptRefusals rs qs → AreKeptRefusals (r ∷ rs) (q ∷ qs)

-- an error tells what another one does, unless an allocation failed
pub data TellsStill : WitError → WitError → Type 0 where
  of_files : (rs qs : Vec WitRefusal Global) → AreKeptRefusals rs.items qs.items → TellsStill (Refused rs) (Refused qs)
  of_missing : TellsStill Missing Missing
  of_memory : (e : WitError) → TellsStill e Memory
