-- What the parts of a meet or a join build, and what is known between them.
use Rattle.std.specs.Prelude.{◌≡◌, ◌⊎◌, ◌+◌, List, [], ◌∷◌, All, Contains, length}
use Rattle.wac_component.specs.Collection.{Collection}
use Rattle.wac_component.specs.Key.{Key, Stands, AllStand}
use Rattle.wac_component.specs.Sound.{IsSound, entry_count}
use Rattle.wac_merge.specs.Built.{Origins, IsMadeOf, OnlyBuilds}
use Rattle.wac_merge.specs.Memo.{Made, made_of, first_key, second_key, bound_key, IsTrueMemo}
use Rattle.wac_merge.specs.declared.memo.Asked.{Asked}
use Rattle.wac_merge.specs.declared.memo.BoundId.{BoundId}
use Rattle.wac_merge.specs.declared.memo.BoundMemo.{BoundMemo}
use Rattle.wac_merge.specs.declared.steps.BoundStep.{BoundStep}

-- an entry that is remembered was made of the two that it was made for, which stood in c
pub record IsMadeOn (c d : Collection) (o : Origins) (x : Asked × BoundId) : Type 0 where
  pub first : Stands c (first_key x.0.pair)
  pub second : Stands c (second_key x.0.pair)
  pub made : IsMadeOf c d o (first_key x.0.pair) (second_key x.0.pair) (bound_key x.1)

-- it is the entry of one that is remembered
abbrev pub IsNoted : Made → Key → Type 0
IsNoted ms m = (x : Asked × BoundId) × Contains ms x × (bound_key x.1 ≡ m)

-- and of what d has more than c all is remembered
pub record AreMadeOn (c d : Collection) (o : Origins) (ms : Made) : Type 0 where
  pub each : (x : Asked × BoundId) → Contains ms x → IsMadeOn c d o x
  pub all : (m : Key) → Stands d m → Stands c m ⊎ IsNoted ms m

-- from c to e, with ns remembered
pub record Ran (c e : Collection) (ns : Made) : Type 0 where
  pub origins : Origins
  pub only : OnlyBuilds c e origins
  pub made : AreMadeOn c e origins ns

-- a run from d, with ms remembered, to e, with ns, for ids that stood before anything was built
abbrev pub Runs : List Key → Collection → Made → Collection → Made → Type 0
Runs ks d ms e ns = (c : Collection) (o : Origins) → IsSound c → AllStand c ks → OnlyBuilds c d o → AreMadeOn c d o ms → Ran c e ns

-- it holds wherever these ids stood before anything was built that is remembered
abbrev pub FromBuilt : List Key → Collection → Made → (Collection → Origins → Type 0) → Type 0
FromBuilt ks d ms Answer = (c : Collection) (o : Origins) → IsSound c → AllStand c ks → OnlyBuilds c d o → AreMadeOn c d o ms → Answer c o

-- the entries of each step stood in c
abbrev pub StepsStand : Collection → List BoundStep → Type 0
StepsStand c ss = All (λ (s : BoundStep). AllStand c (first_key s.asked.pair ∷ second_key s.asked.pair ∷ [])) ss

-- between two steps: from c, where nothing was built, to d, with all that was built remembered
pub record IsUnderWay (c d : Collection) (m : BoundMemo) : Type 0 where
  pub ran : Ran c d (made_of m)
  pub counted : entry_count d ≡ entry_count c + length (made_of m)
  pub true_memo : IsTrueMemo d m
