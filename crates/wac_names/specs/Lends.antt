-- What a `NameMap` is, once a `&mut` to one of its values has ended.
use Rattle.std.specs.Prelude.{◌≡◌, Bool, true, List, Option}
use Rattle.std.specs.Borrow.{Fml, LendsSo, MutBor, RattleType}
use Rattle.std.specs.HashMap.Lent.{HashMembers}
use Rattle.std.specs.Map.{set_value}
use Rattle.wac_model.specs.Text.{Text}
use Rattle.wac_names.specs.Interner.{Interning, IsLawful}
use Rattle.wac_names.specs.Pairs.{HasText, with_pair}
use Rattle.wac_names.specs.NameMap.{Represents, definitions}
use Rattle.wac_names.specs.contracts.name_map.NameMap.{the_row}
use Rattle.wac_names.specs.declared.name_map.NameMap.{NameMap}

-- n is m after w is written at the key k: no key and no other value changes, and where m stands for
-- some pairs n stands for these with w at the key's text
pub record WritesAt {K V : Type 0} (eq : K → K → Bool) (k : K) (m : NameMap K V) (w : V) (n : NameMap K V) : Type 0 where
  pub values : definitions n ≡ set_value (eq k) (definitions m) w
  pub stands : (f : Interning K) (ps : List (Text × V)) (text : Text) → IsLawful eq f → Represents eq f m ps → f text k ≡ true → HasText ps text
      → Represents eq f n (with_pair ps text w)

-- the key has the last value written through r, and at `None` the map stays as it is
abbrev pub lends_value : (K V : RattleType) (key : HashMembers K.Denot) → MutBor (NameMap K.Denot V.Denot) → K.Denot → Option (MutBor V.Denot) → Fml
lends_value K V key m k r =
    LendsSo (the_row K V (record { eq = key.eq }) (record { hash_input = key.hash_input })) V m r (λ n w. WritesAt key.eq k m.now w n) (λ n. n ≡ m.now)
