-- What an id stands for, by what the ids in its entry stand for.
use Rattle.std.specs.Prelude.{ℕ, zero, suc}
use Rattle.std.specs.Option.{option_map_or}
use Rattle.wac_component.specs.Collection.{Collection}
use Rattle.wac_component.specs.Key.{Key, Entry, entry_at}
use Rattle.wac_component.specs.Sound.{entry_count}

-- `of` reads an entry; `none` stands where there is no entry, and where the steps run out
abbrev pub unfolded_within : {T : Type 0} → T → (Entry → (Key → T) → T) → ℕ → Collection → Key → T
unfolded_within none of zero c k = none
unfolded_within none of (suc n) c k = option_map_or (λ e. of e (unfolded_within none of n c)) (entry_at c k) none

-- in a sound collection no walk is longer than the number of entries, so the steps don't run out
unfoldable pub unfolded : {T : Type 0} → T → (Entry → (Key → T) → T) → Collection → Key → T
unfolded none of c k = unfolded_within none of (entry_count c) c k
