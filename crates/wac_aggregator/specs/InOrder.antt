-- What is kept of the state of merging.
use Rattle.std.specs.Prelude.{◌≡◌, ℕ, [], None}
use Rattle.wac_component.specs.Key.{Key}
use Rattle.wac_aggregator_memo.specs.Memo.{memo_of}
use Rattle.wac_aggregator_imports.specs.Import.{AreFiled}
use Rattle.wac_aggregator_narrowing.specs.State.{IsStateKept}
use Rattle.wac_aggregator_reasons.specs.Sharing.{AreHeld}
use Rattle.wac_aggregator_reasons.specs.Split.{AreSplit, AreSharedOrBelow}
use Rattle.wac_aggregator_taking.specs.Takes.{AreFiledIn, state_of}
use Rattle.wac_aggregator_taking.specs.declared.state.Merging.{Merging}

-- entries, imports and what was taken in are in order, shared entries and imports are
-- filed under the classes of their names, all that open walks lead to is held, and apart from
-- what is below imports, and there alone interfaces with identifiers aren't shared
pub record IsMergingInOrder (a : Merging) : Type 0 where
  pub kept : IsStateKept (state_of a)
  pub filed : AreFiledIn a.types a.shared.entries
  pub imports : AreFiled a.imports
  pub held : AreHeld (state_of a)
  pub split : AreSplit (state_of a)
  pub identified : AreSharedOrBelow (state_of a)

-- nothing was handed in yet
pub record IsStart (a : Merging) (number : ℕ) : Type 0 where
  pub in_order : IsMergingInOrder a
  pub empty : a.types ≡ record { number = number; defined = []; resources = []; funcs = []; interfaces = []; worlds = []; modules = [] }
  pub imports : a.imports ≡ record { list = []; led = [] }
  pub shared : a.shared.entries ≡ []
  pub taken : (k : Key) → memo_of a.taken k ≡ None
  pub copies : (k : Key) → memo_of a.copies k ≡ None
