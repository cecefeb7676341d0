-- Shared entries that stay as they are.
use Rattle.std.specs.Prelude.{◌≡◌, List, Some, slice_get}
use Rattle.wac_model.specs.Text.{Text}
use Rattle.wac_component.specs.Collection.{Collection, UseContent, InterfaceContent}
use Rattle.wac_component.specs.Distinct.{HasDistinctNames}
use Rattle.wac_component.specs.Entries.{uses_at, exports_at}
use Rattle.wac_component.specs.Id.{Id}
use Rattle.wac_component.specs.Key.{AllStand, interface_entry, interface_key, interface_keys}
use Rattle.wac_aggregator_memo.specs.Memo.{memo_of}
use Rattle.wac_aggregator_memo.specs.Renamed.{renamed_item, renamed_use, with_values}
use Rattle.wac_component.specs.Sound.{IsSound}
use Rattle.wac_merge.specs.Built.{uses_of_both}
use Rattle.wac_merge.specs.Items.{ExternKinds, AreUnhidden}
use Rattle.wac_aggregator_uses.specs.Uses.{UsesAgree}
use Rattle.wac_aggregator_taking.specs.Growing.{AreMetWith}
use Rattle.wac_aggregator_taking.specs.declared.state.Merging.{Merging}

-- uses and items, with the ids of what was taken in for what they name
abbrev pub own_used : Merging → List (Text × UseContent) → List (Text × UseContent)
own_used a us = with_values (renamed_use (memo_of a.taken)) us

abbrev pub own_items : Merging → ExternKinds → ExternKinds
own_items a es = with_values (renamed_item (memo_of a.taken)) es

-- those of an interface
abbrev pub own_uses : Collection → Merging → Id → List (Text × UseContent)
own_uses f a i = own_used a (uses_at f (interface_key i))

abbrev pub own_exports : Collection → Merging → Id → ExternKinds
own_exports f a i = own_items a (exports_at f (interface_key i))

-- uses stay as they are where others are added under names that they lack
abbrev pub AreUsesKept : List (Text × UseContent) → List (Text × UseContent) → Type 0
AreUsesKept us vs = us ≡ uses_of_both us vs

-- the interface at an id stays as it is where uses, which agree with its own,
-- and exports are merged into it
pub record IsServing (c : Collection) (e : Id) (us : List (Text × UseContent)) (es : ExternKinds) : Type 0 where
  pub entry : InterfaceContent
  pub at : slice_get c.interfaces e.index ≡ Some entry
  pub stands : AllStand c (interface_keys entry)
  pub sound : IsSound c
  pub distinct : HasDistinctNames (interface_entry entry)
  pub uses : AreUsesKept entry.uses us
  pub agree : UsesAgree c entry.uses us
  pub exports : AreMetWith c c entry.exports es entry.exports
  pub found : AreUnhidden es
