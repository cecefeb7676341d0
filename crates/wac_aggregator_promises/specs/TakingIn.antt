-- One more interface is taken in, as a shared entry of its track.
use Rattle.std.specs.Prelude.{◌≡◌, ◌≢◌, ◌⊎◌, Some, None, All}
use Rattle.std.specs.Option.{option_map}
use Rattle.std.specs.Str.{bytes_eq}
use Rattle.wac_model.specs.Text.{Text, lookup}
use Rattle.wac_model.specs.CoreTree.{Serves}
use Rattle.wac_model.specs.Order.{Fits}
use Rattle.wac_bounds.specs.MeetIn.{IsMeetIn}
use Rattle.wac_component.specs.Id.{Id}
use Rattle.wac_component.specs.Collection.{Collection, UseContent, InterfaceContent}
use Rattle.wac_component.specs.Growth.{Extends}
use Rattle.wac_component.specs.Implicit.{identifier}
use Rattle.wac_component.specs.Key.{Stands, AllStand, entry_at, interface_entry, interface_key, item_keys, named_keys}
use Rattle.wac_component.specs.Laws.{HasLeavesOf}
use Rattle.wac_component.specs.Replacing.{Replaces}
use Rattle.wac_component.specs.Sound.{IsSound}
use Rattle.wac_component.specs.Tree.{item_tree, items_of}
use Rattle.wac_component.specs.declared.items.ItemKind.TheVariants.{Instance}
use Rattle.wac_component.specs.Entries.{HasUse, uses_at, exports_at}
use Rattle.wac_names.specs.Class.{Class}
use Rattle.wac_aggregator_promises.specs.Entries.{IsIdentifiedOn}
use Rattle.wac_aggregator_promises.specs.PlainRun.{IsTreeMetWith}
use Rattle.wac_aggregator_promises.specs.Shared.{SharedEntries, IsUseOf, HasSharedUse}
use Rattle.wac_aggregator_promises.specs.WitList.{IsLeafItem}

-- a shared entry of another track stays as it was
pub record IsSharedKept (own after : Collection) (s : Id) : Type 0 where
  pub stands : Stands after (interface_key s)
  pub identifier : identifier after s ≡ identifier own s
  pub tree : item_tree after (Instance s) ≡ item_tree own (Instance s)
  pub uses : uses_at after (interface_key s) ≡ uses_at own (interface_key s)
  pub exports : exports_at after (interface_key s) ≡ exports_at own (interface_key s)

-- a use of the entry that stood on the track
pub record IsOldUse (own : Collection) (shared : SharedEntries) (t : Class) (name : Text) (v : UseContent) : Type 0 where
  pub entry : Id
  pub stood : shared t ≡ Some entry
  pub has : lookup bytes_eq (uses_at own (interface_key entry)) name ≡ Some v

-- or one of the interface
pub record IsNewUse (shared : SharedEntries) (c : Collection) (i : Id) (name : Text) (v : UseContent) : Type 0 where
  pub content : UseContent
  pub has : HasUse c (interface_key i) name content
  pub is_use : IsUseOf shared v c content

-- the interface at i is taken in, after those that it uses: as a new entry with its tree, or by the
-- entry that stood on its track, whose tree is met with its own. The entry has what uses either has
pub record TakesIn (own : Collection) (shared : SharedEntries) (after : Collection) (now : SharedEntries) (c : Collection) (i : Id) : Type 0 where
  pub sound : IsSound after
  pub track : Class
  pub is_on : IsIdentifiedOn c i track
  pub entry : Id
  pub is_entry : now track ≡ Some entry
  pub stands : Stands after (interface_key entry)
  pub identified : IsIdentifiedOn after entry track
  pub leaves : All (λ e. IsLeafItem e.1) (exports_at after (interface_key entry))
  pub tree : IsTreeMetWith (option_map (λ s. item_tree own (Instance s)) (shared track)) (item_tree c (Instance i)) (Some (item_tree after (Instance entry)))
  pub old_uses : (name : Text) (v : UseContent) → IsOldUse own shared track name v → lookup bytes_eq (uses_at after (interface_key entry)) name ≡ Some v
  pub new_uses : (name : Text) (u : UseContent) → HasUse c (interface_key i) name u → HasSharedUse after now entry name c u
  pub only_uses : (name : Text) (v : UseContent) → lookup bytes_eq (uses_at after (interface_key entry)) name ≡ Some v → IsOldUse own shared track name v ⊎ IsNewUse now c i name v
  pub still : (t : Class) (s : Id) → shared t ≡ Some s → now t ≡ Some s
  pub no_more : (t : Class) (s : Id) → t ≢ track → now t ≡ Some s → shared t ≡ Some s
  pub kept : (t : Class) (s : Id) → t ≢ track → shared t ≡ Some s → IsSharedKept own after s

-- no shared entry stands
abbrev pub none_shared : SharedEntries
none_shared t = None

-- where none stood on the track, an entry is added whose exports are those of the
-- interface, and whose uses are its uses
pub record IsSharedAdded (own : Collection) (shared : SharedEntries) (after : Collection) (now : SharedEntries) (c : Collection) (i : Id) : Type 0 where
  pub sound : IsSound after
  pub grows : Extends own after
  pub same_leaves : HasLeavesOf own after
  pub track : Class
  pub is_on : IsIdentifiedOn c i track
  pub none_stood : shared track ≡ None
  pub entry : Id
  pub content : InterfaceContent
  pub stands : Stands after (interface_key entry)
  pub is_at : entry_at after (interface_key entry) ≡ Some (interface_entry content)
  pub same_identifier : content.id ≡ identifier c i
  pub leaves : All (λ e. IsLeafItem e.1) content.exports
  pub exports_stand : AllStand own (named_keys item_keys content.exports)
  pub exports : items_of (item_tree own) content.exports ≡ items_of (item_tree c) (exports_at c (interface_key i))
  pub uses : (name : Text) (u : UseContent) → HasUse c (interface_key i) name u → (v : UseContent) × (lookup bytes_eq content.uses name ≡ Some v) × IsUseOf shared v c u
  pub only_uses : (name : Text) (v : UseContent) → lookup bytes_eq content.uses name ≡ Some v → IsNewUse shared c i name v
  pub is_entry : now track ≡ Some entry
  pub others : (t : Class) → t ≢ track → now t ≡ shared t

-- where one stood, its content is replaced by one whose exports are met name by name,
-- and whose uses are those of both
pub record IsGrown (own : Collection) (shared : SharedEntries) (after : Collection) (c : Collection) (i : Id) : Type 0 where
  pub sound : IsSound after
  pub same_leaves : HasLeavesOf own after
  pub track : Class
  pub is_on : IsIdentifiedOn c i track
  pub entry : Id
  pub stood : shared track ≡ Some entry
  pub replaces : Replaces own after (interface_key entry)
  pub old : InterfaceContent
  pub was_at : entry_at own (interface_key entry) ≡ Some (interface_entry old)
  pub content : InterfaceContent
  pub is_at : entry_at after (interface_key entry) ≡ Some (interface_entry content)
  pub same_identifier : content.id ≡ old.id
  pub leaves : All (λ e. IsLeafItem e.1) content.exports
  pub exports_stand : AllStand own (named_keys item_keys content.exports)
  pub exports : (name : Text) → IsMeetIn (Serves Fits) (option_map (item_tree own) (lookup bytes_eq old.exports name)) (option_map (item_tree c) (lookup bytes_eq (exports_at c (interface_key i)) name))
      (Some (option_map (item_tree own) (lookup bytes_eq content.exports name)))
  pub old_uses : (name : Text) (v : UseContent) → lookup bytes_eq old.uses name ≡ Some v → lookup bytes_eq content.uses name ≡ Some v
  pub uses : (name : Text) (u : UseContent) → HasUse c (interface_key i) name u → (v : UseContent) × (lookup bytes_eq content.uses name ≡ Some v) × IsUseOf shared v c u
  pub only_uses : (name : Text) (v : UseContent) → lookup bytes_eq content.uses name ≡ Some v → (lookup bytes_eq old.uses name ≡ Some v) ⊎ IsNewUse shared c i name v
