-- Foreign entries that enter the own collection, once all that they name was taken in.
use Rattle.std.specs.Prelude.{◌≡◌, Some, None, slice_get}
use Rattle.wac_model.specs.Text.{Text}
use Rattle.wac_component.specs.Id.{Id}
use Rattle.wac_component.specs.Collection.{Collection, InterfaceContent, WorldContent}
use Rattle.wac_component.specs.Growth.{with_entry}
use Rattle.wac_component.specs.Key.{Key, Entry, entry_keys, other_keys, import_keys, interface_key, world_key, use_keys, named_keys, Stands, AllStand}
use Rattle.wac_component.specs.Sound.{IsSound}
use Rattle.wac_component.specs.Entries.{entry_identifier, identifier_at}
use Rattle.wac_aggregator_memo.specs.Memo.{AddsPair}
use Rattle.wac_component.specs.Open.{open_next}
use Rattle.wac_aggregator_narrowing.specs.Apart.{AreKeysApart}
use Rattle.wac_aggregator_narrowing.specs.Identified.{used_names, use_names, use_names_at, IsQuiet}
use Rattle.wac_aggregator_narrowing.specs.Last.{last_key}
use Rattle.wac_aggregator_narrowing.specs.Remembers.{RemembersTruly}
use Rattle.wac_aggregator_narrowing.specs.Standing.{StandsFor, IsCopy}
use Rattle.wac_aggregator_narrowing.specs.State.{State, RunsTaking}
use Rattle.wac_aggregator_narrowing.specs.Taking.{SameTree, AreTakenKeys, AreCopiedKeys, IsTakenKey, IsTakenItem, IsCopiedItem, AreMapped}

-- the state runs on, and the own entry was taken in for the foreign one
pub record IsEntered {T : Type 0} (track : Text → T) (f : Collection) (s t : State) (theirs own : Key) : Type 0 where
  pub run : RunsTaking (RemembersTruly track) f s t
  pub taken : IsTakenKey track f t theirs own

-- the state runs on, and the own entry is a copy of the foreign one
pub record IsCopiedInto {T : Type 0} (track : Text → T) (f : Collection) (s t : State) (theirs own : Key) : Type 0 where
  pub run : RunsTaking (RemembersTruly track) f s t
  pub copy : IsCopy f t.own t.shared theirs own

-- t has one entry more, and remembers it for the foreign id
pub record AddsEntry (f : Collection) (s t : State) (theirs : Key) (z : Entry) : Type 0 where
  pub own : t.own ≡ with_entry s.own z
  pub imports : t.imports ≡ s.imports
  pub copies : t.copies ≡ s.copies
  pub number : theirs.id.number ≡ f.number
  pub remembers : AddsPair s.taken t.taken theirs (last_key s.own z)

-- the same of a copy
pub record AddsCopy (f : Collection) (s t : State) (theirs : Key) (z : Entry) : Type 0 where
  pub own : t.own ≡ with_entry s.own z
  pub shared : t.shared ≡ s.shared
  pub imports : t.imports ≡ s.imports
  pub taken : t.taken ≡ s.taken
  pub number : theirs.id.number ≡ f.number
  pub remembers : AddsPair s.copies t.copies theirs (last_key s.own z)

-- an entry without identifier may enter for a foreign one: it uses the same names, and
-- all that it names was taken in
pub record MayEnter {T : Type 0} (track : Text → T) (f : Collection) (s : State) (theirs : Key) (z : Entry) : Type 0 where
  pub plain : entry_identifier z ≡ None
  pub theirs_plain : identifier_at f theirs ≡ None
  pub names : use_names z ≡ use_names_at f theirs
  pub named : AllStand s.own (entry_keys z)
  pub apart : AreKeysApart s.own s.shared (import_keys z)
  pub parts : AreTakenKeys track f s (open_next f theirs) (other_keys z)
  pub stands_for : StandsFor f (with_entry s.own z) theirs (last_key s.own z)
  pub quiet : IsQuiet f theirs → SameTree f (with_entry s.own z) theirs (last_key s.own z)

-- an entry may be added as a copy of a foreign one: it has the same identifier and the same tree,
-- uses the same names, and names copies of what that names
pub record MayBeCopy (f : Collection) (s : State) (theirs : Key) (z : Entry) : Type 0 where
  pub sort : (last_key s.own z).sort ≡ theirs.sort
  pub stands : Stands f theirs
  pub identifier : entry_identifier z ≡ identifier_at f theirs
  pub names : use_names z ≡ use_names_at f theirs
  pub named : AllStand s.own (entry_keys z)
  pub apart : AreKeysApart s.own s.shared (entry_keys z)
  pub parts : AreCopiedKeys f s (open_next f theirs) (other_keys z)
  pub same : SameTree f (with_entry s.own z) theirs (last_key s.own z)

-- all that a foreign interface names was taken in, into another
pub record InterfaceIsTaken {T : Type 0} (track : Text → T) (f : Collection) (s : State) (p : Id) (x z : InterfaceContent) : Type 0 where
  pub sound : IsSound f
  pub stands : Stands f (interface_key p)
  pub entry : slice_get f.interfaces p.index ≡ Some x
  pub names : used_names z.uses ≡ used_names x.uses
  pub uses : AreTakenKeys track f s (named_keys use_keys x.uses) (named_keys use_keys z.uses)
  pub exports : AreMapped (IsTakenItem track f s) x.exports z.exports

-- all that a foreign world uses and exports was taken in, and all that it imports was copied
pub record WorldIsTaken {T : Type 0} (track : Text → T) (f : Collection) (s : State) (p : Id) (x z : WorldContent) : Type 0 where
  pub sound : IsSound f
  pub stands : Stands f (world_key p)
  pub entry : slice_get f.worlds p.index ≡ Some x
  pub names : used_names z.uses ≡ used_names x.uses
  pub uses : AreTakenKeys track f s (named_keys use_keys x.uses) (named_keys use_keys z.uses)
  pub imports : AreMapped (IsCopiedItem f s) x.imports z.imports
  pub exports : AreMapped (IsTakenItem track f s) x.exports z.exports

-- all that a foreign interface, or a foreign world, names was copied, into another with its
-- identifier
pub record InterfaceIsCopied (f : Collection) (s : State) (p : Id) (x z : InterfaceContent) : Type 0 where
  pub sound : IsSound f
  pub stands : Stands f (interface_key p)
  pub entry : slice_get f.interfaces p.index ≡ Some x
  pub identifier : z.id ≡ x.id
  pub names : used_names z.uses ≡ used_names x.uses
  pub uses : AreCopiedKeys f s (named_keys use_keys x.uses) (named_keys use_keys z.uses)
  pub exports : AreMapped (IsCopiedItem f s) x.exports z.exports

pub record WorldIsCopied (f : Collection) (s : State) (p : Id) (x z : WorldContent) : Type 0 where
  pub sound : IsSound f
  pub stands : Stands f (world_key p)
  pub entry : slice_get f.worlds p.index ≡ Some x
  pub names : used_names z.uses ≡ used_names x.uses
  pub uses : AreCopiedKeys f s (named_keys use_keys x.uses) (named_keys use_keys z.uses)
  pub imports : AreMapped (IsCopiedItem f s) x.imports z.imports
  pub exports : AreMapped (IsCopiedItem f s) x.exports z.exports
