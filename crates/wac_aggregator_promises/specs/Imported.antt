-- What one call does to the names and the tracks of imports.
use Rattle.std.specs.Prelude.{◌≡◌, ◌≢◌, ◌⊎◌, Option, Some, None, map}
use Rattle.std.specs.Str.{bytes_eq}
use Rattle.wac_model.specs.Text.{Text, lookup}
use Rattle.wac_component.specs.Id.{Id}
use Rattle.wac_component.specs.Implicit.{identifier}
use Rattle.wac_component.specs.declared.items.ItemKind.TheVariants.{Instance}
use Rattle.wac_names.specs.Class.{Class, class_of, class_eq}
use Rattle.wac_aggregator_promises.specs.Aggregated.{Aggregated}
use Rattle.wac_aggregator_promises.specs.Call.{Call, call_track}
use Rattle.wac_aggregator_promises.specs.Due.{OwnsOn, IsHigher}

-- the name of the import on each track that has one
abbrev pub track_names : Aggregated → Class → Option Text
track_names a t = lookup class_eq (map (λ e. (class_of e.0, e.0)) a.imports) t

-- what the import on the track of a handed-in name is called then: as handed in where none stood,
-- and else by the higher of the two names
pub data IsNamedAfter (name : Text) : Option Text → Text → Type 0 where
  new : IsNamedAfter name None name
  raised : {was : Text} → IsHigher name was → IsNamedAfter name (Some was) name
  kept : {was : Text} → ¬ (IsHigher name was) → IsNamedAfter name (Some was) was

-- an owner of a resource in the item is imported on the track: as an instance of an interface,
-- under the identifier that this has
pub record ImportsOwner (after : Aggregated) (call : Call) (t : Class) (name : Text) : Type 0 where
  pub owned : OwnsOn call t
  pub entry : Id
  pub import : lookup bytes_eq after.imports name ≡ Some (Instance entry)
  pub identified : identifier after.types entry ≡ Some name

-- the import on the track of the call's name is called so; on each other track the import that
-- stood keeps its name, and what is imported besides are owners in the item
pub record ImportsAfter (before after : Aggregated) (call : Call) : Type 0 where
  pub here : (name : Text) × (track_names after (call_track call) ≡ Some name) × IsNamedAfter call.name (track_names before (call_track call)) name
  pub stay : (t : Class) (name : Text) → t ≢ call_track call → track_names before t ≡ Some name → track_names after t ≡ Some name
  pub only : (t : Class) (name : Text) → t ≢ call_track call → track_names after t ≡ Some name → (track_names before t ≡ Some name) ⊎ ImportsOwner after call t name
