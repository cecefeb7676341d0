-- What may be believed of the own entry of a foreign id that was taken in.
use Rattle.std.specs.Prelude.{◌≡◌, List, Some, None}
use Rattle.wac_model.specs.Text.{Text}
use Rattle.wac_model.specs.ItemTree.{Kind}
use Rattle.wac_component.specs.Collection.{Collection}
use Rattle.wac_component.specs.Key.{Key}
use Rattle.wac_component.specs.Reach.{IsAmong}
use Rattle.wac_component.specs.Tree.{item_tree}
use Rattle.wac_component.specs.Entries.{identifier_at}
use Rattle.wac_component.specs.Open.{OpenReaches}
use Rattle.wac_merge.specs.Items.{entry_item}
use Rattle.wac_aggregator_narrowing.specs.Identified.{use_names_at, StopsAt, IsQuiet, OpenlyOn}
use Rattle.wac_aggregator_narrowing.specs.Standing.{StandsFor, IsCopy}
use Rattle.wac_aggregator_narrowing.specs.State.{State}

-- an own entry without an identifier, as that of an id without one: it uses the same names, and
-- each open walk from it stops on a track to which the id openly leads
pub record IsPlainFor {T : Type 0} (track : Text → T) (f c : Collection) (theirs own : Key) : Type 0 where
  pub plain : identifier_at c own ≡ None
  pub uses : use_names_at c own ≡ use_names_at f theirs
  pub stops : (t : Key) (n : Text) → StopsAt c own t n → OpenlyOn track f theirs (track n)

-- a shared entry with an identifier on the track of this name
pub record IsSharedFor {T : Type 0} (track : Text → T) (c : Collection) (ss : List Key) (own : Key) (n : Text) : Type 0 where
  pub is_shared : IsAmong own ss
  pub name : Text
  pub identified : identifier_at c own ≡ Some name
  pub on_track : track name ≡ track n

-- the own entry stands for the id; it has the same tree where the id openly leads to no identified
-- interface; it is a shared one on the same track, or plain
pub record IsRememberedAs {T : Type 0} (track : Text → T) (f c : Collection) (ss : List Key) (theirs own : Key) : Type 0 where
  pub stands_for : StandsFor f c theirs own
  pub quiet : IsQuiet f theirs → (k : Kind) → item_tree c (entry_item k own) ≡ item_tree f (entry_item k theirs)
  pub shared : (n : Text) → identifier_at f theirs ≡ Some n → IsSharedFor track c ss own n
  pub plain : identifier_at f theirs ≡ None → IsPlainFor track f c theirs own

-- all that is remembered of ids that carry the number of f is true of f, and each identified
-- interface to which one that was taken in openly leads was taken in
pub record RemembersTruly {T : Type 0} (track : Text → T) (f : Collection) (s : State) : Type 0 where
  pub taken : (theirs own : Key) → s.taken theirs ≡ Some own → theirs.id.number ≡ f.number → IsRememberedAs track f s.own s.shared theirs own
  pub copies : (theirs own : Key) → s.copies theirs ≡ Some own → theirs.id.number ≡ f.number → IsCopy f s.own s.shared theirs own
  pub closed : (theirs own t : Key) (n : Text) → s.taken theirs ≡ Some own → theirs.id.number ≡ f.number → OpenReaches f theirs t → identifier_at f t ≡ Some n → (o : Key) × (s.taken t ≡ Some o)
