-- Which own entries stand for foreign ones.
use Rattle.std.specs.Prelude.{◌≡◌, List}
use Rattle.wac_model.specs.Text.{Text}
use Rattle.wac_model.specs.ItemTree.{Kind}
use Rattle.wac_model.specs.Order.{Fits}
use Rattle.wac_component.specs.Collection.{Collection}
use Rattle.wac_component.specs.Key.{Key, Stands}
use Rattle.wac_component.specs.Tree.{item_tree}
use Rattle.wac_component.specs.Entries.{identifier_at}
use Rattle.wac_merge.specs.Items.{entry_item}
use Rattle.wac_aggregator_narrowing.specs.Apart.{IsKeyApart}
use Rattle.wac_aggregator_narrowing.specs.Identified.{use_names_at, StopsAt, OpenlyOn}

-- the own entry fits where the foreign one is asked for
pub record StandsFor (f c : Collection) (theirs own : Key) : Type 0 where
  pub sort : own.sort ≡ theirs.sort
  pub theirs_stands : Stands f theirs
  pub own_stands : Stands c own
  pub fits : (k : Kind) → Fits (item_tree c (entry_item k own)) (item_tree f (entry_item k theirs))

-- the own entry has the identifier of the foreign one, and uses the same names; where an open walk
-- from it stops, the foreign one openly leads to an interface with the same identifier
pub record KeepsNames (f c : Collection) (theirs own : Key) : Type 0 where
  pub identifier : identifier_at c own ≡ identifier_at f theirs
  pub uses : use_names_at c own ≡ use_names_at f theirs
  pub stops : (t : Key) (n : Text) → StopsAt c own t n → OpenlyOn (λ (m : Text). m) f theirs n

-- the own entry is a copy of the foreign one: it has the same tree and the same names, and
-- is apart from the shared entries
pub record IsCopy (f c : Collection) (ss : List Key) (theirs own : Key) : Type 0 where
  pub sort : own.sort ≡ theirs.sort
  pub theirs_stands : Stands f theirs
  pub own_stands : Stands c own
  pub apart : IsKeyApart c ss own
  pub same : (k : Kind) → item_tree c (entry_item k own) ≡ item_tree f (entry_item k theirs)
  pub names : KeepsNames f c theirs own
