-- What is asked of the two sides of a comparison.
use Rattle.std.specs.Prelude.{◌≡◌, ◌↔◌, ℕ, Bool, List, [], Option, Some, None, Contains, IsSome, IsTrue, codes, map, slice_get, string_bytes}
use Rattle.std.specs.HashMap.{get_by_text}
use Rattle.wac_component.specs.Collection.{Collection}
use Rattle.wac_component.specs.Tree.{item_tree}
use Rattle.wac_component.specs.declared.items.ItemKind.{ItemKind}
use Rattle.wac_targets.specs.Named.{IsMapOf}
use Rattle.wac_types.specs.Order.{Fits}
use Rattle.wac_types.specs.Pairs.{value_at}
use Rattle.wac_types.specs.Text.{Text}
use Rattle.wac_wit.specs.declared.packages.WitPackage.{WitPackage}
use Rattle.wac_wit_changes.specs.Comparing.{AreOnTrack, IsCounterpart, NoneHasName, identifier_in}
use Rattle.wac_wit_changes.specs.declared.comparing.Direction.{Direction}
use Rattle.wac_wit_changes.specs.declared.comparing.Direction.TheVariants.{NewForOld, OldForNew}
use Rattle.wac_wit_changes.specs.declared.moves.Move.{Move}
use Rattle.wac_wit_changes.specs.declared.tracks.Counterpart.{Counterpart}
use Rattle.wac_wit_changes.specs.declared.tracks.NewPackages.{NewPackages}

-- the item that is given fits where the one that is asked for is
abbrev pub FitsOn : Collection → Direction → ItemKind → ItemKind → Type 0
FitsOn types NewForOld old new = Fits (item_tree types new) (item_tree types old)
FitsOn types OldForNew old new = Fits (item_tree types old) (item_tree types new)

-- ---- the new packages, as they are looked up

-- packages are looked up by this text of theirs: what is there is the index of one that has the text, and that of each is there
pub record AreFoundBy (text_of : WitPackage → Text) (packages : List WitPackage) (index_at : Text → Option ℕ) : Type 0 where
  pub only : (t : Text) (i : ℕ) → index_at t ≡ Some i → (p : WitPackage) × (slice_get packages i ≡ Some p) × (text_of p ≡ t)
  pub each : (p : WitPackage) → Contains packages p → IsSome (index_at (text_of p))

-- these are the packages that are known: by their identifiers and by their names
pub record KnowsPackages (news : List WitPackage) (known : NewPackages) : Type 0 where
  pub pairs : List (Text × ℕ)
  pub stands : IsMapOf known.versions pairs
  pub versions : AreFoundBy (λ p. identifier_in p (codes "a")) news (value_at pairs)
  pub names : AreFoundBy (λ p. string_bytes p.name) news (get_by_text known.names)

-- an old package is compared with this new one, and it is known whether both are on one track
pub record IsBeside (news : List WitPackage) (old : WitPackage) (is_on_track : Bool) (new : WitPackage) : Type 0 where
  pub compared : IsCounterpart news old new
  pub on_track : IsTrue is_on_track ↔ AreOnTrack old new

-- what is found for an old package: none where no new one has its name, and else the new package that it is compared with, as
-- far as that has its name
abbrev pub FindsCounterpart : List WitPackage → WitPackage → Option Counterpart → Type 0
FindsCounterpart news old None = NoneHasName news (string_bytes old.name)
FindsCounterpart news old (Some c) = (new : WitPackage) → slice_get news c.index ≡ Some new → string_bytes new.name ≡ string_bytes old.name → IsBeside news old c.is_on_track new

-- ---- the old packages

-- the old packages, to each of which something belongs
abbrev pub olds_of : List Move → List WitPackage
olds_of moves = map (λ m. m.old.now) moves

-- what belongs to an old package is what is found for it; and where that is on its track, the worlds are asked about as they stand
pub record IsMove (news : List WitPackage) (m : Move) : Type 0 where
  pub found : FindsCounterpart news m.old.now m.new
  pub own : (c : Counterpart) → m.new ≡ Some c → IsTrue c.is_on_track → m.moved.entries ≡ []
