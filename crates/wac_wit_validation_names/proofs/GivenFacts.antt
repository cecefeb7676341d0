-- Names that worlds give stay given.
use Rattle.std.proofs.Common.{ℕ, Option}
use Rattle.std.specs.Borrow.{Bor}
use Rattle.wac_model.specs.Text.{Text}
use Rattle.wac_component.specs.declared.worlds.ExternKind.{ExternKind}
use Rattle.wac_component.specs.declared.worlds.ExternKind.TheVariants.{Import, Export}
use Rattle.wac_wit_syntax.specs.declared.tree.Extern.{Extern}
use Rattle.wac_wit_syntax.specs.declared.tree.Extern.TheVariants as extern
use Rattle.wac_wit_syntax.specs.declared.tree.Method.{Method}
use Rattle.wac_wit_syntax.specs.declared.tree.Rename.{Rename}
use Rattle.wac_wit_syntax.specs.declared.tree.TypeItem.{TypeItem}
use Rattle.wac_wit_syntax.specs.declared.tree.UseItem.{UseItem}
use Rattle.wac_wit_syntax.specs.declared.tree.WorldItem.{WorldItem}
use Rattle.wac_wit_syntax.specs.declared.tree.WorldItem.TheVariants as of_world
use Rattle.wac_wit_scopes.specs.WitSources.{WitSources}
use Rattle.wac_wit_validation_names.specs.Ambiguity.{KeepsNoted}
use Rattle.wac_wit_validation_names.specs.GivenNames.{GivesDefined, GivesMethod, GivesNewName, GivesRename, GivesTypeItem, GivesUseItem, IsGivenAt}
use Rattle.wac_wit_validation_types.specs.Reading.{new_name}
use Rattle.wac_wit_validation_names.specs.WorldOnce.{GivesAt, GivesItem, GivesLayer, GivesWhat}
use Rattle.wac_wit_validation_names.specs.declared.given.NamePlace.{NamePlace}
use Rattle.wac_wit_validation_names.specs.declared.layers.Layer.{Layer}
use Rattle.wac_wit_validation_types.specs.declared.new_names.NewNames.{NewNames}

module _ (a b : Text → Option NamePlace) (keeps : KeepsNoted a b) where
  IsGivenAt-kept : (n : Text) (p : NamePlace) → IsGivenAt a n p → IsGivenAt b n p
  IsGivenAt-kept n p h = record { at = keeps n p h.at; plain = h.plain }

  pub GivesNewName-kept : (new : Text → Option Text) (n : Text) (p : NamePlace) → GivesNewName a new n p → GivesNewName b new n p
  GivesNewName-kept new n p h = record { becomes = h.becomes; is = h.is; given_at = IsGivenAt-kept h.becomes p h.given_at }

  pub GivesRename-kept : (new : Text → Option Text) (p : NamePlace) (j : ℕ) (r : Rename) → GivesRename a new p j r → GivesRename b new p j r
  GivesRename-kept new p j r h = GivesNewName-kept new _ _ h

  pub GivesMethod-kept : (of : WitSources) (resource : Text) (p : NamePlace) (j : ℕ) (m : Method) → GivesMethod of a resource p j m → GivesMethod of b resource p j m
  GivesMethod-kept of resource p j m h = λ on. IsGivenAt-kept _ _ (h on)

  GivesDefined-kept : (of : WitSources) (new : Text → Option Text) (p : NamePlace) (t : TypeItem) → GivesDefined of a new p t → GivesDefined of b new p t
  GivesDefined-kept of new p t h = record { own = GivesNewName-kept new _ p h.own; funcs = λ ms is resource named j m at. GivesMethod-kept of resource p j m (h.funcs ms is resource named j m at) }

  pub GivesUseItem-kept : (of : WitSources) (new : Text → Option Text) (p : NamePlace) (u : UseItem) → GivesUseItem of a new p u → GivesUseItem of b new p u
  GivesUseItem-kept of new p u h = λ there j r at. GivesRename-kept new p j r (h there j r at)

  pub GivesTypeItem-kept : (of : WitSources) (new : Text → Option Text) (p : NamePlace) (t : TypeItem) → GivesTypeItem of a new p t → GivesTypeItem of b new p t
  GivesTypeItem-kept of new p t h = λ there. GivesDefined-kept of new p t (h there)

  GivesWhat-kept : (of : WitSources) (names : NewNames) (p : NamePlace) (x : Extern) → GivesWhat of a names p x → GivesWhat of b names p x
  GivesWhat-kept of names p (extern.Func id sig) h = GivesNewName-kept (new_name names) _ p h
  GivesWhat-kept of names p (extern.Inline id is) h = (GivesNewName-kept (new_name names) _ p h.0, h.1)
  GivesWhat-kept of names p (extern.Path q) h = tt
  GivesWhat-kept of names p (extern.Named n q) h = tt

  GivesItem-kept : (of : WitSources) (k : ExternKind) (names : NewNames) (p : NamePlace) (t : WorldItem) → GivesItem of a k names p t → GivesItem of b k names p t
  GivesItem-kept of Import names p (of_world.Use u) h = GivesUseItem-kept of (new_name names) p u h
  GivesItem-kept of Import names p (of_world.Type t) h = GivesTypeItem-kept of (new_name names) p t h
  GivesItem-kept of Import names p (of_world.Import e) h = λ there. GivesWhat-kept of names p e.what (h there)
  GivesItem-kept of Import names p (of_world.Export e) h = tt
  GivesItem-kept of Import names p (of_world.Include i) h = tt
  GivesItem-kept of Export names p (of_world.Export e) h = λ there. GivesWhat-kept of names p e.what (h there)
  GivesItem-kept of Export names p (of_world.Use u) h = tt
  GivesItem-kept of Export names p (of_world.Type t) h = tt
  GivesItem-kept of Export names p (of_world.Import e) h = tt
  GivesItem-kept of Export names p (of_world.Include i) h = tt

  pub GivesAt-kept : (of : WitSources) (k : ExternKind) (names : NewNames) (i j : ℕ) (t : Bor WorldItem) → GivesAt of a k names i j t → GivesAt of b k names i j t
  GivesAt-kept of k names i j t h = GivesItem-kept of k names _ t.now h

  pub GivesLayer-kept : (of : WitSources) (k : ExternKind) (i : ℕ) (l : Layer) → GivesLayer of a k i l → GivesLayer of b k i l
  GivesLayer-kept of k i l h = λ j t at. GivesAt-kept of k l.names i j t (h j t at)
