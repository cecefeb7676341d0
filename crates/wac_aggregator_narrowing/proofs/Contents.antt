-- The trees of interfaces and worlds whose names are served.
use Rattle.std.proofs.Common.{◌≡◌, List, Option, Some, None, slice_get, refl, sym, subst}
use Rattle.std.specs.Str.{bytes_eq}
use Rattle.wac_model.specs.Text.{Text, lookup}
use Rattle.wac_model.specs.CoreTree.{Serves}
use Rattle.wac_model.specs.ItemTree.{Kind, ItemTree, composite, interface, world, no_items}
use Rattle.wac_model.specs.Order.{Fits}
use Rattle.wac_model.proofs.Serves.{Serves-refl}
use Rattle.wac_component.specs.Id.{Id}
use Rattle.wac_component.specs.Collection.{Collection, InterfaceContent, WorldContent}
use Rattle.wac_component.specs.Key.{interface_key, world_key, Stands}
use Rattle.wac_component.specs.Sound.{IsSound}
use Rattle.wac_component.specs.Tree.{item_tree, externs}
use Rattle.wac_component.specs.declared.items.ItemKind.{ItemKind}
use Rattle.wac_component.proofs.Trees.{interface-externs, world-externs}
use Rattle.wac_checker_parts.specs.Externs.{AreServed}
use Rattle.wac_checker_parts.proofs.ExternLemmas.{interfaces_fit, worlds_fit}

-- what the entries of two interfaces, and of two worlds, say decides whether one
-- fits where the other is asked for
module _ (c d : Collection) (s : IsSound c) (t : IsSound d) (p q : Id) where
  pub interface_fits : (e f : InterfaceContent) → Stands c (interface_key p) → Stands d (interface_key q) → slice_get c.interfaces p.index ≡ Some e → slice_get d.interfaces q.index ≡ Some f
      → AreServed c d e.exports f.exports → (k : Kind) → Fits (composite k interface no_items (externs c (interface_key p)).exports) (composite k interface no_items (externs d (interface_key q)).exports)
  interface_fits e f sp sq at_p at_q served k =
      rw (interface-externs c p e s sp at_p, interface-externs d q f t sq at_q) (interfaces_fit c d e.exports f.exports served k)

  pub world_fits : (e f : WorldContent) → Stands c (world_key p) → Stands d (world_key q) → slice_get c.worlds p.index ≡ Some e → slice_get d.worlds q.index ≡ Some f
      → AreServed d c f.imports e.imports → AreServed c d e.exports f.exports
      → (k : Kind) → Fits (composite k world (externs c (world_key p)).imports (externs c (world_key p)).exports) (composite k world (externs d (world_key q)).imports (externs d (world_key q)).exports)
  world_fits e f sp sq at_p at_q imports exports k =
      rw (world-externs c p e s sp at_p, world-externs d q f t sq at_q) (worlds_fit c d e.imports f.imports e.exports f.exports imports exports k)

-- the same names serve themselves, where each fits
pub served_same : (c d : Collection) (es : List (Text × ItemKind)) → ((n : Text) (y : ItemKind) → lookup bytes_eq es n ≡ Some y → Fits (item_tree c y) (item_tree d y)) → AreServed c d es es
served_same c d es h n = Serves-refl (λ x y. Fits (item_tree c x) (item_tree d y)) (lookup bytes_eq es n) (λ y q. h n y q)

-- by another reading of the trees
served_at_left : (c d e : Collection) (a b : Option ItemKind) → ((x : ItemKind) → a ≡ Some x → item_tree d x ≡ item_tree c x)
    → Serves (λ x y. Fits (item_tree c x) (item_tree e y)) a b → Serves (λ x y. Fits (item_tree d x) (item_tree e y)) a b
served_at_left c d e a None same h = tt
served_at_left c d e None (Some y) same h = absurd h
served_at_left c d e (Some x) (Some y) same h = subst (λ (t : ItemTree). Fits t (item_tree e y)) (sym (same x refl)) h

pub served_left : (c d e : Collection) (es ts : List (Text × ItemKind)) → ((n : Text) (x : ItemKind) → lookup bytes_eq es n ≡ Some x → item_tree d x ≡ item_tree c x) → AreServed c e es ts → AreServed d e es ts
served_left c d e es ts same h n = served_at_left c d e (lookup bytes_eq es n) (lookup bytes_eq ts n) (λ x q. same n x q) (h n)
