-- Contents all of whose parts were copied.
use Rattle.std.proofs.Common.{◌≡◌, ◌++◌, List, ◌∷◌, Option, Some, slice_get, refl, ap}
use Rattle.wac_model.specs.Text.{Text}
use Rattle.wac_component.specs.Id.{Id}
use Rattle.wac_component.specs.Collection.{Collection, AliasContent, UseContent, InterfaceContent, WorldContent}
use Rattle.wac_component.specs.Key.{Each, Stands, interface_key, world_key, interface_keys, world_keys, alias_keys, optional_keys, named_keys, use_keys, item_keys}
use Rattle.wac_component.specs.Sound.{IsSound}
use Rattle.wac_component.specs.Tree.{root_name}
use Rattle.wac_component.specs.declared.items.ItemKind.{ItemKind}
use Rattle.wac_aggregator_narrowing.specs.Entering.{InterfaceIsCopied, WorldIsCopied}
use Rattle.wac_aggregator_narrowing.specs.Identified.{used_names}
use Rattle.wac_aggregator_narrowing.specs.State.{State}
use Rattle.wac_aggregator_narrowing.specs.Taking.{AreMapped, none, one, IsCopiedItem, IsCopiedKey, AreCopiedKeys, no_keys, one_key}
use Rattle.wac_aggregator_narrowing.specs.Values.{IfAny, neither, both}
use Rattle.wac_aggregator_narrowing.proofs.Mapped.{paired_append, paired_named}
use Rattle.wac_aggregator_reasons.specs.Split.{IsLow}
use Rattle.wac_aggregator_copies.specs.Copies.{IsCopiedAlias, IsCopiedUse}
use Rattle.wac_aggregator_copies.proofs.CopyLemmas.{copies_low}

module _ (f : Collection) (s : State) where
  pub alias_parts : (x y : Option AliasContent) → IfAny (IsCopiedAlias f s) x y → AreCopiedKeys f s (optional_keys alias_keys x) (optional_keys alias_keys y)
  alias_parts x y neither = no_keys
  alias_parts x y (both c) = c.keys

  pub alias_roots : (x y : Option AliasContent) → IfAny (IsCopiedAlias f s) x y → IfAny (λ a b. root_name s.own b.source ≡ root_name f a.source) x y
  alias_roots x y neither = neither
  alias_roots x y (both {x = a} {y = b} c) = both c.source

  uses_copied : (us vs : List (Text × UseContent)) → AreMapped (IsCopiedUse f s) us vs → AreCopiedKeys f s (named_keys use_keys us) (named_keys use_keys vs)
  uses_copied us vs m = paired_named (IsCopiedKey f s) (IsCopiedUse f s) use_keys use_keys (λ u v c. one_key c.interface no_keys) us vs m

  uses_named : (us vs : List (Text × UseContent)) → AreMapped (IsCopiedUse f s) us vs → used_names vs ≡ used_names us
  uses_named us vs none = refl
  uses_named us vs (one {n = n} {xs = ps} {ys = qs} h m) = ap (λ ns. n ∷ ns) (uses_named ps qs m)

  -- what copied items name are copies
  pub items_copied : (xs ys : List (Text × ItemKind)) → AreMapped (IsCopiedItem f s) xs ys → AreCopiedKeys f s (named_keys item_keys xs) (named_keys item_keys ys)
  items_copied xs ys m = paired_named (IsCopiedKey f s) (IsCopiedItem f s) item_keys item_keys (λ x y c. c.keys) xs ys m

  -- so it is low
  pub items_low : (xs ys : List (Text × ItemKind)) → AreMapped (IsCopiedItem f s) xs ys → Each (IsLow s) (named_keys item_keys ys)
  items_low xs ys m = copies_low f s (named_keys item_keys xs) (named_keys item_keys ys) (items_copied xs ys m)

  -- all that an interface, or a world, names
  pub interface_parts : (p : Id) (x z : InterfaceContent) → InterfaceIsCopied f s p x z → AreCopiedKeys f s (interface_keys x) (interface_keys z)
  interface_parts p x z h = paired_append (IsCopiedKey f s) (named_keys use_keys x.uses) (named_keys use_keys z.uses) (named_keys item_keys x.exports) (named_keys item_keys z.exports) h.uses (items_copied x.exports z.exports h.exports)

  pub world_parts : (p : Id) (x z : WorldContent) → WorldIsCopied f s p x z → AreCopiedKeys f s (world_keys x) (world_keys z)
  world_parts p x z h =
      paired_append (IsCopiedKey f s) (named_keys use_keys x.uses ++ named_keys item_keys x.imports) (named_keys use_keys z.uses ++ named_keys item_keys z.imports) (named_keys item_keys x.exports) (named_keys item_keys z.exports)
      (paired_append (IsCopiedKey f s) (named_keys use_keys x.uses) (named_keys use_keys z.uses) (named_keys item_keys x.imports) (named_keys item_keys z.imports) h.uses (items_copied x.imports z.imports h.imports)) (items_copied x.exports z.exports h.exports)

  module _ (sound : IsSound f) (p : Id) where
    pub interface_is_copied : (x z : InterfaceContent) → Stands f (interface_key p) → slice_get f.interfaces p.index ≡ Some x → z.id ≡ x.id → AreMapped (IsCopiedUse f s) x.uses z.uses → AreMapped (IsCopiedItem f s) x.exports z.exports → InterfaceIsCopied f s p x z
    interface_is_copied x z st at identifier us es = record {
      sound = sound;
      stands = st;
      entry = at;
      identifier = identifier;
      names = uses_named x.uses z.uses us;
      uses = uses_copied x.uses z.uses us;
      exports = es;
    }

    pub world_is_copied : (x z : WorldContent) → Stands f (world_key p) → slice_get f.worlds p.index ≡ Some x → AreMapped (IsCopiedUse f s) x.uses z.uses → AreMapped (IsCopiedItem f s) x.imports z.imports → AreMapped (IsCopiedItem f s) x.exports z.exports → WorldIsCopied f s p x z
    world_is_copied x z st at us is es = record {
      sound = sound;
      stands = st;
      entry = at;
      names = uses_named x.uses z.uses us;
      uses = uses_copied x.uses z.uses us;
      imports = is;
      exports = es;
    }
