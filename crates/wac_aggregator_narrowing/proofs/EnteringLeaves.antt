-- Foreign values, functions, resources and core modules that enter the own collection.
use Rattle.std.proofs.Common.{◌≡◌, List, [], length, Some, None, ◌⊎◌, inl, inr, refl, ap, sym, subst, ◌∙◌}
use Rattle.std.specs.Option.{option_map, option_map_or}
use Rattle.wac_model.specs.Text.{Text}
use Rattle.wac_component.specs.Collection.{Collection}
use Rattle.wac_component.specs.Growth.{with_entry}
use Rattle.wac_component.specs.Key.{Key, Entry, defined_entry, resource_entry, func_entry, module_entry, entry_at, entry_keys, other_keys, import_keys, module_key, Each, Stands, AllStand}
use Rattle.wac_component.specs.Reach.{IsAmong}
use Rattle.wac_component.specs.Sound.{IsSound}
use Rattle.wac_component.specs.Open.{open_next}
use Rattle.wac_component.specs.Entries.{entry_identifier, identifier_at}
use Rattle.wac_component.proofs.Adding.{value_tree-with_defined, root_name-with_resource, func_tree-with_func, module_tree-with_module}
use Rattle.wac_component.proofs.ImportKeys.{imports-apart}
use Rattle.wac_component.proofs.Lists.{slice_get-map}
use Rattle.wac_component.proofs.Reading.{defined_at, resource_at, func_at}
use Rattle.wac_component.proofs.Trees.{value_tree-entry, root_name-entry, func_tree-entry, module_tree-entry}
use Rattle.wac_component.proofs.Among.{among_each, each_among}
use Rattle.wac_aggregator_narrowing.specs.Identified.{use_names, use_names_at}
use Rattle.wac_aggregator_narrowing.specs.Apart.{IsKeyApart, AreKeysApart}
use Rattle.wac_aggregator_narrowing.specs.Entering.{IsEntered, IsCopiedInto, AddsEntry, AddsCopy, MayEnter, MayBeCopy}
use Rattle.wac_aggregator_narrowing.specs.Last.{last_key}
use Rattle.wac_aggregator_narrowing.specs.Leaves.{SaysSame}
use Rattle.wac_aggregator_narrowing.specs.Leaves as says
use Rattle.wac_aggregator_narrowing.specs.State.{State, IsStateKept}
use Rattle.wac_aggregator_narrowing.specs.Taking.{SameTree, AreTakenKeys, AreCopiedKeys}
use Rattle.wac_aggregator_narrowing.proofs.Adding.{last_at}
use Rattle.wac_aggregator_narrowing.proofs.Entering.{plain_enters, copy_enters, copied_each}
use Rattle.wac_aggregator_narrowing.proofs.Mapped.{taken_each}
use Rattle.wac_aggregator_narrowing.proofs.Taking.{stands_for_same, same_value, same_resource, same_func, same_module}
use Rattle.wac_aggregator_narrowing.proofs.Values.{funcs_same, defined_same, resources_same}

-- what says the same of parts of the same trees has the same tree, once it was added
pub says_same : (f c : Collection) → IsSound f → IsSound c → (theirs : Key) (z : Entry) → Stands f theirs → AllStand c (entry_keys z) → SaysSame f c theirs z → SameTree f (with_entry c z) theirs (last_key c z)
says_same f c sf sc theirs z st named (says.same_func {p = p} {x = x} {z = e} at h) =
    same_func f (with_entry c (func_entry e)) p (record { number = c.number; index = length c.funcs })
    (func_tree-with_func c e (length c.funcs) (record { number = c.number; index = length c.funcs }) sc named refl refl ∙ funcs_same f c x e h ∙ sym (func_tree-entry f p x at))
says_same f c sf sc theirs z st named (says.same_defined {p = p} {x = x} {z = e} at h) =
    same_value f (with_entry c (defined_entry e)) p (record { number = c.number; index = length c.defined })
    (value_tree-with_defined c e (length c.defined) (record { number = c.number; index = length c.defined }) sc named refl refl ∙ defined_same f c x e h ∙ sym (value_tree-entry f p x sf st at))
says_same f c sf sc theirs z st named (says.same_resource {p = p} {x = x} {z = e} at h) =
    same_resource f (with_entry c (resource_entry e)) p (record { number = c.number; index = length c.resources })
    (root_name-with_resource c e (length c.resources) (record { number = c.number; index = length c.resources }) sc named refl refl ∙ resources_same f c x e h ∙ sym (root_name-entry f p x sf st at))
says_same f c sf sc theirs z st named (says.same_module {p = p} {x = x} at) =
    same_module f (with_entry c (module_entry x)) p (record { number = c.number; index = length c.modules })
    (module_tree-with_module c x (length c.modules) (record { number = c.number; index = length c.modules }) refl refl ∙ sym (module_tree-entry f p x at))

-- such entries import nothing, have no identifier, and use nothing
record IsLeafAdded (f c : Collection) (theirs : Key) (z : Entry) : Type 0 where
  pub sort : (last_key c z).sort ≡ theirs.sort
  pub plain : entry_identifier z ≡ None
  pub theirs_plain : identifier_at f theirs ≡ None
  pub names : use_names z ≡ use_names_at f theirs
  pub imports : import_keys z ≡ []

leaf_of : (f c : Collection) (theirs : Key) (z : Entry) → SaysSame f c theirs z → IsLeafAdded f c theirs z
leaf_of f c theirs z (says.same_func {p = p} {x = x} at h) = record { sort = refl; plain = refl; theirs_plain = ap (λ o. option_map_or entry_identifier o None) (func_at f p x at); names = sym (ap (λ o. option_map_or use_names o []) (func_at f p x at)); imports = refl }
leaf_of f c theirs z (says.same_defined {p = p} {x = x} at h) = record { sort = refl; plain = refl; theirs_plain = ap (λ o. option_map_or entry_identifier o None) (defined_at f p x at); names = sym (ap (λ o. option_map_or use_names o []) (defined_at f p x at)); imports = refl }
leaf_of f c theirs z (says.same_resource {p = p} {x = x} at h) = record { sort = refl; plain = refl; theirs_plain = ap (λ o. option_map_or entry_identifier o None) (resource_at f p x at); names = sym (ap (λ o. option_map_or use_names o []) (resource_at f p x at)); imports = refl }
leaf_of f c theirs z (says.same_module {p = p} {x = x} at) =
    let is : entry_at f (module_key p) ≡ Some (module_entry x) = slice_get-map module_entry f.modules p.index ∙ ap (option_map module_entry) at in
    record { sort = refl; plain = refl; theirs_plain = ap (λ o. option_map_or entry_identifier o None) is; names = sym (ap (λ o. option_map_or use_names o []) is); imports = refl }

module _ {T : Type 0} (track : Text → T) (f : Collection) (s : State) (kept : IsStateKept s) (sound : IsSound f) (theirs : Key) (z : Entry) (st : Stands f theirs) (same_as : SaysSame f s.own theirs z) where
  leaf : IsLeafAdded f s.own theirs z
  leaf = leaf_of f s.own theirs z same_as

  -- all its ids are open
  all_open : (P : Key → Type 0) → Each P (other_keys z) → Each P (entry_keys z)
  all_open P h = each_among P (entry_keys z) (λ k m. by_part k ((imports-apart z k).0 m))
    where
      by_part : (k : Key) → IsAmong k (import_keys z) ⊎ IsAmong k (other_keys z) → P k
      by_part k (inl n) = none (subst (λ (ks : List Key). IsAmong k ks) leaf.imports n)
        where
          none : IsAmong k [] → P k
          none m = elim m [ ]
      by_part k (inr n) = among_each P k (other_keys z) n h

  pub leaf_enters : (t : State) → AreTakenKeys track f s (open_next f theirs) (other_keys z) → AddsEntry f s t theirs z → t.shared ≡ s.shared → IsEntered track f s t theirs (last_key s.own z)
  leaf_enters t parts adds same = plain_enters track f s kept t theirs z may adds same
    where
      named : AllStand s.own (entry_keys z)
      named = all_open (Stands s.own) (taken_each track f s (Stands s.own) (λ i j k. k.remembered.stands_for.own_stands) (open_next f theirs) (other_keys z) parts)

      tree : SameTree f (with_entry s.own z) theirs (last_key s.own z)
      tree = says_same f s.own sound kept.good.sound theirs z st named same_as

      may : MayEnter track f s theirs z
      may = record {
        plain = leaf.plain;
        theirs_plain = leaf.theirs_plain;
        names = leaf.names;
        named = named;
        apart = subst (λ (ks : List Key). AreKeysApart s.own s.shared ks) (sym leaf.imports) tt;
        parts = parts;
        stands_for = stands_for_same f (with_entry s.own z) theirs (last_key s.own z) leaf.sort st (last_at s.own z).stands tree;
        quiet = λ q. tree;
      }

  pub leaf_copied : (t : State) → AreCopiedKeys f s (open_next f theirs) (other_keys z) → AddsCopy f s t theirs z → IsCopiedInto track f s t theirs (last_key s.own z)
  leaf_copied t parts adds = copy_enters track f s kept t theirs z may adds
    where
      named : AllStand s.own (entry_keys z)
      named = all_open (Stands s.own) (copied_each track f s kept (Stands s.own) (λ i j k. k.copy.own_stands) (open_next f theirs) (other_keys z) parts)

      may : MayBeCopy f s theirs z
      may = record {
        sort = leaf.sort;
        stands = st;
        identifier = leaf.plain ∙ sym leaf.theirs_plain;
        names = leaf.names;
        named = named;
        apart = all_open (IsKeyApart s.own s.shared) (copied_each track f s kept (IsKeyApart s.own s.shared) (λ i j k. k.copy.apart) (open_next f theirs) (other_keys z) parts);
        parts = parts;
        same = says_same f s.own sound kept.good.sound theirs z st named same_as;
      }
