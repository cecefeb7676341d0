-- An entry that is added is sourced, where what it says and what it openly leads to is.
use Rattle.std.specs.Option.{option_map_or}
use Rattle.std.specs.Str.{bytes_eq}
use Rattle.std.proofs.Common.{◌≡◌, List, [], Some, inr, refl, sym, ap, subst, Contains}
use Rattle.wac_model.specs.Text.{Text, lookup}
use Rattle.wac_component.specs.Collection.{Collection, UseContent}
use Rattle.wac_component.specs.Growth.{Extends, with_entry}
use Rattle.wac_component.specs.Key.{Key, Entry, entry_keys, other_keys, optional_keys, interface_key, Stands, AllStand}
use Rattle.wac_component.specs.Reach.{IsAmong}
use Rattle.wac_component.specs.Sound.{IsSound}
use Rattle.wac_component.specs.Tree.{item_tree}
use Rattle.wac_component.specs.Entries.{entry_exports, entry_uses, exports_at, HasUse}
use Rattle.wac_component.specs.Open.{open_next, OpenReaches, stay, step}
use Rattle.wac_component.specs.declared.items.ItemKind.{ItemKind}
use Rattle.wac_component.proofs.Adding.{Extends-with_entry}
use Rattle.wac_component.proofs.ImportKeys.{imports-apart}
use Rattle.wac_component.proofs.Among.{among_each}
use Rattle.wac_aggregator_promises.proofs.Read.{use_opens}
use Rattle.wac_aggregator_narrowing.specs.Last.{last_key}
use Rattle.wac_aggregator_narrowing.proofs.Adding.{last_at, identifier_kept}
use Rattle.wac_aggregator_reasons.specs.Entering.{IsFromSources}
use Rattle.wac_aggregator_reasons.specs.Sourced.{IsExportFrom, IsUseFrom, IsSourced}
use Rattle.wac_aggregator_reasons.proofs.Exported.{export_each}
use Rattle.wac_aggregator_reasons.proofs.Moving.{use_moves, sourced_kept}

module _ (P : Collection → Key → Type 0) (c : Collection) (s : IsSound c) (e : Entry) (named : AllStand c (entry_keys e)) (from : IsFromSources P c e) where
  grows : Extends c (with_entry c e)
  grows = Extends-with_entry c e s

  is_at : exports_at (with_entry c e) (last_key c e) ≡ entry_exports e
  is_at = ap (λ o. option_map_or entry_exports o []) (last_at c e).at

  open_is : open_next (with_entry c e) (last_key c e) ≡ other_keys e
  open_is = ap (optional_keys other_keys) (last_at c e).at

  part_stands : (j : Key) → IsAmong j (other_keys e) → Stands c j
  part_stands j m = among_each (Stands c) j (entry_keys e) ((imports-apart e j).1 (inr m)) named

  here_exports : (n : Text) (x : ItemKind) → lookup bytes_eq (exports_at (with_entry c e) (last_key c e)) n ≡ Some x → IsExportFrom P n (item_tree (with_entry c e) x)
  here_exports n x is =
      let st = export_each (Stands c) (with_entry c e) (last_key c e) n x is (λ j m. part_stands j (subst (λ (ks : List Key). IsAmong j ks) open_is m)) in
      subst (λ t. IsExportFrom P n t) (sym (grows.trees x st)) (from.exports n x (subst (λ es. lookup bytes_eq es n ≡ Some x) is_at is))

  here_uses : (n : Text) (u : UseContent) → HasUse (with_entry c e) (last_key c e) n u → IsUseFrom P (with_entry c e) n u
  here_uses n u has =
      let st = part_stands (interface_key u.interface) (subst (λ (ks : List Key). IsAmong (interface_key u.interface) ks) open_is (use_opens (with_entry c e) (last_key c e) n u has)) in
      use_moves P c (with_entry c e) n u (identifier_kept c (with_entry c e) s grows (interface_key u.interface) st)
      (from.uses n u (subst (λ us. Contains us (n, u)) (ap (λ o. option_map_or entry_uses o []) (last_at c e).at) has))

  onward : (j : Key) → IsAmong j (open_next (with_entry c e) (last_key c e)) → IsSourced P (with_entry c e) j
  onward j m = let o = subst (λ (ks : List Key). IsAmong j ks) open_is m in sourced_kept P c (with_entry c e) s grows j (part_stands j o) (among_each (IsSourced P c) j (other_keys e) o from.parts)

  exports : (k t : Key) (n : Text) (x : ItemKind) → k ≡ last_key c e → OpenReaches (with_entry c e) k t → lookup bytes_eq (exports_at (with_entry c e) t) n ≡ Some x → IsExportFrom P n (item_tree (with_entry c e) x)
  exports k t n x same stay is = here_exports n x (subst (λ (j : Key). lookup bytes_eq (exports_at (with_entry c e) j) n ≡ Some x) same is)
  exports k t n x same (step {j = j} m w) is = (onward j (subst (λ (i : Key). IsAmong j (open_next (with_entry c e) i)) same m)).exports t n x w is

  uses : (k t : Key) (n : Text) (u : UseContent) → k ≡ last_key c e → OpenReaches (with_entry c e) k t → HasUse (with_entry c e) t n u → IsUseFrom P (with_entry c e) n u
  uses k t n u same stay has = here_uses n u (subst (λ (j : Key). HasUse (with_entry c e) j n u) same has)
  uses k t n u same (step {j = j} m w) has = (onward j (subst (λ (i : Key). IsAmong j (open_next (with_entry c e) i)) same m)).uses t n u w has

  pub added_sourced : IsSourced P (with_entry c e) (last_key c e)
  added_sourced = record { exports = λ t n x w is. exports (last_key c e) t n x refl w is; uses = λ t n u w has. uses (last_key c e) t n u refl w has }
