-- What was sourced is so after a shared interface grew, where what it says now comes from sources.
use Rattle.std.specs.Option.{option_map_or}
use Rattle.std.specs.Str.{bytes_eq}
use Rattle.std.proofs.Common.{◌≡◌, ◌≢◌, inl, inr, List, [], Some, ap, subst, Contains}
use Rattle.wac_model.specs.Text.{Text, lookup}
use Rattle.wac_component.specs.Id.{Id}
use Rattle.wac_component.specs.Collection.{Collection, UseContent, InterfaceContent}
use Rattle.wac_component.specs.Key.{Key, interface_entry, interface_key, interface_keys, item_keys, named_keys, use_keys, Stands, AllStand}
use Rattle.wac_component.specs.Reach.{IsAmong}
use Rattle.wac_component.specs.Replacing.{NamesReach}
use Rattle.wac_component.specs.Tree.{item_tree}
use Rattle.wac_component.specs.Entries.{entry_exports, entry_uses, exports_at, uses_at, HasUse}
use Rattle.wac_component.specs.declared.items.ItemKind.{ItemKind}
use Rattle.wac_component.proofs.Keys.{Key-discrete, Each-right}
use Rattle.wac_component.proofs.Among.{among_each, each_found}
use Rattle.wac_component.proofs.OpenWalks.{opens_stand}
use Rattle.wac_aggregator_promises.proofs.Read.{use_opens}
use Rattle.wac_aggregator_narrowing.specs.Apart.{IsGood}
use Rattle.wac_aggregator_narrowing.specs.Narrows.{Narrows, CanGrow, grown}
use Rattle.wac_aggregator_narrowing.proofs.Growing.{opens_back, entry_other, entry_grown, identifier_grown, open_next_grown}
use Rattle.wac_aggregator_narrowing.proofs.Steps.{growing_steps}
use Rattle.wac_aggregator_reasons.specs.Entering.{IsFromSources}
use Rattle.wac_aggregator_reasons.specs.Sourced.{IsExportFrom, IsUseFrom, IsSourced}
use Rattle.wac_aggregator_reasons.proofs.Moving.{export_bare, use_moves, export_stands, use_stands}
use Rattle.wac_aggregator_reasons.proofs.Narrowed.{narrowed_bare}

module _ (P : Collection → Key → Type 0) (c : Collection) (ss : List Key) (e : Id) (old new : InterfaceContent) (g : IsGood c ss) (can : CanGrow c ss e old new) (no_cycle : ¬ (NamesReach c (interface_keys new) (interface_key e)))
    (from : IsFromSources P c (interface_entry new)) where
  narrows : Narrows c ss (grown c e new) ss
  narrows = (growing_steps c ss e old new g can no_cycle).narrows

  export_on : (n : Text) (x : ItemKind) → AllStand c (item_keys x) → IsExportFrom P n (item_tree c x) → IsExportFrom P n (item_tree (grown c e new) x)
  export_on n x st = export_bare P n (item_tree c x) (item_tree (grown c e new) x) (narrowed_bare c (grown c e new) ss ss g narrows x st)

  use_on : (n : Text) (u : UseContent) → Stands c (interface_key u.interface) → IsUseFrom P c n u → IsUseFrom P (grown c e new) n u
  use_on n u st = use_moves P c (grown c e new) n u (identifier_grown c ss e old new g can no_cycle (interface_key u.interface) st)

  -- at an entry that isn't the one that grew, and at that
  exports_other : (t : Key) (n : Text) (x : ItemKind) → Stands c t → t ≢ interface_key e → lookup bytes_eq (exports_at (grown c e new) t) n ≡ Some x
      → (lookup bytes_eq (exports_at c t) n ≡ Some x → IsExportFrom P n (item_tree c x)) → IsExportFrom P n (item_tree (grown c e new) x)
  exports_other t n x st ne is h =
      let same : exports_at (grown c e new) t ≡ exports_at c t = ap (λ o. option_map_or entry_exports o []) (entry_other c ss e old new g can no_cycle t st ne) in
      let was = subst (λ es. lookup bytes_eq es n ≡ Some x) same is in
      export_on n x (export_stands P c g.sound t n x st was) (h was)

  uses_other : (t : Key) (n : Text) (u : UseContent) → Stands c t → t ≢ interface_key e → HasUse (grown c e new) t n u → (HasUse c t n u → IsUseFrom P c n u) → IsUseFrom P (grown c e new) n u
  uses_other t n u st ne has h =
      let same : uses_at (grown c e new) t ≡ uses_at c t = ap (λ o. option_map_or entry_uses o []) (entry_other c ss e old new g can no_cycle t st ne) in
      let was = subst (λ us. Contains us (n, u)) same has in
      use_on n u (use_stands P c g.sound t n u st was) (h was)

  exports_grown : (n : Text) (x : ItemKind) → lookup bytes_eq (exports_at (grown c e new) (interface_key e)) n ≡ Some x → IsExportFrom P n (item_tree (grown c e new) x)
  exports_grown n x is =
      let here = subst (λ es. lookup bytes_eq es n ≡ Some x) (ap (λ o. option_map_or entry_exports o []) (entry_grown c ss e old new g can no_cycle)) is in
      export_on n x (each_found (Stands c) new.exports n x here (Each-right (Stands c) (named_keys use_keys new.uses) (named_keys item_keys new.exports) can.named)) (from.exports n x here)

  uses_grown : (n : Text) (u : UseContent) → HasUse (grown c e new) (interface_key e) n u → IsUseFrom P (grown c e new) n u
  uses_grown n u has =
      let here = subst (λ us. Contains us (n, u)) (ap (λ o. option_map_or entry_uses o []) (entry_grown c ss e old new g can no_cycle)) has in
      let m = subst (λ (ks : List Key). IsAmong (interface_key u.interface) ks) (open_next_grown c ss e old new g can no_cycle) (use_opens (grown c e new) (interface_key e) n u has) in
      use_on n u (among_each (Stands c) (interface_key u.interface) (interface_keys new) m can.named) (from.uses n u here)

  -- what is openly reached now was so, from the id or from what the grown interface names
  exports_at_end : (t : Key) (n : Text) (x : ItemKind) → Stands c t → lookup bytes_eq (exports_at (grown c e new) t) n ≡ Some x
      → (lookup bytes_eq (exports_at c t) n ≡ Some x → IsExportFrom P n (item_tree c x)) → IsExportFrom P n (item_tree (grown c e new) x)
  exports_at_end t n x st is h = by_key (Key-discrete t (interface_key e))
    where
      by_key : Dec (t ≡ interface_key e) → IsExportFrom P n (item_tree (grown c e new) x)
      by_key (yes same) = exports_grown n x (subst (λ (j : Key). lookup bytes_eq (exports_at (grown c e new) j) n ≡ Some x) same is)
      by_key (no ne) = exports_other t n x st ne is h

  uses_at_end : (t : Key) (n : Text) (u : UseContent) → Stands c t → HasUse (grown c e new) t n u → (HasUse c t n u → IsUseFrom P c n u) → IsUseFrom P (grown c e new) n u
  uses_at_end t n u st has h = by_key (Key-discrete t (interface_key e))
    where
      by_key : Dec (t ≡ interface_key e) → IsUseFrom P (grown c e new) n u
      by_key (yes same) = uses_grown n u (subst (λ (j : Key). HasUse (grown c e new) j n u) same has)
      by_key (no ne) = uses_other t n u st ne has h

  part : (j : Key) → IsAmong j (interface_keys new) → Stands c j × IsSourced P c j
  part j m = (among_each (Stands c) j (interface_keys new) m can.named, among_each (IsSourced P c) j (interface_keys new) m from.parts)

  pub grown_sourced : (k : Key) → Stands c k → IsSourced P c k → IsSourced P (grown c e new) k
  grown_sourced k st h = record {
    exports = λ t n x w is. elim (opens_back c ss e old new g can no_cycle k t st w) [
      | inl v ↦ exports_at_end t n x (opens_stand c g.sound k t st v) is (h.exports t n x v)
      | inr v ↦ let p = part v.by v.named in exports_at_end t n x (opens_stand c g.sound v.by t p.0 v.onward) is (p.1.exports t n x v.onward)
    ];
    uses = λ t n u w has. elim (opens_back c ss e old new g can no_cycle k t st w) [
      | inl v ↦ uses_at_end t n u (opens_stand c g.sound k t st v) has (h.uses t n u v)
      | inr v ↦ let p = part v.by v.named in uses_at_end t n u (opens_stand c g.sound v.by t p.0 v.onward) has (p.1.uses t n u v.onward)
    ];
  }
