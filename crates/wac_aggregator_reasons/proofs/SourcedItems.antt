-- Named items and uses that come from sources: of entries that do, taken
-- in, met, and after each change.
use Rattle.std.specs.Str.{bytes_eq}
use Rattle.std.specs.declared.alloc.AllocError.{AllocError}
use Rattle.std.proofs.Common.{◌≡◌, List, Option, Some, Result, Contains}
use Rattle.std.proofs.lemmas.List.Elements.{All-weaker, All-contains_itself}
use Rattle.wac_model.specs.Text.{Text, lookup}
use Rattle.wac_component.specs.Collection.{Collection, UseContent, InterfaceContent}
use Rattle.wac_component.specs.Key.{Key, interface_entry, interface_key, item_keys, named_keys, use_keys, Each, Stands, AllStand}
use Rattle.wac_component.specs.Sound.{IsSound}
use Rattle.wac_component.specs.Tree.{item_tree}
use Rattle.wac_component.specs.Entries.{exports_at, uses_at}
use Rattle.wac_component.specs.Open.{stay}
use Rattle.wac_component.specs.declared.items.ItemKind.{ItemKind}
use Rattle.wac_component.proofs.Keys.{Each-append}
use Rattle.wac_component.proofs.Among.{among_each, each_among, each_named}
use Rattle.wac_aggregator_promises.proofs.Read.{use_opens}
use Rattle.wac_merge.specs.Built.{Builds, IsBuilt}
use Rattle.wac_merge.specs.Items.{AreUnhidden}
use Rattle.wac_aggregator_narrowing.specs.Apart.{IsGood}
use Rattle.wac_aggregator_narrowing.specs.Narrows.{Narrows}
use Rattle.wac_aggregator_narrowing.proofs.Adding.{Narrows-all_stand}
use Rattle.wac_aggregator_reasons.specs.Entering.{IsFromSources}
use Rattle.wac_aggregator_reasons.specs.Items.{IsSourcedItem, AreSourcedItems, AreSourcedUses}
use Rattle.wac_aggregator_reasons.specs.Sourced.{IsSourced}
use Rattle.wac_aggregator_reasons.proofs.Built.{built_export, built_sourced}
use Rattle.wac_aggregator_reasons.proofs.Clashing.{sourced_next}
use Rattle.wac_aggregator_reasons.proofs.Exported.{export_each}
use Rattle.wac_aggregator_reasons.proofs.Moving.{export_bare, export_stands, use_stands}
use Rattle.wac_aggregator_reasons.proofs.Narrowed.{narrowed_bare}

module _ (P : Collection → Key → Type 0) where
  -- those of an entry that comes from sources
  pub old_items : (c : Collection) → IsSound c → (k : Key) → Stands c k → IsSourced P c k → AreSourcedItems P c (exports_at c k)
  old_items c s k st h n x is = record {
    stands = export_stands P c s k n x st is;
    export = h.exports k n x stay is;
    keys = export_each (IsSourced P c) c k n x is (λ j m. sourced_next P c k j h m);
  }

  pub old_uses : (c : Collection) → IsSound c → (k : Key) → Stands c k → IsSourced P c k → AreSourcedUses P c (uses_at c k)
  old_uses c s k st h n u has = record {
    stands = use_stands P c s k n u st has;
    use_from = h.uses k n u stay has;
    key = sourced_next P c k (interface_key u.interface) h (use_opens c k n u has);
  }

  -- what is met or joined
  pub built_item : (c d : Collection) (n : Text) (a b y : ItemKind) (r : Result (Option ItemKind) AllocError) → IsSound c → IsSound d → (h : Builds c d a b r) → IsBuilt c d h.origins a b y → AllStand d (item_keys y)
      → IsSourcedItem P c n a → IsSourcedItem P c n b → IsSourcedItem P d n y
  built_item c d n a b y r s t h built st ha hb = record {
    stands = st;
    export = built_export P c d h.origins s h.only n a b y built (ha.export, ha.stands) (hb.export, hb.stands);
    keys = built_sourced P c d h.origins s h.only a b y built ha.stands hb.stands ha.keys hb.keys;
  }

  -- after a change
  pub item_stays : (c d : Collection) (ss ts : List Key) (n : Text) (x : ItemKind) → IsGood c ss → Narrows c ss d ts → ((k : Key) → Stands c k → IsSourced P c k → IsSourced P d k) → IsSourcedItem P c n x → IsSourcedItem P d n x
  item_stays c d ss ts n x g narrows keys h = record {
    stands = Narrows-all_stand c d ss ts narrows (item_keys x) h.stands;
    export = export_bare P n (item_tree c x) (item_tree d x) (narrowed_bare c d ss ts g narrows x h.stands) h.export;
    keys = each_among (IsSourced P d) (item_keys x) (λ k m. keys k (among_each (Stands c) k (item_keys x) m h.stands) (among_each (IsSourced P c) k (item_keys x) m h.keys));
  }

  -- an interface, or a world, of such exports and uses
  items_each : (c : Collection) (es : List (Text × ItemKind)) → AreUnhidden es → AreSourcedItems P c es → Each (IsSourced P c) (named_keys item_keys es)
  items_each c es found h =
      each_named (IsSourced P c) item_keys es (All-weaker (λ (e : Text × ItemKind). lookup bytes_eq es e.0 ≡ Some e.1) (λ (e : Text × ItemKind). Each (IsSourced P c) (item_keys e.1)) (λ e is. (h e.0 e.1 is).keys) es found)

  uses_each : (c : Collection) (us : List (Text × UseContent)) → AreSourcedUses P c us → Each (IsSourced P c) (named_keys use_keys us)
  uses_each c us h =
      each_named (IsSourced P c) use_keys us (All-weaker (Contains us) (λ (e : Text × UseContent). Each (IsSourced P c) (use_keys e.1)) (λ e m. ((h e.0 e.1 m).key, tt)) us (All-contains_itself us))

  pub interface_from : (c : Collection) (i : InterfaceContent) → AreUnhidden i.exports → AreSourcedItems P c i.exports → AreSourcedUses P c i.uses → IsFromSources P c (interface_entry i)
  interface_from c i found hx hu = record {
    parts = Each-append (IsSourced P c) (named_keys use_keys i.uses) (named_keys item_keys i.exports) (uses_each c i.uses hu) (items_each c i.exports found hx);
    exports = λ n x is. (hx n x is).export;
    uses = λ n u m. (hu n u m).use_from;
  }
