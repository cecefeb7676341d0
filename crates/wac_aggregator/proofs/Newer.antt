-- Which of the names on a track has the highest version.
use Rattle.std.proofs.Common.{◌≡◌, Option, Some, None, ap, sym, ◌∙◌, true, false}
use Rattle.std.specs.Ordering.{ordering_reverse}
use Rattle.std.specs.declared.cmp.Ordering.{Ordering}
use Rattle.std.specs.declared.cmp.Ordering.TheVariants.{Less, Greater}
use Rattle.semver.specs.Parse.{Parts}
use Rattle.wac_model.specs.Text.{Text}
use Rattle.wac_names.specs.Class.{class_of}
use Rattle.wac_names.specs.Track.{IsVersionOrder, version_cmp}
use Rattle.wac_names.proofs.Classes.{class_of-keyed}
use Rattle.wac_names.proofs.Standing.{version_total}
use Rattle.wac_names.proofs.Tracks.{tracked_same}
use Rattle.wac_aggregator_promises.specs.Due.{IsHigher}
use Rattle.wac_aggregator_imports.specs.Import.{IsNewerBy, newer, not_newer}

-- names of which one is higher are on one track
pub higher_track : (a b : Text) → IsHigher a b → class_of a ≡ class_of b
higher_track a b h = sym (class_of-keyed a h.key (h.first, h.first_on)) ∙ class_of-keyed b h.key (h.second, h.second_on)

-- the order of versions, turned
turned : (v w : Parts) → version_cmp v w ≡ Greater → version_cmp w v ≡ Less
turned v w h = version_total.antisymm w v ∙ ap ordering_reverse h

greater_trans : (u v w : Parts) → version_cmp u v ≡ Greater → version_cmp v w ≡ Greater → version_cmp u w ≡ Greater
greater_trans u v w h g = version_total.antisymm u w ∙ ap ordering_reverse (version_total.trans w v u (turned v w g) (turned u v h))

-- no name is higher than itself
pub not_higher-self : (a : Text) → ¬ (IsHigher a a)
not_higher-self a h =
    let same : h.first ≡ h.second = (tracked_same a h.key h.key h.first h.second h.first_on h.second_on).1 in
    let greater : version_cmp h.second h.second ≡ Greater = ap (λ v. version_cmp v h.second) (sym same) ∙ h.higher in
    let both : Greater ≡ Less = sym greater ∙ turned h.second h.second greater in
    cc

-- what is newer is higher
pub higher-newer : (name was : Text) → IsNewerBy name was true → IsHigher name was
higher-newer name was (newer (key, v, w, first, second, is)) =
    let greater : version_cmp v w ≡ Greater = (let same : Greater ≡ version_cmp v w = is in sym same) in
    record { key = key; first = v; second = w; first_on = first; second_on = second; higher = greater }

-- what is not newer is not higher
pub not_higher-old : (name was : Text) → IsNewerBy name was false → ¬ (IsHigher name was)
not_higher-old name was (not_newer o order less) h = by o order less
  where
    by : (o : Option Ordering) → IsVersionOrder name was o → ¬ (o ≡ Some Greater) → ⊥
    by None none less = none (h.key, (h.first, h.first_on), (h.second, h.second_on))
    by (Some r) (key, v, w, first, second, is) less =
        let p : h.first ≡ v = (tracked_same name h.key key h.first v h.first_on first).1 in
        let q : h.second ≡ w = (tracked_same was h.key key h.second w h.second_on second).1 in
        less (ap (λ (x : Ordering). Some x) (is ∙ ap (λ x. version_cmp x w) (sym p) ∙ ap (λ x. version_cmp h.first x) (sym q) ∙ h.higher))

-- what is not higher than one name is not higher than a newer one
pub not_higher-newer : (other name was : Text) → IsNewerBy name was true → ¬ (IsHigher other was) → ¬ (IsHigher other name)
not_higher-newer other name was (newer (key, v, w, first, second, is)) not h =
    let one = tracked_same name h.key key h.second v h.second_on first in
    let above : version_cmp h.first v ≡ Greater = ap (λ x. version_cmp h.first x) (sym one.1) ∙ h.higher in
    let below : version_cmp v w ≡ Greater = let same : Greater ≡ version_cmp v w = is in sym same in
    not (record { key = h.key; first = h.first; second = w; first_on = h.first_on; second_on = rw one.0 second; higher = greater_trans h.first v w above below })
