-- To be only added to is reflexive and transitive.
use Rattle.std.proofs.Common.{◌≡◌, refl, sym, ◌∙◌, subst, List}
use Rattle.wac_component.specs.Collection.{Collection}
use Rattle.wac_component.specs.Key.{Key, entries, Stands, AllStand, item_keys}
use Rattle.wac_component.specs.Growth.{Extends}
use Rattle.wac_component.proofs.Keys.{Each-map}
use Rattle.wac_component.proofs.Lists.{BeginsWith-refl, BeginsWith-trans}

pub Extends-refl : (c : Collection) → Extends c c
Extends-refl c = record {
  number = refl;
  lists = λ s. BeginsWith-refl (entries c s);
  standing = λ k h. h;
  same_entry = λ k h. refl;
  heights = λ k h. refl;
  trees = λ i h. refl;
}

pub Extends-same : (c d : Collection) → d ≡ c → Extends c d
Extends-same c d e = subst (λ x. Extends c x) (sym e) (Extends-refl c)

-- what stood stands
pub AllStand-Extends : (c d : Collection) → Extends c d → (ks : List Key) → AllStand c ks → AllStand d ks
AllStand-Extends c d x = Each-map (Stands c) (Stands d) x.standing

pub Extends-trans : (c d e : Collection) → Extends c d → Extends d e → Extends c e
Extends-trans c d e x y = record {
  number = y.number ∙ x.number;
  lists = λ s. BeginsWith-trans (entries c s) (entries d s) (entries e s) (x.lists s) (y.lists s);
  standing = λ k h. y.standing k (x.standing k h);
  same_entry = λ k h. y.same_entry k (x.standing k h) ∙ x.same_entry k h;
  heights = λ k h. y.heights k (x.standing k h) ∙ x.heights k h;
  trees = λ i h. y.trees i (AllStand-Extends c d x (item_keys i) h) ∙ x.trees i h;
}
