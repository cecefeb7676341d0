-- A sound cache and collections that are only added to.
use Rattle.std.proofs.Common.{sym, subst, ℕ, List}
use Rattle.wac_model.specs.ItemTree.{ItemTree}
use Rattle.wac_model.specs.Order.{Fits}
use Rattle.wac_component.specs.Collection.{Collection}
use Rattle.wac_component.specs.Growth.{Extends}
use Rattle.wac_component.specs.Key.{Key, item_keys}
use Rattle.wac_component.specs.Tree.{item_tree}
use Rattle.wac_component.proofs.Extended.{AllStand-Extends}
use Rattle.wac_checker.specs.Cache.{Pair, AllNumbered, IsTrueOf, SoundCachesStaySound}

-- a pair that is true of two collections is true of what they grew to
true_of_grown : (c d e f : Collection) (p : Pair) → Extends c e → Extends d f → IsTrueOf c d p → IsTrueOf e f p
true_of_grown c d e f p x y h = record {
  left = AllStand-Extends c e x (item_keys p.0) h.left;
  right = AllStand-Extends d f y (item_keys p.1) h.right;
  fits = subst (λ (t : ItemTree). Fits t (item_tree f p.1)) (sym (x.trees p.0 h.left)) (subst (λ (t : ItemTree). Fits (item_tree c p.0) t) (sym (y.trees p.1 h.right)) h.fits);
}

numbered_before : (c d : Collection) (ks : List Key) → Extends c d → AllNumbered d.number ks → AllNumbered c.number ks
numbered_before c d ks x h = subst (λ (n : ℕ). AllNumbered n ks) x.number h

pub sound_caches_stay : SoundCachesStaySound
sound_caches_stay cs ds pairs grown true_of p m e f me mf numbered_e numbered_f =
    let a = grown e me in
    let b = grown f mf in
    true_of_grown a.0 b.0 e f p a.2 b.2 (true_of p m a.0 b.0 a.1 b.1 (numbered_before a.0 e (item_keys p.0) a.2 numbered_e) (numbered_before b.0 f (item_keys p.1) b.2 numbered_f))
