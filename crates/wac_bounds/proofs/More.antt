-- Bounds of a list's meet and one tree more.
use Rattle.std.proofs.Common.{◌∷◌, Some}
use Rattle.std.proofs.lemmas.List.Elements.{All-cons, All-head, All-tail, All-weaker}
use Rattle.wac_model.specs.Order.{Fits}
use Rattle.wac_model.proofs.ItemOrder.{Fits-trans}
use Rattle.wac_bounds.specs.Bounds.{IsMeet}
use Rattle.wac_bounds.specs.MeetIn.{IsMeetIn}
use Rattle.wac_bounds.specs.Laws.{BoundsOfMore, MeetsOfMore}

pub bounds_of_more : BoundsOfMore
bounds_of_more ts m t c h = (
  λ p. All-cons (λ x. Fits c x) t ts p.1 (All-weaker (λ x. Fits m x) (λ x. Fits c x) (λ x q. Fits-trans c m x p.0 q) ts h.is_below),
  λ b. (h.is_greatest c (All-tail (λ x. Fits c x) t ts b), All-head (λ x. Fits c x) t ts b),
)

pub meets_of_more : MeetsOfMore
meets_of_more ts m t n h = (to, from)
  where
    to : IsMeetIn Fits m t (Some n) → IsMeet n (t ∷ ts)
    to g = record {
      is_below = (bounds_of_more ts m t n h).0 (g.0, g.1);
      is_greatest = λ c b. let p = (bounds_of_more ts m t c h).1 b in g.2 c p.0 p.1;
    }

    from : IsMeet n (t ∷ ts) → IsMeetIn Fits m t (Some n)
    from g = let p = (bounds_of_more ts m t n h).1 g.is_below in (p.0, p.1, λ c x y. g.is_greatest c ((bounds_of_more ts m t c h).0 (x, y)))
