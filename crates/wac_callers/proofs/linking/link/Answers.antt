-- A new cache has no pair, so that it is sound.
use Rattle.std.proofs.Common.{◌≡◌, ◌<◌, List, [], ◌∷◌, Contains, arith, rules, subst}
use Rattle.wac_types.specs.Cache.{Pair, IsSoundCache}
use Rattle.wac_types.specs.Collection.{Collection}
use Rattle.wac_callers.proofs.linking.link.Goals as goal

nothing_is_sound : (cs : List Collection) (pairs : List Pair) → pairs ≡ [] → IsSoundCache cs pairs
nothing_is_sound cs pairs none p among = let m : Contains [] p = subst (λ ps. Contains ps p) none among in let no : m.0 < 0 = m.1 in absurd (omega arith)

pub returns : goal.returns
returns c = c.is_subtype.ensures.answer (nothing_is_sound (c.args.from.now ∷ c.args.to.now ∷ []) _ (search rules))
