use Rattle.std.proofs.Common.{◌≡◌, Some, subst}
use Rattle.std.specs.Prelude.{slice_get}
use Rattle.std.proofs.lemmas.Option.{MatchOption-at_some}
use Rattle.wac_wit_syntax.specs.declared.tree.WorldItem.{WorldItem}
use Rattle.wac_wit_refusals_worlds.proofs.worlds.world_included.Goals as goal

pub returns-in-Some-2 : goal.returns-in-Some-2
returns-in-Some-2 c of knows is at =
    let it = c.in-Some.ensures.some of knows in
    record {
      at = subst (λ (t : WorldItem). slice_get is c.args.index ≡ Some t) it.is at;
      there = it.there;
      leads = MatchOption-at_some _ _ c.in-Some-2.world c.in-Some-2.is c.in_ok-world.ensures of knows;
    }
