use Rattle.std.proofs.Common.{◌≡◌, List, Some, refl, subst, sym}
use Rattle.std.specs.Prelude.{slice_get}
use Rattle.wac_wit_refusals_types.specs.NamesTwice.{TakesName, a_used}
use Rattle.wac_wit_refusals_types.specs.declared.taken_names.TakenName.{TakenName}
use Rattle.wac_wit_syntax.specs.declared.tree.Ident.{Ident}
use Rattle.wac_wit_syntax.specs.declared.tree.Rename.{Rename}
use Rattle.wac_wit_refusals_sites.proofs.TypeFacts.{at_read, kept_push}
use Rattle.wac_wit_refusals_types.proofs.taken_names.push_used_names.Goals as goal

pub loop-part-preserved : goal.loop-part-preserved
loop-part-preserved c of b used all =
    let rename = c.index-used-part.result in
    let at = at_read c.args.used.now c.loop-part.part rename rename c.loop-part-test.true c.index-used-part.is refl in
    let inside = subst (λ (rs : List Rename). slice_get rs c.loop-part.part ≡ Some rename) (sym used.same) at in
    kept_push (λ (n : TakenName). TakesName of b n.item n.part n.name.now) c.loop-part.names.items c.push.new.self.items _ c.in_ok-push.ensures.items (c.loop-part.invariant of b used all)
    (subst (λ (id : Ident). TakesName of b c.args.item c.loop-part.part id) (sym c.local_name.ensures) (a_used c.args.item c.loop-part.part used.used rename used.at used.there inside))

pub returns : goal.returns
returns c = c.loop-part.invariant
