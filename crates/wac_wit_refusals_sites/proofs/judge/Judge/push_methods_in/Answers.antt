use Rattle.std.proofs.Common.{◌≡◌, ◌∙◌, List, Some, ap, refl, subst, sym}
use Rattle.std.specs.Prelude.{Vec, slice_get}
use Rattle.std.specs.declared.alloc.Global.{Global}
use Rattle.wac_wit_refusals_sites.specs.TypeLists.{AreMethodsOf, IsPlacedMethod}
use Rattle.wac_wit_refusals_sites.specs.declared.type_items.PlacedMethod.{PlacedMethod}
use Rattle.wac_wit_syntax.specs.declared.tree.Method.{Method}
use Rattle.wac_wit_refusals_sites.proofs.TypeFacts.{at_read, kept_push}
use Rattle.wac_wit_refusals_sites.proofs.judge.Judge.push_methods_in.Goals.{then-is_there+in_ok-push, else-is_there}
use Rattle.wac_wit_refusals_sites.proofs.judge.Judge.push_methods_in.Goals as goal

pub loop-part-preserved : goal.loop-part-preserved
loop-part-preserved c of b knows resource all =
    let method = c.index-methods-part.result in
    let at = at_read c.args.methods.now c.loop-part.part method method c.loop-part-test.true c.index-methods-part.is refl in
    elim c.if-is_there.branch [
      | then-is_there+in_ok-push w ↦ kept_push (IsPlacedMethod of b) c.loop-part.all.items c.if-is_there.all.items _ (ap (λ (v : Vec PlacedMethod Global). v.items) w.all-is ∙ w.in_ok-push.ensures.items) (c.loop-part.invariant of b knows resource all)
          (record {
            resource = resource.at;
            resource_there = resource.there;
            methods = resource.methods;
            is_resource = resource.is;
            at = subst (λ (ms : List Method). slice_get ms c.loop-part.part ≡ Some method) (sym resource.same) at;
            there = (c.is_there.ensures of knows).0 w.if-is_there.true;
          })
      | else-is_there w ↦ subst (λ (v : Vec PlacedMethod Global). AreMethodsOf of b v.items) (sym w.all-is) (c.loop-part.invariant of b knows resource all)
    ]

pub returns : goal.returns
returns c = c.loop-part.invariant
