use Rattle.std.proofs.Common.{subst, sym}
use Rattle.std.specs.Prelude.{Vec}
use Rattle.std.specs.declared.alloc.Global.{Global}
use Rattle.wac_wit_refusals_sites.specs.Judging.{body_syntax}
use Rattle.wac_wit_refusals_types.specs.NamesTwice.{TakesName}
use Rattle.wac_wit_refusals_types.specs.TypeSteps.{AreTaken}
use Rattle.wac_wit_refusals_sites.specs.TypeLists.{AreTypesOf, AreUseItemsOf}
use Rattle.wac_wit_refusals_sites.specs.declared.bodies.Body.{Body}
use Rattle.wac_wit_refusals_types.specs.declared.taken_names.TakenName.{TakenName}
use Rattle.wac_wit_refusals_sites.proofs.TypeFacts.{none_among}
use Rattle.wac_wit_refusals_types.proofs.taken_names.item_names.Goals.{in-Interface+in_ok-push_func_names-in-Interface, in-World+in_ok-push_import_names-in-World}
use Rattle.wac_wit_refusals_types.proofs.taken_names.item_names.Goals as goal

pub returns : goal.returns
returns c of knows =
    let b = body_syntax c.args.body.now in
    let none = none_among (λ (n : TakenName). TakesName of b n.item n.part n.name.now) c.new-names.result.items c.new-names.ensures.items in
    let types = c.in_ok-push_type_names.ensures of b knows (subst (AreTypesOf b) (sym c.deref.ensures.value) c.in_ok-types_of.ensures) none in
    let uses = c.in_ok-push_uses_names.ensures of b knows (subst (AreUseItemsOf b) (sym c.deref-2.ensures.value) c.in_ok-uses_of.ensures) types in
    elim c.match-body.branch [
      | in-Interface+in_ok-push_func_names-in-Interface w ↦ subst (λ (v : Vec TakenName Global). AreTaken (TakesName of b) v.items) (sym w.names-is)
          (subst (λ (x : Body). AreTaken (TakesName of (body_syntax x)) c.push_uses_names.new.names.items → AreTaken (TakesName of (body_syntax x)) w.push_func_names.new.names.items) (sym w.in-Interface.is) (w.in_ok-push_func_names-in-Interface.ensures of knows) uses)
      | in-World+in_ok-push_import_names-in-World w ↦ subst (λ (v : Vec TakenName Global). AreTaken (TakesName of b) v.items) (sym w.names-is)
          (subst (λ (x : Body). AreTaken (TakesName of (body_syntax x)) c.push_uses_names.new.names.items → AreTaken (TakesName of (body_syntax x)) w.push_import_names.new.names.items) (sym w.in-World.is) (w.in_ok-push_import_names-in-World.ensures of knows) uses)
    ]
