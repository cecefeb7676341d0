use Rattle.std.proofs.Common.{refl, subst, Some, None, ◌≡◌}
use Rattle.std.specs.HashMap.{get_by_text}
use Rattle.wac_component.specs.Id.{Id}
use Rattle.wac_wit_changes.specs.Comparing.{InterfaceFits}
use Rattle.wac_wit_changes.proofs.Items.{copied_is, copied_none, says_gone, says_found}
use Rattle.wac_wit_changes.proofs.packages.compared_interface.Goals as goal

pub returns-in_ok-gone_item-in-None : goal.returns-in_ok-gone_item-in-None
returns-in_ok-gone_item-in-None c =
    let gone = subst (λ t. get_by_text c.args.beside.now.interfaces t ≡ None) c.as_str.ensures.value (copied_none c.get.result _ c.get.ensures.value c.in-None.is) in
    record {
      sort = c.in_ok-gone_item-in-None.ensures.sort;
      name = c.in_ok-gone_item-in-None.ensures.name;
      problems = says_gone _ (λ (id : Id). InterfaceFits c.args.pair.now.types.now id c.args.old) _ gone c.in_ok-gone_item-in-None.ensures.problems;
    }

pub returns-in_ok-added_exports-in-Some : goal.returns-in_ok-added_exports-in-Some
returns-in_ok-added_exports-in-Some c =
    let found = subst (λ t. get_by_text c.args.beside.now.interfaces t ≡ Some c.in-Some.new.now) c.as_str.ensures.value (copied_is c.get.result _ c.in-Some.new c.get.ensures.value c.in-Some.is) in
    record {
      sort = refl;
      name = c.in_ok-clone-in-Some.ensures.cases;
      problems = says_found _ (λ (id : Id). InterfaceFits c.args.pair.now.types.now id c.args.old) _ c.in-Some.new.now found c.in_ok-interface_problems-in-Some.ensures;
    }
