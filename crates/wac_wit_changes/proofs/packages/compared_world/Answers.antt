use Rattle.std.proofs.Common.{◌≡◌, Some, None, refl, subst}
use Rattle.std.specs.HashMap.{get_by_text}
use Rattle.wac_component.specs.Id.{Id}
use Rattle.wac_component.specs.Tree.{item_tree}
use Rattle.wac_component.specs.declared.items.ItemKind.TheVariants.{Component}
use Rattle.wac_wit_changes.specs.Worlds.{TreeRunsIn}
use Rattle.wac_wit_changes.proofs.Items.{copied_is, copied_none, says_both, says_found, says_gone}
use Rattle.wac_wit_changes.proofs.packages.compared_world.Goals as goal

pub returns-in_ok-gone_item-in-None : goal.returns-in_ok-gone_item-in-None
returns-in_ok-gone_item-in-None c = λ p own.
    let gone = subst (λ t. get_by_text c.args.beside.now.worlds t ≡ None) c.as_str.ensures.value (copied_none c.get.result _ c.get.ensures.value c.in-None.is) in
    record {
      component = c.args.old.1;
      own = own;
      sort = c.in_ok-gone_item-in-None.ensures.sort;
      name = c.in_ok-gone_item-in-None.ensures.name;
      problems = says_gone _ (λ (id : Id). TreeRunsIn (item_tree c.args.pair.now.types.now (Component c.args.old.1)) (item_tree c.args.pair.now.types.now (Component id))) _ gone c.in_ok-gone_item-in-None.ensures.problems;
    }

pub returns-in_ok-added_externs-in-Some : goal.returns-in_ok-added_externs-in-Some
returns-in_ok-added_externs-in-Some c = λ p own.
    let found = subst (λ t. get_by_text c.args.beside.now.worlds t ≡ Some c.in-Some.new.now) c.as_str.ensures.value (copied_is c.get.result _ c.in-Some.new c.get.ensures.value c.in-Some.is) in
    record {
      component = c.args.old.1;
      own = own;
      sort = refl;
      name = c.in_ok-clone-in-Some.ensures.cases;
      problems = says_found _ (λ (id : Id). TreeRunsIn (item_tree c.args.pair.now.types.now (Component c.args.old.1)) (item_tree c.args.pair.now.types.now (Component id))) _ c.in-Some.new.now found
          (says_both c.in_ok-world_problems-in-Some.ensures c.in_ok-check_imports_used-in-Some.ensures);
    }
