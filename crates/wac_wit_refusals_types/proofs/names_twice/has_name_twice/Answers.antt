use Rattle.wac_wit_refusals_types.specs.NamesTwice.{among_members, among_params}
use Rattle.wac_wit_refusals_types.proofs.names_twice.has_name_twice.Goals as goal

pub returns-then-branch : goal.returns-then-branch
returns-then-branch c is = c.in_ok-has_item_twice.ensures c.if-branch.true

pub returns-then-branch-2 : goal.returns-then-branch-2
returns-then-branch-2 c is of knows = let h = c.in_ok-has_member_twice.ensures c.if-branch-2.true of knows in among_members h.type_item h.has h.twice

pub returns-then-branch-3 : goal.returns-then-branch-3
returns-then-branch-3 c is of knows = let h = c.in_ok-has_param_twice.ensures c.if-branch-3.true of knows in among_params h.name h.signature h.has h.twice

pub returns : goal.returns
returns c = c.has_method_twice.ensures
