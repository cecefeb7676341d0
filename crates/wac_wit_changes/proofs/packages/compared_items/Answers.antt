use Rattle.wac_wit_changes.proofs.packages.compared_items.Goals as goal

pub returns : goal.returns
returns c = λ p own. record {
  firsts = c.in_ok-items.items.items;
  rest = c.in_ok-worlds.worlds.items;
  all = c.in_ok-append.ensures.items;
  interfaces = c.in_ok-items.ensures;
  worlds = c.in_ok-worlds.ensures p own;
}
