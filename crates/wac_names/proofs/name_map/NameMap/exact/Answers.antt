use Rattle.std.proofs.Common.{sym, ◌∙◌}
use Rattle.wac_names.proofs.PairFacts.{lookup_agrees}
use Rattle.wac_names.proofs.Standing.{absent_unknown}
use Rattle.wac_names.proofs.name_map.NameMap.exact.Goals as goal

pub returns-in_default : goal.returns-in_default
returns-in_default g c = record { value = λ ps s. sym (absent_unknown _ c.args.self.now.definitions.entries ps c.args.name.now s.defined (rw c.in_default.is at c.in_ok-key.ensures)) }

pub returns : goal.returns
returns g c = record {
  value = λ ps s.
      let law = g.met.I.NameMapIntern.lawful c.args.cx.now in
      c.get.ensures.value ∙ lookup_agrees law c.args.self.now.definitions.entries ps c.args.name.now c.in-Some.key s.defined (rw c.in-Some.is at c.in_ok-key.ensures);
}
