use Rattle.std.proofs.Common.{sym, subst, Option, ◌≡◌, false, is_some}
use Rattle.wac_names.specs.Pairs.{IsFound}
use Rattle.wac_names.proofs.Standing.{absent_from, found_alone, found_lead, found_none, found_unknown}
use Rattle.wac_names.proofs.name_map.NameMap.get.Goals as goal

pub returns-in_default : goal.returns-in_default
returns-in_default g c = record {
  found = λ ps s.
      let law = g.met.I.NameMapIntern.lawful c.args.cx.now in
      let none : is_some c.in_ok-exact.exact ≡ false = cc (c.is_some.ensures, c.if-is_some.false) in
      let absent = absent_from c.in_ok-exact.exact _ none (c.in_ok-exact.ensures.value ps s) in
      found_alone _ _ law c.args.self.now ps c.args.name.now s absent (rw c.in_default.is at c.in_ok-track.ensures.key);
}

pub returns-in_default-2 : goal.returns-in_default-2
returns-in_default-2 g c = record {
  found = λ ps s.
      let law = g.met.I.NameMapIntern.lawful c.args.cx.now in
      let none : is_some c.in_ok-exact.exact ≡ false = cc (c.is_some.ensures, c.if-is_some.false) in
      let absent = absent_from c.in_ok-exact.exact _ none (c.in_ok-exact.ensures.value ps s) in
      let here = rw c.in-Some.is at c.in_ok-track.ensures.key in
      found_unknown _ _ law c.args.self.now ps c.args.name.now s absent _ _ here (rw c.in_default-2.is at c.in_ok-track_key.ensures);
}

pub returns-in_default-get : goal.returns-in_default-get
returns-in_default-get g c = record {
  found = λ ps s.
      let law = g.met.I.NameMapIntern.lawful c.args.cx.now in
      let none : is_some c.in_ok-exact.exact ≡ false = cc (c.is_some.ensures, c.if-is_some.false) in
      let absent = absent_from c.in_ok-exact.exact _ none (c.in_ok-exact.ensures.value ps s) in
      let here = rw c.in-Some.is at c.in_ok-track.ensures.key in
      let key = rw c.in-Some-2.is at c.in_ok-track_key.ensures in
      found_none _ _ law c.args.self.now ps c.args.name.now s absent _ _ here c.in-Some-2.track_key key (sym (rw c.in_default-get.is at c.get.ensures.value));
}

pub returns : goal.returns
returns g c = record {
  found = λ ps s.
      let law = g.met.I.NameMapIntern.lawful c.args.cx.now in
      let none : is_some c.in_ok-exact.exact ≡ false = cc (c.is_some.ensures, c.if-is_some.false) in
      let absent = absent_from c.in_ok-exact.exact _ none (c.in_ok-exact.ensures.value ps s) in
      let here = rw c.in-Some.is at c.in_ok-track.ensures.key in
      let key = rw c.in-Some-2.is at c.in_ok-track_key.ensures in
      let lead = found_lead _ _ law c.args.self.now ps c.args.name.now s absent _ _ here c.in-Some-2.track_key c.in-Some-get.field-0.now key (sym (rw c.in-Some-get.is at c.get.ensures.value)) in
      subst (λ (o : Option g.row.V.Denot). IsFound ps c.args.name.now o) (sym c.get-2.ensures.value) lead;
}
