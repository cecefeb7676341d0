use Rattle.wac_names.proofs.Cloning.{notes_clone, stands_clone}
use Rattle.wac_names.proofs.name_map.NameMapClone.clone.Goals as goal

pub returns : goal.returns
returns g c = record {
  cases = λ equal f ps law s.
      stands_clone g.K.PartialEq.eq g.met.K.Eq.laws g.K.Clone.is_clone g.V.Clone.is_clone equal f law c.args.self.now _ ps c.in_ok-definitions.ensures.cases
      (notes_clone g.K.Clone.is_clone c.args.self.now.alternate_lookups.entries c.in_ok-alternate_lookups.alternate_lookups.entries c.in_ok-alternate_lookups.ensures.cases) s;
}
