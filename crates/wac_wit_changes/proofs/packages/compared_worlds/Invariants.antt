use Rattle.std.proofs.Common.{◌≡◌, [], map}
use Rattle.std.specs.List.{AllZip}
use Rattle.std.specs.Map.Iter.{deref_pair}
use Rattle.wac_wit_changes.specs.Comparing.{IsComparedWorld}
use Rattle.wac_wit_changes.specs.declared.report.Promise.{Promise}
use Rattle.wac_wit_changes.specs.declared.report.Promise.TheVariants.{Same}
use Rattle.wac_wit_changes.proofs.packages.compared_worlds.Given as goal

abbrev pub invariant-loop-name : goal.invariant-loop-name
invariant-loop-name l = (p : Promise) → (p ≡ Same → l.of.moved.entries ≡ []) → AllZip (IsComparedWorld l.pair.types.now l.new p) (map deref_pair l.yielded) l.items.items
