use Rattle.std.proofs.Common.{List, take}
use Rattle.std.specs.Str.{bytes_eq}
use Rattle.indexmap.specs.IndexMap.{insert_all}
use Rattle.wac_targets.specs.Named.{IsMapOf, borrowed}
use Rattle.wac_model.specs.Text.{Text}
use Rattle.wac_targets.proofs.maps.insert_borrowed.Given as goal

abbrev pub invariant-loop-i : goal.invariant-loop-i
invariant-loop-i g l = (ps : List (Text × g.row.V.Denot)) → IsMapOf l.fn.map ps → IsMapOf l.map (insert_all bytes_eq ps (take l.i (borrowed l.values.entries)))
