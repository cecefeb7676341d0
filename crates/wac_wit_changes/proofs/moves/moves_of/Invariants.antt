use Rattle.std.proofs.Common.{◌≡◌, take, All}
use Rattle.wac_component.specs.Growth.{Extends}
use Rattle.wac_wit_changes.specs.Sides.{olds_of, IsMove}
use Rattle.wac_wit_changes.proofs.moves.moves_of.Given as goal

abbrev pub invariant-loop-package : goal.invariant-loop-package
invariant-loop-package l = Extends l.fn.types l.types × (olds_of l.moves.items ≡ take l.package-index l.old.packages.items) × All (IsMove l.new.packages.items) l.moves.items
