-- What an iterator over imports has left.
use Rattle.std.specs.Prelude.{List, map}
use Rattle.std.specs.Slice.Iter.{iter_rest}
use Rattle.wac_aggregator_imports.specs.Import.{ImportsContent, ImportContent}
use Rattle.wac_aggregator_imports.specs.Places.{imports_in}
use Rattle.wac_aggregator_imports.specs.declared.imports.Imports.{Imports}

abbrev pub imports_left : Imports → List ImportContent
imports_left it = map (λ e. e.1) (imports_in (iter_rest it.places))

-- the imports, each with its name
abbrev pub listed_imports : ImportsContent → List ImportContent
listed_imports is = map (λ e. e.1) is.list
