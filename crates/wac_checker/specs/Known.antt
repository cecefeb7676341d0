-- The pairs that a comparison has opened.
use Rattle.std.specs.Prelude.{◌++◌, List, take}
use Rattle.wac_checker.specs.declared.known.Known.{Known}
use Rattle.wac_checker_parts.specs.declared.parts.EntryPair.{EntryPair}

-- the pairs in the order in which they were opened
abbrev pub pairs_of : Known → List EntryPair
pairs_of k = take k.len k.few ++ k.many.keys
