-- What there is for what is wanted.
use Rattle.std.specs.Prelude.{[], IfSome}
use Rattle.std.specs.Str.{bytes_eq}
use Rattle.indexmap.specs.IndexMap.{insert_all}
use Rattle.wac_component.specs.Content.{named}
use Rattle.wac_names.specs.Pairs.{HasDistinctTexts}
use Rattle.wac_targets.specs.Named.{IsMapOf, borrowed}
use Rattle.wac_targets.specs.Wanted.{NamedItems}
use Rattle.wac_targets.specs.declared.given.Given.{Given}

-- a side's own items
abbrev pub own_items : Given → NamedItems
own_items g = named (λ k. k) g.own.now.entries

-- all of them: the implicit ones and then its own, where a later one
-- replaces an earlier one of its name
abbrev pub items_in : Given → NamedItems
items_in g = insert_all bytes_eq (insert_all bytes_eq [] (borrowed g.implicit.entries)) (own_items g)

-- no own name stands twice, and the map that is read by track, once it is made, stands for them all
pub record IsGivenLawful (g : Given) : Type 0 where
  pub distinct : HasDistinctTexts (own_items g)
  pub by_track : IfSome g.by_track (λ m. IsMapOf m (items_in g))
