-- What is found among the items that are given.
use Rattle.std.proofs.Common.{◌≡◌, [], Some, MatchOption, refl, sym, subst}
use Rattle.std.specs.Str.{bytes_eq}
use Rattle.indexmap.specs.IndexMap.{insert_all}
use Rattle.wac_model.specs.Text.{Text}
use Rattle.wac_component.specs.declared.items.ItemKind.{ItemKind}
use Rattle.wac_names.specs.Pairs.{IsFound, IsGreatest, value_at}
use Rattle.wac_targets.specs.Given.{own_items, items_in, IsGivenLawful}
use Rattle.wac_targets.specs.Named.{borrowed}
use Rattle.wac_targets.specs.declared.given.Given.{Given}
use Rattle.wac_targets.proofs.Itself.{put-here}

-- a side's own item is found under its name
pub own-found : (g : Given) (n : Text) (v : ItemKind) → IsGivenLawful g → value_at (own_items g) n ≡ Some v → IsFound (items_in g) n (Some v)
own-found g n v lawful at = subst (λ o. MatchOption o (IsGreatest (items_in g) n v) (λ x. Some v ≡ Some x)) (sym here) refl
  where
    here : value_at (items_in g) n ≡ Some v
    here = put-here (own_items g) (insert_all bytes_eq [] (borrowed g.implicit.entries)) n v lawful.distinct at
