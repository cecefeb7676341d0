use Rattle.std.proofs.Common.{None, ◌∷◌, [], refl, ◌∙◌, ap, ◌++◌}
use Rattle.wac_component.specs.Key.{value_keys, named_keys}
use Rattle.wac_component.specs.Content.{named}
use Rattle.std.specs.Option.{option_map}
use Rattle.wac_component.specs.declared.items.ItemKind.TheVariants.{Value}
use Rattle.wac_component.proofs.PartLemmas.{map_keys, value_place}
use Rattle.wac_component.proofs.functions.FuncType.parts.Goals as goal

pub returns : goal.returns
returns c = rw c.value_item.ensures (map_keys Value (λ v. v) value_keys (λ v. refl) c.args.self.now.params.entries (option_map Value c.args.self.now.«result» ∷ None ∷ None ∷ None ∷ []) ∙ ap (λ ks. named_keys value_keys (named (λ v. v) c.args.self.now.params.entries) ++ ks) (value_place c.args.self.now.«result»))
