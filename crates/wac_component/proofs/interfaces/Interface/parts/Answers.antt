use Rattle.std.proofs.Common.{◌∷◌, [], None, Some, map, refl, ◌∙◌, ap, ◌++◌}
use Rattle.wac_component.specs.Key.{item_keys, use_keys, named_keys}
use Rattle.wac_component.specs.Content.{named, types_of, use_content}
use Rattle.wac_component.specs.declared.items.ItemKind.TheVariants.{Instance}
use Rattle.wac_component.proofs.Lists.{append_nil}
use Rattle.wac_component.proofs.PartLemmas.{map_keys}
use Rattle.wac_component.proofs.interfaces.Interface.parts.Goals as goal

pub returns : goal.returns
returns c =
    map_keys (λ u. Instance u.interface) use_content use_keys (λ u. refl) c.args.self.now.uses.entries (map (λ k. Some k) (types_of c.args.self.now.exports.entries) ++ None ∷ None ∷ [])
    ∙ ap (λ ks. named_keys use_keys (named use_content c.args.self.now.uses.entries) ++ ks) (map_keys (λ k. k) (λ k. k) item_keys (λ k. refl) c.args.self.now.exports.entries (None ∷ None ∷ []) ∙ append_nil (named_keys item_keys (named (λ k. k) c.args.self.now.exports.entries)))
