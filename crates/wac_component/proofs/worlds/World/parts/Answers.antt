use Rattle.std.proofs.Common.{List, Some, map, refl, sym, ◌∙◌, ap, ◌++◌, append_assoc}
use Rattle.wac_component.specs.Key.{Key, item_keys, use_keys, named_keys}
use Rattle.wac_component.specs.Content.{named, types_of, use_content}
use Rattle.wac_component.specs.declared.items.ItemKind.TheVariants.{Instance}
use Rattle.wac_component.proofs.PartLemmas.{map_keys, items_keys}
use Rattle.wac_component.proofs.worlds.World.parts.Goals as goal

pub returns : goal.returns
returns c =
    let uses : List Key = named_keys use_keys (named use_content c.args.self.now.uses.entries) in
    let imports : List Key = named_keys item_keys (named (λ k. k) c.args.self.now.imports.entries) in
    let exports : List Key = named_keys item_keys (named (λ k. k) c.args.self.now.exports.entries) in
    map_keys (λ u. Instance u.interface) use_content use_keys (λ u. refl) c.args.self.now.uses.entries (map (λ k. Some k) (types_of c.args.self.now.imports.entries) ++ map (λ k. Some k) (types_of c.args.self.now.exports.entries))
    ∙ ap (λ ks. uses ++ ks) (map_keys (λ k. k) (λ k. k) item_keys (λ k. refl) c.args.self.now.imports.entries (map (λ k. Some k) (types_of c.args.self.now.exports.entries)) ∙ ap (λ ks. imports ++ ks) (items_keys c.args.self.now.exports.entries))
    ∙ sym (append_assoc uses imports exports)
