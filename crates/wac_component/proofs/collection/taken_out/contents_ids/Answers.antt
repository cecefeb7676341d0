use Rattle.std.proofs.Common.{◌≡◌, ◌++◌, None, [], ◌∷◌, map, refl, ap, ◌∙◌, append_assoc}
use Rattle.std.proofs.lemmas.Result.{IfOk-weaker}
use Rattle.wac_component.specs.Content.{named, use_content}
use Rattle.wac_component.specs.Key.{item_keys, named_keys, use_keys}
use Rattle.wac_component.specs.Naming.{key_of}
use Rattle.wac_component.specs.Parts.{places_keys, all_places}
use Rattle.wac_component.specs.declared.items.ItemKind.TheVariants.{Instance}
use Rattle.wac_component.proofs.Lists.{append_nil}
use Rattle.wac_component.proofs.PartLemmas.{map_keys}
use Rattle.wac_component.proofs.collection.taken_out.contents_ids.Goals as goal

pub returns : goal.returns
returns c =
    let us = c.args.uses.now.entries in
    let es = c.args.exports.now.entries in
    IfOk-weaker c.named_ids.result _ (λ ids. map key_of ids.items ≡ named_keys use_keys (named use_content us) ++ named_keys item_keys (named (λ k. k) es))
    (λ ids is. is ∙ map_keys (λ u. Instance u.interface) use_content use_keys (λ u. refl) us _ ∙ ap (λ ks. named_keys use_keys (named use_content us) ++ ks) (map_keys (λ k. k) (λ k. k) item_keys (λ k. refl) es (None ∷ None ∷ []) ∙ append_nil (named_keys item_keys (named (λ k. k) es))))
    c.named_ids.ensures
