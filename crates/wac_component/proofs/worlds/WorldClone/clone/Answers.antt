use Rattle.std.proofs.Common.{refl, string_bytes}
use Rattle.wac_component.specs.Content.{use_content}
use Rattle.wac_component.proofs.CloneLemmas.{named-clones, option_map-clone}
use Rattle.wac_component.proofs.worlds.WorldClone.clone.Goals as goal

pub returns : goal.returns
returns c =
    let id = option_map-clone string_bytes (λ s t same. same) c.args.self.now.id c.in_ok-clone.field-0 c.in_ok-clone.ensures.cases in
    let uses = named-clones use_content (λ u v same. same) c.args.self.now.uses c.in_ok-clone-2.field-0 c.in_ok-clone-2.ensures.cases in
    let imports = named-clones (λ k. k) (λ k l same. same) c.args.self.now.imports c.in_ok-clone-3.field-0 c.in_ok-clone-3.ensures.cases in
    let exports = named-clones (λ k. k) (λ k l same. same) c.args.self.now.exports c.in_ok-clone-4.field-0 c.in_ok-clone-4.ensures.cases in
    record { cases = rw (id, uses, imports, exports) refl }
