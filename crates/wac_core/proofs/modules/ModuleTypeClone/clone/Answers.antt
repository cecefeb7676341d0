use Rattle.std.proofs.Common.{refl, string_bytes}
use Rattle.wac_core.specs.Content.{core_tree, import_name}
use Rattle.wac_core.proofs.CloneLemmas.{entries-clones, import_name-same}
use Rattle.wac_core.proofs.modules.ModuleTypeClone.clone.Goals as goal

pub returns : goal.returns
returns c =
    let imports = entries-clones import_name core_tree (λ k l same. import_name-same k l same.0 same.1) (λ u v same. same) c.args.self.now.imports c.in_ok-clone.field-0 c.in_ok-clone.ensures.cases in
    let exports = entries-clones string_bytes core_tree (λ k l same. same) (λ u v same. same) c.args.self.now.exports c.in_ok-clone-2.field-0 c.in_ok-clone-2.ensures.cases in
    record { cases = rw (imports, exports) refl }
