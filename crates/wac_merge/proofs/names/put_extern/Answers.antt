use Rattle.std.proofs.Common.{ap, ◌∙◌}
use Rattle.std.specs.Str.{bytes_eq}
use Rattle.indexmap.specs.IndexMap.{insert_entry}
use Rattle.wac_component.specs.Content.{named}
use Rattle.wac_merge.specs.Items.{extern_list}
use Rattle.wac_merge.proofs.PutLemmas.{named-insert_entry}
use Rattle.wac_merge.proofs.names.put_extern.Goals as goal

pub returns : goal.returns
returns c =
    ap (λ es. named (λ k. k) es) c.in_ok-insert.ensures.entries
    ∙ named-insert_entry c.args.externs.now.entries c.in_ok-clone.field-0 c.args.kind
    ∙ ap (λ n. insert_entry bytes_eq (extern_list c.args.externs.now) n c.args.kind) c.in_ok-clone.ensures.cases
