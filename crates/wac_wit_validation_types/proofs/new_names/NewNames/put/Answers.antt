use Rattle.std.proofs.Common.{◌≢◌, Some, ap, string_bytes, subst, sym}
use Rattle.std.specs.Borrow.{Bor}
use Rattle.std.specs.Option.{option_map}
use Rattle.std.proofs.lemmas.Map.Text.{hash_map_updates_text}
use Rattle.indexmap.specs.IndexMap.{get_by_text}
use Rattle.wac_model.specs.Text.{Text}
use Rattle.wac_wit_syntax.specs.declared.tree.Ident.{Ident}
use Rattle.wac_wit_scopes.specs.WitSources.{ident_text}
use Rattle.wac_wit_validation_types.proofs.NewNameFacts.{update-others}
use Rattle.wac_wit_validation_types.proofs.new_names.NewNames.put.Goals as goal

pub returns-clause-others : goal.returns-clause-others
returns-clause-others c = λ n other.
    let old = c.args.self.now.names in
    let new = c.insert.new.self in
    let key = string_bytes c.in_ok-clone.field-0 in
    ap (option_map (λ (b : Bor Ident). ident_text b.now))
    (update-others (get_by_text old) (get_by_text new) key (Some c.args.new) (hash_map_updates_text key old new (Some c.args.new) c.in_ok-insert.ensures.updates) n (subst (λ (k : Text). n ≢ k) (sym c.in_ok-clone.ensures.cases) other))
