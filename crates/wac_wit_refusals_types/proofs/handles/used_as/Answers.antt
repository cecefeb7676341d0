use Rattle.std.proofs.Common.{◌∙◌, ap, refl, sym}
use Rattle.std.proofs.lemmas.Slice.Eq.{bytes_eq-Decides}
use Rattle.wac_wit_scopes.specs.WitSources.{ident_text}
use Rattle.wac_wit_refusals_sites.proofs.TypeFacts.{alias_given, among_from}
use Rattle.wac_wit_refusals_types.proofs.handles.used_as.Goals as goal

pub returns-then-eq : goal.returns-then-eq
returns-then-eq c =
    let rename = c.rename-item.result in
    let among = among_from c.args.used.now.names.items c.deref-rename-items.result.now c.loop-rename.rename-index rename c.deref-rename-items.ensures.value c.loop-rename-test.true c.rename-item.is in
    record { rename = rename; among = among; gives = sym (alias_given rename.name rename.alias) ∙ ap ident_text (sym c.local_name.ensures) ∙ (bytes_eq-Decides _ _).0 (sym c.eq.ensures ∙ c.if-eq.true); is = refl }
