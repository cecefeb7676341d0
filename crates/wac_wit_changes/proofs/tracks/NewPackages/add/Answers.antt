use Rattle.std.proofs.Common.{◌∙◌, ℕ, Some, ap, cond, length, string_bytes, subst}
use Rattle.std.proofs.lemmas.Map.Text.{hash_map_updates_text}
use Rattle.std.specs.HashMap.{get_by_text}
use Rattle.std.specs.Str.{bytes_eq}
use Rattle.wac_targets.specs.Named.{IsMapOf}
use Rattle.wac_types.specs.Pairs.{with_pair}
use Rattle.wac_types.specs.Text.{Text}
use Rattle.wac_wit_changes.proofs.Counterparts.{knows_more}
use Rattle.wac_wit_changes.proofs.tracks.NewPackages.add.Goals as goal

pub returns : goal.returns
returns c = λ news knows is.
    let old = c.args.self.now in
    let names = c.insert.new.self in
    let key = string_bytes c.in_ok-clone.field-0 in
    let stands = subst (λ (i : ℕ). IsMapOf c.put.new.map (with_pair knows.pairs c.deref.result.now i)) is (c.in_ok-put.ensures knows.pairs knows.stands) in
    knows_more news old (record { names = names; versions = c.put.new.map }) c.args.new.now knows
    (subst (λ (t : Text). IsMapOf c.put.new.map (with_pair knows.pairs t (length news))) (c.deref.ensures ∙ c.in_ok-version.ensures) stands)
    (λ t. hash_map_updates_text key old.names names (Some c.args.index) c.in_ok-insert.ensures.updates t
    ∙ ap (λ (k : Text). cond (bytes_eq k t) (Some c.args.index) (get_by_text old.names t)) c.in_ok-clone.ensures.cases
    ∙ ap (λ (i : ℕ). cond (bytes_eq (string_bytes c.args.new.now.name) t) (Some i) (get_by_text old.names t)) is)
