use Rattle.std.proofs.Common.{List, Contains, sym, subst}
use Rattle.std.specs.Borrow.{Bor}
use Rattle.wac_wit_syntax.specs.declared.tree.WorldItem.{WorldItem}
use Rattle.wac_wit_validation_types.specs.Worlds.{world_setting}
use Rattle.wac_wit_validation.proofs.WorldFacts.{IfOk-map, scope_of_world, setting_at}
use Rattle.wac_wit_validation.proofs.validator.Validator.tells_layer.Goals as goal

pub returns : goal.returns
returns c = IfOk-map c.tells_world_items.result _ _ c.tells_world_items.ensures (λ yes told is of rss x knows layer b among.
    let v = c.args.self.now in
    let l = c.args.layer.now in
    told is b (subst (λ (bs : List (Bor WorldItem)). Contains bs b) (sym c.deref.ensures.value) among) (world_setting of rss x) (setting_at of v l.place.scope (world_setting of rss x) (scope_of_world of v l.place x knows layer.at)) layer.names)
