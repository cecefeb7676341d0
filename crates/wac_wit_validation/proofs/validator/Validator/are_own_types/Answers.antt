use Rattle.std.proofs.Common.{◌≡◌, sym, subst, Contains, List}
use Rattle.std.specs.Borrow.{Bor}
use Rattle.wac_wit_syntax.specs.declared.tree.WorldItem.{WorldItem}
use Rattle.wac_wit_validation_types.specs.Exports.{named_items}
use Rattle.wac_wit_validation.specs.WorldChecking.{RepresentsItem}
use Rattle.wac_wit_validation_types.specs.Worlds.{world_setting}
use Rattle.wac_wit_validation_types.proofs.ItemFacts.{all_exported}
use Rattle.wac_wit_validation_types.proofs.MarkFacts.{AllBelow-contains, AllBelow-more, among_at, marks_then}
use Rattle.wac_wit_validation.proofs.WorldFacts.{scope_of_world, setting_at}
use Rattle.wac_wit_validation.proofs.WorldWhole.{items_in_setting, setting_represented}
use Rattle.wac_wit_validation.proofs.validator.Validator.are_own_types.Goals as goal

pub loop-item-preserved : goal.loop-item-preserved
loop-item-preserved c =
    let items = c.deref-item-items.result.now in
    let b = c.item-item.result in
    let P = λ (d : Bor WorldItem). RepresentsItem c.args.self.now c.args.names.now d.now in
    record {
      marks = λ one s at renames offers. marks_then s c.args.names.now c.in_ok-progress.progress c.loop-item.progress c.is_world_item.new.progress (c.loop-item.invariant.marks one s at renames offers)
          (c.in_ok-is_world_item.ensures.marks c.if-not-branch.false one s at renames (offers b (among_at items c.loop-item.item-index b c.loop-item-test.true c.item-item.is)));
      covers = AllBelow-more P items c.loop-item.item-index b c.loop-item-test.true c.item-item.is c.loop-item.invariant.covers (c.in_ok-is_world_item.ensures.covers c.if-not-branch.false);
    }

pub returns : goal.returns
returns c = λ done one of rss x knows layer renames.
    let v = c.args.self.now in
    let names = c.args.names.now in
    let l = c.args.layer.now in
    let s = world_setting of rss x in
    let items = c.deref-item-items.result.now in
    let same : items ≡ l.items.items = c.deref-item-items.ensures.value in
    let setting = setting_at of v l.place.scope s (scope_of_world of v l.place x knows layer.at) in
    let marks = c.loop-item.invariant.marks one s setting renames (λ b among. items_in_setting of rss x b.now (layer.items.among b (subst (λ (bs : List (Bor WorldItem)). Contains bs b) same among))) in
    let covers = setting_represented of rss x (named_items names) l.items.items layer.items (λ b among.
    AllBelow-contains (λ (d : Bor WorldItem). RepresentsItem v names d.now) items c.loop-item.item-index b c.loop-item-test.false c.loop-item.invariant.covers (subst (λ (bs : List (Bor WorldItem)). Contains bs b) (sym same) among) s knows.interfaces renames) in
    all_exported s names c.in_ok-progress.progress c.loop-item.progress c.in_ok-progress.ensures.even c.in_ok-progress.ensures.none marks (c.is_done.ensures done) covers
