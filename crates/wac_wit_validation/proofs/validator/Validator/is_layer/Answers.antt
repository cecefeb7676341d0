use Rattle.std.proofs.Common.{refl, sym, subst, Contains, List, ℕ}
use Rattle.std.specs.Borrow.{Bor}
use Rattle.wac_component.specs.Content.{named}
use Rattle.wac_component.specs.declared.items.ItemKind.TheVariants.{Func, «Type» as OfType}
use Rattle.wac_component.specs.declared.worlds.ExternKind.TheVariants.{Export, Import}
use Rattle.wac_wit_syntax.specs.declared.tree.WorldItem.{WorldItem}
use Rattle.wac_wit_validation_types.specs.Reading.{TypesAreNamed}
use Rattle.wac_wit_validation_types.specs.Worlds.{world_setting}
use Rattle.wac_wit_validation.proofs.WorldFacts.{IfOk-map, named_length, scope_of_world}
use Rattle.wac_wit_validation.proofs.WorldWhole.{named_there}
use Rattle.wac_wit_validation.proofs.validator.Validator.is_layer.Goals as goal

pub returns-clause-marks : goal.returns-clause-marks
returns-clause-marks c = IfOk-map c.mark_named-2.result _ _ c.mark_named-2.ensures.marks (λ b told is of w knows comes old.
    let v = c.args.self.now in
    let l = c.args.layer.now in
    let rss = comes.renames in
    let x = comes.inside in
    let own = c.in_ok-are_own_types.ensures c.if-not-branch.false refl of rss x knows comes.is comes.is.names in
    let es = named (λ k. k) c.args.own.now.entries in
    let stand = subst (λ (k : ℕ). TypesAreNamed (world_setting of rss x) v.types.now k es) (named_length c.args.own.now.entries c.len.result c.len.ensures.len) own.named in
    let at = scope_of_world of v l.place x knows comes.is.at in
    record {
      imports = c.in_ok-mark_named.ensures.marks c.if-not-branch-2.false refl of w x rss (record { brings = comes.brings; at = at; new_names = comes.is.names; stand = stand }) (λ d among. comes.is.items.among d (subst (λ (bs : List (Bor WorldItem)). Contains bs d) c.deref.ensures.value among))
          (c.if-not-mark_own.ensures.marks refl of v w x rss refl comes.brings comes.is.names own old.imports);
      exports = told is refl of w x rss (record { brings = comes.brings; at = at; new_names = comes.is.names; stand = stand }) (λ d among. comes.is.items.among d (subst (λ (bs : List (Bor WorldItem)). Contains bs d) c.deref-2.ensures.value among)) old.exports;
    })

pub returns-clause-covers : goal.returns-clause-covers
returns-clause-covers c = IfOk-map c.mark_named-2.result _ _ c.mark_named-2.ensures.covers (λ b told is of rss x knows layer.
    let own = c.in_ok-are_own_types.ensures c.if-not-branch.false refl of rss x knows layer layer.names in
    let bs = c.args.layer.now.items.items in
    let imports = named (λ k. k) c.args.entry.now.imports.entries in
    let exports = named (λ k. k) c.args.entry.now.exports.entries in
    record {
      imports = named_there of Import rss x imports bs layer.items (λ d among. c.in_ok-mark_named.ensures.covers c.if-not-branch-2.false d (subst (λ (ds : List (Bor WorldItem)). Contains ds d) (sym c.deref.ensures.value) among) of rss knows.interfaces layer.names);
      exports = named_there of Export rss x exports bs layer.items (λ d among. told is d (subst (λ (ds : List (Bor WorldItem)). Contains ds d) (sym c.deref-2.ensures.value) among) of rss knows.interfaces layer.names);
      types = λ n m names. let t = own.types n m names in c.if-not-mark_own.ensures.covers refl rss layer.names n (OfType t.is) t.among;
      methods = λ n g has. let f = own.methods n g has in c.if-not-mark_own.ensures.covers refl rss layer.names n (Func f.id) f.among;
    })
