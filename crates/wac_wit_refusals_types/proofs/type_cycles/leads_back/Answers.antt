use Rattle.std.proofs.Common.{◌∙◌, ◌++◌, ap, subst, sym}
use Rattle.std.specs.Borrow.{Bor}
use Rattle.std.specs.Option.{option_to_list}
use Rattle.wac_model.specs.Text.{Text}
use Rattle.wac_wit_refusals_types.specs.TypeCycles.{TypeLeadsTo, a_step, no_step}
use Rattle.wac_wit_scopes.specs.WitSources.{ident_text}
use Rattle.wac_wit_syntax.specs.declared.tree.Ident.{Ident}
use Rattle.wac_wit_refusals_sites.proofs.TypeFacts.{kept_push, none_among, popped}
use Rattle.wac_wit_refusals_types.proofs.type_cycles.leads_back.Goals as goal

pub loop-turn-init : goal.loop-turn-init
loop-turn-init c of b there =
    let n = ident_text c.args.name.now in
    let none = none_among (λ (id : Bor Ident). TypeLeadsTo of b n (ident_text id.now)) c.new-open.result.items c.new-open.ensures.items in
    kept_push (λ (id : Bor Ident). TypeLeadsTo of b n (ident_text id.now)) c.new-open.result.items c.push.new.self.items _ c.in_ok-push.ensures.items none no_step

pub loop-turn-preserved-in_default-type_of : goal.loop-turn-preserved-in_default-type_of
loop-turn-preserved-in_default-type_of c of b there =
    let n = ident_text c.args.name.now in
    let P : Bor Ident → Type 0 = λ id. TypeLeadsTo of b n (ident_text id.now) in
    (popped P c.loop-turn.open.items c.pop.new.self.items c.in-Some.next (c.pop.ensures.items ∙ ap (λ o. c.pop.new.self.items ++ option_to_list o) c.in-Some.is) (c.loop-turn.invariant of b there)).1

pub loop-turn-preserved : goal.loop-turn-preserved
loop-turn-preserved c of b there =
    let n = ident_text c.args.name.now in
    let P : Bor Ident → Type 0 = λ id. TypeLeadsTo of b n (ident_text id.now) in
    let led = popped P c.loop-turn.open.items c.pop.new.self.items c.in-Some.next (c.pop.ensures.items ∙ ap (λ o. c.pop.new.self.items ++ option_to_list o) c.in-Some.is) (c.loop-turn.invariant of b there) in
    let ty = c.in-Some-type_of.ty in
    let to : TypeLeadsTo of b n (ident_text ty.now.name) = subst (λ (m : Text). TypeLeadsTo of b n m) (sym c.in-Some-type_of.ensures.named) led.0 in
    c.in_ok-push_names.ensures of b n (λ id has. a_step ty.now id to (record { has = there ty c.in-Some-type_of.ensures.among; expr = has.expr; written = has.written; is = has.is })) led.1

pub returns-then-branch : goal.returns-then-branch
returns-then-branch c is of b there =
    let n = ident_text c.args.name.now in
    let P : Bor Ident → Type 0 = λ id. TypeLeadsTo of b n (ident_text id.now) in
    let led = popped P c.loop-turn.open.items c.pop.new.self.items c.in-Some.next (c.pop.ensures.items ∙ ap (λ o. c.pop.new.self.items ++ option_to_list o) c.in-Some.is) (c.loop-turn.invariant of b there) in
    let ty = c.in-Some-type_of.ty in
    record { type_item = ty.now; has = there ty c.in-Some-type_of.ensures.among; names = c.in_ok-has_name_at.ensures c.if-branch.true; leads = subst (λ (m : Text). TypeLeadsTo of b n m) (sym c.in-Some-type_of.ensures.named) led.0 }
