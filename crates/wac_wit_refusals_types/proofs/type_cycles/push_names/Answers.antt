use Rattle.std.proofs.Common.{◌∙◌, ap, subst, sym}
use Rattle.std.specs.Borrow.{Bor}
use Rattle.std.specs.Prelude.{Vec}
use Rattle.std.specs.declared.alloc.Global.{Global}
use Rattle.wac_wit_refusals_types.specs.TypeCycles.{TypeLeadsTo}
use Rattle.wac_wit_refusals_types.specs.TypeSteps.{AreNamesLedTo}
use Rattle.wac_wit_scopes.specs.WitSources.{ident_text}
use Rattle.wac_wit_syntax.specs.declared.tree.Ident.{Ident}
use Rattle.wac_wit_refusals_sites.proofs.TypeFacts.{among_from, kept_push}
use Rattle.wac_wit_refusals_types.proofs.type_cycles.push_names.Goals.{in-Some+in_ok-push, in_default}
use Rattle.wac_wit_refusals_types.proofs.type_cycles.push_names.Goals as goal

pub loop-ty-init : goal.loop-ty-init
loop-ty-init c of b n leads all = all

pub loop-ty-preserved : goal.loop-ty-preserved
loop-ty-preserved c of b n leads all =
    let ty = c.ty-item.result in
    let among = among_from c.in_ok-types_in_def.field-0.items c.deref-ty-items.result.now c.loop-ty.ty-index ty c.deref-ty-items.ensures.value c.loop-ty-test.true c.ty-item.is in
    elim c.match-type_name.branch [
      | in-Some+in_ok-push w ↦ kept_push (λ (id : Bor Ident). TypeLeadsTo of b n (ident_text id.now)) c.loop-ty.open.items c.match-type_name.open.items _ (ap (λ (v : Vec (Bor Ident) Global). v.items) w.open-is ∙ w.in_ok-push.ensures.items) (c.loop-ty.invariant of b n leads all)
          (leads w.in-Some.name.now (record { expr = ty.now; written = c.in_ok-types_in_def.ensures ty among; is = w.in-Some.ensures }))
      | in_default w ↦ subst (λ (v : Vec (Bor Ident) Global). AreNamesLedTo of b n v.items) (sym w.open-is) (c.loop-ty.invariant of b n leads all)
    ]

pub returns : goal.returns
returns c = c.loop-ty.invariant
