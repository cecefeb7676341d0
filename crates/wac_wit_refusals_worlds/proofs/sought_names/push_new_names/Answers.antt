use Rattle.std.proofs.Common.{◌≡◌, ◌∙◌, arith, false, true, ap, subst}
use Rattle.std.specs.Prelude.{All, Vec}
use Rattle.std.specs.declared.alloc.Global.{Global}
use Rattle.std.proofs.lemmas.List.{take_all}
use Rattle.std.proofs.lemmas.Slice.Eq.{bytes_eq-Decides}
use Rattle.wac_wit_scopes.proofs.ScopeFacts.{All-next}
use Rattle.wac_wit_scopes.specs.WitSources.{ident_text}
use Rattle.wac_wit_syntax.specs.declared.tree.Rename.{Rename}
use Rattle.wac_wit_refusals_worlds.specs.IncludeSteps.{AreLacking, NewNameLacks}
use Rattle.wac_wit_refusals_worlds.specs.declared.sought_names.SoughtName.{SoughtName}
use Rattle.wac_wit_refusals_worlds.proofs.SoughtFacts.{lacking_pushed}
use Rattle.wac_wit_refusals_sites.proofs.TypeFacts.{alias_given}
use Rattle.wac_wit_refusals_worlds.proofs.sought_names.push_new_names.Goals as goal
use Rattle.wac_wit_refusals_worlds.proofs.sought_names.push_new_names.Goals.{then-eq+in_ok-push, else-eq}

pub loop-rename-init : goal.loop-rename-init
loop-rename-init c of all = (all, λ k d h. absurd (omega (arith, h)))

pub loop-rename-preserved : goal.loop-rename-preserved
loop-rename-preserved c = elim c.if-eq.branch [
  | then-eq+in_ok-push w ↦ λ of all.
      let rename = c.rename-item.result in
      let P : Rename → Type 0 = NewNameLacks of c.args.world.now (ident_text c.args.name.now) in
      let split = lacking_pushed of c.loop-rename.all.items w.push.new.self.items _ w.in_ok-push.ensures.items (subst (λ (v : Vec SoughtName Global). AreLacking of v.items) w.all-is all) in
      let before = c.loop-rename.invariant of split.0 in
      (before.0, All-next c.args.renames.now c.loop-rename.rename-index P P rename c.loop-rename-test.true c.rename-item.is (λ y h. h) before.1 (λ given. split.1))
  | else-eq w ↦ λ of all.
      let rename = c.rename-item.result in
      let P : Rename → Type 0 = NewNameLacks of c.args.world.now (ident_text c.args.name.now) in
      let before = c.loop-rename.invariant of (subst (λ (v : Vec SoughtName Global). AreLacking of v.items) w.all-is all) in (
        before.0,
        All-next c.args.renames.now c.loop-rename.rename-index P P rename c.loop-rename-test.true c.rename-item.is (λ y h. h) before.1
            (λ given.
            let named = ap ident_text c.local_name.ensures ∙ alias_given rename.name rename.alias ∙ given in
            let yes : c.eq.result ≡ true = c.eq.ensures ∙ (bytes_eq-Decides _ _).1 named in let no : c.eq.result ≡ false = w.if-eq.false in absurd (cc)),
      )
]

pub returns : goal.returns
returns c of all =
    let before = c.loop-rename.invariant of all in
    let P : Rename → Type 0 = NewNameLacks of c.args.world.now (ident_text c.args.name.now) in
    (before.0, subst (All P) (take_all c.loop-rename.rename-index c.args.renames.now c.loop-rename-test.false) before.1)
