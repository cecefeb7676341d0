use Rattle.std.proofs.Common.{◌≡◌, ◌∙◌, true, is_some, sym, subst, ap}
use Rattle.std.proofs.lemmas.Slice.Eq.{bytes_eq-Decides}
use Rattle.wac_wit_scopes.proofs.PathFacts.{itself, no_value, path_leads, read_at, use_at}
use Rattle.wac_wit_scopes.specs.Scopes.{LeadsBy, by_itself, by_use_at}
use Rattle.wac_wit_scopes.specs.WitSources.{ident_text}
use Rattle.wac_wit_scopes.proofs.paths.leads.Goals as goal
use Rattle.wac_wit_scopes.proofs.paths.leads.Goals.{then-is_none, else-is_none}

pub returns-in_default-clause-leads : goal.returns-in_default-clause-leads
returns-in_default-clause-leads c = λ is of known.
    let direct = c.leads_directly.ensures.0 is in
    path_leads of c.args.from.now c.args.to.now known c.args.path.now _ _ (by_itself direct.0 direct.1)

pub returns-in_default-clause-exactly : goal.returns-in_default-clause-exactly
returns-in_default-clause-exactly c =
    let By = LeadsBy c.args.from.now c.args.path.now c.args.to.now (ident_text c.args.name.now) in (
      λ is. let direct = c.leads_directly.ensures.0 is in subst By (sym c.in_default.is) (by_itself direct.0 direct.1),
      λ h. c.leads_directly.ensures.1 (itself _ _ _ _ (subst By c.in_default.is h)),
    )

by_its_use : (c : goal.After-leads_directly-then-eq) → c.leads_directly-then-eq.result ≡ true → LeadsBy c.args.from.now c.args.path.now c.args.to.now (ident_text c.args.name.now) c.args.via
by_its_use c is =
    let By = LeadsBy c.args.from.now c.args.path.now c.args.to.now (ident_text c.args.name.now) in
    let direct = c.leads_directly-then-eq.ensures.0 is in
    let at = read_at c.args.from.now.items.now c.in-Some.item _ c.in-Some-Use.field-0.now c.in-Some-Use.ensures.lookup.0 c.in-Some-Use.ensures.lookup.1 c.in-Some-Use.field-0-is in
    elim c.if-is_none.branch [
      | then-is_none w ↦
          let given = sym w.used_name.ensures ∙ (bytes_eq-Decides _ _).0 (sym w.eq.ensures ∙ sym w.value-is ∙ c.if-eq.true) in
          subst By (sym c.in-Some.is) (by_use_at c.in-Some-Use.used (no_value c.args.path.now.package w.if-is_none.ensures) at given direct.0 direct.1)
      | else-is_none w ↦ let none = sym w.if-is_none.false ∙ sym w.value-is ∙ c.if-eq.true in absurd (cc)
    ]

pub returns-then-eq-clause-leads : goal.returns-then-eq-clause-leads
returns-then-eq-clause-leads c = λ is of known. path_leads of c.args.from.now c.args.to.now known c.args.path.now _ _ (by_its_use c is)

pub returns-then-eq-clause-exactly : goal.returns-then-eq-clause-exactly
returns-then-eq-clause-exactly c = (
  by_its_use c,
  λ h.
      let By = LeadsBy c.args.from.now c.args.path.now c.args.to.now (ident_text c.args.name.now) in
      let at = read_at c.args.from.now.items.now c.in-Some.item _ c.in-Some-Use.field-0.now c.in-Some-Use.ensures.lookup.0 c.in-Some-Use.ensures.lookup.1 c.in-Some-Use.field-0-is in
      let told = use_at _ _ _ _ c.in-Some.item c.in-Some-Use.used at (subst By c.in-Some.is h) in
      c.leads_directly-then-eq.ensures.1 (told.2, told.3),
)

pub returns-else-eq-clause-exactly : goal.returns-else-eq-clause-exactly
returns-else-eq-clause-exactly c = (
  λ is. let no = sym c.if-eq.false ∙ is in absurd (cc),
  λ h.
      let By = LeadsBy c.args.from.now c.args.path.now c.args.to.now (ident_text c.args.name.now) in
      let at = read_at c.args.from.now.items.now c.in-Some.item _ c.in-Some-Use.field-0.now c.in-Some-Use.ensures.lookup.0 c.in-Some-Use.ensures.lookup.1 c.in-Some-Use.field-0-is in
      let told = use_at _ _ _ _ c.in-Some.item c.in-Some-Use.used at (subst By c.in-Some.is h) in
      elim c.if-is_none.branch [
        | then-is_none w ↦ w.value-is ∙ w.eq.ensures ∙ (bytes_eq-Decides _ _).1 (w.used_name.ensures ∙ told.1)
        | else-is_none w ↦ let none = sym (ap is_some told.0) ∙ w.if-is_none.ensures in absurd (cc)
      ],
)
