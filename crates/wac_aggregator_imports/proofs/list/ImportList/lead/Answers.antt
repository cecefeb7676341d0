use Rattle.std.proofs.Common.{ap, sym, subst, refl, ◌∙◌, string_bytes, IsSome}
use Rattle.std.specs.Map.{lookup}
use Rattle.std.specs.Str.{bytes_eq}
use Rattle.wac_component.specs.Content.{named}
use Rattle.wac_aggregator_imports.specs.Import.{import_of}
use Rattle.wac_aggregator_imports.proofs.Filed.{AreFiled-led, lookup-put, some_of}
use Rattle.wac_aggregator_imports.proofs.list.ImportList.lead.Goals as goal

pub invariant_of-self-2 : goal.invariant_of-self-2
invariant_of-self-2 c =
    let found = some_of _ (subst (λ s. IsSome (import_of s c.args.class)) (sym c.self.view_is) c.requires.found) in (
      c.self.invariant.0,
      AreFiled-led _ _ c.self.invariant.1 (string_bytes c.args.name) c.args.class found.0 (sym c.requires.of) found.1 refl
          (λ x. ap (λ es. lookup (bytes_eq x) (named (λ v. v) es)) c.in_ok-insert.ensures.entries ∙ lookup-put c.self.inside.led.entries c.args.name c.args.class x),
    )

pub returns-clause-led : goal.returns-clause-led
returns-clause-led c = λ x. rw (← c.self.view_is) (ap (λ es. lookup (bytes_eq x) (named (λ v. v) es)) c.in_ok-insert.ensures.entries ∙ lookup-put c.self.inside.led.entries c.args.name c.args.class x)
