use Rattle.std.proofs.Common.{ap, sym, ◌∙◌}
use Rattle.wac_aggregator_imports.specs.Import.{ImportContent, ImportsContent, led_of}
use Rattle.wac_aggregator_imports.proofs.Filed.{lookup-named, canonical-self, canonical-led, canonical-lost}
use Rattle.wac_aggregator_imports.proofs.list.ImportList.canonical.Goals as goal

pub returns-in_default : goal.returns-in_default
returns-in_default c = rw (← c.self.view_is) (canonical-self _ _ (sym (lookup-named c.self.inside.led.entries c.args.name.now) ∙ sym c.in_default.ensures.value))

pub returns-in-Some-get : goal.returns-in-Some-get
returns-in-Some-get c =
    c.as_str.ensures.value ∙ ap (λ (i : ImportContent). i.0) c.import.view_is
    ∙ canonical-led c.args.self.now c.args.name.now c.in-Some.class.now c.in-Some-get.import.now
    (ap (λ (s : ImportsContent). led_of s c.args.name.now) (sym c.self.view_is) ∙ sym (lookup-named c.self.inside.led.entries c.args.name.now) ∙ sym c.in-Some.ensures.value) (sym c.in-Some-get.ensures.value)

pub returns-in-None : goal.returns-in-None
returns-in-None c =
    canonical-lost c.args.self.now c.args.name.now c.in-Some.class.now
    (ap (λ (s : ImportsContent). led_of s c.args.name.now) (sym c.self.view_is) ∙ sym (lookup-named c.self.inside.led.entries c.args.name.now) ∙ sym c.in-Some.ensures.value) (sym c.in-None.ensures.value)
