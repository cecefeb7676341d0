use Rattle.std.proofs.Common.{◌≡◌, inl, inr, take, true}
use Rattle.std.proofs.lemmas.List.Elements.{Contains-append_cases, Contains-append_right}
use Rattle.wac_checker.proofs.known.Known.has.Goals as goal

pub returns-else-is_among : goal.returns-else-is_among
returns-else-is_among c =
    let few = take c.args.self.now.len c.args.self.now.few in
    let many = c.args.self.now.many.keys in (
      λ h. Contains-append_right few many c.args.pair.now (c.is_known.ensures.0 h),
      λ m. elim (Contains-append_cases few many c.args.pair.now m) [
        | inl here ↦ (let there : c.is_among.result ≡ true = c.is_among.ensures.1 (rw c.few.ensures here) in absurd (cc (there, c.if-is_among.false)))
        | inr later ↦ c.is_known.ensures.1 later
      ],
    )
