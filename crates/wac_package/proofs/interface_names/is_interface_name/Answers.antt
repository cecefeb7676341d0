use Rattle.std.proofs.Common.{arith, inl, inr}
use Rattle.std.proofs.lemmas.Str.Pattern.{split_parts}
use Rattle.wac_names.proofs.Cuts.{no_at}
use Rattle.wac_package.proofs.Paths.{name_answer, path_before}
use Rattle.wac_package.proofs.interface_names.is_interface_name.Goals as goal

pub returns-in_default : goal.returns-in_default
returns-in_default c =
    let none = rw c.in_default.is at (split_parts 64 c.args.name.now _ c.split_once.ensures.cases (omega arith)) in (
      λ h. inl (c.is_interface_path.ensures.0 h),
      elim [
        | inl p ↦ c.is_interface_path.ensures.1 p
        | inr v ↦ absurd (no_at _ _ _ none v.3.written)
      ],
    )

pub returns-then-not-is_interface_path : goal.returns-then-not-is_interface_path
returns-then-not-is_interface_path c =
    let cut = rw c.in-Some.is at (split_parts 64 c.args.name.now _ c.split_once.ensures.cases (omega arith)) in
    (λ h. cc h, λ n. let yes = c.is_interface_path-2.ensures.1 (path_before _ _ _ cut.0 cut.1 n) in cc (yes, c.if-not-is_interface_path.true))

pub returns : goal.returns
returns c =
    let cut = rw c.in-Some.is at (split_parts 64 c.args.name.now _ c.split_once.ensures.cases (omega arith)) in
    name_answer _ _ _ cut.0 cut.1 _ (c.is_interface_path-2.ensures.0 c.if-not-is_interface_path.false) c.is_version.ensures
