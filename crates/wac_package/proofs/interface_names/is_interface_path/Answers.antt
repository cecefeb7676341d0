use Rattle.std.proofs.Common.{sym, ap, ◌∙◌, ◌++◌, ◌∷◌, arith, List, ℕ}
use Rattle.std.proofs.lemmas.Str.Pattern.{split_parts}
use Rattle.wac_names.proofs.Cuts.{cuts_at}
use Rattle.wac_package.proofs.Paths.{labels_at, path_at, path_cut, rest_cut}
use Rattle.wac_package.proofs.interface_names.is_interface_path.Goals.{then-is_label, else-is_label}
use Rattle.wac_package.proofs.interface_names.is_interface_path.Goals as goal

pub returns-in_default : goal.returns-in_default
returns-in_default c = (λ h. cc h, λ p. absurd (rw c.in_default.is at (path_cut _ _ c.split_once.ensures.cases p)))

pub returns-in_default-split_once : goal.returns-in_default-split_once
returns-in_default-split_once c = (
  λ h. cc h,
  λ p.
      let one = cuts_at _ _ _ _ (path_cut _ _ c.split_once.ensures.cases p) c.in-Some.is in
      absurd (rw c.in_default-split_once.is at (rest_cut _ _ _ p one.1 c.split_once-2.ensures.cases)),
)

pub returns-then-is_label-2 : goal.returns-then-is_label-2
returns-then-is_label-2 c =
    let one = rw c.in-Some.is at (split_parts 58 c.args.text.now _ c.split_once.ensures.cases (omega arith)) in
    let two = rw c.in-Some-split_once.is at (split_parts 47 c.in-Some.rest.now _ c.split_once-2.ensures.cases (omega arith)) in
    elim c.if-is_label.branch [
      | then-is_label w ↦ (
        λ h. path_at _ _ _ _ (one.0 ∙ ap (λ (r : List ℕ). c.in-Some.namespace.now ++ 58 ∷ r) two.0) (c.is_label.ensures.0 w.if-is_label.true)
            (w.is_label-then-is_label.ensures.0 (sym w.value-is ∙ c.if-is_label-2.true)) (c.is_label-then-is_label-2.ensures.0 h),
        λ p.
            let a = cuts_at _ _ _ _ (path_cut _ _ c.split_once.ensures.cases p) c.in-Some.is in
            let b = cuts_at _ _ _ _ (rest_cut _ _ _ p a.1 c.split_once-2.ensures.cases) c.in-Some-split_once.is in
            c.is_label-then-is_label-2.ensures.1 (labels_at _ _ _ _ p a.0 b.0 b.1).2,
      )
      | else-is_label w ↦ absurd (cc (w.value-is, c.if-is_label-2.true))
    ]

pub returns-else-is_label-2 : goal.returns-else-is_label-2
returns-else-is_label-2 c = (
  λ h. absurd (cc (h, c.if-is_label-2.false)),
  λ p.
      let a = cuts_at _ _ _ _ (path_cut _ _ c.split_once.ensures.cases p) c.in-Some.is in
      let b = cuts_at _ _ _ _ (rest_cut _ _ _ p a.1 c.split_once-2.ensures.cases) c.in-Some-split_once.is in
      let labels = labels_at _ _ _ _ p a.0 b.0 b.1 in
      elim c.if-is_label.branch [
        | then-is_label w ↦ w.value-is ∙ w.is_label-then-is_label.ensures.1 labels.1
        | else-is_label w ↦ absurd (cc (c.is_label.ensures.1 labels.0, w.if-is_label.false))
      ],
)
