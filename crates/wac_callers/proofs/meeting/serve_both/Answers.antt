-- The meet of two items is below both, and what is below both is below it.
use Rattle.std.proofs.Common.{[], ◌∷◌, Option, Some, None, Result, Ok, Err, IfOk, IfSome, IfNone, lit<}
use Rattle.std.specs.Option.{option_map}
use Rattle.std.proofs.lemmas.List.Elements.{All-nil, All-cons}
use Rattle.wac_types.specs.Bounds.{IsMeetIfAny}
use Rattle.wac_types.specs.ItemTree.{ItemTree}
use Rattle.wac_types.specs.Order.{Fits}
use Rattle.wac_types.specs.Tree.{item_tree}
use Rattle.wac_types.specs.declared.ItemKind.{ItemKind}
use Rattle.wac_callers.proofs.meeting.serve_both.Goals as goal

module _ {E : Type 0} (tree : ItemKind → ItemTree) (x y : ItemTree) where
  fits_both : (r : Result (Option ItemKind) E) → IfOk r (λ m. IsMeetIfAny (option_map tree m) (x ∷ y ∷ [])) → IfOk r (λ m. IfSome m (λ k. Fits (tree k) x × Fits (tree k) y))
  fits_both (Ok (Some k)) h = (h.is_below 0 x (lit< tt), h.is_below 1 x (lit< tt))
  fits_both (Ok None) h = tt
  fits_both (Err e) h = tt

  none_fits : (r : Result (Option ItemKind) E) → IfOk r (λ m. IsMeetIfAny (option_map tree m) (x ∷ y ∷ [])) → IfOk r (λ m. IfNone m ((t : ItemTree) → Fits t x → Fits t y → ⊥))
  none_fits (Ok (Some k)) h = tt
  none_fits (Ok None) h = λ t p q. h t (All-cons (Fits t) x (y ∷ []) p (All-cons (Fits t) y [] q (All-nil (Fits t))))
  none_fits (Err e) h = tt

pub returns-clause-fits : goal.returns-clause-fits
returns-clause-fits c = fits_both (item_tree c.meet.new.types) (item_tree c.args.types.now c.args.a) (item_tree c.args.types.now c.args.b) c.meet.result c.meet.ensures.meet

pub returns-clause-none : goal.returns-clause-none
returns-clause-none c = none_fits (item_tree c.meet.new.types) (item_tree c.args.types.now c.args.a) (item_tree c.args.types.now c.args.b) c.meet.result c.meet.ensures.meet

pub returns-clause-kept : goal.returns-clause-kept
returns-clause-kept c = c.meet.ensures.grows.trees
