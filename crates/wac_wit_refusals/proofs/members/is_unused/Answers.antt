use Rattle.std.proofs.Common.{◌≡◌, refl}
use Rattle.wac_wit_scopes.specs.WitSources.{given_name, ident_text}
use Rattle.wac_wit_syntax.specs.declared.tree.TopItem.{TopItem}
use Rattle.wac_wit_syntax.specs.declared.tree.TopItem.TheVariants as top
use Rattle.wac_wit_syntax.specs.declared.tree.TopUse.{TopUse}
use Rattle.wac_wit_scopes.proofs.ScopeFacts.{All-end, All-next}
use Rattle.wac_wit_refusals_sites.proofs.Walks.{not_true}
use Rattle.wac_wit_refusals.proofs.members.is_unused.Goals as goal

pub loop-item-preserved : goal.loop-item-preserved
loop-item-preserved c =
    let P : TopItem → Type 0 = λ t. (u : TopUse) → t ≡ top.Use u → given_name u.path.name u.alias ≡ ident_text c.args.name.now → ⊥ in
    All-next c.args.items.now c.loop-item.item-index P P c.item-item.result c.loop-item-test.true c.item-item.is (λ t h. h) c.loop-item.invariant (λ u same given. not_true c.gives.result c.if-gives.false (c.gives.ensures u same given))

pub returns : goal.returns
returns c = λ is u among. All-end c.args.items.now c.loop-item.item-index (λ (t : TopItem). (v : TopUse) → t ≡ top.Use v → given_name v.path.name v.alias ≡ ident_text c.args.name.now → ⊥) c.loop-item-test.false c.loop-item.invariant (top.Use u) among u refl
