use Rattle.std.proofs.Common.{List, sym, subst, ◌∙◌}
use Rattle.wac_component.specs.Id.{Id}
use Rattle.wac_aggregator_alike.specs.Alike.{AreResourcesOf}
use Rattle.wac_component.specs.Naming.{key_of}
use Rattle.wac_aggregator_alike.proofs.Answering.{all_stand, owned_in, not_ours, not_theirs, are_alike, are_not_alike}
use Rattle.wac_aggregator_alike.proofs.alike.alike_owners.Goals as goal

pub owner_tracks-requires : goal.owner_tracks-requires
owner_tracks-requires c =
    all_stand c.args.own.now (key_of c.args.a) c.deref.result.now (subst (λ (rs : List Id). AreResourcesOf c.args.own.now (key_of c.args.a) rs) (sym c.deref.ensures.value) c.in_ok-ours.ensures) c.sound.ensures c.requires.ours

pub returns-in_default : goal.returns-in_default
returns-in_default c =
    not_ours c.args.own.now c.args.types.now (key_of c.args.a) (key_of c.args.b) c.deref.result.now (subst (λ (rs : List Id). AreResourcesOf c.args.own.now (key_of c.args.a) rs) (sym c.deref.ensures.value) c.in_ok-ours.ensures) (rw c.in_default.is at c.in_ok-our_tracks.ensures)

pub owner_tracks-requires-2 : goal.owner_tracks-requires-2
owner_tracks-requires-2 c =
    all_stand c.args.types.now (key_of c.args.b) c.deref-2.result.now (subst (λ (rs : List Id). AreResourcesOf c.args.types.now (key_of c.args.b) rs) (sym c.deref-2.ensures.value) c.in_ok-theirs.ensures) c.sound-2.ensures c.requires.theirs

pub returns-in_default-2 : goal.returns-in_default-2
returns-in_default-2 c =
    not_theirs c.args.own.now c.args.types.now (key_of c.args.a) (key_of c.args.b) c.deref-2.result.now (subst (λ (rs : List Id). AreResourcesOf c.args.types.now (key_of c.args.b) rs) (sym c.deref-2.ensures.value) c.in_ok-theirs.ensures) (rw c.in_default-2.is at c.in_ok-their_tracks.ensures)

pub returns-then-ne : goal.returns-then-ne
returns-then-ne c =
    are_not_alike c.args.own.now c.args.types.now (key_of c.args.a) (key_of c.args.b) c.deref.result.now c.deref-2.result.now
    (subst (λ (rs : List Id). AreResourcesOf c.args.own.now (key_of c.args.a) rs) (sym c.deref.ensures.value) c.in_ok-ours.ensures)
    (subst (λ (rs : List Id). AreResourcesOf c.args.types.now (key_of c.args.b) rs) (sym c.deref-2.ensures.value) c.in_ok-theirs.ensures)
    c.in-Some.our_tracks c.in-Some-2.their_tracks (rw c.in-Some.is at c.in_ok-our_tracks.ensures) (rw c.in-Some-2.is at c.in_ok-their_tracks.ensures) (sym c.ne.ensures ∙ c.if-ne.true)

pub owned_among-requires : goal.owned_among-requires
owned_among-requires c =
    all_stand c.args.types.now (key_of c.args.b) c.deref-3.result.now (subst (λ (rs : List Id). AreResourcesOf c.args.types.now (key_of c.args.b) rs) (sym c.deref-3.ensures.value) c.in_ok-theirs.ensures) c.sound-2.ensures c.requires.theirs

pub returns : goal.returns
returns c = (
  are_alike c.args.own.now c.args.types.now (key_of c.args.a) (key_of c.args.b) c.deref.result.now c.deref-2.result.now
      (subst (λ (rs : List Id). AreResourcesOf c.args.own.now (key_of c.args.a) rs) (sym c.deref.ensures.value) c.in_ok-ours.ensures)
      (subst (λ (rs : List Id). AreResourcesOf c.args.types.now (key_of c.args.b) rs) (sym c.deref-2.ensures.value) c.in_ok-theirs.ensures)
      c.in-Some.our_tracks c.in-Some-2.their_tracks (rw c.in-Some.is at c.in_ok-our_tracks.ensures) (rw c.in-Some-2.is at c.in_ok-their_tracks.ensures) c.requires.same (sym c.ne.ensures ∙ c.if-ne.false),
  rw c.in_ok-owned_among.ensures (owned_in c.args.types.now (key_of c.args.b) c.deref-3.result.now (subst (λ (rs : List Id). AreResourcesOf c.args.types.now (key_of c.args.b) rs) (sym c.deref-3.ensures.value) c.in_ok-theirs.ensures)),
)
