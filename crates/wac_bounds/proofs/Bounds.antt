-- Meets and joins of lists of trees.
use Rattle.std.proofs.Common.{Option, Some, None, List, [], ◌∷◌}
use Rattle.std.proofs.lemmas.List.Elements.{All-nil}
use Rattle.wac_model.specs.ItemTree.{ItemTree}
use Rattle.wac_model.specs.Order.{Fits}
use Rattle.wac_model.proofs.ItemOrder.{Fits-refl, Fits-trans}
use Rattle.wac_model.proofs.Antisymmetry.{same_from_both}
use Rattle.wac_bounds.specs.Bounds.{IsMeet, IsJoin, IsMeetIfAny, IsJoinIfAny}
use Rattle.wac_bounds.specs.MeetIn.{IsMeetIn, IsJoinIn}
use Rattle.wac_bounds.specs.Laws.{HaveMeets, HaveJoins, IsOneMeet, IsOneJoin, HaveSameMembers, MeetsDependOnMembers, JoinsDependOnMembers}
use Rattle.wac_bounds.proofs.TreeMeet.{tree_meet, tree_join}
use Rattle.wac_bounds.proofs.TreeMeetIs.{tree_meet_is, tree_join_is}
use Rattle.wac_bounds.proofs.ListMeet.{All-among, All-two, two_from_All, meet_exists}

pub meet_of_two : (a b : ItemTree) (o : Option ItemTree) → IsMeetIn Fits a b o → IsMeetIfAny o (a ∷ b ∷ [])
meet_of_two a b None h = λ c x. let p = two_from_All (λ t. Fits c t) a b [] x in h c p.0 p.1
meet_of_two a b (Some m) h = record {
  is_below = All-two (λ t. Fits m t) a b [] h.0 h.1 (All-nil (λ t. Fits m t));
  is_greatest = λ c x. let p = two_from_All (λ t. Fits c t) a b [] x in h.2 c p.0 p.1;
}

pub join_of_two : (a b : ItemTree) (o : Option ItemTree) → IsJoinIn Fits a b o → IsJoinIfAny o (a ∷ b ∷ [])
join_of_two a b None h = λ c x. let p = two_from_All (λ t. Fits t c) a b [] x in h c p.0 p.1
join_of_two a b (Some m) h = record {
  is_above = All-two (λ t. Fits t m) a b [] h.0 h.1 (All-nil (λ t. Fits t m));
  is_least = λ c x. let p = two_from_All (λ t. Fits t c) a b [] x in h.2 c p.0 p.1;
}

-- of two trees one of which fits the other, that one is the meet, and the other the join
pub meet_of_ordered : (a b : ItemTree) → Fits a b → IsMeet a (a ∷ b ∷ [])
meet_of_ordered a b h = meet_of_two a b (Some a) (Fits-refl a, h, λ c p q. p)

pub have_meets : HaveMeets
have_meets t ts c h =
    let m = meet_exists Fits Fits-refl Fits-trans (λ a b. (tree_meet a b, tree_meet_is a b)) t ts c h in
    (m.0, record { is_below = m.1.0; is_greatest = m.1.1 })

pub have_joins : HaveJoins
have_joins t ts c h =
    let m = meet_exists (λ a b. Fits b a) Fits-refl (λ x y z p q. Fits-trans z y x q p) (λ a b. (tree_join a b, tree_join_is a b)) t ts c h in
    (m.0, record { is_above = m.1.0; is_least = m.1.1 })

pub one_meet : IsOneMeet
one_meet m n ts p q = same_from_both m n (q.is_greatest m p.is_below) (p.is_greatest n q.is_below)

pub one_join : IsOneJoin
one_join m n ts p q = same_from_both m n (p.is_least n q.is_above) (q.is_least m p.is_above)

-- of lists with the same members
meet_moves : (ts us : List ItemTree) → HaveSameMembers ts us → (m : ItemTree) → IsMeet m ts → IsMeet m us
meet_moves ts us same m h = record {
  is_below = All-among (λ t. Fits m t) ts us (λ t. (same t).1) h.is_below;
  is_greatest = λ c x. h.is_greatest c (All-among (λ t. Fits c t) us ts (λ t. (same t).0) x);
}

join_moves : (ts us : List ItemTree) → HaveSameMembers ts us → (m : ItemTree) → IsJoin m ts → IsJoin m us
join_moves ts us same m h = record {
  is_above = All-among (λ t. Fits t m) ts us (λ t. (same t).1) h.is_above;
  is_least = λ c x. h.is_least c (All-among (λ t. Fits t c) us ts (λ t. (same t).0) x);
}

pub meets_depend_on_members : MeetsDependOnMembers
meets_depend_on_members ts us same m = (meet_moves ts us same m, meet_moves us ts (λ t. ((same t).1, (same t).0)) m)

pub joins_depend_on_members : JoinsDependOnMembers
joins_depend_on_members ts us same m = (join_moves ts us same m, join_moves us ts (λ t. ((same t).1, (same t).0)) m)
