-- Under each name something is found, or nothing is.
use Rattle.std.proofs.Common.{◌≡◌, ◌≢◌, ◌⊎◌, ℕ, zero, suc, Bool, true, false, cond, List, [], ◌∷◌, ◌++◌, Option, Some, None, Result, Ok, Err, refl, sym, ap, subst, ◌∙◌, inl, inr, is_some, arith}
use Rattle.std.proofs.Math.Decide.{ℕ_discrete}
use Rattle.std.proofs.lemmas.Bool.{cases_Bool}
use Rattle.std.specs.Cmp.Lexicographic.{bytes_decides}
use Rattle.std.specs.Fmt.{decimal}
use Rattle.std.specs.Ordering.{is_le, is_lt, ordering_reverse}
use Rattle.std.specs.Prelude.{IsSome, MatchOption}
use Rattle.std.specs.Str.{bytes_eq}
use Rattle.std.specs.declared.cmp.Ordering.{Ordering}
use Rattle.std.specs.declared.cmp.Ordering.TheVariants.{Less, Equal, Greater}
use Rattle.semver.specs.Parse.{Parts, version_parts}
use Rattle.semver.specs.declared.error.Error.{Error}
use Rattle.semver.proofs.Grammar.{version_parts-complete, version_parts-sound}
use Rattle.wac_model.specs.Text.{Text}
use Rattle.wac_names.specs.Pairs.{HasText, IsFound, IsGreatest, NoneCompatible, value_at}
use Rattle.wac_names.specs.Reading.{IsNoVersionText, IsVersionText}
use Rattle.wac_names.specs.Track.{HasNoAt, IsKeyText, IsTracked, version_cmp}
use Rattle.wac_names.proofs.Cuts.{no_at, no_key, version_after, versioned_at}
use Rattle.wac_names.proofs.Standing.{le_from_not_lt, le_trans, lt_le, version_total}
use Rattle.wac_names.proofs.Tracks.{parts_same, tracked_same}

-- ---- the track of a name

-- a text without `@`, or what stands before and after its first one
data Cut (t : Text) : Type 0 where
  whole : HasNoAt t → Cut t
  before_at : (base rest : Text) → HasNoAt base → t ≡ base ++ 64 ∷ rest → Cut t

no-at-more : (c : ℕ) (cs : Text) → c ≢ 64 → HasNoAt cs → HasNoAt (c ∷ cs)
no-at-more c cs other none zero h e = other e
no-at-more c cs other none (suc i) h e = none i (omega arith) e

cut : (t : Text) → Cut t
cut [] = whole (λ i h. absurd (omega arith))
cut (c ∷ cs) = by (ℕ_discrete c 64) (cut cs)
  where
    by : Dec (c ≡ 64) → Cut cs → Cut (c ∷ cs)
    by (yes e) rest = before_at [] cs (λ i h. absurd (omega arith)) (ap (λ x. x ∷ cs) e)
    by (no n) (whole none) = whole (no-at-more c cs n none)
    by (no n) (before_at base rest none e) = before_at (c ∷ base) rest (no-at-more c base n none) (ap (λ x. c ∷ x) e)

-- a text that is a version, or none
data VersionOf (t : Text) : Type 0 where
  no_version : IsNoVersionText t → VersionOf t
  a_version : (p : Parts) → IsVersionText t p → VersionOf t

version_of : (t : Text) → VersionOf t
version_of t = by (version_parts t) refl
  where
    by : (r : Result Parts Error) → version_parts t ≡ r → VersionOf t
    by (Ok p) e = let read = version_parts-sound t p e in a_version p (sym read.0, read.1)
    by (Err x) e = no_version (λ p v. let read : version_parts t ≡ Ok p = ap version_parts v.0 ∙ version_parts-complete p v.1 in absurd (cc (read, e)))

-- a key of these numbers, or none
data KeyOf (base : Text) (p : Parts) : Type 0 where
  no_numbers : p.0 ≡ 0 → p.1 ≡ 0 → KeyOf base p
  a_key : (key : Text) → IsKeyText base p key → KeyOf base p

key_of : (base : Text) (p : Parts) → KeyOf base p
key_of base p = by (ℕ_discrete p.0 0) (ℕ_discrete p.1 0)
  where
    by : Dec (p.0 ≡ 0) → Dec (p.1 ≡ 0) → KeyOf base p
    by (yes e) (yes f) = no_numbers e f
    by (yes e) (no n) = a_key (base ++ 64 ∷ 48 ∷ 46 ∷ decimal p.1) (inr (e, n, refl))
    by (no n) other = a_key (base ++ 64 ∷ decimal p.0) (inl (n, refl))

-- the track that a name is on, or none
pub data TrackOf (name : Text) : Type 0 where
  no_track : ((key : Text) (p : Parts) → IsTracked name key p → ⊥) → TrackOf name
  a_track : (key : Text) (p : Parts) → IsTracked name key p → TrackOf name

module _ (name base rest : Text) (none : HasNoAt base) (e : name ≡ base ++ 64 ∷ rest) where
  other_version : (p q : Parts) (key : Text) → IsVersionText rest p → IsTracked name key q → p ≡ q
  other_version p q key v t = let w = version_after name base rest t.base q e none t.versioned in parts_same p q v.1 w.1 (sym v.0 ∙ w.0)

  track_by : (p : Parts) → IsVersionText rest p → (pre : List ℕ) → p.3 ≡ pre → KeyOf base p → TrackOf name
  track_by p v [] release (a_key key text) = a_track key p (record { base = base; versioned = versioned_at name base rest p e none v; release = release; key_text = text })
  track_by p v [] release (no_numbers major minor) = no_track (λ key q t.
      let same = other_version p q key v t in
      no_key t.base q key t.key_text (subst (λ (x : Parts). x.0 ≡ 0) same major) (subst (λ (x : Parts). x.1 ≡ 0) same minor))
  track_by p v (b ∷ pre) marked text = no_track (λ key q t.
      let same = other_version p q key v t in
      let empty : p.3 ≡ [] = subst (λ (x : Parts). x.3 ≡ []) (sym same) t.release in
      absurd (cc (empty, marked)))

  track_after : VersionOf rest → TrackOf name
  track_after (no_version nothing) = no_track (λ key q t. nothing q (version_after name base rest t.base q e none t.versioned))
  track_after (a_version p v) = track_by p v p.3 refl (key_of base p)

pub track_of : (name : Text) → TrackOf name
track_of name = by (cut name)
  where
    by : Cut name → TrackOf name
    by (whole none) = no_track (λ key p t. no_at name t.base _ none t.versioned.written)
    by (before_at base rest none e) = track_after name base rest none e (version_of rest)

-- ---- the greatest version on a track

self-equal : (r : Ordering) → r ≡ ordering_reverse r → is_le r ≡ true
self-equal Less e = refl
self-equal Equal e = refl
self-equal Greater e = cc e

le-refl : (v : Parts) → is_le (version_cmp v v) ≡ true
le-refl v = self-equal (version_cmp v v) (version_total.antisymm v v)

module _ {V : Type 0} where
  -- a text of more pairs is the first one, or one of the others
  has-first : (p : Text × V) (ps : List (Text × V)) (n : Text) → HasText (p ∷ ps) n → (n ≡ p.0) ⊎ HasText ps n
  has-first p ps n h = elim (cases_Bool (bytes_eq n p.0)) [
    | inl e ↦ inl ((bytes_decides n p.0).0 e)
    | inr f ↦ inr (subst (λ (b : Bool). IsSome (cond b (Some p.1) (value_at ps n))) f h)
  ]

  has-here : (p : Text × V) (ps : List (Text × V)) → HasText (p ∷ ps) p.0
  has-here p ps = subst (λ (b : Bool). IsSome (cond b (Some p.1) (value_at ps p.0))) (sym ((bytes_decides p.0 p.0).1 refl)) refl

  has-later : (p : Text × V) (ps : List (Text × V)) (n : Text) → HasText ps n → HasText (p ∷ ps) n
  has-later p ps n h = kept (bytes_eq n p.0)
    where
      kept : (b : Bool) → IsSome (cond b (Some p.1) (value_at ps n))
      kept true = refl
      kept false = h

  -- the text of the greatest version on the track, or none
  data Leads (ps : List (Text × V)) (key : Text) : Type 0 where
    no_lead : ((n : Text) (u : Parts) → HasText ps n → IsTracked n key u → ⊥) → Leads ps key
    a_lead : (text : Text) (v : Parts) → HasText ps text → IsTracked text key v → ((n : Text) (u : Parts) → HasText ps n → IsTracked n key u → is_le (version_cmp u v) ≡ true) → Leads ps key

  module _ (p : Text × V) (ps : List (Text × V)) (key : Text) where
    -- the first one isn't on the track
    passed : ((u : Parts) → IsTracked p.0 key u → ⊥) → Leads ps key → Leads (p ∷ ps) key
    passed far (no_lead none) = no_lead (λ n u h t. elim (has-first p ps n h) [ inl e ↦ far u (subst (λ (x : Text). IsTracked x key u) e t) | inr g ↦ none n u g t ])
    passed far (a_lead text v there on greatest) = a_lead text v (has-later p ps text there) on
        (λ n u h t. elim (has-first p ps n h) [ inl e ↦ absurd (far u (subst (λ (x : Text). IsTracked x key u) e t)) | inr g ↦ greatest n u g t ])

    module _ (w : Parts) (here : IsTracked p.0 key w) where
      own-version : (n : Text) (u : Parts) → n ≡ p.0 → IsTracked n key u → u ≡ w
      own-version n u e t = (tracked_same p.0 key key u w (subst (λ (x : Text). IsTracked x key u) e t) here).1

      -- the first one leads those whose versions are not above its own
      first_leads : ((n : Text) (u : Parts) → HasText ps n → IsTracked n key u → is_le (version_cmp u w) ≡ true) → Leads (p ∷ ps) key
      first_leads below = a_lead p.0 w (has-here p ps) here (λ n u h t. elim (has-first p ps n h) [
        | inl e ↦ subst (λ (x : Parts). is_le (version_cmp x w) ≡ true) (sym (own-version n u e t)) (le-refl w)
        | inr g ↦ below n u g t
      ])

      met : Leads ps key → Leads (p ∷ ps) key
      met (no_lead none) = first_leads (λ n u h t. absurd (none n u h t))
      met (a_lead text v there on greatest) = elim (cases_Bool (is_lt (version_cmp v w))) [
        | inl lt ↦ first_leads (λ n u h t. le_trans u v w (greatest n u h t) (lt_le (version_cmp v w) lt))
        | inr ge ↦ a_lead text v (has-later p ps text there) on (λ n u h t. elim (has-first p ps n h) [
          | inl e ↦ subst (λ (x : Parts). is_le (version_cmp x v) ≡ true) (sym (own-version n u e t)) (le_from_not_lt v w ge)
          | inr g ↦ greatest n u g t
        ])
      ]

  -- the first one is on the track, or isn't
  first_of_track : (p : Text × V) (ps : List (Text × V)) (key : Text) → TrackOf p.0 → Leads ps key → Leads (p ∷ ps) key
  first_of_track p ps key (no_track none) rest = passed p ps key (none key) rest
  first_of_track p ps key (a_track k w t) rest = elim (cases_Bool (bytes_eq k key)) [
    | inl e ↦ met p ps key w (subst (λ (x : Text). IsTracked p.0 x w) ((bytes_decides k key).0 e) t) rest
    | inr f ↦ passed p ps key (λ u s. let same : k ≡ key = (tracked_same p.0 k key w u t s).0 in absurd (cc (f, (bytes_decides k key).1 same))) rest
  ]

  leads : (ps : List (Text × V)) (key : Text) → Leads ps key
  leads [] key = no_lead (λ n u h t. absurd (cc (h)))
  leads (p ∷ ps) key = first_of_track p ps key (track_of p.0) (leads ps key)

  -- ---- what is found

  -- what is found under the name
  pub record Finds (ps : List (Text × V)) (name : Text) : Type 0 where
    pub what : Option V
    pub found : IsFound ps name what

  module _ (ps : List (Text × V)) (name : Text) (absent : value_at ps name ≡ None) where
    found_by_track : (r : Option V) → MatchOption r (NoneCompatible ps name) (IsGreatest ps name) → Finds ps name
    found_by_track r h = record { what = r; found = subst (λ (o : Option V). MatchOption o (MatchOption r (NoneCompatible ps name) (IsGreatest ps name)) (λ v. r ≡ Some v)) (sym absent) h }

    not_itself : (n : Text) → HasText ps n → name ≡ n → ⊥
    not_itself n h e = let some : is_some (value_at ps name) ≡ true = ap (λ (x : Text). is_some (value_at ps x)) e ∙ h in let none : is_some (value_at ps name) ≡ false = ap is_some absent in absurd (cc (some, none))

    without_track : ((key : Text) (p : Parts) → IsTracked name key p → ⊥) → NoneCompatible ps name
    without_track none n h (inl e) = not_itself n h e
    without_track none n h (inr x) = none x.0 x.1.0 x.1.1

    module _ (key : Text) (w : Parts) (on : IsTracked name key w) where
      without_lead : ((n : Text) (u : Parts) → HasText ps n → IsTracked n key u → ⊥) → NoneCompatible ps name
      without_lead none n h (inl e) = not_itself n h e
      without_lead none n h (inr x) =
          let same : x.0 ≡ key = (tracked_same name x.0 key x.1.0 w x.1.1 on).0 in
          none n x.2.0 h (subst (λ (k : Text). IsTracked n k x.2.0) same x.2.1)

      greatest_of : (text : Text) (v : Parts) (value : V) → value_at ps text ≡ Some value → IsTracked text key v
          → ((n : Text) (u : Parts) → HasText ps n → IsTracked n key u → is_le (version_cmp u v) ≡ true) → IsGreatest ps name value
      greatest_of text v value there of greatest = record {
        text = text;
        there = there;
        compatible = inr (key, (w, on), (v, of));
        greatest = λ n h _ k a b s t.
            let same = tracked_same text k key b v t of in
            subst (λ (x : Parts). is_le (version_cmp a x) ≡ true) (sym same.1) (greatest n a h (subst (λ (x : Text). IsTracked n x a) same.0 s));
      }

      found_on_track : Leads ps key → Finds ps name
      found_on_track (no_lead none) = found_by_track None (without_lead none)
      found_on_track (a_lead text v there of greatest) = by (value_at ps text) refl there
        where
          by : (o : Option V) → value_at ps text ≡ o → IsSome o → Finds ps name
          by None e h = absurd (cc (h))
          by (Some value) e h = found_by_track (Some value) (greatest_of text v value e of greatest)

    found_at : TrackOf name → Finds ps name
    found_at (no_track none) = found_by_track None (without_track none)
    found_at (a_track key w on) = found_on_track key w on (leads ps key)

  -- something is found, or nothing is
  pub finds : (ps : List (Text × V)) (name : Text) → Finds ps name
  finds ps name = by (value_at ps name) refl
    where
      by : (o : Option V) → value_at ps name ≡ o → Finds ps name
      by None e = found_at ps name e (track_of name)
      by (Some v) e = record { what = Some v; found = subst (λ (o : Option V). MatchOption o (IsGreatest ps name v) (λ x. Some v ≡ Some x)) (sym e) refl }
