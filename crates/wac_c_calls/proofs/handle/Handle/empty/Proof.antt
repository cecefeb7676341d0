-- `empty` makes a handle that owns nothing.
use Rattle.wac_c_calls.proofs.Steps.{◌≡◌, List, [], ◌∷◌, ◌++◌, refl, sym, subst, Val, SProp, ent, emp, id⊢, ftrue, WpFn, ‵, raw, ◌⊛◌, ◌$◌, ◌∵◌, !, qed, by, move, keep, split, fsplit, fjoin, suffices, use0, feq_i, lit, no_more, and_then, returns, enter, alloc_all, pass_all, free_all, look_at, get, sets, agg, fact, fact_i, tables, yes, owns, plain, Ptr, null_ptr, ptr_val, nothing, Stays, stay_dropped, walk_of, Goes-dropped, handle_tells, proved_at, leaves, None, both}
use Rattle.wac_c_calls.proofs.Values.{Z, al, handle_good, handle_in}
use Rattle.wac_c_calls.specs.contracts.handle.Handle.empty as f
use Rattle.wac_c_calls.specs.contracts.handle.Handle.empty.Key.{name as #self}
use Rattle.wac_c_calls.proofs.handle.Handle.empty.Statement.{statement}
use Rattle.wac_c_calls.proofs.handle.Handle.empty.Code as code

abbrev hs : Stays f.ended.signature.params f.ended.kept
hs = (stay_dropped (plain (λ _. Z)) yes, tt)

pub empty_spec : {M : Type 1} → statement M
empty_spec 𝓤 𝓛 𝓜 𝓡 wired =
    let H = 𝓛.H in let 𝓣 = tables 𝓤 H 𝓜 𝓡 𝓡.env in let En = f.ended in let c = f.clauses 𝓛 𝓜.mem 𝓡.returns in let fn = code.function in
    proved_at 𝓛 En hs c 𝓜 𝓡 (Goes-dropped 𝓛 0 (plain (λ _. Z)) yes (λ κs x w. refl), tt) #self fn (code.unfolded 𝓤 H 𝓜 𝓡 wired) (λ z are.
    let a = z.0.3.0 in let Post : Val → SProp 𝓤 = (walk_of 𝓛 En hs c).post z in let Run : List Val → SProp 𝓤 = λ ws. WpFn 𝓤 H 𝓣.C 𝓣.Λ fn ws Post in
    qed 𝓛 ((‵ ftrue ⊛ ‵ (owns (Z ∷ []) z.0.3 z.0.4)) ∷ raw ((c z.0.0 z.0.3).requires z.1) ∷ []) ∵ split ! $ move ! (1 ∷ []) $ fsplit ! $ handle_tells al ! a z.0.4.0 (λ h ea fits.
    suffices ! (Run (h ∷ [])) (subst (λ (us : List Val). ent 𝓤 (Run (h ∷ [])) (Run us)) (sym (λ i. ea i ++ [])) (id⊢ 𝓤 (Run (h ∷ [])))) $
    enter ! 𝓣.C 𝓣.Λ fn (h ∷ []) Post $ alloc_all ! (λ l. pass_all ! refl (fits, tt) $
    sets ! (agg ! (and_then ! (lit ! tt) (and_then ! (get ! refl) (no_more !)))) refl (handle_good null_ptr h fits) $
    returns ! (look_at ! 0 refl) $ free_all ! refl $ feq_i ! Ptr null_ptr null_ptr refl $ handle_in ! null_ptr h a None $
    use0 𝓛 (raw (fact 𝓤 ((None ≡ None) × (null_ptr ≡ null_ptr)))) (fact_i 𝓤 ((None ≡ None) × (null_ptr ≡ null_ptr)) (emp 𝓤) (refl, refl)) $ nothing ! $ nothing ! $ fjoin ! $
    -- [what is left of the parameter; the fact; the handle; ..; the tokens; ..]
    keep ! (4 ∷ 0 ∷ 2 ∷ 1 ∷ []) $ by ! (leaves 𝓛 En hs c z (both (ptr_val null_ptr) h) (record { at = null_ptr; alloc = a; value = None }) (tt, tt) (tt, tt)))))
