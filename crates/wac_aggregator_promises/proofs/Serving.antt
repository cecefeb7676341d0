-- Steps that serve each item serve all.
use Rattle.std.proofs.Common.{◌≡◌, ◌⊎◌, inl, inr, subst, sym, ◌∙◌, arith, List, Some, Contains}
use Rattle.std.specs.Str.{bytes_eq}
use Rattle.wac_model.specs.Text.{Text, lookup}
use Rattle.wac_model.specs.ItemTree.{ItemTree}
use Rattle.wac_model.proofs.ItemOrder.{Fits-trans}
use Rattle.wac_component.specs.Tree.{item_tree}
use Rattle.wac_component.proofs.Among.{Contains-cases}
use Rattle.wac_names.specs.Class.{class_of}
use Rattle.wac_aggregator_promises.specs.Aggregated.{Aggregated, LeadsBelow, AreSteps, rests, goes_on}
use Rattle.wac_aggregator_promises.specs.Call.{Call, call_tree}
use Rattle.wac_aggregator_promises.proofs.ByTrack.{one_on}
use Rattle.wac_aggregator_promises.specs.Laws.{StepsServeAll}

-- what a name leads to is no wider after more calls
later : {a b : Aggregated} {calls : List Call} → AreSteps a calls b → (name : Text) (tree : ItemTree) → LeadsBelow a name tree → LeadsBelow b name tree
later rests name tree h = h
later (goes_on {a = a} {b = b} s r) name tree h =
    let k = s.kept name h.import h.is_import in
    later r name tree record { import = k.import; is_import = k.is_import; fits = Fits-trans (item_tree b.types k.import) (item_tree a.types h.import) tree k.fits h.fits }

each_served : {a b : Aggregated} {calls : List Call} → AreSteps a calls b → (c : Call) → Contains calls c → LeadsBelow b c.name (call_tree c)
each_served rests c m = absurd (omega (arith, m.1))
each_served {b = b} (goes_on {call = call} {calls = calls} s r) c m = by_cases (later r call.name (call_tree call) s.served) (each_served r c) (Contains-cases c call calls m)
  where
    by_cases : LeadsBelow b call.name (call_tree call) → (Contains calls c → LeadsBelow b c.name (call_tree c)) → (call ≡ c) ⊎ Contains calls c → LeadsBelow b c.name (call_tree c)
    by_cases h g (inl e) = subst (λ (x : Call). LeadsBelow b x.name (call_tree x)) e h
    by_cases h g (inr n) = g n

pub steps_serve_all : StepsServeAll
steps_serve_all a b calls steps by_track c d m n same =
    let x = each_served steps c m in
    let y = each_served steps d n in
    let tracks : class_of (b.canonical d.name) ≡ class_of (b.canonical c.name) = by_track.canonical d.name ∙ same ∙ sym (by_track.canonical c.name) in
    let names = one_on b by_track (b.canonical d.name) (b.canonical c.name) y.import x.import y.is_import x.is_import tracks in
    record { import = y.import; is_import = subst (λ (n : Text). lookup bytes_eq b.imports n ≡ Some y.import) names y.is_import; fits = y.fits }
