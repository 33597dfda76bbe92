-- What a crash leaves of a plan of gets and changes.
use Rattle.std.proofs.Common.{◌≡◌, ℕ, zero, suc, List, [], ◌∷◌, ◌++◌, Some, Ok, Err, Result, inl, inr, ⊎_elim, refl, sym, ◌∙◌, ap, subst, append_assoc}
use Rattle.blob_store.specs.Seen.{Seen}
use Rattle.blob_store.specs.Area.{Area}
use Rattle.blob_store.specs.Moments.{LeavesOnly}
use Rattle.blob_store.specs.declared.error.BlobErr.{BlobErr}
use Rattle.blob_store.specs.declared.error.BlobErr.TheVariants.{Failed, Memory}
use Rattle.blob_store.specs.Events.{Act, Event, Fate, Done, FailedOld, FailedNew, NoMemory, with_effect, after_act, MayLeave}
use Rattle.blob_store.specs.Plans.{all_done, Makes, StopsAt, MakesSome, RunsInMemory}
use Rattle.blob_store.proofs.RunFronts.{leaves_only, one_of_two}
use Rattle.blob_store.specs.Steps.{AfterPrefix}

one_more : (act : Act) (plan : List Act) (m left : Area) → AfterPrefix plan (with_effect act m) left → AfterPrefix (act ∷ plan) m left
one_more act plan m left (first, rest, is, here) = (act ∷ first, rest, ap (λ (l : List Act). act ∷ l) is, here)

pub front_of_plan : (plan : List Act) (m : Area) (k : ℕ) (crashed : Area) → MayLeave (all_done plan) m k crashed → AfterPrefix plan m crashed
front_of_plan [] m k crashed here = ([], [], refl, here)
front_of_plan (act ∷ plan) m zero crashed (inl old) = ([], act ∷ plan, refl, old)
front_of_plan (act ∷ plan) m zero crashed (inr new) = (act ∷ [], plan, refl, new)
front_of_plan (act ∷ plan) m (suc k) crashed here = one_more act plan m crashed (front_of_plan plan (with_effect act m) k crashed here)

by_fate : (act : Act) (plan : List Act) (fate : Fate) (m crashed : Area) → crashed ≡ after_act act fate m → AfterPrefix (act ∷ plan) m crashed
by_fate act plan Done m crashed is = (act ∷ [], plan, refl, is)
by_fate act plan FailedOld m crashed is = ([], act ∷ plan, refl, is)
by_fate act plan FailedNew m crashed is = (act ∷ [], plan, refl, is)
by_fate act plan NoMemory m crashed is = ([], act ∷ plan, refl, is)

pub front_of_stop : (first : List Act) (last : Act) (unmade : List Act) (fate : Fate) (m : Area) (k : ℕ) (crashed : Area)
    → MayLeave (all_done first ++ (record { act = last; fate = fate }) ∷ []) m k crashed → AfterPrefix (first ++ last ∷ unmade) m crashed
front_of_stop [] last unmade fate m zero crashed here = ⊎_elim (λ old. ([], last ∷ unmade, refl, old)) (λ new. (last ∷ [], unmade, refl, new)) (one_of_two last fate m crashed here)
front_of_stop [] last unmade fate m (suc k) crashed here = by_fate last unmade fate m crashed here
front_of_stop (act ∷ first) last unmade fate m zero crashed (inl old) = ([], act ∷ first ++ last ∷ unmade, refl, old)
front_of_stop (act ∷ first) last unmade fate m zero crashed (inr new) = (act ∷ [], first ++ last ∷ unmade, refl, new)
front_of_stop (act ∷ first) last unmade fate m (suc k) crashed here =
    one_more act (first ++ last ∷ unmade) m crashed (front_of_stop first last unmade fate (with_effect act m) k crashed here)

made_leaves : (plan : List Act) (a b : Seen) (m : Area) → Makes plan a b → a.held ≡ Some m → LeavesOnly a b (AfterPrefix plan m)
made_leaves plan a b m made is = leaves_only (all_done plan) a b m (AfterPrefix plan m) made is (λ k crashed within here. front_of_plan plan m k crashed here)

stop_leaves : (plan : List Act) (error : BlobErr) (a b : Seen) (m : Area) → StopsAt plan error a b → a.held ≡ Some m → LeavesOnly a b (AfterPrefix plan m)
stop_leaves plan error a b m (events, ends, tracked) is = leaves_only events a b m (AfterPrefix plan m) tracked is (λ k crashed within here.
    subst (λ (l : List Act). AfterPrefix l m crashed) (sym ends.planned)
    (front_of_stop ends.first ends.last ends.unmade ends.fate m k crashed (subst (λ (es : List Event). MayLeave es m k crashed) ends.made here)))

longer : (plan first unmade : List Act) (m left : Area) → plan ≡ first ++ unmade → AfterPrefix first m left → AfterPrefix plan m left
longer plan first unmade m left is (front, rest, same, here) =
    (front, rest ++ unmade, is ∙ ap (λ (l : List Act). l ++ unmade) same ∙ append_assoc front rest unmade, here)

some_leaves : (plan : List Act) (a b : Seen) (m : Area) → MakesSome plan a b → a.held ≡ Some m → LeavesOnly a b (AfterPrefix plan m)
some_leaves plan a b m (first, unmade, planned, made) is = leaves_only (all_done first) a b m (AfterPrefix plan m) made is (λ k crashed within here.
    longer plan first unmade m crashed planned (front_of_plan first m k crashed here))

-- a crash within a plan leaves the area after a prefix of it
pub plan_leaves : {A : Type 0} (plan : List Act) (a b : Seen) (m : Area) (result : Result A BlobErr) → RunsInMemory plan a b result → a.held ≡ Some m → LeavesOnly a b (AfterPrefix plan m)
plan_leaves plan a b m (Ok x) made is = made_leaves plan a b m made is
plan_leaves plan a b m (Err Failed) stops is = stop_leaves plan Failed a b m stops is
plan_leaves plan a b m (Err Memory) (inl stops) is = stop_leaves plan Memory a b m stops is
plan_leaves plan a b m (Err Memory) (inr some) is = some_leaves plan a b m some is
