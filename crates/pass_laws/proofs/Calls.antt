-- The calls of a pass, made with the bytes that the catalog has, are those of its plan.
use Rattle.std.proofs.Common.{◌≡◌, ◌≤◌, ℕ, zero, suc, take, length, arith, List, [], ◌∷◌, ◌++◌, map, Bool, true, false, cond, Option, Some, None, IsSome, refl, sym, ap, ◌∙◌, append_assoc}
use Rattle.std.proofs.lemmas.List.{map-append}
use Rattle.std.specs.FinMap.{get}
use Rattle.std.specs.List.{Contains, filter}
use Rattle.blob_store.specs.Area.{Area}
use Rattle.blob_store.specs.Runs.{IsAfterSome, after_calls}
use Rattle.blob_store.specs.declared.call.Call.{Call as StoreCall}
use Rattle.blob_store.specs.declared.call.Call.TheVariants as store
use Rattle.pkg_meta.specs.Catalog.{Catalog}
use Rattle.pkg_meta.specs.declared.state.StateDoc.{StateDoc}
use Rattle.fold_core.specs.Docs.{body_bytes, id_index_name}
use Rattle.fold_core.specs.declared.doc.Body.{Body}
use Rattle.hive_laws.specs.Plans.{PassPlan, puts_of_docs, puts_of_index, removals_of_index}
use Rattle.hive_laws.specs.Rounds.{call_of, plan_calls}
use Rattle.hive_laws.specs.Steps.{Step, PutState, RemoveDoc}
use Rattle.hive_laws.proofs.Listed.{first, later}
use Rattle.hive_state.specs.State.{state_name, state_text}
use Rattle.id_pass.specs.Named.{NamedBodies}
use Rattle.id_pass.specs.Passes.{doc_put, doc_puts, index_put, index_removal, drops_index, is_left_over, is_missing, removals, state_put, written}
use Rattle.id_pass.specs.declared.call.Call.{Call}
use Rattle.id_pass.specs.declared.call.Call.TheVariants.{Put, Remove}
use Rattle.pass_laws.specs.Making.{AreMadeBy, AreSomeMadeBy, HasCallBytes, HaveCallBytes, IsMadeBy}
use Rattle.pass_laws.proofs.Plan.{bytes_or, index_bytes, or_same, plan_of, with_bytes}

-- a call with its bytes
abbrev made_call : Catalog → Call → StoreCall
made_call cs (Put name body) = store.Put name (bytes_or (body_bytes cs body))
made_call cs (Remove name) = store.Remove name

one_made : (cs : Catalog) (call : Call) (made : StoreCall) → HasCallBytes cs call → IsMadeBy cs call made → made ≡ made_call cs call
one_made cs (Put name body) made has is = is (bytes_or (body_bytes cs body)) (or_same (body_bytes cs body) has)
one_made cs (Remove name) made has is = is

-- calls that have bytes are made in one way
pub all_made : (cs : Catalog) (calls : List Call) (made : List StoreCall) → HaveCallBytes cs calls → AreMadeBy cs calls made → made ≡ map (made_call cs) calls
all_made cs [] [] has are = refl
all_made cs [] (c ∷ made) has are = absurd are
all_made cs (call ∷ calls) [] has are = absurd are
all_made cs (call ∷ calls) (c ∷ made) has are = λ i. one_made cs call c has.0 are.0 i ∷ all_made cs calls made has.1 are.1 i

some_are : (cs : Catalog) (calls : List Call) (made : List StoreCall) → HaveCallBytes cs calls → AreSomeMadeBy cs calls made
    → (length made ≤ length (map (made_call cs) calls)) × (made ≡ take (length made) (map (made_call cs) calls))
some_are cs calls [] has are = (omega arith, refl)
some_are cs [] (c ∷ made) has are = absurd are
some_are cs (call ∷ calls) (c ∷ made) has are =
    let rest = some_are cs calls made has.1 are.1 in
    let few : length made ≤ length (map (made_call cs) calls) = rest.0 in
    (omega (arith, few), λ i. one_made cs call c has.0 are.0 i ∷ rest.1 i)

taken_twice : {X : Type 0} (xs : List X) (i j : ℕ) → i ≤ j → take i (take j xs) ≡ take i xs
taken_twice xs zero j le = refl
taken_twice xs (suc i) zero le = absurd (omega (arith, le))
taken_twice [] (suc i) (suc j) le = refl
taken_twice {X = X} (x ∷ xs) (suc i) (suc j) le = ap (λ (l : List X). x ∷ l) (taken_twice xs i j (omega (arith, le)))

-- what is left by some of the calls that some were made of
pub some_made : (cs : Catalog) (calls : List Call) (made : List StoreCall) (m left : Area) → HaveCallBytes cs calls → AreSomeMadeBy cs calls made → IsAfterSome made m left
    → IsAfterSome (map (made_call cs) calls) m left
some_made cs calls made m left has are (n, few, is) =
    let some = some_are cs calls made has are in
    let within : length made ≤ length (map (made_call cs) calls) = some.0 in
    (n, omega (arith, few, within), is ∙ ap (λ (l : List StoreCall). after_calls l m) (ap (take n) some.1 ∙ taken_twice (map (made_call cs) calls) n (length made) few))

have_joined : (cs : Catalog) (xs ys : List Call) → HaveCallBytes cs xs → HaveCallBytes cs ys → HaveCallBytes cs (xs ++ ys)
have_joined cs [] ys p q = q
have_joined cs (x ∷ xs) ys p q = (p.0, have_joined cs xs ys p.1 q)

puts_have : (cs : Catalog) (es : List (List ℕ × Body)) → ((e : List ℕ × Body) → Contains es e → IsSome (body_bytes cs e.1)) → HaveCallBytes cs (map doc_put es)
puts_have cs [] all = tt
puts_have cs (e ∷ es) all = (all e (first e es), puts_have cs es (λ x is. all x (later e x es is)))

removals_have : (cs : Catalog) (names : List (List ℕ)) → HaveCallBytes cs (map {A = List ℕ} {B = Call} (λ (n : List ℕ). Remove n) names)
removals_have cs [] = tt
removals_have cs (name ∷ names) = (tt, removals_have cs names)

drop_has : (cs : Catalog) (index : List ℕ) (b : Bool) → HaveCallBytes cs (cond b (Remove index ∷ []) [])
drop_has cs index true = (tt, tt)
drop_has cs index false = tt

if_put : (cs : Catalog) (index : List ℕ) (body : Body) (b : Bool) → IsSome (body_bytes cs body) → HaveCallBytes cs (map doc_put (cond b ((index, body) ∷ []) []))
if_put cs index body true has = (has, tt)
if_put cs index body false has = tt

index_has : (cs : Catalog) (index : List ℕ) (given : NamedBodies) (docs : NamedBodies) (o : Option Body) → ((body : Body) → o ≡ Some body → IsSome (body_bytes cs body))
    → HaveCallBytes cs (index_put index given docs o)
index_has cs index given docs None all = tt
index_has cs index given docs (Some body) all = if_put cs index body (is_missing given (index, body)) (all body refl)

module _ (cs : Catalog) (key : List ℕ) (given docs : NamedBodies) (names : List (List ℕ)) (dirty clean : StateDoc) where
  abbrev index : List ℕ
  index = id_index_name key

  abbrev calls : List Call
  calls = state_put key dirty ∷ (doc_puts index given docs ++ (removals index docs names ++ state_put key clean ∷ []))

  pub calls_have : ((e : List ℕ × Body) → Contains (written index given docs) e → IsSome (body_bytes cs e.1)) → ((body : Body) → get docs index ≡ Some body → IsSome (body_bytes cs body))
      → HaveCallBytes cs calls
  calls_have docs_have own = (
    refl,
    have_joined cs (doc_puts index given docs) (removals index docs names ++ state_put key clean ∷ [])
        (have_joined cs (map doc_put (written index given docs)) (index_put index given docs (get docs index)) (puts_have cs (written index given docs) docs_have)
        (index_has cs index given docs (get docs index) own))
        (have_joined cs (removals index docs names) (state_put key clean ∷ [])
        (have_joined cs (index_removal index docs names) (map {A = List ℕ} {B = Call} (λ (n : List ℕ). Remove n) (filter (is_left_over index docs) names))
        (drop_has cs index (drops_index index docs names)) (removals_have cs (filter (is_left_over index docs) names)))
        (refl, tt)),
  )

  abbrev plan : PassPlan
  plan = plan_of cs key given docs names dirty clean

  puts_made : (es : List (List ℕ × Body)) → map (made_call cs) (map doc_put es) ≡ map (call_of key) (puts_of_docs (map (with_bytes cs) es))
  puts_made [] = refl
  puts_made (e ∷ es) = ap (λ (l : List StoreCall). store.Put e.0 (bytes_or (body_bytes cs e.1)) ∷ l) (puts_made es)

  removals_made : (ns : List (List ℕ)) → map (made_call cs) (map {A = List ℕ} {B = Call} (λ (n : List ℕ). Remove n) ns) ≡ map (call_of key) (map {A = List ℕ} {B = Step} (λ (n : List ℕ). RemoveDoc n) ns)
  removals_made [] = refl
  removals_made (n ∷ ns) = ap (λ (l : List StoreCall). store.Remove n ∷ l) (removals_made ns)

  index_made_if : (body : Body) (b : Bool) → map (made_call cs) (map doc_put (cond b ((index, body) ∷ []) [])) ≡ map (call_of key) (puts_of_index key (cond b (Some (bytes_or (body_bytes cs body))) None))
  index_made_if body true = refl
  index_made_if body false = refl

  index_made : (o : Option Body) → map (made_call cs) (index_put index given docs o) ≡ map (call_of key) (puts_of_index key (index_bytes cs index given o))
  index_made None = refl
  index_made (Some body) = index_made_if body (is_missing given (index, body))

  drop_made : (b : Bool) → map (made_call cs) (cond b (Remove index ∷ []) []) ≡ map (call_of key) (removals_of_index key b)
  drop_made true = refl
  drop_made false = refl

  -- lists that are made piece by piece
  pieces : (p q r s : List Call) (u : Call) → map (made_call cs) ((p ++ q) ++ ((r ++ s) ++ u ∷ []))
      ≡ map (made_call cs) p ++ (map (made_call cs) q ++ (map (made_call cs) r ++ (map (made_call cs) s ++ made_call cs u ∷ [])))
  pieces p q r s u =
      ap (map (made_call cs)) (append_assoc p q ((r ++ s) ++ u ∷ []) ∙ ap (λ (l : List Call). p ++ (q ++ l)) (append_assoc r s (u ∷ [])))
      ∙ map-append (made_call cs) p (q ++ (r ++ (s ++ u ∷ [])))
      ∙ ap (λ (l : List StoreCall). map (made_call cs) p ++ l) (map-append (made_call cs) q (r ++ (s ++ u ∷ []))
      ∙ ap (λ (l : List StoreCall). map (made_call cs) q ++ l) (map-append (made_call cs) r (s ++ u ∷ [])
      ∙ ap (λ (l : List StoreCall). map (made_call cs) r ++ l) (map-append (made_call cs) s (u ∷ []))))

  steps : (p q r s : List Step) (u : Step) → map (call_of key) (p ++ (q ++ (r ++ (s ++ u ∷ []))))
      ≡ map (call_of key) p ++ (map (call_of key) q ++ (map (call_of key) r ++ (map (call_of key) s ++ call_of key u ∷ [])))
  steps p q r s u =
      map-append (call_of key) p (q ++ (r ++ (s ++ u ∷ [])))
      ∙ ap (λ (l : List StoreCall). map (call_of key) p ++ l) (map-append (call_of key) q (r ++ (s ++ u ∷ []))
      ∙ ap (λ (l : List StoreCall). map (call_of key) q ++ l) (map-append (call_of key) r (s ++ u ∷ [])
      ∙ ap (λ (l : List StoreCall). map (call_of key) r ++ l) (map-append (call_of key) s (u ∷ []))))

  -- the calls with their bytes are those of the plan
  pub calls_made : map (made_call cs) calls ≡ plan_calls key plan
  calls_made =
      let gone : List (List ℕ) = filter (is_left_over index docs) names in
      let own : List Call = map {A = List ℕ} {B = Call} (λ (n : List ℕ). Remove n) gone in
      let other : List Step = map {A = List ℕ} {B = Step} (λ (n : List ℕ). RemoveDoc n) gone in
      ap (λ (l : List StoreCall). store.Put (state_name key) (state_text dirty) ∷ l)
      (pieces (map doc_put (written index given docs)) (index_put index given docs (get docs index)) (index_removal index docs names) own (state_put key clean)
      ∙ (λ i. puts_made (written index given docs) i ++ (index_made (get docs index) i ++ (drop_made (drops_index index docs names) i ++ (removals_made gone i ++ store.Put (state_name key) (state_text clean) ∷ []))))
      ∙ sym (steps (puts_of_docs plan.written) (puts_of_index key plan.index) (removals_of_index key plan.drops_index) other (PutState clean)))
