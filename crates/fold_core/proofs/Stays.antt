-- The documents of an id change only with an item of it.
use Rattle.std.proofs.Common.{◌≡◌, ◌<◌, ◌≤◌, ℕ, zero, suc, List, [], ◌∷◌, take, Bool, true, false, cond, ◌&&◌, ◌||◌, Option, Some, None, refl, sym, ap, ◌∙◌, arith}
use Rattle.std.proofs.lemmas.Bool.Decides.{nat_tests}
use Rattle.std.proofs.lemmas.List.{take-map}
use Rattle.std.proofs.lemmas.Slice.Eq.{bytes_eq-Decides}
use Rattle.std.specs.List.{AllByRecursion, list_any, slice_get}
use Rattle.std.specs.Option.{IfSome, option_and_then, option_map}
use Rattle.std.specs.Prelude.{IsSome, ◌==◌}
use Rattle.std.specs.Str.{bytes_eq}
use Rattle.pkg_meta.specs.Catalog.{Catalog}
use Rattle.pkg_meta.specs.declared.commit.Stored.{Stored}
use Rattle.pkg_meta.specs.Lawful.{IsLawful, Placed}
use Rattle.pkg_meta.specs.declared.commit.Commit.{Commit}
use Rattle.fold_core.specs.Docs.{MakesDocs, brought_at, brought_in, body_bytes, id_doc, docs_of, body_named, owner, part}
use Rattle.fold_core.specs.Entries.{Keeps, entries_of}
use Rattle.fold_core.specs.Items.{commits_of, items_of, stamp_at, stamp_in, touched, touched_at, touched_stamp}
use Rattle.fold_core.specs.Laws.{AreOfEntries, AreOwned, IsOfEntry, has_origin}
use Rattle.fold_core.specs.declared.doc.Body.{Body}
use Rattle.fold_core.specs.declared.doc.Body.TheVariants.{Made, Staged as FromPublish}
use Rattle.fold_core.specs.declared.doc.Doc.{Doc}
use Rattle.pkg_meta.specs.declared.entry.Entry.{Entry}
use Rattle.fold_core.proofs.Applied.{entries_none}
use Rattle.fold_core.proofs.Origins.{entries_are_old}
use Rattle.fold_core.proofs.Touches.{items_none, items_stay, touched_stays, touched_within}

get_taken : {X : Type 0} (xs : List X) (j m : ℕ) → m < j → slice_get (take j xs) m ≡ slice_get xs m
get_taken xs zero m lt = absurd (omega arith)
get_taken [] (suc j) m lt = refl
get_taken (x ∷ xs) (suc j) zero lt = refl
get_taken (x ∷ xs) (suc j) (suc m) lt = get_taken xs j m (omega arith)

stamp_taken : (cs : List Commit) (j n : ℕ) → n ≤ j → stamp_at (take j cs) n ≡ stamp_at cs n
stamp_taken cs j zero le = refl
stamp_taken cs j (suc n) le = ap stamp_in (get_taken cs j n (omega arith))

brought_taken : (cs : Catalog) (j n place : ℕ) → n ≤ j → brought_at (take j cs) n place ≡ brought_at cs n place
brought_taken cs j zero place le = refl
brought_taken cs j (suc n) place le = ap (option_and_then (brought_in place)) (get_taken cs j n (omega arith))

-- what holds of each document's name and body holds of the one that is found
found : (P : List ℕ → Body → Type 0) (name : List ℕ) (docs : List Doc) → ((d : Doc) → bytes_eq name d.name ≡ true → P d.name d.body → P name d.body)
    → AllByRecursion (λ (d : Doc). P d.name d.body) docs → IfSome (body_named name docs) (P name)
found P name [] same all = tt
found P name (d ∷ docs) same all =
    elim (bytes_eq name d.name) as (λ (b : Bool). bytes_eq name d.name ≡ b → IfSome (cond b (Some d.body) (body_named name docs)) (P name)) [
      | true ↦ λ is. same d is all.0
      | false ↦ λ is. found P name docs same all.1
    ] refl

first_test : (x y : ℕ) (b : Bool) → ((x == y) && b) ≡ true → x ≡ y
first_test x y b e = grind (arith, nat_tests)

skipped : (a b : Bool) → a ≡ false → (a || b) ≡ true → b ≡ true
skipped true b e is = cc
skipped false b e is = is

-- an origin among the entries of the first j commits is one of them
origin_old : (number place j : ℕ) (es : List Entry) → AllByRecursion (λ (e : Entry). (e.details.origin_number ≤ e.number) × (e.number ≤ j)) es
    → list_any (has_origin number place) es ≡ true → number ≤ j
origin_old number place j [] old is = cc
origin_old number place j (e ∷ es) old is =
    elim (has_origin number place e) as (λ (b : Bool). has_origin number place e ≡ b → number ≤ j) [
      | true ↦ λ here. let same : e.details.origin_number ≡ number = first_test e.details.origin_number number _ here in omega (arith, same, old.0.0, old.0.1)
      | false ↦ λ here. origin_old number place j es old.1 (skipped (has_origin number place e) (list_any (has_origin number place) es) here is)
    ] refl

body_stays : (cs : Catalog) (j k : ℕ) (es : List Entry) (body : Body) → j ≤ k → AllByRecursion (λ (e : Entry). (e.details.origin_number ≤ e.number) × (e.number ≤ j)) es
    → IsOfEntry es body → body_bytes (take j cs) body ≡ body_bytes (take k cs) body
body_stays cs j k es (Made bytes) le old is = refl
body_stays cs j k es (FromPublish number place nuspec) le old is =
    let early : number ≤ j = origin_old number place j es old is in
    ap (option_map (part nuspec)) (brought_taken cs j number place early ∙ sym (brought_taken cs k number place (omega arith)))

found_stays : (cs : Catalog) (j k : ℕ) (es : List Entry) (o : Option Body) → j ≤ k → AllByRecursion (λ (e : Entry). (e.details.origin_number ≤ e.number) × (e.number ≤ j)) es
    → IfSome o (IsOfEntry es) → option_and_then (body_bytes (take j cs)) o ≡ option_and_then (body_bytes (take k cs)) o
found_stays cs j k es None le old is = refl
found_stays cs j k es (Some body) le old is = body_stays cs j k es body le old is

fronts : (cs : Catalog) (j : ℕ) → commits_of (take j cs) ≡ take j (commits_of cs)
fronts cs j = sym (take-map (λ (c : Stored). c.commit) j cs)

module _ (keeps : Keeps) (makes : MakesDocs) (base key : List ℕ) where
  -- the documents after the first k commits
  abbrev docs_at : List Commit → ℕ → List Doc
  docs_at cs k = docs_of keeps makes base (take k cs) key

  docs_stay : (cs : List Commit) (j k : ℕ) → j ≤ k → touched_at cs key k ≤ j → docs_at cs j ≡ docs_at cs k
  docs_stay cs j k le last =
      let same : touched_at cs key j ≡ touched_at cs key k = touched_stays cs key j k le last in
      let within : touched_at cs key j ≤ j = touched_within cs key j in
      let stamps : touched_stamp (take j cs) key ≡ touched_stamp (take k cs) key =
      stamp_taken cs j (touched_at cs key j) within
      ∙ ap (stamp_at cs) same
      ∙ sym (stamp_taken cs k (touched_at cs key k) (touched_within cs key k)) in
      ap (λ (n : ℕ). makes base key n (touched_stamp (take j cs) key) (entries_of keeps (items_of (take j cs) key))) same
      ∙ ap (λ (n : ℕ). makes base key (touched_at cs key k) n (entries_of keeps (items_of (take j cs) key))) stamps
      ∙ ap (λ (l : List Placed). makes base key (touched_at cs key k) (touched_stamp (take k cs) key) (entries_of keeps l)) (items_stay cs key j k le last)

  pub docs_same : ((number stamp : ℕ) (es : List Entry) → AreOfEntries es (makes base key number stamp es)) → (cs : Catalog) (j k : ℕ) → IsLawful cs → j ≤ k
      → touched_at (commits_of cs) key k ≤ j → (name : List ℕ) → id_doc keeps makes base (take j cs) key name ≡ id_doc keeps makes base (take k cs) key name
  docs_same staged cs j k lawful le last name =
      let commits : List Commit = commits_of cs in
      let es : List Entry = entries_of keeps (items_of (take j commits) key) in
      ap (λ (l : List Commit). option_and_then (body_bytes (take j cs)) (body_named name (docs_of keeps makes base l key))) (fronts cs j)
      ∙ found_stays cs j k es (body_named name (docs_at commits j)) le (entries_are_old keeps cs key j lawful)
      (found (λ n. IsOfEntry es) name (docs_at commits j) (λ d is h. h) (staged (touched_at commits key j) (touched_stamp (take j commits) key) es))
      ∙ ap (λ (l : List Doc). option_and_then (body_bytes (take k cs)) (body_named name l)) (docs_stay commits j k le last)
      ∙ sym (ap (λ (l : List Commit). option_and_then (body_bytes (take k cs)) (body_named name (docs_of keeps makes base l key))) (fronts cs k))

  pub docs_none : ((number stamp : ℕ) → makes base key number stamp [] ≡ []) → (cs : Catalog) → touched (commits_of cs) key ≡ 0
      → (name : List ℕ) → id_doc keeps makes base cs key name ≡ None
  docs_none empty cs none name =
      ap (λ (l : List Placed). option_and_then (body_bytes cs) (body_named name (makes base key (touched (commits_of cs) key) (touched_stamp (commits_of cs) key) (entries_of keeps l)))) (items_none (commits_of cs) key none)
      ∙ ap (λ (l : List Entry). option_and_then (body_bytes cs) (body_named name (makes base key (touched (commits_of cs) key) (touched_stamp (commits_of cs) key) l))) (entries_none keeps)
      ∙ ap (λ (l : List Doc). option_and_then (body_bytes cs) (body_named name l)) (empty (touched (commits_of cs) key) (touched_stamp (commits_of cs) key))

  owned_found : (cs : Catalog) (name : List ℕ) (o : Option Body) → IfSome o (λ _. owner name ≡ Some key) → IsSome (option_and_then (body_bytes cs) o) → owner name ≡ Some key
  owned_found cs name None h is = cc
  owned_found cs name (Some body) h is = h

  pub docs_owned : ((number stamp : ℕ) (es : List Entry) → AreOwned key (makes base key number stamp es)) → (cs : Catalog)
      → (name : List ℕ) → IsSome (id_doc keeps makes base cs key name) → owner name ≡ Some key
  docs_owned owned cs name is =
      let docs : List Doc = docs_of keeps makes base (commits_of cs) key in
      owned_found cs name (body_named name docs)
      (found (λ n _. owner n ≡ Some key) name docs (λ d e h. ap owner ((bytes_eq-Decides name d.name).0 e) ∙ h)
      (owned (touched (commits_of cs) key) (touched_stamp (commits_of cs) key) (entries_of keeps (items_of (commits_of cs) key))))
      is
