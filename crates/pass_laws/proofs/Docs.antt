-- The documents of a state that is from scratch, by name, and their bytes.
use Rattle.std.proofs.Common.{◌≡◌, ◌⊎◌, inl, inr, ℕ, zero, suc, List, [], ◌∷◌, take, Bool, true, false, cond, Option, Some, None, IsSome, refl, sym, ap, ◌∙◌, subst}
use Rattle.std.specs.List.{slice_get}
use Rattle.std.specs.Option.{option_and_then, option_map}
use Rattle.std.specs.FinMap.{get}
use Rattle.std.specs.Str.{bytes_eq}
use Rattle.pkg_meta.specs.Catalog.{Catalog}
use Rattle.pkg_meta.specs.Lawful.{IsLawful}
use Rattle.pkg_meta.specs.declared.commit.Commit.{Commit}
use Rattle.pkg_meta.specs.declared.commit.Stored.{Stored}
use Rattle.pkg_meta.specs.declared.entry.Entry.{Entry}
use Rattle.pkg_meta.specs.declared.state.StateDoc.{StateDoc}
use Rattle.fold_core.specs.Docs.{MakesDocs, brought_in, body_bytes, docs_of, body_named, part}
use Rattle.fold_core.specs.Entries.{Keeps, entries_of}
use Rattle.fold_core.specs.Folds.{Fold, fold_of, made_at}
use Rattle.fold_core.specs.Items.{commits_of, items_of, touched, touched_stamp}
use Rattle.fold_core.specs.Laws.{AreOfEntries, IsOfEntry}
use Rattle.fold_core.specs.Sound.{IsScratch}
use Rattle.fold_core.specs.declared.doc.Body.{Body}
use Rattle.fold_core.specs.declared.doc.Body.TheVariants.{Made, Staged as FromPublish}
use Rattle.fold_core.specs.declared.doc.Doc.{Doc}
use Rattle.hive_laws.proofs.Fronts.{fronts_lawful}
use Rattle.hive_laws.proofs.Looks.{no_some}
use Rattle.id_pass.specs.Named.{NamedBodies, by_name}
use Rattle.id_pass.specs.Passes.{docs_by}
use Rattle.pass_laws.proofs.Maps.{get-by_name}
use Rattle.pass_laws.proofs.Origins.{body_there, entries_there}
use Rattle.pass_laws.proofs.Taken.{fronts}

-- the document that is found is of one of the entries
of_entry : (es : List Entry) (docs : List Doc) (name : List ℕ) (body : Body) → AreOfEntries es docs → body_named name docs ≡ Some body → IsOfEntry es body
of_entry es [] name body all is = absurd (let no : ⊥ = cc in no)
of_entry es (d ∷ docs) name body all is =
    elim (bytes_eq name d.name) as (λ (b : Bool). cond b (Some d.body) (body_named name docs) ≡ Some body → IsOfEntry es body) [
      | true ↦ λ here. let same : d.body ≡ body = cc in subst (IsOfEntry es) same all.0
      | false ↦ λ there. of_entry es docs name body all.1 there
    ] is

-- what stands at a place of a front
taken_get : {X : Type 0} (xs : List X) (j n : ℕ) → (slice_get (take j xs) n ≡ slice_get xs n) ⊎ (slice_get (take j xs) n ≡ None)
taken_get xs zero n = inr refl
taken_get [] (suc j) n = inl refl
taken_get (x ∷ xs) (suc j) zero = inl refl
taken_get (x ∷ xs) (suc j) (suc n) = taken_get xs j n

-- bytes that the first commits have stay
pub bytes_stay : (cs : Catalog) (j : ℕ) (body : Body) → IsSome (body_bytes (take j cs) body) → body_bytes (take j cs) body ≡ body_bytes cs body
bytes_stay cs j (Made bytes) some = refl
bytes_stay cs j (FromPublish zero place nuspec) some = refl
bytes_stay cs j (FromPublish (suc n) place nuspec) some = stay (taken_get cs j n)
  where
    stay : (slice_get (take j cs) n ≡ slice_get cs n) ⊎ (slice_get (take j cs) n ≡ None) → body_bytes (take j cs) (FromPublish (suc n) place nuspec) ≡ body_bytes cs (FromPublish (suc n) place nuspec)
    stay (inl same) = ap (λ (o : Option Stored). option_map (part nuspec) (option_and_then (brought_in place) o)) same
    stay (inr none) = absurd (no_some (body_bytes (take j cs) (FromPublish (suc n) place nuspec)) (ap (λ (o : Option Stored). option_map (part nuspec) (option_and_then (brought_in place) o)) none) some)

module _ (keeps : Keeps) (makes : MakesDocs) (base key : List ℕ) (staged : (number stamp : ℕ) (es : List Entry) → AreOfEntries es (makes base key number stamp es))
    (cs : Catalog) (lawful : IsLawful cs) (s : StateDoc) (scratch : IsScratch (fold_of keeps makes base) cs key s) where
  abbrev f : Fold
  f = fold_of keeps makes base

  abbrev docs : NamedBodies
  docs = docs_by makes base key s

  abbrev was : Catalog
  was = take s.at cs

  touched_is : s.touched ≡ touched (commits_of was) key
  touched_is = scratch.touched ∙ ap (λ (l : List Commit). touched l key) (sym (fronts cs s.at))

  docs_are : docs ≡ by_name (docs_of keeps makes base (commits_of was) key)
  docs_are = λ i. by_name (makes base key (touched_is i) (scratch.stamp i) (scratch.entries i))

  get_is : (name : List ℕ) → get docs name ≡ body_named name (docs_of keeps makes base (commits_of was) key)
  get_is name = ap (λ (m : NamedBodies). get m name) docs_are ∙ get-by_name (docs_of keeps makes base (commits_of was) key) name

  made_is : (name : List ℕ) → made_at f cs key s.at name ≡ option_and_then (body_bytes was) (get docs name)
  made_is name = ap (option_and_then (body_bytes was)) (sym (get_is name))

  body_was : (name : List ℕ) (body : Body) → get docs name ≡ Some body → IsSome (body_bytes was body)
  body_was name body is =
      let es : List Entry = entries_of keeps (items_of (commits_of was) key) in
      body_there was es body (entries_there was keeps key (fronts_lawful cs s.at lawful).commits)
      (of_entry es (docs_of keeps makes base (commits_of was) key) name body
      (staged (touched (commits_of was) key) (touched_stamp (commits_of was) key) es) (sym (get_is name) ∙ is))

  -- the catalog has the bytes of each document
  pub body_has : (name : List ℕ) (body : Body) → get docs name ≡ Some body → IsSome (body_bytes cs body)
  body_has name body is = subst IsSome (bytes_stay cs s.at body (body_was name body is)) (body_was name body is)

  -- and they are those that the commits up to the state's `at` make
  pub made_of : (name : List ℕ) (body : Body) → get docs name ≡ Some body → made_at f cs key s.at name ≡ body_bytes cs body
  made_of name body is = made_is name ∙ ap (option_and_then (body_bytes was)) is ∙ bytes_stay cs s.at body (body_was name body is)

  pub made_none : (name : List ℕ) → get docs name ≡ None → made_at f cs key s.at name ≡ None
  made_none name is = made_is name ∙ ap (option_and_then (body_bytes was)) is

  pub made_some : (name : List ℕ) → IsSome (get docs name) → IsSome (made_at f cs key s.at name)
  made_some name some = some_by (get docs name) refl some
    where
      some_by : (o : Option Body) → get docs name ≡ o → IsSome o → IsSome (made_at f cs key s.at name)
      some_by None is some = absurd (no_some {A = Body} None refl some)
      some_by (Some body) is some = subst IsSome (sym (made_of name body is)) (body_has name body is)

  pub get_some : (name : List ℕ) → IsSome (made_at f cs key s.at name) → (body : Body) × (get docs name ≡ Some body)
  get_some name some = get_by (get docs name) refl
    where
      get_by : (o : Option Body) → get docs name ≡ o → (body : Body) × (get docs name ≡ Some body)
      get_by None is = absurd (no_some (made_at f cs key s.at name) (made_none name is) some)
      get_by (Some body) is = (body, is)

  pub get_none : (name : List ℕ) → made_at f cs key s.at name ≡ None → get docs name ≡ None
  get_none name none = none_by (get docs name) refl
    where
      none_by : (o : Option Body) → get docs name ≡ o → o ≡ None
      none_by None is = refl
      none_by (Some body) is = absurd (no_some (body_bytes cs body) (sym (made_of name body is) ∙ none) (body_has name body is))
