-- What is held for sure beside a stored state is held as it should be.
use Rattle.std.proofs.Common.{◌≡◌, ℕ, List, Bool, true, false, cond, not, ◌&&◌, Option, Some, None, refl, sym, ap, ◌∙◌, arith}
use Rattle.std.proofs.lemmas.Bool.Decides.{nat_tests}
use Rattle.std.specs.FinMap.{empty, get, get-empty}
use Rattle.std.specs.Prelude.{◌==◌}
use Rattle.std.specs.Cmp.Lexicographic.{slice_cmp}
use Rattle.std.specs.Ordering.{nat_cmp}
use Rattle.std.specs.Option.{option_map_or}
use Rattle.pkg_meta.specs.Catalog.{Catalog}
use Rattle.pkg_meta.specs.Lawful.{IsLawful}
use Rattle.pkg_meta.specs.declared.entry.Entry.{Entry}
use Rattle.pkg_meta.specs.declared.state.StateDoc.{StateDoc}
use Rattle.fold_core.specs.Docs.{MakesDocs, body_bytes, owner}
use Rattle.fold_core.specs.Entries.{Keeps}
use Rattle.fold_core.specs.Folds.{Fold, Look, fold_of}
use Rattle.fold_core.specs.Laws.{AreOfEntries}
use Rattle.fold_core.specs.Sound.{HasState}
use Rattle.fold_core.specs.declared.doc.Body.{Body}
use Rattle.fold_core.specs.declared.doc.Body.TheVariants.{Made, Staged as FromPublish}
use Rattle.id_pass.specs.Named.{NamedBodies, has_document, is_same_body}
use Rattle.id_pass.specs.Passes.{docs_by, docs_given}
use Rattle.pass_laws.proofs.Docs.{made_of}
use Rattle.pass_laws.proofs.Maps.{equal_bytes}

same_flag : (a b : Bool) → cond a b (not b) ≡ true → a ≡ b
same_flag true true is = refl
same_flag true false is = absurd (let no : ⊥ = cc in no)
same_flag false true is = absurd (let no : ⊥ = cc in no)
same_flag false false is = refl

number_test : (x y : ℕ) (b : Bool) → ((x == y) && b) ≡ true → x ≡ y
number_test x y b e = grind (arith, nat_tests)

rest_test : (a b : Bool) → (a && b) ≡ true → b ≡ true
rest_test true b is = is
rest_test false b is = absurd (let no : ⊥ = cc in no)

pub same_body : (body other : Body) → is_same_body body other ≡ true → body ≡ other
same_body (Made bytes) (Made others) is = ap Made (equal_bytes bytes others is)
same_body (Made bytes) (FromPublish number place nuspec) is = absurd (let no : ⊥ = cc in no)
same_body (FromPublish number place nuspec) (Made others) is = absurd (let no : ⊥ = cc in no)
same_body (FromPublish number place nuspec) (FromPublish n p other) is =
    let numbers : number ≡ n = number_test number n ((place == p) && cond nuspec other (not other)) is in
    let rest : ((place == p) && cond nuspec other (not other)) ≡ true = rest_test (number == n) ((place == p) && cond nuspec other (not other)) is in
    let places : place ≡ p = number_test place p (cond nuspec other (not other)) rest in
    let flags : nuspec ≡ other = same_flag nuspec other (rest_test (place == p) (cond nuspec other (not other)) rest) in
    λ i. FromPublish (numbers i) (places i) (flags i)

-- a document that is there stands under its name
document_is : (o : Option Body) (body : Body) → option_map_or (is_same_body body) o false ≡ true → o ≡ Some body
document_is None body is = absurd (let no : ⊥ = cc in no)
document_is (Some other) body is = ap Some (sym (same_body body other is))

pub has_is : (docs : NamedBodies) (name : List ℕ) (body : Body) → has_document docs name body ≡ true → get docs name ≡ Some body
has_is docs name body is = document_is (get docs name) body is

none_in_empty : (name : List ℕ) (body : Body) → get (empty {X = Body} {R = slice_cmp nat_cmp}) name ≡ Some body → ⊥
none_in_empty name body is = let none : get (empty {X = Body} {R = slice_cmp nat_cmp}) name ≡ None = get-empty {X = Body} (slice_cmp nat_cmp) name in cc

module _ (keeps : Keeps) (makes : MakesDocs) (base key : List ℕ) (staged : (number stamp : ℕ) (es : List Entry) → AreOfEntries es (makes base key number stamp es))
    (cs : Catalog) (lawful : IsLawful cs) (c : ℕ) (held : Look (List ℕ)) where
  abbrev f : Fold
  f = fold_of keeps makes base

  pub given_held : (old : Option StateDoc) → HasState f cs c key old held → (name : List ℕ) (body : Body) → get (docs_given makes base key old) name ≡ Some body
      → owner name ≡ Some key → held name ≡ body_bytes cs body
  given_held None state name body is owned = absurd (none_in_empty name body is)
  given_held (Some s) state name body is owned =
      elim s.dirty as (λ (b : Bool). s.dirty ≡ b → get (cond b empty (docs_by makes base key s)) name ≡ Some body → held name ≡ body_bytes cs body) [
        | true ↦ λ dirty here. absurd (none_in_empty name body here)
        | false ↦ λ clean here. (state.1.exact clean).0 name owned ∙ made_of keeps makes base key staged cs lawful s state.0.scratch name body here
      ] refl is
