-- The content documents have the laws of a hive's documents.
use Rattle.std.specs.Prelude.{◌≡◌, ◌≢◌, ◌<◌, ◌+◌, ℕ, List, [], ◌∷◌, ◌++◌, length, map, flat_map, codes, Bool, true, false, ◌==◌, ◌||◌, Some, IsSome, refl}
use Rattle.std.proofs.Common.{arith, sym, ap, ◌∙◌}
use Rattle.std.proofs.lemmas.Bool.Decides.{nat_tests}
use Rattle.std.proofs.lemmas.List.{append_cancel_left, length-append}
use Rattle.std.specs.List.{AllByRecursion, IsDistinct, list_any}
use Rattle.std.specs.List.Sorted.{IsStrictlySortedBy}
use Rattle.std.specs.Str.{bytes_eq}
use Rattle.std.specs.declared.cmp.Ordering.TheVariants.{Less}
use Rattle.nuget_version.specs.Precedence.{precedence}
use Rattle.nuget_version.proofs.Forms.{key-no_slash, key_filled}
use Rattle.fold_core.specs.Docs.{before_slash, id_index_name, body_named, name_below}
use Rattle.fold_core.proofs.DocNames.{apart, found_first, owner_of, whole_front}
use Rattle.fold_core.proofs.Versions.{other_key}
use Rattle.pkg_meta.specs.Entries.{AreRising, key_in, version_in}
use Rattle.fold_core.specs.Laws.{AreOfEntries, AreOwned, HaveOwnNames, IsOfEntry, IsWhole, has_origin}
use Rattle.fold_core.specs.declared.doc.Body.{Body}
use Rattle.fold_core.specs.declared.doc.Body.TheVariants.{Made, Staged as FromPublish}
use Rattle.fold_core.specs.declared.doc.Doc.{Doc}
use Rattle.pkg_meta.specs.declared.entry.Entry.{Entry}
use Rattle.flat_container.specs.Documents.{content_docs, file_docs, index_doc}

files_owned : (key : List ℕ) (es : List Entry) → IsWhole key → AreOwned key (flat_map (file_docs key) es)
files_owned key [] whole = tt
files_owned key (e ∷ es) whole = (owner_of key _ whole, (owner_of key _ whole, files_owned key es whole))

pub content_docs_owned : (base key : List ℕ) (number stamp : ℕ) (es : List Entry) → IsWhole key → AreOwned key (content_docs base key number stamp es)
content_docs_owned base key number stamp [] whole = tt
content_docs_owned base key number stamp (e ∷ es) whole = (owner_of key _ whole, files_owned key (e ∷ es) whole)

inside : (x y : List ℕ) → Some x ≡ Some y → x ≡ y
inside x y e = cc

-- the part of a file's name before its last `/` is its version's key
front_of : (e : Entry) (rest : List ℕ) → before_slash (key_in e ++ (codes "/" ++ rest)) ≡ Some (key_in e)
front_of e rest = whole_front (key_in e) rest (key-no_slash (version_in e))

not_index : (e : Entry) (rest : List ℕ) → codes "index.json" ≢ key_in e ++ (codes "/" ++ rest)
not_index e rest same = cc (ap before_slash same ∙ front_of e rest)

other_version : (e f : Entry) (rest more : List ℕ) → precedence (version_in e) (version_in f) ≡ Less → key_in e ++ (codes "/" ++ rest) ≢ key_in f ++ (codes "/" ++ more)
other_version e f rest more less same =
    other_key e f less (inside (key_in e) (key_in f) (sym (front_of e rest) ∙ ap before_slash same ∙ front_of f more))

-- a package's name isn't that of its manifest
other_kind : (key : List ℕ) (e : Entry) → key_in e ++ (codes "/" ++ (key ++ (codes "." ++ (key_in e ++ codes ".nupkg")))) ≢ key_in e ++ (codes "/" ++ (key ++ codes ".nuspec"))
other_kind key e same =
    let ends : codes "." ++ (key_in e ++ codes ".nupkg") ≡ codes ".nuspec" =
    append_cancel_left key _ _ (append_cancel_left (codes "/") _ _ (append_cancel_left (key_in e) _ _ same)) in
    let long : length (codes "." ++ (key_in e ++ codes ".nupkg")) ≡ 7 = ap length ends in
    let parts : length (key_in e ++ codes ".nupkg") ≡ length (key_in e) + 6 = length-append (key_in e) (codes ".nupkg") in
    let filled : 0 < length (key_in e) = key_filled (version_in e) in
    omega (arith, long, parts, filled)

index_apart : (key : List ℕ) (es : List Entry) → AllByRecursion (λ y. bytes_eq (id_index_name key) y ≡ false) (map (λ (d : Doc). d.name) (flat_map (file_docs key) es))
index_apart key [] = tt
index_apart key (e ∷ es) = (apart key _ _ (not_index e _), (apart key _ _ (not_index e _), index_apart key es))

file_apart : (key : List ℕ) (e : Entry) (rest : List ℕ) (es : List Entry) → AllByRecursion (λ w. precedence (version_in e) w ≡ Less) (map version_in es)
    → AllByRecursion (λ y. bytes_eq (name_below key (key_in e ++ (codes "/" ++ rest))) y ≡ false) (map (λ (d : Doc). d.name) (flat_map (file_docs key) es))
file_apart key e rest [] below = tt
file_apart key e rest (f ∷ es) below =
    (apart key _ _ (other_version e f rest _ below.0), (apart key _ _ (other_version e f rest _ below.0), file_apart key e rest es below.1))

files_distinct : (key : List ℕ) (es : List Entry) → AreRising es → HaveOwnNames (flat_map (file_docs key) es)
unfolding IsDistinct IsStrictlySortedBy
files_distinct key [] rising = tt
files_distinct key (e ∷ es) rising =
    ((apart key _ _ (other_kind key e), file_apart key e _ es rising.0), (file_apart key e _ es rising.0, files_distinct key es rising.1))

pub content_docs_distinct : (base key : List ℕ) (number stamp : ℕ) (es : List Entry) → AreRising es → HaveOwnNames (content_docs base key number stamp es)
unfolding IsDistinct
content_docs_distinct base key number stamp [] rising = tt
content_docs_distinct base key number stamp (e ∷ es) rising = (index_apart key (e ∷ es), files_distinct key (e ∷ es) rising)

pub content_docs_indexed : (base key : List ℕ) (number stamp : ℕ) (es : List Entry) → es ≢ [] → IsSome (body_named (id_index_name key) (content_docs base key number stamp es))
content_docs_indexed base key number stamp [] some = absurd (some refl)
content_docs_indexed base key number stamp (e ∷ es) some = found_first (id_index_name key) (index_doc key (e ∷ es)) (flat_map (file_docs key) (e ∷ es)) refl

or_true : (a b : Bool) → b ≡ true → (a || b) ≡ true
or_true true b h = refl
or_true false b h = h

tied : (n : ℕ) → (n == n) ≡ true
tied n = grind (arith, nat_tests)

own_origin : (e : Entry) (es : List Entry) → list_any (has_origin e.details.origin_number e.details.origin_place) (e ∷ es) ≡ true
own_origin e es = rw (tied e.details.origin_number) (rw (tied e.details.origin_place) refl)

of_more : (e : Entry) (es : List Entry) (body : Body) → IsOfEntry es body → IsOfEntry (e ∷ es) body
of_more e es (Made bytes) h = tt
of_more e es (FromPublish number place nuspec) h = or_true (has_origin number place e) (list_any (has_origin number place) es) h

docs_of_more : (e : Entry) (es : List Entry) (docs : List Doc) → AreOfEntries es docs → AreOfEntries (e ∷ es) docs
docs_of_more e es [] h = tt
docs_of_more e es (d ∷ docs) h = (of_more e es d.body h.0, docs_of_more e es docs h.1)

files_of_entries : (key : List ℕ) (es : List Entry) → AreOfEntries es (flat_map (file_docs key) es)
files_of_entries key [] = tt
files_of_entries key (e ∷ es) = (own_origin e es, (own_origin e es, docs_of_more e es (flat_map (file_docs key) es) (files_of_entries key es)))

pub content_docs_staged : (base key : List ℕ) (number stamp : ℕ) (es : List Entry) → AreOfEntries es (content_docs base key number stamp es)
content_docs_staged base key number stamp [] = tt
content_docs_staged base key number stamp (e ∷ es) = (tt, files_of_entries key (e ∷ es))
