-- The registration documents have the laws of a hive's documents.
use Rattle.std.specs.Prelude.{◌≡◌, ◌≢◌, ◌<◌, ℕ, zero, suc, List, [], ◌∷◌, ◌++◌, length, map, drop, codes, Bool, true, false, Option, Some, IsSome, if◌then◌else◌, refl}
use Rattle.std.proofs.Common.{arith, get_or, sym, ap, ◌∙◌, subst}
use Rattle.std.proofs.lemmas.List.{append_cancel_left, append_cancel_right, map-append}
use Rattle.std.specs.List.{AllByRecursion, IsDistinct}
use Rattle.std.specs.List.Sorted.{IsStrictlySortedBy}
use Rattle.std.specs.Str.{bytes_eq}
use Rattle.std.specs.declared.cmp.Ordering.TheVariants.{Less}
use Rattle.nuget_version.specs.Precedence.{precedence}
use Rattle.nuget_version.specs.Printed.{key_text}
use Rattle.nuget_version.specs.declared.version.Version.{Version}
use Rattle.nuget_version.proofs.Forms.{key-no_slash}
use Rattle.fold_core.specs.Docs.{before_slash, id_index_name, body_named, name_below, owner}
use Rattle.fold_core.proofs.DocNames.{apart, found_first, owner_of, whole_front}
use Rattle.fold_core.proofs.Versions.{other_key}
use Rattle.pkg_meta.specs.Entries.{AreRising, key_in, version_in}
use Rattle.fold_core.specs.Laws.{AreOfEntries, AreOwned, HaveOwnNames, IsOfEntry, IsWhole}
use Rattle.fold_core.specs.declared.doc.Doc.{Doc}
use Rattle.pkg_meta.specs.declared.entry.Entry.{Entry}
use Rattle.reg_docs.specs.Addresses.{root_of}
use Rattle.reg_docs.specs.Documents.{docs_below, registration_index_doc, registration_leaf_doc, registration_page_doc, registration_page_docs, registration_docs}
use Rattle.reg_docs.specs.Pages.{cut, cut_within, first_in, form_of, is_inlined, last_in}
use Rattle.reg_docs.specs.declared.addresses.RegistrationHive.{RegistrationHive}
use Rattle.reg_docs.specs.Keys.{key_starts}

-- what holds of all of two lists
all_of_both : {A : Type 0} (P : A → Type 0) (xs ys : List A) → AllByRecursion P xs → AllByRecursion P ys → AllByRecursion P (xs ++ ys)
all_of_both P [] ys p q = q
all_of_both P (x ∷ xs) ys p q = (p.0, all_of_both P xs ys p.1 q)

-- what holds of each made document
all_made : {A : Type 0} (P : Doc → Type 0) (make : A → Doc) → ((a : A) → P (make a)) → (xs : List A) → AllByRecursion P (map make xs)
all_made P make holds [] = tt
all_made P make holds (x ∷ xs) = (holds x, all_made P make holds xs)

-- what holds of an index, each page and each leaf
module _ (P : Doc → Type 0) (base root key : List ℕ) (page : (run : List Entry) → P (registration_page_doc base root key run)) (leaf : (e : Entry) → P (registration_leaf_doc base root key e)) where
  all_pages : (es : List Entry) → AllByRecursion P (registration_page_docs base root key es)
  all_pages es = elim (is_inlined es) as (λ (t : Bool). AllByRecursion P (if t then [] else map (registration_page_doc base root key) (cut es))) [
    | true ↦ tt
    | false ↦ all_made P (registration_page_doc base root key) page (cut es)
  ]

  all_docs : (number stamp : ℕ) (es : List Entry) → ((es : List Entry) → P (registration_index_doc base root key number stamp es))
      → AllByRecursion P (docs_below base root key number stamp es)
  all_docs number stamp [] index = tt
  all_docs number stamp (e ∷ es) index =
      (index (e ∷ es), all_of_both P (registration_page_docs base root key (e ∷ es)) (map (registration_leaf_doc base root key) (e ∷ es)) (all_pages (e ∷ es)) (all_made P (registration_leaf_doc base root key) leaf (e ∷ es)))

pub registration_docs_owned : (hive : RegistrationHive) (base key : List ℕ) (number stamp : ℕ) (es : List Entry) → IsWhole key
    → AreOwned key (registration_docs hive base key number stamp es)
registration_docs_owned hive base key number stamp es whole =
    all_docs (λ (d : Doc). owner d.name ≡ Some key) base (root_of base hive) key (λ run. owner_of key _ whole) (λ e. owner_of key _ whole)
    number stamp es (λ es'. owner_of key _ whole)

pub registration_docs_staged : (hive : RegistrationHive) (base key : List ℕ) (number stamp : ℕ) (es : List Entry) → AreOfEntries es (registration_docs hive base key number stamp es)
registration_docs_staged hive base key number stamp es =
    all_docs (λ (d : Doc). IsOfEntry es d.body) base (root_of base hive) key (λ run. tt) (λ e. tt) number stamp es (λ es'. tt)

pub registration_docs_indexed : (hive : RegistrationHive) (base key : List ℕ) (number stamp : ℕ) (es : List Entry) → es ≢ []
    → IsSome (body_named (id_index_name key) (registration_docs hive base key number stamp es))
registration_docs_indexed hive base key number stamp [] some = absurd (some refl)
registration_docs_indexed hive base key number stamp (e ∷ es) some =
    found_first (id_index_name key) (registration_index_doc base (root_of base hive) key number stamp (e ∷ es))
    (registration_page_docs base (root_of base hive) key (e ∷ es) ++ map (registration_leaf_doc base (root_of base hive) key) (e ∷ es)) refl

-- the names behind a key's folder
abbrev leaf_end : Entry → List ℕ
leaf_end e = key_in e ++ codes ".json"

abbrev page_end : List Entry → List ℕ
page_end run = codes "page/" ++ (form_of key_text (first_in run) ++ (codes "/" ++ (form_of key_text (last_in run) ++ codes ".json")))

-- an index's name and a page's begin with a letter, a leaf's with a digit
not_leaf : (e : Entry) (b : ℕ) (rest : List ℕ) → 57 < b → b ∷ rest ≢ leaf_end e
not_leaf e b rest letter same =
    let s = key_starts (version_in e) in
    let all : b ∷ rest ≡ s.first ∷ (s.rest ++ codes ".json") = same ∙ ap (λ (t : List ℕ). t ++ codes ".json") s.parts in
    let first : b ≡ s.first = cc in
    omega (arith, first, s.digit, letter)

-- a name behind the folder is none of those of leaves
none_of_leaves : (base root key r : List ℕ) (es : List Entry) → ((e : Entry) → r ≢ leaf_end e)
    → AllByRecursion (λ y. bytes_eq (name_below key r) y ≡ false) (map (λ (d : Doc). d.name) (map (registration_leaf_doc base root key) es))
none_of_leaves base root key r [] other = tt
none_of_leaves base root key r (e ∷ es) other = (apart key r _ (other e), none_of_leaves base root key r es other)

-- nor of those of pages
none_of_pages : (base root key r : List ℕ) (runs : List (List Entry)) → AllByRecursion (λ run. r ≢ page_end run) runs
    → AllByRecursion (λ y. bytes_eq (name_below key r) y ≡ false) (map (λ (d : Doc). d.name) (map (registration_page_doc base root key) runs))
none_of_pages base root key r [] other = tt
none_of_pages base root key r (run ∷ runs) other = (apart key r _ other.0, none_of_pages base root key r runs other.1)

inside : (x y : List ℕ) → Some x ≡ Some y → x ≡ y
inside x y e = cc

before_end : (e : Entry) (rest : List ℕ) → before_slash (key_in e ++ (codes "/" ++ rest)) ≡ Some (key_in e)
before_end e rest = whole_front (key_in e) rest (key-no_slash (version_in e))

-- leaves of rising versions have names of their own
other_leaf : (e f : Entry) → precedence (version_in e) (version_in f) ≡ Less → leaf_end e ≢ leaf_end f
other_leaf e f less same = other_key e f less (append_cancel_right (key_in e) (key_in f) (codes ".json") same)

leaves_apart : (base root key : List ℕ) (e : Entry) (es : List Entry) → AllByRecursion (λ w. precedence (version_in e) w ≡ Less) (map version_in es)
    → AllByRecursion (λ y. bytes_eq (name_below key (leaf_end e)) y ≡ false) (map (λ (d : Doc). d.name) (map (registration_leaf_doc base root key) es))
leaves_apart base root key e [] below = tt
leaves_apart base root key e (f ∷ es) below = (apart key _ _ (other_leaf e f below.0), leaves_apart base root key e es below.1)

leaves_distinct : (base root key : List ℕ) (es : List Entry) → AreRising es → HaveOwnNames (map (registration_leaf_doc base root key) es)
unfolding IsDistinct IsStrictlySortedBy
leaves_distinct base root key [] rising = tt
leaves_distinct base root key (e ∷ es) rising = (leaves_apart base root key e es rising.0, leaves_distinct base root key es rising.1)

-- the first version of a run is above this one
record IsAbove (v : Version) (run : List Entry) : Type 0 where
  first : Entry
  is_first : first_in run ≡ Some first
  above : precedence v (version_in first) ≡ Less

-- what is below all is below those behind the first k
all_dropped : (P : Version → Type 0) (k : ℕ) (es : List Entry) → AllByRecursion P (map version_in es) → AllByRecursion P (map version_in (drop k es))
all_dropped P zero es all = all
all_dropped P (suc k) [] all = tt
all_dropped P (suc k) (e ∷ es) all = all_dropped P k es all.1

rising_dropped : (k : ℕ) (es : List Entry) → AreRising es → AreRising (drop k es)
unfolding IsStrictlySortedBy
rising_dropped zero es rising = rising
rising_dropped (suc k) [] rising = tt
rising_dropped (suc k) (e ∷ es) rising = rising_dropped k es rising.1

-- the runs of entries above a version are above it
runs_above : (v : Version) (n : ℕ) (es : List Entry) → AllByRecursion (λ w. precedence v w ≡ Less) (map version_in es) → AllByRecursion (IsAbove v) (cut_within n es)
runs_above v zero es below = tt
runs_above v (suc n) [] below = tt
runs_above v (suc n) (e ∷ es) below =
    (record { first = e; is_first = refl; above = below.0 }, runs_above v n (drop 63 es) (all_dropped (λ w. precedence v w ≡ Less) 63 es below.1))

-- so their pages have other names
other_page : (e : Entry) (rest : List ℕ) (run : List Entry) → IsAbove (version_in e) run → codes "page/" ++ (key_in e ++ (codes "/" ++ rest)) ≢ page_end run
other_page e rest run is same =
    let f = is.first in
    let more = form_of key_text (last_in run) ++ codes ".json" in
    let its : page_end run ≡ codes "page/" ++ (key_in f ++ (codes "/" ++ more)) = ap (λ (o : Option Entry). codes "page/" ++ (form_of key_text o ++ (codes "/" ++ more))) is.is_first in
    let ends : key_in e ++ (codes "/" ++ rest) ≡ key_in f ++ (codes "/" ++ more) = append_cancel_left (codes "page/") _ _ (same ∙ its) in
    other_key e f is.above (inside (key_in e) (key_in f) (sym (before_end e rest) ∙ ap before_slash ends ∙ before_end f more))

others_of_runs : (e : Entry) (rest : List ℕ) (runs : List (List Entry)) → AllByRecursion (IsAbove (version_in e)) runs
    → AllByRecursion (λ run. codes "page/" ++ (key_in e ++ (codes "/" ++ rest)) ≢ page_end run) runs
others_of_runs e rest [] above = tt
others_of_runs e rest (run ∷ runs) above = (other_page e rest run above.0, others_of_runs e rest runs above.1)

pages_distinct : (base root key : List ℕ) (n : ℕ) (es : List Entry) → AreRising es → HaveOwnNames (map (registration_page_doc base root key) (cut_within n es))
unfolding IsDistinct IsStrictlySortedBy
pages_distinct base root key zero es rising = tt
pages_distinct base root key (suc n) [] rising = tt
pages_distinct base root key (suc n) (e ∷ es) rising = (
  none_of_pages base root key _ (cut_within n (drop 63 es)) (others_of_runs e _ (cut_within n (drop 63 es)) (runs_above (version_in e) n (drop 63 es) (all_dropped _ 63 es rising.0))),
  pages_distinct base root key n (drop 63 es) (rising_dropped 63 es rising.1),
)

-- lists of own names of which no name of the one is one of the other
module _ (base root key : List ℕ) where
  before_leaves : (runs : List (List Entry)) (es : List Entry) → HaveOwnNames (map (registration_page_doc base root key) runs) → HaveOwnNames (map (registration_leaf_doc base root key) es)
      → HaveOwnNames (map (registration_page_doc base root key) runs ++ map (registration_leaf_doc base root key) es)
  unfolding IsDistinct
  before_leaves [] es pages leaves = leaves
  before_leaves (run ∷ runs) es pages leaves = (
    subst (AllByRecursion (λ y. bytes_eq (name_below key (page_end run)) y ≡ false)) (sym (map-append (λ (d : Doc). d.name) (map (registration_page_doc base root key) runs) (map (registration_leaf_doc base root key) es)))
        (all_of_both _ (map (λ (d : Doc). d.name) (map (registration_page_doc base root key) runs)) (map (λ (d : Doc). d.name) (map (registration_leaf_doc base root key) es)) pages.0
        (none_of_leaves base root key (page_end run) es (λ e. not_leaf e 112 _ (omega arith)))),
    before_leaves runs es pages.1 leaves,
  )

  not_page : (runs : List (List Entry)) → AllByRecursion (λ run. codes "index.json" ≢ page_end run) runs
  not_page [] = tt
  not_page (run ∷ runs) = (λ same. omega (arith, ap (λ (t : List ℕ). get_or t 0 0) same), not_page runs)

  below_index : (runs : List (List Entry)) (es : List Entry) → AllByRecursion (λ y. bytes_eq (id_index_name key) y ≡ false) (map (λ (d : Doc). d.name) (map (registration_page_doc base root key) runs ++ map (registration_leaf_doc base root key) es))
  below_index runs es =
      subst (AllByRecursion (λ y. bytes_eq (id_index_name key) y ≡ false)) (sym (map-append (λ (d : Doc). d.name) (map (registration_page_doc base root key) runs) (map (registration_leaf_doc base root key) es)))
      (all_of_both _ (map (λ (d : Doc). d.name) (map (registration_page_doc base root key) runs)) (map (λ (d : Doc). d.name) (map (registration_leaf_doc base root key) es))
      (none_of_pages base root key (codes "index.json") runs (not_page runs))
      (none_of_leaves base root key (codes "index.json") es (λ e. not_leaf e 105 _ (omega arith))))

  -- the stored pages are those of some runs
  of_runs : (runs : List (List Entry)) (es : List Entry) (number stamp : ℕ) → HaveOwnNames (map (registration_page_doc base root key) runs) → AreRising es
      → HaveOwnNames (registration_index_doc base root key number stamp es ∷ (map (registration_page_doc base root key) runs ++ map (registration_leaf_doc base root key) es))
  unfolding IsDistinct
  of_runs runs es number stamp pages rising = (below_index runs es, before_leaves runs es pages (leaves_distinct base root key es rising))

  below_distinct : (number stamp : ℕ) (es : List Entry) → AreRising es → HaveOwnNames (docs_below base root key number stamp es)
  unfolding IsDistinct cut
  below_distinct number stamp [] rising = tt
  below_distinct number stamp (e ∷ es) rising = elim (is_inlined (e ∷ es)) as (λ (t : Bool).
      HaveOwnNames (registration_index_doc base root key number stamp (e ∷ es) ∷ ((if t then [] else map (registration_page_doc base root key) (cut (e ∷ es))) ++ map (registration_leaf_doc base root key) (e ∷ es)))) [
        | true ↦ of_runs [] (e ∷ es) number stamp tt rising
        | false ↦ of_runs (cut (e ∷ es)) (e ∷ es) number stamp (pages_distinct base root key (length (e ∷ es)) (e ∷ es) rising) rising
      ]

pub registration_docs_distinct : (hive : RegistrationHive) (base key : List ℕ) (number stamp : ℕ) (es : List Entry) → AreRising es
    → HaveOwnNames (registration_docs hive base key number stamp es)
registration_docs_distinct hive base key number stamp es rising = below_distinct base (root_of base hive) key number stamp es rising
