-- A state's data is that of a text that is read back, and has no float.
use Rattle.std.proofs.Common.{◌≡◌, ◌<◌, ◌≤◌, ◌^◌, ℕ, zero, suc, List, [], ◌∷◌, All, Bool, true, false, ◌||◌, Option, None, Some, IfSome, IsUtf8, codes, map, refl, ap, ◌∙◌, arith, lit<}
use Rattle.std.proofs.lemmas.Str.{IsUtf8-nil}
use Rattle.serde_json.specs.Data.{Data, Members, depth, items_depth, string}
use Rattle.serde_json.specs.View.{items_of}
use Rattle.serde_json.specs.Written.{compact_text, has_float, items_have_float, members_have_float}
use Rattle.json_law.specs.Fits.{Fits, IsBeforeFirst, IsReadable, IsText, ItemsAreText, ItemsFit, MembersAreText, MembersFit}
use Rattle.pkg_meta.specs.Members.{member_if, present}
use Rattle.pkg_meta.specs.Trees.{dep_tree, details_table, details_tree, group_table, group_tree, later_table, text_if}
use Rattle.pkg_meta.specs.declared.dependency.Dep.{Dep}
use Rattle.pkg_meta.specs.declared.dependency.DepGroup.{DepGroup}
use Rattle.pkg_meta.specs.declared.entry.Entry.{Entry}
use Rattle.pkg_meta.specs.declared.item.Details.{Details}
use Rattle.pkg_meta.specs.declared.item.Item.TheVariants as the
use Rattle.pkg_meta.specs.declared.state.StateDoc.{StateDoc}
use Rattle.catalog_doc.specs.Reading.{IsDetailsValue}
use Rattle.catalog_doc.proofs.LeafData.{leaf_each, leaf_fits, leaf_plain}
use Rattle.catalog_doc.proofs.Slotted.{array_if_each, table_deep, text_if_each}
use Rattle.catalog_reading.proofs.LeafTexts.{leaf_readable}
use Rattle.catalog_reading.proofs.Readable.{literal}
use Rattle.catalog_reading.proofs.Texts.{stamp_is_text}
use Rattle.hive_state.specs.Reading.{AreEntryValues, IsStateValue}
use Rattle.hive_state.specs.State.{entry_data, state_data, state_text}

fits_behind : (k : List ℕ) (o : Option Data) (ms : Members) → MembersFit (member_if k o ms) → MembersFit ms
fits_behind k None ms fits = fits
fits_behind k (Some d) ms fits = fits.2

fits_before : (k : List ℕ) (o : Option Data) (ms : Members) → IsBeforeFirst k ms → IfSome o Fits → MembersFit ms → MembersFit (member_if k o ms)
fits_before k None ms before own fits = fits
fits_before k (Some d) ms before own fits = (before, own, fits)

text_behind : (k : List ℕ) (o : Option Data) (ms : Members) → MembersAreText (member_if k o ms) → MembersAreText ms
text_behind k None ms text = text
text_behind k (Some d) ms text = text.2

text_before : (k : List ℕ) (o : Option Data) (ms : Members) → IsUtf8 k → IfSome o IsText → MembersAreText ms → MembersAreText (member_if k o ms)
text_before k None ms key own text = text
text_before k (Some d) ms key own text = (key, own, text)

later_or : (a b : Bool) → (a || b) ≡ false → b ≡ false
later_or true b e = cc
later_or false b e = e

plain_behind : (k : List ℕ) (o : Option Data) (ms : Members) → members_have_float (member_if k o ms) ≡ false → members_have_float ms ≡ false
plain_behind k None ms plain = plain
plain_behind k (Some d) ms plain = later_or (has_float d) (members_have_float ms) plain

plain_before : (k : List ℕ) (text : Option (List ℕ)) (ms : Members) → members_have_float ms ≡ false → members_have_float (member_if k (text_if text) ms) ≡ false
plain_before k None ms plain = plain
plain_before k (Some s) ms plain = plain

-- what is known of the leaf of details holds of their tree
tree_fits : (d : Details) → d.size < 2 ^ 64 → Fits (details_tree d)
unfolding details_tree
tree_fits d size =
    let leaf = leaf_fits [] 0 0 0 (the.Details d) size in
    let behind = fits_behind (codes "authors") (text_if d.meta.authors) _ leaf.2.2 in
    fits_before (codes "authors") (text_if d.meta.authors) (present (later_table d)) refl (text_if_each Fits d.meta.authors (λ s is. tt)) behind.2.2

tree_is_text : (d : Details) → IsDetailsValue d → IsText (details_tree d)
unfolding details_tree
tree_is_text d is =
    let leaf = (leaf_readable [] 0 0 0 (the.Details d) IsUtf8-nil (lit< tt) (lit< tt) is).text in
    let behind = text_behind (codes "authors") (text_if d.meta.authors) _ leaf.2.2 in
    text_before (codes "authors") (text_if d.meta.authors) (present (later_table d)) (literal (codes "authors") refl) (given d.meta.authors is.texts.authors) behind.2.2
  where
    given : (text : Option (List ℕ)) → IfSome text IsUtf8 → IfSome (text_if text) IsText
    given None text = tt
    given (Some s) text = text

tree_plain : (d : Details) → has_float (details_tree d) ≡ false
unfolding details_tree
tree_plain d =
    plain_before (codes "authors") d.meta.authors (present (later_table d))
    (plain_behind (codes "authors") (text_if d.meta.authors) _ (leaf_plain [] 0 0 0 (the.Details d)))

strings_flat : (ss : List (List ℕ)) → items_depth (items_of (map string ss)) ≤ 0
strings_flat [] = omega arith
strings_flat (s ∷ ss) = let rest = strings_flat ss in omega (arith, rest)

deps_flat : (deps : List Dep) → items_depth (items_of (map dep_tree deps)) ≤ 1
deps_flat [] = omega arith
deps_flat (dep ∷ deps) = let rest = deps_flat deps in omega (arith, rest)

groups_flat : (gs : List DepGroup) → items_depth (items_of (map group_tree gs)) ≤ 3
groups_flat [] = omega arith
groups_flat (g ∷ gs) =
    let deps = deps_flat g.deps in
    let first : depth (group_tree g) ≤ 3 =
    table_deep 2 (group_table g) (array_if_each (λ d. depth d ≤ 2) (map dep_tree g.deps) (omega (arith, deps)), (text_if_each (λ d. depth d ≤ 2) g.framework (λ s is. omega arith), tt)) in
    let rest = groups_flat gs in
    omega (arith, first, rest)

tree_flat : (d : Details) → depth (details_tree d) ≤ 5
unfolding details_tree
tree_flat d =
    let tags = strings_flat d.meta.tags in
    let groups = groups_flat d.meta.groups in
    let leaf = leaf_each (λ x. depth x ≤ 4) (λ s. omega arith) (λ b. omega arith) d (omega arith) (omega arith) (omega (arith, tags)) (omega (arith, groups)) [] 0 0 0 in
    table_deep 4 (details_table d) (leaf.1.1.0, leaf.1.1.1.1.1)

strings_fit : (ss : List (List ℕ)) → ItemsFit (items_of (map string ss))
strings_fit [] = tt
strings_fit (s ∷ ss) = (tt, strings_fit ss)

strings_are_text : (ss : List (List ℕ)) → All IsUtf8 ss → ItemsAreText (items_of (map string ss))
strings_are_text [] all = tt
strings_are_text (s ∷ ss) all = (all zero s (omega arith), strings_are_text ss (λ k x lt. all (suc k) x (omega (arith, lt))))

strings_plain : (ss : List (List ℕ)) → items_have_float (items_of (map string ss)) ≡ false
strings_plain [] = refl
strings_plain (s ∷ ss) = strings_plain ss

-- numbers that are written whole
pub record HasNumbers (e : Entry) : Type 0 where
  pub number : e.number < 2 ^ 32
  pub place : e.place < 2 ^ 32
  pub size : e.details.size < 2 ^ 64

abbrev pub HaveNumbers : List Entry → Type 0
HaveNumbers [] = Unit {0}
HaveNumbers (e ∷ es) = HasNumbers e × HaveNumbers es

entries_fit : (es : List Entry) → HaveNumbers es → ItemsFit (items_of (map entry_data es))
entries_fit [] have = tt
entries_fit (e ∷ es) have =
    let own = have.0 in
    ((refl, tree_fits e.details own.size, (refl, omega (arith, own.number), (tt, omega (arith, own.place), tt))), entries_fit es have.1)

entries_flat : (es : List Entry) → items_depth (items_of (map entry_data es)) ≤ 6
entries_flat [] = omega arith
entries_flat (e ∷ es) = let tree = tree_flat e.details in let rest = entries_flat es in omega (arith, tree, rest)

entries_are_text : (es : List Entry) → AreEntryValues es → ItemsAreText (items_of (map entry_data es))
entries_are_text [] are = tt
entries_are_text (e ∷ es) are = (
  (literal (codes "details") refl, tree_is_text e.details are.0.details, (literal (codes "number") refl, tt, (literal (codes "place") refl, tt, tt))),
  entries_are_text es are.1,
)

entries_plain : (es : List Entry) → items_have_float (items_of (map entry_data es)) ≡ false
entries_plain [] = refl
entries_plain (e ∷ es) = ap (λ (b : Bool). (b || false) || items_have_float (items_of (map entry_data es))) (tree_plain e.details) ∙ entries_plain es

-- the numbers of entries of the code's types
pub have_numbers : (es : List Entry) → AreEntryValues es → HaveNumbers es
have_numbers [] are = tt
have_numbers (e ∷ es) are = (record { number = are.0.number; place = are.0.place; size = are.0.details.size }, have_numbers es are.1)

pub state_fits : (s : StateDoc) → s.at < 2 ^ 32 → s.touched < 2 ^ 32 → HaveNumbers s.entries → Fits (state_data s)
state_fits s at touched have =
    (refl, omega (arith, at), (refl, tt, (refl, entries_fit s.entries have, (refl, strings_fit s.names, (refl, omega (arith, touched), (tt, tt, tt))))))

pub state_flat : (s : StateDoc) → depth (state_data s) ≤ 127
state_flat s = let entries = entries_flat s.entries in let names = strings_flat s.names in omega (arith, entries, names)

pub readable : (s : StateDoc) → IsStateValue s → IsReadable (state_data s)
readable s is = record {
  fits = state_fits s is.at is.touched (have_numbers s.entries is.entries);
  shallow = state_flat s;
  text = (
    literal (codes "at") refl,
    tt,
    (
      literal (codes "dirty") refl,
      tt,
      (
        literal (codes "entries") refl,
        entries_are_text s.entries is.entries,
        (
          literal (codes "names") refl,
          strings_are_text s.names is.names,
          (literal (codes "touched") refl, tt, (literal (codes "touchedTimeStamp") refl, stamp_is_text s.touched_stamp, tt)),
        ),
      ),
    ),
  );
}

either : (a b : Bool) → a ≡ false → b ≡ false → (a || (b || false)) ≡ false
either true b x y = cc
either false true x y = cc
either false false x y = refl

-- a state has no float
pub state_plain : (s : StateDoc) → has_float (state_data s) ≡ false
state_plain s =
    either (items_have_float (items_of (map entry_data s.entries))) (items_have_float (items_of (map string s.names))) (entries_plain s.entries) (strings_plain s.names)

pub is_compact : (bytes : List ℕ) (s : StateDoc) → bytes ≡ state_text s → bytes ≡ compact_text (state_data s)
unfolding state_text
is_compact bytes s is = is
