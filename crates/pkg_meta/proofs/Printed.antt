-- The trees of metadata are data that a compact text determines.
use Rattle.std.proofs.Common.{◌≡◌, ◌<◌, ◌≤◌, ℕ, suc, List, [], ◌∷◌, Bool, true, ◌&&◌, Option, Some, None, option_map, IfSome, IsUtf8, map, refl, sym, subst, arith}
use Rattle.std.proofs.lemmas.Bool.Decides.{nat_tests}
use Rattle.std.specs.List.{list_all}
use Rattle.std.specs.Str.{IsAscii}
use Rattle.std.specs.Cmp.Lexicographic.{slice_cmp}
use Rattle.std.specs.Ordering.{nat_cmp, is_lt}
use Rattle.std.specs.declared.cmp.Ordering.TheVariants.{Less}
use Rattle.std.proofs.lemmas.Str.{IsUtf8-from_ascii}
use Rattle.std.proofs.lemmas.Str.Ascii.{IsAscii-nil, IsAscii-cons}
use Rattle.json.proofs.Printed.Utf8.{IsUtf8-are_ascii, are_ascii}
use Rattle.serde_json.specs.Data.{Data, boolean, string, object, Items, Members, depth, items_depth, members_depth}
use Rattle.serde_json.specs.View.{items_of}
use Rattle.json_law.specs.Fits.{Fits, IsBeforeFirst, IsText, ItemsAreText, ItemsFit, MembersAreText, MembersFit}
use Rattle.nuget_version.specs.Printed.{full_text}
use Rattle.nuget_version.specs.declared.version.Version.{Version}
use Rattle.nuget_version.proofs.Fields.{pieces_ascii}
use Rattle.nuget_version.proofs.ReadBack.{full_reads}
use Rattle.package_id.proofs.Bytes.{IsUtf8-id}
use Rattle.version_range.specs.Printed.{is_bare_byte, range_text}
use Rattle.version_range.specs.declared.range.VersionRange.{VersionRange}
use Rattle.version_range.proofs.ReadBack.{text_bare}
use Rattle.pkg_meta.specs.Members.{Slot, are_in_order, is_before_slots, member_if, present}
use Rattle.pkg_meta.specs.TextMeta.{IsTextMeta, OnEach}
use Rattle.pkg_meta.specs.Trees.{array_if, dep_table, dep_tree, group_table, group_tree, meta_table, text_if}
use Rattle.pkg_meta.specs.declared.dependency.Dep.{Dep}
use Rattle.pkg_meta.specs.declared.dependency.DepGroup.{DepGroup}
use Rattle.pkg_meta.specs.declared.meta.Meta.{Meta}
use Rattle.pkg_meta.proofs.Slots.{both_true, less_from_is_lt}

pub full_is_text : (v : Version) → IsUtf8 (full_text v)
full_is_text v =
    let read = full_reads v in
    IsUtf8-from_ascii (full_text v) (subst IsAscii (sym read.made.spelled) (pieces_ascii read.pieces read.made.are))

bare_below : (b : ℕ) → is_bare_byte b ≡ true → b < 128
bare_below b held = grind (arith, nat_tests)

bare_ascii : (xs : List ℕ) → list_all is_bare_byte xs ≡ true → IsAscii xs
bare_ascii [] held = IsAscii-nil
bare_ascii (x ∷ xs) held =
    let here = both_true (is_bare_byte x) (list_all is_bare_byte xs) held in IsAscii-cons x xs (bare_below x here.0) (bare_ascii xs here.1)

pub range_is_text : (r : VersionRange) → IsUtf8 (range_text r)
range_is_text r = IsUtf8-from_ascii (range_text r) (bare_ascii (range_text r) (text_bare r))

-- data that a compact text determines, nested at most so deep
pub record Is (n : ℕ) (d : Data) : Type 0 where
  pub fits : Fits d
  pub shallow : depth d ≤ n
  pub text : IsText d

pub record Are (n : ℕ) (ms : Members) : Type 0 where
  pub fits : MembersFit ms
  pub shallow : members_depth ms ≤ n
  pub text : MembersAreText ms

pub record AreItems (n : ℕ) (ds : Items) : Type 0 where
  pub fits : ItemsFit ds
  pub shallow : items_depth ds ≤ n
  pub text : ItemsAreText ds

-- the keys of a table are ASCII
abbrev pub have_ascii : List Slot → Bool
have_ascii [] = true
have_ascii (s ∷ slots) = are_ascii s.key && have_ascii slots

-- the values of a table are such data
abbrev pub HaveValues : ℕ → List Slot → Type 0
HaveValues n [] = Unit {0}
HaveValues n (s ∷ slots) = IfSome s.value (Is n) × HaveValues n slots

before_slot : (k l : List ℕ) (value : Option Data) (ms : Members) → slice_cmp nat_cmp k l ≡ Less → IsBeforeFirst k ms → IsBeforeFirst k (member_if l value ms)
before_slot k l None ms less others = others
before_slot k l (Some d) ms less others = less

before_slots : (k : List ℕ) (slots : List Slot) → is_before_slots k slots ≡ true → IsBeforeFirst k (present slots)
before_slots k [] before = tt
before_slots k (s ∷ slots) before =
    let both = both_true (is_lt (slice_cmp nat_cmp k s.key)) (is_before_slots k slots) before in
    before_slot k s.key s.value (present slots) (less_from_is_lt (slice_cmp nat_cmp k s.key) both.0) (before_slots k slots both.1)

one_more : (n : ℕ) (k : List ℕ) (value : Option Data) (ms : Members) → IsUtf8 k → IsBeforeFirst k ms → IfSome value (Is n) → Are n ms → Are n (member_if k value ms)
one_more n k None ms key before one others = others
one_more n k (Some d) ms key before one others = record {
  fits = (before, one.fits, others.fits);
  shallow = omega (arith, one.shallow, others.shallow);
  text = (key, one.text, others.text);
}

pub slots_are : (n : ℕ) (slots : List Slot) → are_in_order slots ≡ true → have_ascii slots ≡ true → HaveValues n slots → Are n (present slots)
slots_are n [] order ascii values = record { fits = tt; shallow = omega arith; text = tt }
slots_are n (s ∷ slots) order ascii values =
    let ordered = both_true (is_before_slots s.key slots) (are_in_order slots) order in
    let keys = both_true (are_ascii s.key) (have_ascii slots) ascii in
    one_more n s.key s.value (present slots) (IsUtf8-are_ascii s.key keys.0) (before_slots s.key slots ordered.0) values.0 (slots_are n slots ordered.1 keys.1 values.1)

pub object_is : (n : ℕ) (slots : List Slot) → are_in_order slots ≡ true → have_ascii slots ≡ true → HaveValues n slots → Is (suc n) (object (present slots))
object_is n slots order ascii values =
    let members = slots_are n slots order ascii values in
    record { fits = members.fits; shallow = omega (arith, members.shallow); text = members.text }

items_are : (n : ℕ) (ds : List Data) → OnEach (Is n) ds → AreItems n (items_of ds)
items_are n [] each = record { fits = tt; shallow = omega arith; text = tt }
items_are n (d ∷ ds) each =
    let others = items_are n ds each.1 in
    record { fits = (each.0.fits, others.fits); shallow = omega (arith, each.0.shallow, others.shallow); text = (each.0.text, others.text) }

array_is : (n : ℕ) (ds : List Data) → OnEach (Is n) ds → IfSome (array_if ds) (Is (suc n))
array_is n [] each = tt
array_is n (d ∷ ds) each =
    let items = items_are n (d ∷ ds) each in
    record { fits = items.fits; shallow = omega (arith, items.shallow); text = items.text }

text_is : (n : ℕ) (text : List ℕ) → IsUtf8 text → Is n (string text)
text_is n text is = record { fits = tt; shallow = omega arith; text = is }

text_if_is : (n : ℕ) (text : Option (List ℕ)) → IfSome text IsUtf8 → IfSome (text_if text) (Is n)
text_if_is n None is = tt
text_if_is n (Some text) is = text_is n text is

flag_is : (n : ℕ) (flag : Option Bool) → IfSome (option_map boolean flag) (Is n)
flag_is n None = tt
flag_is n (Some flag) = record { fits = tt; shallow = omega arith; text = tt }

mapped : {X : Type 0} (P : X → Type 0) (Q : Data → Type 0) (f : X → Data) → ((x : X) → P x → Q (f x)) → (xs : List X) → OnEach P xs → OnEach Q (map f xs)
mapped P Q f one [] each = tt
mapped P Q f one (x ∷ xs) each = (one x each.0, mapped P Q f one xs each.1)

everything : {X : Type 0} (xs : List X) → OnEach (λ x. Unit {0}) xs
everything [] = tt
everything (x ∷ xs) = (tt, everything xs)

dep_is : (dep : Dep) → Is 1 (dep_tree dep)
dep_is dep = object_is 0 (dep_table dep) refl refl (text_is 0 dep.id.text (IsUtf8-id dep.id.text dep.id.spelled), (text_is 0 (range_text dep.range) (range_is_text dep.range), tt))

group_is : (g : DepGroup) → IfSome g.framework IsUtf8 → Is 3 (group_tree g)
group_is g framework =
    object_is 2 (group_table g) refl refl
    (array_is 1 (map dep_tree g.deps) (mapped (λ (dep : Dep). Unit {0}) (Is 1) dep_tree (λ dep h. dep_is dep) g.deps (everything g.deps)), (text_if_is 2 g.framework framework, tt))

pub meta_is : (m : Meta) → IsTextMeta m → Is 5 (object (present (meta_table m)))
meta_is m is =
    object_is 4 (meta_table m) refl refl (
      text_if_is 4 m.authors is.authors,
      (
        array_is 3 (map group_tree m.groups) (mapped (λ (g : DepGroup). IfSome g.framework IsUtf8) (Is 3) group_tree group_is m.groups is.frameworks),
        (
          text_if_is 4 m.description is.description,
          (
            text_if_is 4 m.icon_url is.icon_url,
            (
              text_is 4 m.id.text (IsUtf8-id m.id.text m.id.spelled),
              (
                text_if_is 4 m.license_url is.license_url,
                (
                  text_if_is 4 m.min_client is.min_client,
                  (
                    text_if_is 4 m.project_url is.project_url,
                    (
                      text_if_is 4 m.release_notes is.release_notes,
                      (
                        flag_is 4 m.require_license,
                        (
                          text_if_is 4 m.summary is.summary,
                          (
                            array_is 3 (map string m.tags) (mapped IsUtf8 (Is 3) string (text_is 3) m.tags is.tags),
                            (
                              text_if_is 4 m.title is.title,
                              (
                                text_is 4 m.verbatim is.verbatim,
                                (
                                  text_is 4 (full_text m.version) (full_is_text m.version),
                                  tt,
                                ),
                              ),
                            ),
                          ),
                        ),
                      ),
                    ),
                  ),
                ),
              ),
            ),
          ),
        ),
      ),
    )
