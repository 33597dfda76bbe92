-- The table of the last rows and of the live versions, with a row more.
use Rattle.std.proofs.Common.{◌≡◌, ◌<◌, ◌+◌, ◌-◌, ◌^◌, ℕ, suc, List, [], ◌∷◌, ◌++◌, length, Bool, true, false, not, ◌&&◌, Option, Some, None, option_map, slice_get, refl, sym, ◌∙◌, ap, subst, arith}
use Rattle.std.specs.Prelude.{if◌then◌else◌, String, IsSome, is_some}
use Rattle.std.specs.BTreeMap.{BTreeMap, get_by_text, is_at, UpdatesBy, WritesThrough}
use Rattle.std.specs.Map.{lookup}
use Rattle.std.specs.Option.{option_and_then, option_or, unwrap_or}
use Rattle.std.specs.Cmp.Lexicographic.{slice_cmp}
use Rattle.std.specs.Ordering.{nat_cmp}
use Rattle.std.specs.Str.{bytes_eq}
use Rattle.std.specs.String.{string_bytes, string_cmp}
use Rattle.std.proofs.lemmas.Map.Text.{btree_map_updates_text, text_cmp}
use Rattle.nuget_version.specs.Printed.{key_text}
use Rattle.blob_store.proofs.Areas.{bytes_eq-same, bytes_eq-turned}
use Rattle.catalog_doc.proofs.Spelling.{bytes_eq-true}
use Rattle.catalog_doc.specs.declared.row.Row.{Row}
use Rattle.catalog_rows.specs.Last.{is_no_delete, is_of_keys, last_row, live_rows}
use Rattle.catalog_rows.specs.Latest.{is_first, is_live_at, IsLatestOf, IsEntered, IsNoted, IsPut, KeepsEntered, first_or, last_place, entered_for, entered_in, EntersSame, NotesSame}
use Rattle.catalog_rows.specs.declared.latest.Entered.{Entered}
use Rattle.catalog_rows.specs.declared.latest.Latest.{Latest}
use Rattle.catalog_rows.specs.declared.latest.OfId.{OfId}
use Rattle.catalog_rows.proofs.LastRows.{live_rows-few, live_rows-push, one}

-- what is told of the last row: its place and itself
abbrev Tells : List Row → Option ℕ → Option Row → Type 0
Tells rows None None = Unit {0}
Tells rows None (Some row) = ⊥
Tells rows (Some at) None = ⊥
Tells rows (Some at) (Some row) = slice_get rows at ≡ Some row

tells_more : (x : Row) (rows : List Row) (place : Option ℕ) (found : Option Row) (b : Bool) → Tells rows place found
    → Tells (x ∷ rows) (option_or (option_map suc place) (if b then Some 0 else None)) (option_or found (if b then Some x else None))
tells_more x rows None None true tells = refl
tells_more x rows None None false tells = tt
tells_more x rows None (Some row) b tells = absurd tells
tells_more x rows (Some at) None b tells = absurd tells
tells_more x rows (Some at) (Some row) b tells = tells

tells_last : (id version : List ℕ) (rows : List Row) → Tells rows (last_place (is_of_keys id version) rows) (last_row id version rows)
tells_last id version [] = tt
tells_last id version (x ∷ rows) = tells_more x rows _ _ (is_of_keys id version x) (tells_last id version rows)

told : (rows : List Row) (place : Option ℕ) (found : Option Row) → Tells rows place found → option_and_then (slice_get rows) place ≡ found
told rows None None tells = refl
told rows None (Some row) tells = absurd tells
told rows (Some at) None tells = absurd tells
told rows (Some at) (Some row) tells = tells

-- the row at the place of a version's last row is that
pub row_there : (id version : List ℕ) (rows : List Row) → option_and_then (slice_get rows) (last_place (is_of_keys id version) rows) ≡ last_row id version rows
row_there id version rows = told rows _ _ (tells_last id version rows)

placed_more : (mine other : Bool) (n : ℕ) (earlier : Option ℕ)
    → option_or (option_map suc (if mine then Some n else earlier)) (if other then Some 0 else None)
    ≡ (if mine then Some (suc n) else option_or (option_map suc earlier) (if other then Some 0 else None))
placed_more true other n earlier = refl
placed_more false other n earlier = refl

last_place-push : (test : Row → Bool) (rows : List Row) (row : Row) → last_place test (rows ++ row ∷ []) ≡ (if test row then Some (length rows) else last_place test rows)
last_place-push test [] row = refl
last_place-push test (x ∷ rows) row =
    ap (λ (place : Option ℕ). option_or (option_map suc place) (if test x then Some 0 else None)) (last_place-push test rows row)
    ∙ placed_more (test row) (test x) (length rows) (last_place test rows)

own_place : (own : Bool) (at : ℕ) (before : Option (Option ℕ))
    → unwrap_or (if own then Some (Some at) else before) None ≡ (if own then Some at else unwrap_or before None)
own_place true at before = refl
own_place false at before = refl

own_keys : (row : Row) (version : List ℕ) → bytes_eq (key_text row.version) version ≡ is_of_keys row.id.key version row
own_keys row version =
    bytes_eq-turned (key_text row.version) version ∙ ap (λ (b : Bool). b && bytes_eq version (key_text row.version)) (sym (bytes_eq-same row.id.key))

-- the places of an id's versions, with a row of it more
pub places_more : (rows : List Row) (row : Row) (key : List ℕ) (at : ℕ) (old new : OfId)
    → ((version : List ℕ) → unwrap_or (entered_in old version) None ≡ last_place (is_of_keys row.id.key version) rows)
    → key ≡ key_text row.version → at ≡ length rows → IsPut key (Some at) old new
    → (version : List ℕ) → unwrap_or (entered_in new version) None ≡ last_place (is_of_keys row.id.key version) (rows ++ row ∷ [])
places_more rows row key at old new places is here put version =
    ap (λ (found : Option (Option ℕ)). unwrap_or found None) (put version)
    ∙ own_place (bytes_eq key version) at (entered_in old version)
    ∙ (λ i. if bytes_eq (is i) version then Some (here i) else places version i)
    ∙ ap (λ (b : Bool). if b then Some (length rows) else last_place (is_of_keys row.id.key version) rows) (own_keys row version)
    ∙ sym (last_place-push (is_of_keys row.id.key version) rows row)

still_there : {X : Type 0} (own : Bool) (value : X) (before : Option X) → IsSome before → IsSome (if own then Some value else before)
still_there true value before is = refl
still_there false value before is = is

-- a key that is put in leaves the others
pub keys_stay : (key : List ℕ) (place : Option ℕ) (old new : OfId) → IsPut key place old new
    → (asked : List ℕ) → IsSome (entered_in old asked) → IsSome (entered_in new asked)
keys_stay key place old new put asked is =
    subst (λ (found : Option _). IsSome found) (sym (put asked)) (still_there (bytes_eq key asked) place (entered_in old asked) is)

none_before : {X : Type 0} (own : Bool) (none : X) (before : Option X) → (own ≡ true → before ≡ None)
    → unwrap_or (if own then Some none else before) none ≡ unwrap_or before none
none_before true none before is = ap (λ (found : Option _). unwrap_or found none) (sym (is refl))
none_before false none before is = refl

pub not_some : {X : Type 0} (found : Option X) → is_some found ≡ false → found ≡ None
not_some None is = refl
not_some (Some x) is = cc

-- a new key without a place, as unknown ones are taken to be
pub key_new : (key : List ℕ) (old new : OfId) → entered_in old key ≡ None → IsPut key None old new
    → (asked : List ℕ) → unwrap_or (entered_in new asked) None ≡ unwrap_or (entered_in old asked) None
key_new key old new fresh put asked =
    ap (λ (found : Option (Option ℕ)). unwrap_or found None) (put asked)
    ∙ none_before (bytes_eq key asked) None (entered_in old asked) (λ own. ap (entered_in old) (sym (bytes_eq-true key asked own)) ∙ fresh)

-- a place that is put for a version among the others
two_ways : (e : Entered) (key asked : List ℕ) (place : Option ℕ) (other new : Option (Option ℕ)) (own first : Bool) → bytes_eq key asked ≡ own
    → bytes_eq (string_bytes e.key) asked ≡ first → bytes_eq (string_bytes e.key) key ≡ false → new ≡ (if own then Some place else other)
    → (if first then Some e.place else new) ≡ (if own then Some place else (if first then Some e.place else other))
two_ways e key asked place other new true true own first apart is =
    let same : string_bytes e.key ≡ key = bytes_eq-true (string_bytes e.key) asked first ∙ sym (bytes_eq-true key asked own) in
    let alike : bytes_eq (string_bytes e.key) key ≡ true = ap (bytes_eq (string_bytes e.key)) (sym same) ∙ bytes_eq-same (string_bytes e.key) in
    let no : ⊥ = cc (alike, apart) in absurd no
two_ways e key asked place other new true false own first apart is = is
two_ways e key asked place other new false true own first apart is = refl
two_ways e key asked place other new false false own first apart is = is

pub put_other : (first : Option Entered) (key asked : List ℕ) (place : Option ℕ) (other new : Option (Option ℕ)) → is_first first key ≡ false
    → new ≡ (if bytes_eq key asked then Some place else other)
    → first_or first asked new ≡ (if bytes_eq key asked then Some place else first_or first asked other)
put_other None key asked place other new apart is = let no : ⊥ = cc apart in absurd no
put_other (Some e) key asked place other new apart is =
    two_ways e key asked place other new (bytes_eq key asked) (bytes_eq (string_bytes e.key) asked) refl refl apart is

-- what stood for it there
pub other_before : (first : Option Entered) (key : List ℕ) (other : Option (Option ℕ)) → is_first first key ≡ false → first_or first key other ≡ other
other_before None key other apart = refl
other_before (Some e) key other apart = ap (λ (b : Bool). if b then Some e.place else other) apart

-- a place that is put for the version that stands by itself, or is the first to
only_own : (first : Option Entered) (key asked : List ℕ) (place : Option ℕ) (other : Option (Option ℕ)) (own : Bool) → is_first first key ≡ true
    → bytes_eq key asked ≡ own → (if own then Some place else other) ≡ (if own then Some place else first_or first asked other)
only_own first key asked place other true is own = refl
only_own None key asked place other false is own = refl
only_own (Some e) key asked place other false is own =
    let apart : bytes_eq (string_bytes e.key) asked ≡ false = ap (λ (k : List ℕ). bytes_eq k asked) (bytes_eq-true (string_bytes e.key) key is) ∙ own in
    ap (λ (b : Bool). if b then Some e.place else other) (sym apart)

pub put_first : (first : Option Entered) (key asked : List ℕ) (place : Option ℕ) (other : Option (Option ℕ)) → is_first first key ≡ true
    → (if bytes_eq key asked then Some place else other) ≡ (if bytes_eq key asked then Some place else first_or first asked other)
put_first first key asked place other is = only_own first key asked place other (bytes_eq key asked) is refl

live_gone : (row : Row) (rows : List Row) → live_rows row.id.key (rows ++ row ∷ []) + one (is_no_delete (last_row row.id.key (key_text row.version) rows))
    ≡ live_rows row.id.key rows + one (not row.gone)
live_gone row rows =
    subst (λ (b : Bool). live_rows row.id.key (rows ++ row ∷ []) + one (b && is_no_delete (last_row row.id.key (key_text row.version) rows)) ≡ live_rows row.id.key rows + one (b && not row.gone))
    (bytes_eq-same row.id.key) (live_rows-push row.id.key rows row)

-- an id with a live version has one at least
live_some : (row : Row) (rows : List Row) → is_no_delete (last_row row.id.key (key_text row.version) rows) ≡ true → 0 < live_rows row.id.key rows
live_some row rows live =
    let gone : Row = record { number = row.number; place = row.place; stamp = row.stamp; id = row.id; version = row.version; gone = true } in
    let law : live_rows row.id.key (rows ++ gone ∷ []) + one (is_no_delete (last_row row.id.key (key_text row.version) rows)) ≡ live_rows row.id.key rows + 0 = live_gone gone rows in
    let one_less : live_rows row.id.key (rows ++ gone ∷ []) + 1 ≡ live_rows row.id.key rows + 0 =
    subst (λ (b : Bool). live_rows row.id.key (rows ++ gone ∷ []) + one b ≡ live_rows row.id.key rows + 0) live law in
    omega (arith, one_less)

one_not : (gone : Bool) → (if gone then 0 else 1) ≡ one (not gone)
one_not true = refl
one_not false = refl

-- what is counted is the number of live versions with the row
pub count_is : (row : Row) (rows : List Row) (was : Bool) (count result : ℕ) → was ≡ is_no_delete (last_row row.id.key (key_text row.version) rows)
    → count ≡ live_rows row.id.key rows → length rows < 2 ^ 64 - 1
    → ((was ≡ true → 0 < count) → count < 2 ^ 64 - 1 → result + one was ≡ count + (if row.gone then 0 else 1))
    → result ≡ live_rows row.id.key (rows ++ row ∷ [])
count_is row rows was count result is counted fits made =
    let few = live_rows-few row.id.key rows in
    let some : was ≡ true → 0 < count = λ live. subst (λ (n : ℕ). 0 < n) (sym counted) (live_some row rows (sym is ∙ live)) in
    let sum : result + one was ≡ count + (if row.gone then 0 else 1) = made some (omega (arith, few, counted, fits)) in
    let ends : result + one (is_no_delete (last_row row.id.key (key_text row.version) rows)) ≡ live_rows row.id.key rows + one (not row.gone) =
    (λ i. result + one (sym is i)) ∙ sum ∙ (λ i. counted i + one_not row.gone i) in
    omega (arith, ends, live_gone row rows)

-- whether a version is live, by the table
pub live_by_place : (row : Row) (rows : List Row) (place : Option ℕ) → place ≡ last_place (is_of_keys row.id.key (key_text row.version)) rows
    → is_live_at rows place ≡ is_no_delete (last_row row.id.key (key_text row.version) rows)
live_by_place row rows place there = ap (is_live_at rows) there ∙ ap is_no_delete (row_there row.id.key (key_text row.version) rows)

-- what is noted of an id stays right with a row of another
noted_other : (asked : List ℕ) (rows : List Row) (row : Row) (noted : Option OfId) → bytes_eq row.id.key asked ≡ false → IsNoted asked rows noted → IsNoted asked (rows ++ row ∷ []) noted
noted_other asked rows row noted apart is =
    let other : bytes_eq asked row.id.key ≡ false = bytes_eq-turned asked row.id.key ∙ apart in
    record {
      places = λ version. is.places version
          ∙ ap (λ (b : Bool). if b && bytes_eq version (key_text row.version) then Some (length rows) else last_place (is_of_keys asked version) rows) (sym other)
          ∙ sym (last_place-push (is_of_keys asked version) rows row);
      live =
          let law = subst (λ (b : Bool). live_rows asked (rows ++ row ∷ []) + one (b && is_no_delete (last_row row.id.key (key_text row.version) rows)) ≡ live_rows asked rows + one (b && not row.gone))
          other (live_rows-push asked rows row) in
          is.live ∙ omega (arith, law);
    }

-- the new table notes this of the id with this key, of which the old one noted that, and the same of the others
pub record Changes (key : List ℕ) (was : Option OfId) (of_id : OfId) (old new : Latest) : Type 0 where
  pub before : get_by_text old.ids key ≡ was
  pub after : (asked : List ℕ) → get_by_text new.ids asked ≡ (if bytes_eq key asked then Some of_id else get_by_text old.ids asked)

-- by a write to what is noted of an id
pub change_written : (key text : List ℕ) (was of_id : OfId) (old new : Latest) → text ≡ key → Some was ≡ get_by_text old.ids text
    → WritesThrough string_cmp (λ k. slice_cmp nat_cmp text (string_bytes k)) old.ids of_id new.ids → Changes key (Some was) of_id old new
change_written key text was of_id old new is found writes =
    subst (λ (k : List ℕ). Changes k (Some was) of_id old new) is record {
      before = sym found;
      after = btree_map_updates_text text old.ids new.ids (Some of_id) (writes.3 (subst (λ (o : Option OfId). IsSome o) found refl));
    }

-- by an id that is new
pub change_new : (key text given : List ℕ) (of_id : OfId) (old between new : Latest) → text ≡ key → given ≡ text → None ≡ get_by_text old.ids text → between.ids ≡ old.ids
    → UpdatesBy string_cmp (λ k. slice_cmp nat_cmp given (string_bytes k)) between.ids new.ids (Some of_id) → Changes key None of_id old new
change_new key text given of_id old between new is copied none same updates =
    subst (λ (k : List ℕ). Changes k None of_id old new) (copied ∙ is) record {
      before = ap (get_by_text old.ids) copied ∙ sym none;
      after = λ asked. btree_map_updates_text given between.ids new.ids (Some of_id) updates asked ∙ ap (λ m. if bytes_eq given asked then Some of_id else get_by_text m asked) same;
    }

-- a fact of what is noted of each id
by_own : (P : List ℕ → Option OfId → Type 0) (own : Bool) (key asked : List ℕ) (of_id : OfId) (before : Option OfId) → bytes_eq key asked ≡ own
    → P key (Some of_id) → (bytes_eq key asked ≡ false → P asked before) → P asked (if own then Some of_id else before)
by_own P true key asked of_id before is own other = subst (λ (k : List ℕ). P k (Some of_id)) (bytes_eq-true key asked is) own
by_own P false key asked of_id before is own other = other is

noted_all : (P : List ℕ → Option OfId → Type 0) (key asked : List ℕ) (was : Option OfId) (of_id : OfId) (old new : Latest) → Changes key was of_id old new
    → P key (Some of_id) → (bytes_eq key asked ≡ false → P asked (get_by_text old.ids asked)) → P asked (get_by_text new.ids asked)
noted_all P key asked was of_id old new changes own other =
    subst (P asked) (sym (changes.after asked)) (by_own P (bytes_eq key asked) key asked of_id (get_by_text old.ids asked) refl own other)

-- the table with one row more
pub latest_more : (rows : List Row) (row : Row) (was : Option OfId) (of_id : OfId) (old new : Latest) → Changes row.id.key was of_id old new
    → (IsNoted row.id.key rows was → IsNoted row.id.key (rows ++ row ∷ []) (Some of_id)) → IsLatestOf rows old → IsLatestOf (rows ++ row ∷ []) new
latest_more rows row was of_id old new changes step latest = record {
  each = λ asked. noted_all (λ id found. IsNoted id (rows ++ row ∷ []) found) row.id.key asked was of_id old new changes
      (step (subst (IsNoted row.id.key rows) changes.before (latest.each row.id.key)))
      (λ apart. noted_other asked rows row _ apart (latest.each asked));
}

pub noted_same : (id : List ℕ) (rows : List Row) (old new : Option OfId) → NotesSame old new → IsNoted id rows old → IsNoted id rows new
noted_same id rows old new same is = record { places = λ version. same.places version ∙ is.places version; live = same.live ∙ is.live }

-- entering a version leaves what is noted
pub latest_same : (key : List ℕ) (was : Option OfId) (of_id : OfId) (old new : Latest) → Changes key was of_id old new → NotesSame was (Some of_id)
    → (rows : List Row) → IsLatestOf rows old → IsLatestOf rows new
latest_same key was of_id old new changes same rows latest = record {
  each = λ asked. noted_all (λ id found. IsNoted id rows found) key asked was of_id old new changes
      (noted_same key rows was (Some of_id) same (subst (IsNoted key rows) changes.before (latest.each key)))
      (λ apart. latest.each asked);
}

-- the versions that were entered still are
pub entered_still : (key : List ℕ) (was : Option OfId) (of_id : OfId) (old new : Latest) → Changes key was of_id old new → KeepsEntered was (Some of_id)
    → (other : Row) → IsEntered old other → IsEntered new other
entered_still key was of_id old new changes keeps other =
    noted_all (λ id found. IsSome (entered_for (get_by_text old.ids id) (key_text other.version)) → IsSome (entered_for found (key_text other.version)))
    key other.id.key was of_id old new changes
    (subst (λ (o : Option OfId). IsSome (entered_for o (key_text other.version)) → IsSome (entered_for (Some of_id) (key_text other.version))) (sym changes.before) (keeps (key_text other.version)))
    (λ apart is. is)

-- the version that was entered in what is noted of the id is so in the table
pub entered_there : (key : List ℕ) (was : Option OfId) (of_id : OfId) (old new : Latest) → Changes key was of_id old new → (version : List ℕ)
    → IsSome (entered_in of_id version) → IsSome (entered_for (get_by_text new.ids key) version)
entered_there key was of_id old new changes version is =
    subst (λ (found : Option OfId). IsSome (entered_for found version))
    (sym (changes.after key ∙ ap (λ (b : Bool). if b then Some of_id else get_by_text old.ids key) (bytes_eq-same key))) is

-- the entries of a map that stay tell the same
pub same_entered : (first : Option Entered) (live : ℕ) (old new : BTreeMap _ (Option ℕ)) → new.entries ≡ old.entries
    → EntersSame (record { first = first; others = old; live = live }) (record { first = first; others = new; live = live })
same_entered first live old new same version = ap (λ es. first_or first version (lookup (is_at (text_cmp version)) es)) same

-- what is entered still is, where the same is
pub same_keeps : (old new : OfId) → EntersSame old new → KeepsEntered (Some old) (Some new)
same_keeps old new same version is = subst (λ (found : Option (Option ℕ)). IsSome found) (sym (same version)) is

pub same_notes : (old new : OfId) → EntersSame old new → new.live ≡ old.live → NotesSame (Some old) (Some new)
same_notes old new same live = record { places = λ version. ap (λ (found : Option (Option ℕ)). unwrap_or found None) (same version); live = live }

-- and so does all where the entries stay
pub latest_kept : (old new : Latest) → new.ids.entries ≡ old.ids.entries → (rows : List Row) → IsLatestOf rows old → IsLatestOf rows new
latest_kept old new same rows latest = record { each = λ asked. subst (λ es. IsNoted asked rows (lookup (is_at (text_cmp asked)) es)) (sym same) (latest.each asked) }

pub same_then : (first second third : Option OfId) → NotesSame first second → NotesSame second third → NotesSame first third
same_then first second third one two = record { places = λ version. two.places version ∙ one.places version; live = two.live ∙ one.live }
