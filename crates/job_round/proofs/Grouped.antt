-- The ids of rows, with a key found or put behind, and with a row more.
use Rattle.std.proofs.Common.{◌≡◌, ℕ, List, [], ◌∷◌, ◌++◌, length, map, get_or, set, Bool, true, false, cond}
use Rattle.std.proofs.Common.{Option, Some, None, refl, sym, ap, ap₂, ◌∙◌, subst}
use Rattle.std.proofs.lemmas.List.{length-map, map-append}
use Rattle.std.proofs.lemmas.Slice.Eq.{bytes_eq-Decides}
use Rattle.std.specs.BTreeMap.{get_by_text}
use Rattle.std.specs.Option.{is_some, option_or}
use Rattle.std.specs.Str.{bytes_eq}
use Rattle.blob_store.proofs.Areas.{bytes_eq-same, bytes_eq-turned}
use Rattle.catalog_doc.specs.declared.row.Row.{Row}
use Rattle.job_round.specs.Ids.{HasIdAt, HasIds, has_key, id_rows, key_of, key_place, keys_of, with_key}
use Rattle.job_round.specs.declared.ids.IdRows.{IdRows}
use Rattle.job_round.specs.declared.ids.Ids.{Ids}
use Rattle.job_round.proofs.KeyPlaces.{at_place, place_is, place_pushed, place_set, with_apart}
use Rattle.job_round.proofs.Keyed.{fresh_is, keys_apart, keys_next, rows_other, rows_own}

module _ (rows : List Row) (key : List ℕ) where
  -- a key that is one of them
  pub key_found : (ids : Ids) (place : ℕ) → HasIds rows (keys_of rows) ids → get_by_text ids.places key ≡ Some place → HasIdAt rows key ids place
  key_found ids place all there =
      let at : key_place key (keys_of rows) ≡ Some place = sym (all.places key) ∙ there in
      let same : keys_of rows ≡ with_key (keys_of rows) key =
      ap (λ (b : Bool). cond b (keys_of rows) (keys_of rows ++ key ∷ [])) (ap is_some (sym at) ∙ place_is key (keys_of rows)) in
      subst (λ (keys : List (List ℕ)). HasIds rows keys ids × (key_place key keys ≡ Some place)) same
      (record { list = all.list; places = all.places }, at)

  turned : (asked : List ℕ) (n : ℕ) (o : Option ℕ) → (bytes_eq key asked ≡ true → o ≡ None)
      → cond (bytes_eq key asked) (Some n) o ≡ option_or o (cond (bytes_eq asked key) (Some n) None)
  turned asked n o free =
      subst (λ (b : Bool). cond (bytes_eq key asked) (Some n) o ≡ option_or o (cond b (Some n) None)) (bytes_eq-turned key asked)
      (elim (bytes_eq key asked) as (λ (b : Bool). bytes_eq key asked ≡ b → cond b (Some n) o ≡ option_or o (cond b (Some n) None)) [
        | true ↦ λ is. sym (ap (λ (p : Option ℕ). option_or p (Some n)) (free is))
        | false ↦ λ is. nothing o
      ] refl)
    where
      nothing : (p : Option ℕ) → p ≡ option_or p None
      nothing None = refl
      nothing (Some m) = refl

  -- one that isn't, and is put behind the others
  pub key_added : (old new : Ids) (place : ℕ) → HasIds rows (keys_of rows) old → get_by_text old.places key ≡ None → place ≡ length old.list.items
      → new.list.items ≡ old.list.items ++ (record { key = key; rows = [] }) ∷ []
      → ((asked : List ℕ) → get_by_text new.places asked ≡ cond (bytes_eq key asked) (Some (length old.list.items)) (get_by_text old.places asked))
      → HasIdAt rows key new place
  key_added old new place all free here list places =
      let keys : List (List ℕ) = keys_of rows in
      let none : key_place key keys ≡ None = sym (all.places key) ∙ free in
      let not : has_key key keys ≡ false = sym (place_is key keys) ∙ ap is_some none in
      let more : keys ++ key ∷ [] ≡ with_key keys key = sym (ap (λ (b : Bool). cond b keys (keys ++ key ∷ [])) not) in
      let long : length old.list.items ≡ length keys = ap (λ (l : List IdRows). length l) all.list ∙ length-map keys (id_rows rows) in
      subst (λ (l : List (List ℕ)). HasIds rows l new × (key_place key l ≡ Some place)) more (
        record {
          list = list ∙ ap₂ (λ (l : List IdRows) (s : IdRows). l ++ s ∷ []) all.list (fresh_is rows key not)
              ∙ sym (map-append (id_rows rows) keys (key ∷ []));
          places = λ asked.
              places asked
              ∙ ap₂ (λ (n : ℕ) (o : Option ℕ). cond (bytes_eq key asked) (Some n) o) long (all.places asked)
              ∙ turned asked (length keys) (key_place asked keys)
              (λ same. subst (λ (k : List ℕ). key_place k keys ≡ None) ((bytes_eq-Decides key asked).0 same) none)
              ∙ sym (place_pushed asked key keys);
        },
        place_pushed key key keys ∙ ap₂ (λ (o : Option ℕ) (b : Bool). option_or o (cond b (Some (length keys)) None)) none (bytes_eq-same key)
            ∙ ap Some (sym (here ∙ long)),
      )

-- with a row more
pub row_taken : (rows : List Row) (row : Row) (ids new : Ids) (at : ℕ) (id : IdRows) (own : List Row) → HasIdAt rows (key_of row) ids at → id ≡ get_or ids.list.items at id
    → own ≡ id.rows ++ row ∷ [] → new.list.items ≡ set ids.list.items at (record { key = id.key; rows = own }) → new.places ≡ ids.places
    → HasIds (rows ++ row ∷ []) (keys_of (rows ++ row ∷ [])) new
row_taken rows row ids new at id own found there pushed list places =
    let key : List ℕ = key_of row in
    let keys : List (List ℕ) = with_key (keys_of rows) key in
    let was : id ≡ id_rows rows key = there ∙ ap (λ (l : List IdRows). get_or l at id) found.0.list ∙ at_place (id_rows rows) key keys at id found.1 in
    let made : record { key = id.key; rows = own } ≡ id_rows (rows ++ row ∷ []) key =
    ap (λ (l : List Row). record { key = id.key; rows = l }) pushed ∙ ap (λ (x : IdRows). record { key = x.key; rows = x.rows ++ row ∷ [] }) was ∙ rows_own rows row in
    record {
      list = list ∙ ap₂ (λ (l : List IdRows) (x : IdRows). set l at x) found.0.list made
          ∙ place_set (id_rows rows) (id_rows (rows ++ row ∷ [])) key (rows_other rows row) keys at (with_apart (keys_of rows) key (keys_apart rows)) found.1
          ∙ ap (map (id_rows (rows ++ row ∷ []))) (sym (keys_next rows row));
      places = λ asked. ap (λ p. get_by_text p asked) places ∙ found.0.places asked ∙ ap (key_place asked) (sym (keys_next rows row));
    }
