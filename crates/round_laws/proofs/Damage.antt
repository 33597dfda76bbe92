-- Of a sound area neither the cursor nor a state is damaged.
use Rattle.std.proofs.Common.{◌≡◌, inl, inr, ◌≤◌, ◌<◌, ◌&&◌, ℕ, zero, suc, List, [], ◌∷◌, ◌++◌, length, Bool, true, false, Option, Some, None}
use Rattle.std.proofs.Common.{option_map, IfSome, refl, ◌∙◌, ap, subst, arith}
use Rattle.std.proofs.lemmas.Bool.{le-leb}
use Rattle.std.proofs.lemmas.Slice.Eq.{bytes_eq-Decides}
use Rattle.std.specs.FinMap.{get}
use Rattle.std.specs.List.{Contains, list_all, slice_get}
use Rattle.std.specs.Option.{option_map_or}
use Rattle.std.specs.Prelude.{nat_le}
use Rattle.std.specs.Str.{bytes_eq}
use Rattle.blob_store.specs.Area.{Area}
use Rattle.blob_store.specs.Seen.{Seen}
use Rattle.pkg_meta.specs.Catalog.{Catalog}
use Rattle.pkg_meta.specs.Lawful.{IsLawful, MayFollow}
use Rattle.pkg_meta.specs.declared.state.StateDoc.{StateDoc}
use Rattle.catalog_core.specs.Opened.{IsOpenFor, Opened}
use Rattle.catalog_doc.proofs.Numbered.{few_commits}
use Rattle.cursor_doc.specs.Cursor.{cursor_name, cursor_text}
use Rattle.hive_state.specs.Reading.{IsStateValue}
use Rattle.hive_state.specs.State.{state_name, state_text}
use Rattle.fold_core.specs.Docs.{owner}
use Rattle.fold_core.specs.Folds.{Fold, Look}
use Rattle.fold_core.specs.Items.{commits_of, stamp_at, stamp_in}
use Rattle.fold_core.specs.Sound.{HasState}
use Rattle.hive_laws.specs.Areas.{SoundArea, cursor_at}
use Rattle.hive_laws.proofs.Listed.{first, later}
use Rattle.job_round.specs.Answers.{IsDamagedBlob, IsLostInCatalog, IsLostInHive, in_catalog}
use Rattle.job_round.specs.Cursors.{IsDamagedCursor, IsNoCursor}
use Rattle.job_round.specs.States.{IsNoState, fits_id, is_owned}
use Rattle.round_laws.proofs.Ways.{cursor_is}

some_inside : {A : Type 0} (x y : A) → Some x ≡ Some y → x ≡ y
some_inside x y e = cc

stamps_follow : (before cs : Catalog) (n : ℕ) → MayFollow before cs → stamp_in (slice_get (commits_of cs) n) ≤ 3_155_378_975_999_999_999
stamps_follow before [] n follow = omega arith
stamps_follow before (c ∷ cs) zero follow = follow.0.moment
stamps_follow before (c ∷ cs) (suc n) follow = stamps_follow (before ++ c ∷ []) cs n follow.1

-- a cursor at a commit is one
is_cursor : (cs : Catalog) (c : ℕ) (found : Option (List ℕ)) → IsLawful cs → c ≤ length cs → found ≡ cursor_at cs c → IsNoCursor found → ⊥
is_cursor cs c None lawful le e none = none
is_cursor cs zero (Some bytes) lawful le e none = let no : ⊥ = cc in no
is_cursor cs (suc n) (Some bytes) lawful le e none =
    let few : length cs ≤ 200_000 = few_commits cs lawful in
    none (record { number = suc n; stamp = stamp_at (commits_of cs) (suc n) }) (record { number = omega arith; stamp = stamps_follow [] cs n lawful.commits })
    (some_inside bytes (cursor_text (suc n) (stamp_at (commits_of cs) (suc n))) e)

all_owned : (key : List ℕ) (names : List (List ℕ)) → ((name : List ℕ) → Contains names name → owner name ≡ Some key) → list_all (is_owned key) names ≡ true
all_owned key [] owned = refl
all_owned key (name ∷ names) owned =
    ap (λ (o : Option (List ℕ)). option_map_or (bytes_eq key) o false && list_all (is_owned key) names) (owned name (first name names))
    ∙ ap (λ (b : Bool). b && list_all (is_owned key) names) ((bytes_eq-Decides key key).1 refl)
    ∙ all_owned key names (λ q is. owned q (later name q names is))

-- a state of a sound id is one that the id may have
is_state : (f : Fold) (cs : Catalog) (c target : ℕ) (key : List ℕ) (held : Look (List ℕ)) (o : Option StateDoc) (found : Option (List ℕ)) → target ≡ length cs
    → found ≡ option_map state_text o → IfSome o IsStateValue → HasState f cs c key o held → IsNoState key target found → ⊥
is_state f cs c target key held o None ends e value state lost = lost
is_state f cs c target key held None (Some bytes) ends e value state lost = let no : ⊥ = cc in no
is_state f cs c target key held (Some s) (Some bytes) ends e value state lost =
    let low : nat_le s.at target ≡ true = le-leb s.at target (let r : s.at ≤ length cs = state.0.reached in omega (arith, r, ends)) in
    let fit : fits_id key target s ≡ true = ap (λ (b : Bool). b && list_all (is_owned key) s.names) low ∙ all_owned key s.names state.0.owned in
    lost s value fit (some_inside bytes (state_text s) e)

module _ {B : Type 0} (o n : Opened B) (s t : Seen) (cs : Catalog) (is_open : IsOpenFor o s cs) (f : Fold) (c : ℕ) (left : Area)
    (sound : SoundArea f cs c left) where
  no_cursor : IsDamagedCursor (IsOpenFor o s) (get left cursor_name) → ⊥
  no_cursor (inl none) = is_cursor cs c (get left cursor_name) is_open.lawful.lawful sound.1.sound.cursor sound.1.area.cursor none
  no_cursor (inr (k, is, beyond)) =
      let same : k ≡ c = cursor_is cs c k (get left cursor_name) is_open.lawful.lawful sound.1.sound.cursor sound.1.area.cursor is in
      let far : length cs < k = beyond cs is_open in
      let within : c ≤ length cs = sound.1.sound.cursor in
      omega (arith, same, far, within)

  none_lost : (name : List ℕ) → IsLostInHive o s (Some left) name → ⊥
  none_lost name (inl (is, lost)) = no_cursor (subst (λ (q : List ℕ). IsDamagedCursor (IsOpenFor o s) (get left q)) refl lost)
  none_lost name (inr (key, target, ends, is, lost)) =
      is_state f cs c target key (get left) (sound.0 key) (get left (state_name key)) (ends cs is_open) (sound.1.area.held key) (sound.1.area.values key)
      (sound.1.sound.ids key).state (subst (λ (q : List ℕ). IsNoState key target (get left q)) is lost)

  pub none_of_hive : (held : Option Area) (name : List ℕ) → held ≡ Some left → IsLostInHive o s held name → ⊥
  none_of_hive held name is lost = none_lost name (subst (λ (h : Option Area). IsLostInHive o s h name) is lost)

  pub of_catalog : (held : Option Area) (text : List ℕ) → held ≡ Some left → IsDamagedBlob o n s t held text
      → (name : List ℕ) × (text ≡ in_catalog name) × IsLostInCatalog o n s t name
  of_catalog held text is (inl lost) = lost
  of_catalog held text is (inr (hive, name, named, lost)) = absurd (none_of_hive held name is lost)
