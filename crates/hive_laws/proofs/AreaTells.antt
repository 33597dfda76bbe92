-- An area tells its states and its cursor.
use Rattle.std.proofs.Common.{◌≡◌, ◌≤◌, ℕ, zero, suc, List, [], ◌∷◌, ◌++◌, length, Option, None, Some, refl, sym, ◌∙◌, ap, arith}
use Rattle.std.specs.FinMap.{get}
use Rattle.std.specs.Prelude.{IfSome, option_map}
use Rattle.std.specs.List.{slice_get}
use Rattle.blob_store.specs.Area.{Area}
use Rattle.pkg_meta.specs.Catalog.{Catalog}
use Rattle.pkg_meta.specs.Lawful.{IsLawful, MayFollow}
use Rattle.pkg_meta.specs.declared.state.StateDoc.{StateDoc}
use Rattle.catalog_doc.proofs.Numbered.{few_commits}
use Rattle.cursor_doc.specs.Cursor.{cursor_text}
use Rattle.cursor_doc.specs.Reading.{IsMarkValue}
use Rattle.cursor_doc.specs.declared.mark.Mark.{Mark}
use Rattle.cursor_doc.proofs.Cursors.{cursors_differ}
use Rattle.hive_state.specs.Reading.{IsStateValue}
use Rattle.hive_state.specs.State.{state_name, state_text}
use Rattle.hive_state.proofs.Same.{states_differ}
use Rattle.fold_core.specs.Folds.{Look}
use Rattle.fold_core.specs.Items.{commits_of, stamp_at, stamp_in}
use Rattle.hive_laws.specs.Areas.{IsHiveArea, cursor_at}

some_inside : {A : Type 0} (x y : A) → Some x ≡ Some y → x ≡ y
some_inside x y e = cc

-- a state's text tells the state
pub told : (o p : Option StateDoc) → IfSome o IsStateValue → IfSome p IsStateValue → option_map state_text o ≡ option_map state_text p → o ≡ p
told None None a b e = refl
told None (Some t) a b e = absurd (let no_ : None ≡ Some (state_text t) = e in cc)
told (Some s) None a b e = absurd (let no_ : Some (state_text s) ≡ None = e in cc)
told (Some s) (Some t) a b e = ap Some (states_differ s t a b (some_inside (state_text s) (state_text t) e))

-- what is stored is the state of that text
pub stored_is : (cs : Catalog) (c : ℕ) (states : Look StateDoc) (m : Area) → IsHiveArea cs c states m → (key : List ℕ) (stored : Option StateDoc) → IfSome stored IsStateValue
    → get m (state_name key) ≡ option_map state_text stored → states key ≡ stored
stored_is cs c states m area key stored value is = told (states key) stored (area.values key) value (sym (area.held key) ∙ is)

-- a commit's stamp is a moment
stamps_follow : (before cs : Catalog) (n : ℕ) → MayFollow before cs → stamp_in (slice_get (commits_of cs) n) ≤ 3_155_378_975_999_999_999
stamps_follow before [] n follow = omega arith
stamps_follow before (c ∷ cs) zero follow = follow.0.moment
stamps_follow before (c ∷ cs) (suc n) follow = stamps_follow (before ++ c ∷ []) cs n follow.1

pub cursor_tells : (cs : Catalog) (c : ℕ) → IsLawful cs → c ≤ length cs → (mark : Mark) → IsMarkValue mark
    → cursor_at cs c ≡ Some (cursor_text mark.number mark.stamp) → mark.number ≡ c
cursor_tells cs zero lawful le mark value is = absurd (let no_ : None ≡ Some (cursor_text mark.number mark.stamp) = is in cc)
cursor_tells cs (suc n) lawful le mark value is =
    let here : Mark = record { number = suc n; stamp = stamp_at (commits_of cs) (suc n) } in
    let few : length cs ≤ 200_000 = few_commits cs lawful in
    ap (λ (x : Mark). x.number) (sym (cursors_differ here mark (record { number = omega arith; stamp = stamps_follow [] cs n lawful.commits }) value
    (some_inside (cursor_text (suc n) (stamp_at (commits_of cs) (suc n))) (cursor_text mark.number mark.stamp) is)))

pub no_cursor_tells : (cs : Catalog) (c : ℕ) → cursor_at cs c ≡ None → c ≡ 0
no_cursor_tells cs zero is = refl
no_cursor_tells cs (suc n) is = absurd (let no_ : Some (cursor_text (suc n) (stamp_at (commits_of cs) (suc n))) ≡ None = is in cc)
