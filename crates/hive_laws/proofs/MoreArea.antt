-- A further commit leaves what an area holds of a hive.
use Rattle.std.proofs.Common.{◌≡◌, ◌<◌, ◌≤◌, ℕ, zero, suc, [], ◌∷◌, ◌++◌, length, Some, refl, sym, ◌∙◌, ap, arith}
use Rattle.std.specs.List.{slice_get}
use Rattle.blob_store.specs.Area.{Area}
use Rattle.pkg_meta.specs.Catalog.{Catalog}
use Rattle.pkg_meta.specs.declared.commit.Stored.{Stored}
use Rattle.cursor_doc.specs.Cursor.{cursor_text}
use Rattle.fold_core.specs.Folds.{Fold}
use Rattle.fold_core.specs.Items.{commits_of, stamp_in}
use Rattle.hive_laws.specs.Areas.{SoundArea, cursor_at}
use Rattle.hive_laws.proofs.More.{more_sound}

got_more : (cs : Catalog) (x : Stored) (n : ℕ) → n < length cs → slice_get (commits_of (cs ++ x ∷ [])) n ≡ slice_get (commits_of cs) n
got_more [] x n lt = absurd (omega arith)
got_more (c ∷ cs) x zero lt = refl
got_more (c ∷ cs) x (suc n) lt = got_more cs x n (omega arith)

cursor_more : (cs : Catalog) (x : Stored) (c : ℕ) → c ≤ length cs → cursor_at (cs ++ x ∷ []) c ≡ cursor_at cs c
cursor_more cs x zero le = refl
cursor_more cs x (suc n) le = ap (λ (s : ℕ). Some (cursor_text (suc n) s)) (ap stamp_in (got_more cs x n (omega arith)))

pub more_area : (f : Fold) (cs : Catalog) (x : Stored) (c : ℕ) (m : Area) → SoundArea f cs c m → SoundArea f (cs ++ x ∷ []) c m
more_area f cs x c m sound = (
  sound.0,
  record {
    area = record {
      cursor = sound.1.area.cursor ∙ sym (cursor_more cs x c sound.1.sound.cursor);
      held = sound.1.area.held;
      values = sound.1.area.values;
      known = sound.1.area.known;
    };
    sound = more_sound f cs x c sound.0 _ sound.1.sound;
  },
)
