-- What a reader finds in the compact text of readable data.
use Rattle.std.proofs.Common.{◌≡◌, List, ℕ, IsUtf8, Option, Some, None, Result, Ok, Err, IfOk, IsNone, option_map, sym, ◌∙◌, ap, subst}
use Rattle.std.specs.declared.alloc.AllocError.{AllocError}
use Rattle.serde_json.specs.declared.value.Value.{Value}
use Rattle.serde_json.specs.Data.{Data}
use Rattle.serde_json.specs.Read.{read}
use Rattle.serde_json.specs.View.{view}
use Rattle.serde_json.specs.Written.{compact_text}
use Rattle.json_law.specs.Fits.{IsReadable}
use Rattle.json_law.proofs.Back.{read-compact_text}
use Rattle.json_law.proofs.Utf8.{IsUtf8-compact_text}

not_both : (found : Option Data) (d : Data) → found ≡ None → found ≡ Some d → ⊥
not_both found d is_none is_some = cc

module _ (bytes : List ℕ) (d : Data) (readable : IsReadable d) (is : bytes ≡ compact_text d) where
  pub read-readable : read bytes ≡ Some d
  read-readable = ap read is ∙ read-compact_text d readable.fits readable.shallow

  pub IsUtf8-readable : IsUtf8 bytes
  IsUtf8-readable = subst IsUtf8 (sym is) (IsUtf8-compact_text d readable.fits readable.text)

  -- it isn't refused, but for lack of memory
  pub not_refused : {M : Type 0} → (¬ M → IsUtf8 bytes → read bytes ≡ None) → (result : Result (Option Value) AllocError)
      → IfOk result (λ found. (¬ M) × IsNone found) → IfOk result (λ found. option_map view found ≡ Some d)
  not_refused refuses (Ok found) none = absurd (not_both (read bytes) d (refuses none.0 IsUtf8-readable) read-readable)
  not_refused refuses (Err e) none = tt
