-- The compact text of data is a JSON text of their outline.
use Rattle.std.proofs.Common.{◌≡◌, ◌≢◌, List, ℕ, Option, Some, None, Result, Ok, Err, IfOk, IsNone, IsUtf8, option_map, refl, sym, ap, ◌∙◌, arith}
use Rattle.std.specs.declared.alloc.Global.{Global}
use Rattle.json.specs.Json.{document}
use Rattle.json.specs.Value.{value_view}
use Rattle.json.specs.declared.error.Error.{Error}
use Rattle.json.specs.declared.error.Error.TheVariants.{Invalid, OutOfMemory, TooLong, DuplicateKey}
use Rattle.json.specs.declared.value.Value.{Value}
use Rattle.json.proofs.Printed.Trees.{document-print}
use Rattle.serde_json.specs.Data.{Data}
use Rattle.serde_json.specs.Written.{outline, compact_text}
use Rattle.serde_json.proofs.Texts.{print-outline}
use Rattle.nuget_version.specs.declared.values.NoMemory.{NoMemory}
use Rattle.json_law.specs.Fits.{IsReadable}
use Rattle.json_law.proofs.Back.{depth-outline, numbers-outline}
use Rattle.json_law.proofs.Readers.{IsUtf8-readable}

none_and_some : {A : Type 0} (o : Option A) (x : A) → o ≡ None → o ≡ Some x → ⊥
none_and_some o x none some = cc

module _ (bytes : List ℕ) (d : Data) (readable : IsReadable d) (is : bytes ≡ compact_text d) where
  pub document-readable : document bytes ≡ Some (outline d)
  document-readable =
      ap document (is ∙ sym (print-outline d))
      ∙ document-print (outline d) (numbers-outline d readable.fits) (omega (arith, depth-outline d, readable.shallow))

  -- it isn't refused, but for lack of memory
  pub not_refused : (made : Result (Value Global) Error) (error : Error) → made ≡ Err error → (made ≡ Err Invalid → IsUtf8 bytes → document bytes ≡ None)
      → made ≢ Err TooLong → made ≢ Err DuplicateKey → (result : Result (Option (Value Global)) NoMemory)
      → IfOk result (λ found. (error ≢ OutOfMemory) × IsNone found) → IfOk result (λ found. option_map value_view found ≡ Some (outline d))
  not_refused made error failed refuses long twice (Err e) none = tt
  not_refused made Invalid failed refuses long twice (Ok found) none =
      absurd (none_and_some (document bytes) (outline d) (refuses failed (IsUtf8-readable bytes d readable is)) document-readable)
  not_refused made OutOfMemory failed refuses long twice (Ok found) none = absurd (none.0 refl)
  not_refused made TooLong failed refuses long twice (Ok found) none = absurd (long failed)
  not_refused made DuplicateKey failed refuses long twice (Ok found) none = absurd (twice failed)
