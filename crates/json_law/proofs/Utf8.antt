-- The compact text of data whose strings are UTF-8 is UTF-8.
use Rattle.std.proofs.Common.{ℕ, List, [], ◌∷◌, Bool, true, false, IsUtf8, refl}
use Rattle.std.proofs.lemmas.Fmt.{IsAscii-decimal}
use Rattle.std.proofs.lemmas.Str.{IsUtf8-append, IsUtf8-from_ascii}
use Rattle.json.specs.Print.{quoted}
use Rattle.json.proofs.Printed.Utf8.{IsUtf8-are_ascii, IsUtf8-quoted, IsUtf8-boolean}
use Rattle.serde_json.specs.Data.{unsigned, negative, float, Data, null, boolean, number, string, array, object, Items, no_items, item, Members, no_members, member}
use Rattle.serde_json.specs.Written.{compact_text, items_text, members_text, comma_if}
use Rattle.json_law.specs.Fits.{Fits, ItemsFit, MembersFit, IsText, ItemsAreText, MembersAreText}

comma : (later : Bool) → IsUtf8 (comma_if later)
comma true = IsUtf8-are_ascii _ refl
comma false = IsUtf8-are_ascii _ refl

-- one byte more before it
before : (b : ℕ) (text : List ℕ) → IsUtf8 (b ∷ []) → IsUtf8 text → IsUtf8 (b ∷ text)
before b text one others = IsUtf8-append (b ∷ []) text one others

mutual
  pub IsUtf8-compact_text : (d : Data) → Fits d → IsText d → IsUtf8 (compact_text d)
  IsUtf8-compact_text null fits text = IsUtf8-are_ascii _ refl
  IsUtf8-compact_text (boolean b) fits text = IsUtf8-boolean b
  IsUtf8-compact_text (number (unsigned n)) fits text = IsUtf8-from_ascii _ (IsAscii-decimal n fits)
  IsUtf8-compact_text (number (negative z)) fits text = absurd fits
  IsUtf8-compact_text (number (float x)) fits text = absurd fits
  IsUtf8-compact_text (string s) fits text = IsUtf8-quoted s text
  IsUtf8-compact_text (array ds) fits text = before 91 _ (IsUtf8-are_ascii _ refl) (IsUtf8-items ds false fits text)
  IsUtf8-compact_text (object ms) fits text = before 123 _ (IsUtf8-are_ascii _ refl) (IsUtf8-members ms false fits text)

  IsUtf8-items : (ds : Items) (later : Bool) → ItemsFit ds → ItemsAreText ds → IsUtf8 (items_text later ds)
  IsUtf8-items no_items later fits text = IsUtf8-are_ascii _ refl
  IsUtf8-items (item d ds) later fits text =
      IsUtf8-append _ _ (comma later) (IsUtf8-append _ _ (IsUtf8-compact_text d fits.0 text.0) (IsUtf8-items ds true fits.1 text.1))

  IsUtf8-members : (ms : Members) (later : Bool) → MembersFit ms → MembersAreText ms → IsUtf8 (members_text later ms)
  IsUtf8-members no_members later fits text = IsUtf8-are_ascii _ refl
  IsUtf8-members (member k d ms) later fits text =
      let value = IsUtf8-append _ _ (IsUtf8-compact_text d fits.1 text.1) (IsUtf8-members ms true fits.2 text.2) in
      IsUtf8-append _ _ (comma later) (IsUtf8-append (quoted k) _ (IsUtf8-quoted k text.0) (before 58 _ (IsUtf8-are_ascii _ refl) value))
