-- Data that its compact text determines.
use Rattle.std.specs.Prelude.{◌≡◌, ◌≤◌, ◌<◌, ◌^◌, ℕ, List, IsUtf8, ⊤}
use Rattle.std.specs.Ordering.{nat_cmp}
use Rattle.std.specs.Cmp.Lexicographic.{slice_cmp}
use Rattle.std.specs.declared.cmp.Ordering.TheVariants.{Less}
use Rattle.serde_json.specs.Data.{Num, unsigned, negative, float, Data, null, boolean, number, string, array, object, Items, no_items, item, Members, no_members, member, depth}
use Rattle.serde_json.specs.Read.{max_depth}

-- a whole number of 64 bits
abbrev pub FitsNumber : Num → Type 0
FitsNumber (unsigned n) = n < 2 ^ 64
FitsNumber (negative z) = ⊥
FitsNumber (float x) = ⊥

-- the key stands before the first of the members in byte order
abbrev pub IsBeforeFirst : List ℕ → Members → Type 0
IsBeforeFirst k no_members = ⊤
IsBeforeFirst k (member l d ms) = slice_cmp nat_cmp k l ≡ Less

-- its numbers are whole and of 64 bits, and the keys of each object rise
abbrev mutual
  pub Fits : Data → Type 0
  Fits null = ⊤
  Fits (boolean b) = ⊤
  Fits (number n) = FitsNumber n
  Fits (string s) = ⊤
  Fits (array ds) = ItemsFit ds
  Fits (object ms) = MembersFit ms

  pub ItemsFit : Items → Type 0
  ItemsFit no_items = ⊤
  ItemsFit (item d ds) = Fits d × ItemsFit ds

  pub MembersFit : Members → Type 0
  MembersFit no_members = ⊤
  MembersFit (member k d ms) = IsBeforeFirst k ms × Fits d × MembersFit ms

-- its strings and keys are UTF-8
abbrev mutual
  pub IsText : Data → Type 0
  IsText null = ⊤
  IsText (boolean b) = ⊤
  IsText (number n) = ⊤
  IsText (string s) = IsUtf8 s
  IsText (array ds) = ItemsAreText ds
  IsText (object ms) = MembersAreText ms

  pub ItemsAreText : Items → Type 0
  ItemsAreText no_items = ⊤
  ItemsAreText (item d ds) = IsText d × ItemsAreText ds

  pub MembersAreText : Members → Type 0
  MembersAreText no_members = ⊤
  MembersAreText (member k d ms) = IsUtf8 k × IsText d × MembersAreText ms

-- data that a reader takes back from its compact text
pub record IsReadable (d : Data) : Type 0 where
  pub fits : Fits d
  pub shallow : depth d ≤ max_depth
  pub text : IsText d
