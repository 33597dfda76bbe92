-- The pieces that a body is cut into.
use Rattle.std.specs.Prelude.{◌≡◌, ◌<◌, ◌^◌, ℕ, List, ◌∷◌, ◌++◌, length, decimal}
use Rattle.admin_wire.specs.declared.header.Lengths.{Lengths}

-- three numbers joined by spaces
abbrev pub spaced : ℕ → ℕ → ℕ → List ℕ
spaced a b c = decimal a ++ (32 ∷ (decimal b ++ (32 ∷ decimal c)))

-- the parts have these lengths
pub record HaveLengths (lens : Lengths) (meta nuspec nupkg : List ℕ) : Type 0 where
  pub meta_len : length meta ≡ lens.meta
  pub nuspec_len : length nuspec ≡ lens.nuspec
  pub nupkg_len : length nupkg ≡ lens.nupkg

-- the text is these numbers, of 1 to 8 digits, with single spaces
pub record IsHeader (text : List ℕ) (lens : Lengths) : Type 0 where
  pub spelled : text ≡ spaced lens.meta lens.nuspec lens.nupkg
  pub meta_fits : lens.meta < 10 ^ 8
  pub nuspec_fits : lens.nuspec < 10 ^ 8
  pub nupkg_fits : lens.nupkg < 10 ^ 8
