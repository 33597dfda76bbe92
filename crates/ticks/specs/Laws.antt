-- What holds of the stamps of all moments.
use Rattle.std.specs.Prelude.{◌≡◌, ◌<◌, ◌≤◌, ℕ, length}
use Rattle.std.specs.Cmp.Lexicographic.{slice_cmp}
use Rattle.std.specs.Ordering.{nat_cmp}
use Rattle.std.specs.Str.{IsAscii}
use Rattle.std.specs.declared.cmp.Ordering.TheVariants.{Less}
use Rattle.ticks.specs.Reading.{Written, letter, IsTextOf, IsMomentOf}
use Rattle.ticks.specs.Stamp.{stamp_text}

-- the numbers of a stamp are the date and the time of day of its moment, with seven decimals and the letter
abbrev pub StampsShowTheirMoments : Type 0
StampsShowTheirMoments =
    (n : ℕ) → n ≤ 3_155_378_975_999_999_999 → (w : Written) × IsTextOf w (stamp_text n) × IsMomentOf w n × (w.places ≡ 7) × (w.zone ≡ letter)

-- stamps of later moments come later in the order of bytes
abbrev pub StampsRise : Type 0
StampsRise =
    (m n : ℕ) → m < n → n ≤ 3_155_378_975_999_999_999 → slice_cmp nat_cmp (stamp_text m) (stamp_text n) ≡ Less

-- a stamp has 28 bytes of ASCII
abbrev pub StampsAreShort : Type 0
StampsAreShort = (n : ℕ) → (length (stamp_text n) ≡ 28) × IsAscii (stamp_text n)
