-- The texts of known moments.
use Rattle.std.proofs.Common.{◌≡◌, refl}
use Rattle.std.specs.Prelude.{codes}
use Rattle.ticks.specs.Stamp.{last_digits, civil_date, stamp_text}

pub stamp_text-first : stamp_text 0 ≡ codes "0001-01-01T00:00:00.0000000Z"
unfolding stamp_text civil_date last_digits
stamp_text-first = refl

pub stamp_text-of_2024 : stamp_text 638_396_640_000_000_000 ≡ codes "2024-01-01T00:00:00.0000000Z"
unfolding stamp_text civil_date last_digits
stamp_text-of_2024 = refl

pub stamp_text-epoch : stamp_text 621_355_968_000_000_000 ≡ codes "1970-01-01T00:00:00.0000000Z"
unfolding stamp_text civil_date last_digits
stamp_text-epoch = refl

pub stamp_text-last : stamp_text 3_155_378_975_999_999_999 ≡ codes "9999-12-31T23:59:59.9999999Z"
unfolding stamp_text civil_date last_digits
stamp_text-last = refl
