-- The ticks of the system's time.
use Rattle.std.specs.Prelude.{ℕ, ◌+◌, ◌/◌}

-- the tick of a moment so many nanoseconds after the beginning of 1970
abbrev pub tick_at : ℕ → ℕ
tick_at nanos = nanos / 100 + 621355968000000000
