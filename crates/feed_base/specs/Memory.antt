-- The source, the sink, the link and the clock in memory: which of their calls are to fail, and how many there were.
use Rattle.std.specs.Prelude.{◌≡◌, ◌⊎◌, ◌<◌, ◌+◌, ℕ, List, length, Contains}
use Rattle.feed_base.specs.Clock.{answer_at}
use Rattle.feed_base.specs.Counts.{raised}
use Rattle.feed_base.specs.declared.clock_list.ClockList.{ClockList}
use Rattle.feed_base.specs.declared.link_mem.LinkMem.{LinkMem}
use Rattle.feed_base.specs.declared.sink_mem.SinkMem.{SinkMem}
use Rattle.feed_base.specs.declared.source_mem.SourceMem.{SourceMem}

-- no read was made, and those of these numbers are to fail
abbrev pub IsNewSource : List ℕ → SourceMem → Type 0
IsNewSource fails s = (s.calls ≡ 0) × (s.fails.items ≡ fails)

-- the next read is to fail
abbrev pub ReadIsToFail : SourceMem → Type 0
ReadIsToFail s = Contains s.fails.items (raised s.calls)

-- a read more was made
abbrev pub HasRead : SourceMem → SourceMem → Type 0
HasRead old new = (new.calls ≡ raised old.calls) × (new.fails.items ≡ old.fails.items)

-- no write was made, those of these numbers are to fail, and there is this room
abbrev pub IsNewSink : ℕ → List ℕ → SinkMem → Type 0
IsNewSink room fails s = (s.calls ≡ 0) × (s.fails.items ≡ fails) × (s.room ≡ room)

-- the next write is to fail, or its piece finds no room
abbrev pub WriteIsToFail : SinkMem → List ℕ → Type 0
WriteIsToFail s piece = Contains s.fails.items (raised s.calls) ⊎ (s.room < length s.taken.items + length piece)

-- a write more was made
abbrev pub HasWritten : SinkMem → SinkMem → Type 0
HasWritten old new = (new.calls ≡ raised old.calls) × (new.fails.items ≡ old.fails.items) × (new.room ≡ old.room)

-- no answer was given, and these are to come
abbrev pub IsNewClock : List ℕ → ClockList → Type 0
IsNewClock list c = (c.calls ≡ 0) × (c.list.items ≡ list)

-- this is the next answer of the list, or its last one
abbrev pub IsNextAnswer : ℕ → ClockList → Type 0
IsNextAnswer answer c = answer ≡ answer_at c.list.items c.calls

-- an answer more was given
abbrev pub HasAnswered : ClockList → ClockList → Type 0
HasAnswered old new = (new.calls ≡ raised old.calls) × (new.list.items ≡ old.list.items)

-- no call was made, the reads and writes of these numbers are to fail, and there is this room
abbrev pub IsNewLink : ℕ → List ℕ → List ℕ → LinkMem → Type 0
IsNewLink room reads writes l = IsNewSource reads l.input × IsNewSink room writes l.output
