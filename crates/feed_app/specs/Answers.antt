-- What is written for each answer, and its status.
use Rattle.std.specs.Prelude.{ℕ, List, Option, Some, None, codes}
use Rattle.admin_wire.specs.Lines.{line_text, status_of}
use Rattle.feed_base.specs.declared.status.Status.{Status}
use Rattle.feed_app.specs.declared.answer.Answer.{Answer}
use Rattle.feed_app.specs.declared.answer.Answer.TheVariants.{Reply, Document, Usage}

-- what is written for an answer: a document's bytes alone, or a line
abbrev pub answer_text : Answer → List ℕ
answer_text (Reply line) = line_text line
answer_text (Document bytes) = bytes
answer_text Usage = codes "usage: feed <folder> init|publish|unlist|list|delete|job|cursor|get|verify|script|generate|serve\n"

-- the number of a line's status; the lines that a server alone tells have none, and no command answers them
abbrev pub line_number : Option Status → ℕ
line_number (Some status) = status.number
line_number None = 0

-- the status that goes with it
abbrev pub answer_status : Answer → ℕ
answer_status (Reply line) = line_number (status_of line)
answer_status (Document bytes) = 0
answer_status Usage = 2
