-- The text of each reply line, and its two numbers.
use Rattle.std.specs.Prelude.{◌++◌, ℕ, List, Option, Some, None, codes, decimal}
use Rattle.feed_base.specs.declared.status.Status.{Status}
use Rattle.fold_core.specs.declared.hive.HiveName.{HiveName}
use Rattle.fold_core.specs.declared.hive.HiveName.TheVariants.{Plain, SemVer2, Content, Auto}
use Rattle.pkg_meta.specs.declared.error.MetaErr.{MetaErr}
use Rattle.pkg_meta.specs.declared.error.MetaErr.TheVariants as meta
use Rattle.ticks.specs.Stamp.{stamp_text}
use Rattle.admin_wire.specs.declared.area.AreaName.{AreaName}
use Rattle.admin_wire.specs.declared.area.AreaName.TheVariants as area
use Rattle.admin_wire.specs.declared.error.BodyErr.{BodyErr}
use Rattle.admin_wire.specs.declared.error.BodyErr.TheVariants as body
use Rattle.admin_wire.specs.declared.line.Generated.{Generated}
use Rattle.admin_wire.specs.declared.line.Line.{Line}
use Rattle.admin_wire.specs.declared.line.Line.TheVariants as line
use Rattle.admin_wire.specs.declared.line.Refusal.{Refusal}
use Rattle.admin_wire.specs.declared.line.Refusal.TheVariants as refused

-- the word for a hive
abbrev pub hive_text : HiveName → List ℕ
hive_text Plain = codes "plain"
hive_text SemVer2 = codes "semver2"
hive_text Content = codes "content"
hive_text Auto = codes "auto"

-- the word for an area
abbrev pub area_text : AreaName → List ℕ
area_text area.Catalog = codes "catalog"
area_text (area.Hive hive) = hive_text hive

-- words, a space, a number and a line feed
abbrev pub number_text : List ℕ → ℕ → List ℕ
number_text words n = words ++ (codes " " ++ (decimal n ++ codes "\n"))

-- words, a place, a number and a line feed
abbrev pub place_text : List ℕ → ℕ → ℕ → List ℕ
place_text words place number = words ++ (codes " " ++ (decimal place ++ (codes " " ++ (decimal number ++ codes "\n"))))

-- a word, a hive, a number and a line feed
abbrev pub hive_number_text : List ℕ → HiveName → ℕ → List ℕ
hive_number_text word hive n = word ++ (codes " " ++ (hive_text hive ++ (codes " " ++ (decimal n ++ codes "\n"))))

-- a word, a hive, a name and a line feed
abbrev pub hive_name_text : List ℕ → HiveName → List ℕ → List ℕ
hive_name_text word hive name = word ++ (codes " " ++ (hive_text hive ++ (codes " " ++ (name ++ codes "\n"))))

-- why metadata is refused, in words; metadata is never told so for want of memory
abbrev pub meta_text : MetaErr → List ℕ
meta_text (meta.TooLarge len) = codes "large " ++ decimal len
meta_text meta.NotJson = codes "json"
meta_text (meta.Field name) = codes "field " ++ name
meta_text (meta.BadId path) = codes "id " ++ path
meta_text meta.BadVersion = codes "version"
meta_text (meta.BadRange path) = codes "range " ++ path
meta_text meta.Memory = codes "memory"

-- the line for metadata that is refused
abbrev pub refused_meta_text : ℕ → MetaErr → List ℕ
refused_meta_text place why = codes "refused meta " ++ (decimal place ++ (codes " " ++ (meta_text why ++ codes "\n")))

-- the line for a base address that isn't the catalog's
abbrev pub base_text : List ℕ → List ℕ → List ℕ
base_text stored given = codes "refused base " ++ (stored ++ (codes " " ++ (given ++ codes "\n")))

-- the line for a refusal
abbrev pub refusal_text : Refusal → List ℕ
refusal_text (refused.Exists place number) = place_text (codes "refused exists") place number
refusal_text (refused.Absent place number) = place_text (codes "refused absent") place number
refusal_text (refused.Already place number) = place_text (codes "refused already") place number
refusal_text (refused.Twice place) = number_text (codes "refused twice") place
refusal_text (refused.IdFull place) = number_text (codes "refused idfull") place
refusal_text (refused.Full items) = number_text (codes "refused full") items
refusal_text refused.ClockEnd = codes "refused clockend\n"
refusal_text refused.Empty = codes "refused empty\n"
refusal_text (refused.TooMany len) = number_text (codes "refused toomany") len
refusal_text (refused.Body at) = number_text (codes "refused body") at
refusal_text (refused.Id place) = number_text (codes "refused id") place
refusal_text (refused.Version place) = number_text (codes "refused version") place
refusal_text (refused.Meta place why) = refused_meta_text place why
refusal_text refused.Missing = codes "refused missing\n"
refusal_text refused.Initialised = codes "refused initialised\n"
refusal_text refused.Uninitialised = codes "refused uninitialised\n"
refusal_text (refused.Base stored given) = base_text stored given
refusal_text (refused.NotEmpty n) = number_text (codes "refused notempty") n
refusal_text refused.Served = codes "refused served\n"
refusal_text (refused.Line n) = number_text (codes "refused line") n

-- a commit's number and stamp
abbrev pub committed_text : ℕ → ℕ → List ℕ
committed_text number stamp = codes "committed " ++ (decimal number ++ (codes " " ++ (stamp_text stamp ++ codes "\n")))

-- the hives with their numbers of documents
abbrev pub hives_text : Generated → List ℕ
hives_text g =
    codes "plain " ++ (decimal g.plain ++ (codes " semver2 " ++ (decimal g.semver2 ++ (codes " content " ++ (decimal g.content
    ++ (codes " auto " ++ decimal g.auto))))))

-- the line for a generated catalog
abbrev pub generated_text : Generated → List ℕ
generated_text g =
    codes "generated commits " ++ (decimal g.commits ++ (codes " items " ++ (decimal g.items ++ (codes " pages " ++ (decimal g.pages
    ++ (codes " " ++ (hives_text g ++ codes "\n")))))))

-- the line for a fault of an area's store
abbrev pub fault_text : AreaName → List ℕ
fault_text name = codes "fault " ++ (area_text name ++ codes "\n")

-- the line for a document that isn't held as it is to be
abbrev pub damaged_text : AreaName → List ℕ → List ℕ
damaged_text name blob = codes "damaged " ++ (area_text name ++ (codes "/" ++ (blob ++ codes "\n")))

-- the text of a line, with its line feed
abbrev pub line_text : Line → List ℕ
line_text line.Initialised = codes "initialised\n"
line_text (line.Committed number stamp) = committed_text number stamp
line_text (line.Done hive n) = hive_number_text (codes "done") hive n
line_text (line.Idle hive n) = hive_number_text (codes "idle") hive n
line_text (line.Joined hive n) = hive_number_text (codes "joined") hive n
line_text (line.Left hive key) = hive_name_text (codes "left") hive key
line_text (line.Cursor hive n) = hive_number_text (codes "cursor") hive n
line_text (line.Same hive n) = hive_number_text (codes "same") hive n
line_text line.Stopping = codes "stopping\n"
line_text (line.Differs hive name) = hive_name_text (codes "differs") hive name
line_text (line.Generated numbers) = generated_text numbers
line_text (line.Refused why) = refusal_text why
line_text (line.Fault name) = fault_text name
line_text line.FaultInput = codes "fault input\n"
line_text (line.Damaged name blob) = damaged_text name blob
line_text line.TooLong = codes "toolong\n"
line_text line.Memory = codes "memory\n"

-- the line that tells why a body is refused
abbrev pub body_line : BodyErr → Line
body_line (body.Shape at) = line.Refused (refused.Body at)
body_line (body.Meta place why) = line.Refused (refused.Meta place why)
body_line (body.Id place) = line.Refused (refused.Id place)
body_line (body.Version place) = line.Refused (refused.Version place)
body_line body.Memory = line.Memory

-- some status
abbrev pub status : ℕ → Option Status
status number = Some (record { number = number })

-- the status that goes with a line, where it has one
abbrev pub status_of : Line → Option Status
status_of line.Initialised = status 0
status_of (line.Committed number stamp) = status 0
status_of (line.Done hive n) = status 0
status_of (line.Idle hive n) = status 0
status_of (line.Joined hive n) = status 0
status_of (line.Left hive key) = None
status_of (line.Cursor hive n) = status 0
status_of (line.Same hive n) = status 0
status_of line.Stopping = None
status_of (line.Differs hive name) = status 3
status_of (line.Generated numbers) = status 0
status_of (line.Refused why) = status 3
status_of (line.Fault name) = status 4
status_of line.FaultInput = status 5
status_of (line.Damaged name blob) = status 6
status_of line.TooLong = status 7
status_of line.Memory = status 8

-- the number of HTTP's status that goes with a refusal, where it has one
abbrev pub refusal_http : Refusal → Option ℕ
refusal_http (refused.Exists place number) = Some 409
refusal_http (refused.Absent place number) = Some 409
refusal_http (refused.Already place number) = Some 409
refusal_http (refused.Twice place) = Some 409
refusal_http (refused.IdFull place) = Some 409
refusal_http (refused.Full items) = Some 409
refusal_http refused.ClockEnd = Some 409
refusal_http refused.Empty = Some 400
refusal_http (refused.TooMany len) = Some 400
refusal_http (refused.Body at) = Some 400
refusal_http (refused.Id place) = Some 400
refusal_http (refused.Version place) = Some 400
refusal_http (refused.Meta place why) = Some 400
refusal_http refused.Missing = Some 404
refusal_http refused.Initialised = None
refusal_http refused.Uninitialised = None
refusal_http (refused.Base stored given) = None
refusal_http (refused.NotEmpty n) = None
refusal_http refused.Served = None
refusal_http (refused.Line n) = None

-- the number of HTTP's status that goes with a line, where it has one
abbrev pub http_of : Line → Option ℕ
http_of line.Initialised = None
http_of (line.Committed number stamp) = Some 201
http_of (line.Done hive n) = Some 200
http_of (line.Idle hive n) = Some 200
http_of (line.Joined hive n) = Some 200
http_of (line.Left hive key) = Some 409
http_of (line.Cursor hive n) = Some 200
http_of (line.Same hive n) = Some 200
http_of line.Stopping = Some 200
http_of (line.Differs hive name) = None
http_of (line.Generated numbers) = None
http_of (line.Refused why) = refusal_http why
http_of (line.Fault name) = Some 503
http_of line.FaultInput = None
http_of (line.Damaged name blob) = Some 500
http_of line.TooLong = None
http_of line.Memory = Some 507
