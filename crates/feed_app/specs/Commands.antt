-- What a list of words means.
use Rattle.std.specs.Prelude.{ℕ, List, [], ◌∷◌, Bool, true, false, codes, length, Option, Some, None, option_map, if◌then◌else◌, ◌==◌, ◌%◌, ⊤}
use Rattle.std.specs.Option.{option_and_then}
use Rattle.std.specs.Str.{bytes_eq}
use Rattle.admin_wire.specs.declared.names.NameKind.{NameKind}
use Rattle.admin_wire.specs.declared.names.NameKind.TheVariants.{Unlist, Relist, Delete}
use Rattle.fold_core.specs.declared.hive.HiveName.{HiveName}
use Rattle.feed_routes.specs.Bases.{is_base_address}
use Rattle.feed_words.specs.Words.{Given, given_in, texts}
use Rattle.feed_app.specs.Hives.{hive_by_word}
use Rattle.feed_app.specs.declared.words.Command as code
use Rattle.feed_app.specs.declared.words.Command.TheVariants as code_of

-- the text of an id and the text of a version
abbrev pub Pair : Type 0
Pair = List ℕ × List ℕ

-- what can be asked for
pub data Command : Type 0 where
  Init : List ℕ → Command
  Publish : Command
  Names : NameKind → List Pair → Command
  Job : HiveName → Command
  Cursor : HiveName → Command
  Get : List ℕ → Command

-- the words by pairs, in their order; a last word that has no other behind it is left out
abbrev pub pairs_of : List (List ℕ) → List Pair
pairs_of [] = []
pairs_of (word ∷ []) = []
pairs_of (id ∷ version ∷ words) = (id, version) ∷ pairs_of words

-- it commits changes
abbrev pub CommitsChanges : Command → Type 0
CommitsChanges Publish = ⊤
CommitsChanges (Names kind pairs) = ⊤
CommitsChanges _ = ⊥

-- what a command of the code asks for
abbrev pub asked : code.Command → Command
asked (code_of.Init base) = Init base.now
asked code_of.Publish = Publish
asked (code_of.Names kind words) = Names kind (pairs_of (texts words.now))
asked (code_of.Job hive) = Job hive
asked (code_of.Cursor hive) = Cursor hive
asked (code_of.Get path) = Get path.now

abbrev pub of_one_word : List ℕ → Option Command
of_one_word word = if bytes_eq word (codes "publish") then Some Publish else None

-- `init` is given a base address
abbrev pub init_with : List ℕ → Option Command
init_with base = if is_base_address base then Some (Init base) else None

abbrev pub of_two_words : List ℕ → List ℕ → Option Command
of_two_words word object =
    if bytes_eq word (codes "init") then init_with object else
    if bytes_eq word (codes "job") then option_map Job (hive_by_word object) else
    if bytes_eq word (codes "cursor") then option_map Cursor (hive_by_word object) else
    if bytes_eq word (codes "get") then Some (Get object) else
    None

-- what is asked for the versions that are named behind this word
abbrev pub name_kind : List ℕ → Option NameKind
name_kind word =
    if bytes_eq word (codes "unlist") then Some Unlist else
    if bytes_eq word (codes "list") then Some Relist else
    if bytes_eq word (codes "delete") then Some Delete else
    None

-- pairs have no word left
abbrev pub of_more_words : List ℕ → List (List ℕ) → Option Command
of_more_words word words = if length words % 2 == 0 then option_map (λ kind. Names kind (pairs_of words)) (name_kind word) else None

-- the command of plain words, where they have a meaning
abbrev pub of_plain : List (List ℕ) → Option Command
of_plain [] = None
of_plain (word ∷ []) = of_one_word word
of_plain (word ∷ object ∷ []) = of_two_words word object
of_plain (word ∷ object ∷ more ∷ words) = of_more_words word (object ∷ more ∷ words)

abbrev pub is_init : Command → Bool
is_init (Init base) = true
is_init _ = false

-- what is given to a command is a base address, and every command but `init` may be given one
abbrev pub may_give : Option (List ℕ) → Bool → Bool
may_give None init = true
may_give (Some base) init = if init then false else is_base_address base

abbrev pub with_base : Option (List ℕ) → Command → Option Command
with_base base command = if may_give base (is_init command) then Some command else None

-- the command of what words give
abbrev pub of_given : Given → Option Command
of_given given = option_and_then (with_base given.base) (of_plain given.plain)

-- the command of these words, where they have a meaning
abbrev pub command_of : List (List ℕ) → Option Command
command_of words = option_and_then of_given (given_in words)

-- the base address that their option gives
abbrev pub base_of : List (List ℕ) → Option (List ℕ)
base_of words = option_and_then (λ given. given.base) (given_in words)
