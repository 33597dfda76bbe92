-- What the program tells of itself.
use Rattle.std.specs.Prelude.{ℕ, List, [], ◌∷◌, ◌++◌, codes, Option, None, Some, if◌then◌else◌}
use Rattle.std.specs.Str.{bytes_eq}

-- what it is, each command with its words, and the statuses
abbrev pub help_lines : List (List ℕ)
help_lines =
    codes "feed: a NuGet package feed in a folder" ∷
    codes "" ∷
    codes "feed <folder> init <base>              makes the empty catalog of a feed at this base address" ∷
    codes "feed <folder> publish                  commits the packages that standard input holds" ∷
    codes "feed <folder> unlist <id> <version>..  takes versions out of the listing, in one commit" ∷
    codes "feed <folder> list <id> <version>..    puts versions into the listing again, in one commit" ∷
    codes "feed <folder> delete <id> <version>..  deletes versions, in one commit" ∷
    codes "feed <folder> job <hive>               brings the documents of a hive up to the last commit" ∷
    codes "feed <folder> cursor <hive>            tells the number of the commit up to which they are" ∷
    codes "feed <folder> get <path>               writes the document of this path" ∷
    codes "feed --help                            writes this text" ∷
    codes "feed --version                         writes the version, and that of the kit" ∷
    codes "" ∷
    codes "A hive is plain, semver2, content or auto. Every command but init takes --base=<base>" ∷
    codes "or --base <base> behind its word: a catalog of another base address is then refused." ∷
    codes "" ∷
    codes "status 0  done" ∷
    codes "status 2  the words have no meaning" ∷
    codes "status 3  refused, by the rule that the line names" ∷
    codes "status 4  a call of the folder's files failed" ∷
    codes "status 5  the input or the output failed" ∷
    codes "status 6  a file is damaged or absent" ∷
    codes "status 7  the input is too long" ∷
    codes "status 8  out of memory" ∷
    []

-- its version, and the kit's, by which it is proved
abbrev pub version_lines : List (List ℕ)
version_lines =
    codes "feed, unreleased" ∷
    codes "rattle-kit-13f logic dac8208d650f15bf" ∷
    []

-- each line with a line feed
abbrev pub text_of : List (List ℕ) → List ℕ
text_of [] = []
text_of (line ∷ lines) = line ++ codes "\n" ++ text_of lines

-- what is told for a word
abbrev pub text_for : List ℕ → Option (List ℕ)
text_for word =
    if bytes_eq word (codes "--help") then Some (text_of help_lines) else
    if bytes_eq word (codes "--version") then Some (text_of version_lines) else
    None

-- what is told for one that stands alone
abbrev pub own_text : List ℕ → List (List ℕ) → Option (List ℕ)
own_text word [] = text_for word
own_text word (more ∷ words) = None
