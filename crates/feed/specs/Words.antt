-- The words of a call of the program.
use Rattle.std.specs.Prelude.{◌≡◌, ◌⊎◌, ◌∷◌, ◌++◌, ◌<◌, ℕ, List, [], length, String, string_bytes}
use Rattle.std.specs.declared.alloc.Global.{Global}

-- the program's name, the folder, which isn't empty, and the words of the command
abbrev pub HasFolder : List (String Global) → List ℕ → List (String Global) → Type 0
HasFolder all folder command = (name : List (String Global)) × (word : String Global) × (all ≡ (name ++ word ∷ []) ++ command)
    × (length name ≡ 1) × (string_bytes word ≡ folder) × (0 < length folder)

-- what is told of all words: their folder and command, or nothing; a command is told with a folder alone
abbrev pub IsSplit : List (String Global) → List ℕ → List (String Global) → Type 0
IsSplit all folder command = HasFolder all folder command ⊎ ((folder ≡ []) × (command ≡ []))
