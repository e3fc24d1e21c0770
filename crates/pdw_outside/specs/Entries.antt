-- Files that are held in memory, as a list of names with their contents.
use Rattle.std.specs.Prelude.{ℕ, List, [], map, Option, Vec}
use Rattle.std.specs.declared.alloc.Global.{Global}
use Rattle.std.specs.Option.{unwrap_or}
use Rattle.std.specs.Str.{bytes_eq}
use Rattle.std.specs.Map.{lookup}
use Rattle.pdw_base.specs.declared.text.Str.{Str}

-- the names with their contents
abbrev pub entries : List (Str × Vec ℕ Global) → List (List ℕ × List ℕ)
entries files = map (λ file. (file.0, file.1.items)) files

-- the content of the first entry with this name, if there is one
abbrev pub content_at : List (List ℕ × List ℕ) → List ℕ → Option (List ℕ)
content_at files name = lookup (bytes_eq name) files

-- the content of a name, where an unknown name is an empty file
abbrev pub content_of : List (List ℕ × List ℕ) → List ℕ → List ℕ
content_of files name = unwrap_or (content_at files name) []
