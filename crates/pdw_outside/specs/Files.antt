-- What a read gives of a file's content.
use Rattle.std.specs.Prelude.{◌≡◌, ◌≤◌, ℕ, List, length, take, drop, Option, Some, None}

-- where the content is told, the first `count` bytes of the buffer are those from place `at`
abbrev pub GivesFrom : Option (List ℕ) → ℕ → ℕ → List ℕ → Type 0
GivesFrom None at count buf = Unit {0}
GivesFrom (Some content) at count buf = take count buf ≡ take count (drop at content)

-- where the content is told, nothing of it lies at the place or past it
abbrev pub EndsBy : Option (List ℕ) → ℕ → Type 0
EndsBy None at = Unit {0}
EndsBy (Some content) at = length content ≤ at
