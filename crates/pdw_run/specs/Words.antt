-- The words of the command line: `run N SCRIPT`.
use Rattle.std.specs.Prelude.{◌≡◌, ℕ, ◌≤◌, List, [], ◌∷◌, codes}
use Rattle.std.specs.Fmt.{decimal}

-- the words ask to run a script over 1 to 16 nodes, the number written in digits without sign or leading zero
pub record AskRun (words : List (List ℕ)) (nodes : ℕ) (script : List ℕ) : Type 0 where
  pub some : 1 ≤ nodes
  pub most : nodes ≤ 16
  pub form : words ≡ codes "run" ∷ decimal nodes ∷ script ∷ []

-- the words ask for nothing that there is
abbrev pub HaveNoForm : List (List ℕ) → Type 0
HaveNoForm words = (nodes : ℕ) (script : List ℕ) → ¬ (AskRun words nodes script)
