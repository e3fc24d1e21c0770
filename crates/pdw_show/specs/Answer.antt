-- What statements print that were executed. Each line ends with a line feed.
use Rattle.std.specs.Prelude.{⊤, ℕ, List, ◌++◌, codes}
use Rattle.std.specs.Fmt.{decimal}
use Rattle.pdw_answer.specs.declared.answer.Answer.{Answer}
use Rattle.pdw_answer.specs.declared.answer.Answer.TheVariants.{Done, Loaded, Rows, Plan, Json, Profile, Checked}
use Rattle.pdw_show.specs.Plan.{plan_text}
use Rattle.pdw_show.specs.Profile.{profile_text}
use Rattle.pdw_show.specs.Rows.{rows_text}
use Rattle.pdw_show.specs.Verdict.{IsFound, verdict_line}

-- a statement that only changes the tables, the statistics or the settings
abbrev pub done_text : List ℕ
done_text = codes "OK\n"

-- LOAD of so many records
abbrev pub loaded_text : ℕ → List ℕ
loaded_text records = codes "LOADED " ++ (decimal records ++ codes "\n")

-- EXPLAIN JSON: the plan file as one line
abbrev pub file_text : List ℕ → List ℕ
file_text bytes = bytes ++ codes "\n"

-- a statement that gave this answer
abbrev pub shown_answer : Answer → List ℕ
shown_answer Done = done_text
shown_answer (Loaded records) = loaded_text records
shown_answer (Rows table) = rows_text table.names table.rows
shown_answer (Plan plan) = plan_text plan
shown_answer (Json bytes) = file_text bytes
shown_answer (Profile profile) = profile_text profile
shown_answer (Checked verdict) = verdict_line verdict

-- a verdict that is a want of memory has no text
abbrev pub HasText : Answer → Type 0
HasText Done = ⊤
HasText (Loaded records) = ⊤
HasText (Rows table) = ⊤
HasText (Plan plan) = ⊤
HasText (Json bytes) = ⊤
HasText (Profile profile) = ⊤
HasText (Checked verdict) = IsFound verdict
