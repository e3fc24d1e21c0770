-- The lawful outputs of a script.
use Rattle.std.specs.Prelude.{◌≡◌, ◌⊎◌, ⊤, ℕ, ◌+◌, ◌≤◌, ◌<◌, List, [], ◌∷◌, ◌++◌, length, codes, Option, Some, None, IsSome}
use Rattle.pdw_syntax.specs.declared.statement.Statement.{Statement}
use Rattle.pdw_engine.specs.Executes.{Gives as Answered, RefusesWork}
use Rattle.pdw_engine.specs.Plain.{Plain, start}
use Rattle.pdw_engine.specs.Prepared.{Prepares, RefusesFirst, wanted}
use Rattle.pdw_answer.specs.declared.answer.Answer.{Answer}
use Rattle.pdw_answer.specs.declared.refusal.Refusal.{Refusal}
use Rattle.pdw_base.specs.declared.limits.TheConstants.{MOST_FILE_BYTES}
use Rattle.pdw_outside.specs.Faults.{Rose}
use Rattle.pdw_outside.specs.Whole.{IsContent}
use Rattle.pdw_form.specs.declared.judged.Judged.{Judged}
use Rattle.pdw_base.specs.declared.limits.TheConstants.{MOST_SCRIPT_BYTES}
use Rattle.pdw_run.specs.declared.status.Status.{Status}
use Rattle.pdw_run.specs.declared.status.Status.TheVariants as status
use Rattle.pdw_run.specs.Reading.{IsScript, IsTextFault}
use Rattle.pdw_run.specs.Refusal.{long_script_line, limit_line}
use Rattle.pdw_run.specs.RefusalLine.{refusal_line}
use Rattle.pdw_show.specs.Answer.{shown_answer}
use Rattle.pdw_run.specs.Trace.{Trace, cut_at, followed_by, nothing, prints}
use Rattle.pdw_run.specs.Words.{AskRun, HaveNoForm}

-- the bytes that the files tell of each name
abbrev pub Held : Type 0
Held = List ℕ → Option (List ℕ)

-- ---- one statement

-- the content of the file that is wanted, exactly where one is
abbrev pub IsTold : Held → Option (List ℕ) → Option (List ℕ) → Type 0
IsTold held None None = ⊤
IsTold held (Some name) (Some content) = IsContent (held name) content
IsTold held _ _ = ⊥

-- a statement in a state leaves this trace and that state: it answers, with the file that it wants, and its answer is printed
pub record Gives (held : Held) (old : Plain) (statement : Statement) (trace : Trace) (new : Plain) : Type 0 where
  pub file : Option (List ℕ)
  pub answer : Answer
  pub answered : Answered old statement file answer new
  pub told : IsTold held (wanted answered.work) file
  pub printed : trace ≡ prints (shown_answer answer)

-- why the content of a file is not used, by this line of statement k: it is too long, or what was judged can't be done with it
abbrev pub FailsContent : ℕ → Plain → Judged → List ℕ → List ℕ → Type 0
FailsContent k old work content line =
    ((MOST_FILE_BYTES < length content) × (line ≡ limit_line k (codes "file") MOST_FILE_BYTES))
    ⊎ ((length content ≤ MOST_FILE_BYTES) × (fault : Refusal) × RefusesWork old work (Some content) fault × (line ≡ refusal_line k fault))

-- what was judged can't be done as statement k, by this line
pub record Fails (held : Held) (k : ℕ) (old : Plain) (work : Judged) (line : List ℕ) : Type 0 where
  pub file : List ℕ
  pub wants : wanted work ≡ Some file
  pub content : List ℕ
  pub told : IsContent (held file) content
  pub fault : FailsContent k old work content line

-- statement k is refused in a state, by this line: its form is not executed or it is judged to have this fault, or it fails when it is done
abbrev pub Refuses : Held → ℕ → Plain → Statement → List ℕ → Type 0
Refuses held k old statement line =
    ((fault : Refusal) × RefusesFirst old.tables statement fault × (line ≡ refusal_line k fault))
    ⊎ ((work : Judged) × Prepares old.tables statement work × Fails held k old work line)

-- a statement in a state wants a file: it is judged to be without fault
abbrev pub Wants : Plain → Statement → List ℕ → Type 0
Wants old statement file = (work : Judged) × Prepares old.tables statement work × (wanted work ≡ Some file)

-- ---- how a script ends

-- every statement was executed and its text written; a refusal was written; a file could not be read; a text was cut; memory was wanted
pub data End : Type 0 where
  Finished : End
  Refused : End
  Unread : List ℕ → End
  Cut : End
  Stopped : End

-- a line alone, whole or cut
abbrev pub EndsLine : End → List ℕ → Trace → Type 0
EndsLine Finished line out = ⊥
EndsLine Refused line out = out ≡ prints line
EndsLine (Unread file) line out = ⊥
EndsLine Cut line out = (count : ℕ) × (out ≡ cut_at count (prints line))
EndsLine Stopped line out = out ≡ nothing

-- no statement is left
abbrev pub EndsAfter : End → Trace → Type 0
EndsAfter Finished out = out ≡ nothing
EndsAfter Refused out = ⊥
EndsAfter (Unread file) out = ⊥
EndsAfter Cut out = ⊥
EndsAfter Stopped out = out ≡ nothing

-- the text of statement k is its own, or the line that refuses it
abbrev pub Says : Held → ℕ → Plain → Statement → Trace → Type 0
Says held k old statement trace = ((new : Plain) × Gives held old statement trace new) ⊎ ((line : List ℕ) × Refuses held k old statement line × (trace ≡ prints line))

-- the script ends at statement k, of which this is left
abbrev pub EndsIn : Held → ℕ → Plain → Statement → End → Trace → Type 0
EndsIn held k old statement Finished out = ⊥
EndsIn held k old statement Refused out = (line : List ℕ) × Refuses held k old statement line × (out ≡ prints line)
EndsIn held k old statement (Unread file) out = Wants old statement file × (out ≡ nothing)
EndsIn held k old statement Cut out = (trace : Trace) × (count : ℕ) × Says held k old statement trace × (out ≡ cut_at count trace)
EndsIn held k old statement Stopped out = out ≡ nothing

-- statements, of which the first has number k, leave this and end so: each gives its text in the state that the one before it left, to the end or to
-- the statement at which the script ends
abbrev pub Writes : Held → ℕ → Plain → List Statement → End → Trace → Type 0
Writes held k old [] end out = EndsAfter end out
Writes held k old (statement ∷ statements) end out =
    EndsIn held k old statement end out
    ⊎ ((trace rest : Trace) × (new : Plain) × Gives held old statement trace new × Writes held (k + 1) new statements end rest × (out ≡ followed_by trace rest))

-- what the bytes of a script write: the line of a text fault alone, or what its statements write; nothing where memory was wanted to tell which
abbrev pub ScriptWrites : Held → ℕ → List ℕ → End → Trace → Type 0
ScriptWrites held nodes script end out =
    ((MOST_SCRIPT_BYTES < length script) × EndsLine end long_script_line out)
    ⊎ ((length script ≤ MOST_SCRIPT_BYTES) × (line : List ℕ) × IsTextFault script line × EndsLine end line out)
    ⊎ ((length script ≤ MOST_SCRIPT_BYTES) × (statements : List Statement) × IsScript script statements × Writes held 1 (start nodes) statements end out)
    ⊎ ((end ≡ Stopped) × (out ≡ nothing))

-- what the script of a name writes; nothing where it was not read
abbrev pub Outputs : Held → ℕ → List ℕ → End → Trace → Type 0
Outputs held nodes name end out =
    ((script : List ℕ) × IsContent (held name) script × ScriptWrites held nodes script end out) ⊎ ((end ≡ Unread name) × (out ≡ nothing))

-- ---- the status

-- the end that a status tells; a file is told as unread only where its count of faults rose
abbrev pub Tells : Status → (List ℕ → ℕ) → (List ℕ → ℕ) → End → Type 0
Tells status.Done before after end = end ≡ Finished
Tells status.Refused before after end = end ≡ Refused
Tells status.BadWords before after end = ⊥
Tells status.ReadFault before after end = (file : List ℕ) × (end ≡ Unread file) × Rose (before file) (after file)
Tells status.WriteFault before after end = end ≡ Cut
Tells status.Memory before after end = end ≡ Stopped

-- the words have no form and nothing is written, or the script that they name writes this and ends as the status tells
abbrev pub Lawful : Held → (List ℕ → ℕ) → (List ℕ → ℕ) → List (List ℕ) → Status → Trace → Type 0
Lawful held before after words state out =
    ((state ≡ status.BadWords) × HaveNoForm words × (out ≡ nothing))
    ⊎ ((nodes : ℕ) × (script : List ℕ) × AskRun words nodes script × (end : End) × Tells state before after end × Outputs held nodes script end out)

-- the counts of the files are as before, but where a file could not be read
abbrev pub SameReading : Status → (List ℕ → ℕ) → (List ℕ → ℕ) → Type 0
SameReading status.Done before after = after ≡ before
SameReading status.Refused before after = after ≡ before
SameReading status.BadWords before after = after ≡ before
SameReading status.ReadFault before after = Unit {0}
SameReading status.WriteFault before after = after ≡ before
SameReading status.Memory before after = after ≡ before

-- the count of the sink is as before, but where a text could not be written, and there it rose
abbrev pub CountsWriting : Status → ℕ → ℕ → Type 0
CountsWriting status.Done before after = after ≡ before
CountsWriting status.Refused before after = after ≡ before
CountsWriting status.BadWords before after = after ≡ before
CountsWriting status.ReadFault before after = after ≡ before
CountsWriting status.WriteFault before after = Rose before after
CountsWriting status.Memory before after = after ≡ before

-- ---- what a run meets

-- a lawful output of the script of a name may stop at this file: it is the script, or a statement that is reached wants it
abbrev pub MayStopAt : Held → ℕ → List ℕ → List ℕ → Type 0
MayStopAt held nodes script file = (out : Trace) × Outputs held nodes script (Unread file) out

-- the words ask for a run that meets no fault: no lawful output ends with a refusal, and no file at which one may stop failed
abbrev pub MeetsNoFault : Held → (List ℕ → ℕ) → (List ℕ → ℕ) → List (List ℕ) → Type 0
MeetsNoFault held before after words =
    (nodes : ℕ) (script : List ℕ) → AskRun words nodes script
    → ((out : Trace) → ¬ (Outputs held nodes script Refused out)) × ((file : List ℕ) → MayStopAt held nodes script file → ¬ (Rose (before file) (after file)))

-- the words ask for a run that can only be refused: no lawful output is finished, and no file at which one may stop failed
abbrev pub IsRefusedOnly : Held → (List ℕ → ℕ) → (List ℕ → ℕ) → List (List ℕ) → Type 0
IsRefusedOnly held before after words =
    (nodes : ℕ) (script : List ℕ) → AskRun words nodes script
    → ((out : Trace) → ¬ (Outputs held nodes script Finished out)) × ((file : List ℕ) → MayStopAt held nodes script file → ¬ (Rose (before file) (after file)))

-- ---- laws

-- the files tell the bytes of each name
abbrev pub TellsAll : Held → Type 0
TellsAll held = (name : List ℕ) → IsSome (held name)

-- the output is whole: every statement was executed, or the line of a refusal ends it
abbrev pub IsWhole : End → Type 0
IsWhole Finished = Unit {0}
IsWhole Refused = Unit {0}
IsWhole (Unread file) = ⊥
IsWhole Cut = ⊥
IsWhole Stopped = ⊥

-- the text begins a whole lawful output of the script of a name
abbrev pub BeginsOutput : Held → ℕ → List ℕ → List ℕ → Type 0
BeginsOutput held nodes script text =
    (end : End) × (whole : Trace) × (more : List ℕ) × IsWhole end × Outputs held nodes script end whole × (whole.text ≡ text ++ more)
