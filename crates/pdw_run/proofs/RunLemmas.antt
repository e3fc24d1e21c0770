-- Statements that are executed one after the other.
use Rattle.std.proofs.Common.{◌≡◌, ℕ, ◌+◌, ◌<◌, Bool, true, false, true≢false, List, [], ◌∷◌, length, drop, get_or, refl, sym, ap, ◌∙◌, subst, inl, inr, append_assoc, append-nil, Option, None, Some, Result, Ok, Err, IfOk, OnErr}
use Rattle.std.specs.List.{list_all}
use Rattle.std.proofs.lemmas.List.Folds.{list_all_at}
use Rattle.pdw_base.proofs.Steps.{drop-one_more}
use Rattle.pdw_outside.proofs.SinkLemmas.{adds_none}
use Rattle.pdw_outside.specs.Sink.{Adds}
use Rattle.pdw_outside.specs.Whole.{IsContent}
use Rattle.pdw_syntax.specs.declared.statement.Statement.{Statement}
use Rattle.pdw_syntax.specs.Written.{statement_written}
use Rattle.pdw_run.specs.Output.{End, Cut, Refused, Stopped, EndsIn, EndsLine, Gives, Held, Refuses, Writes}
use Rattle.pdw_engine.specs.Plain.{Plain}
use Rattle.pdw_run.specs.Trace.{Trace, cut_at, followed_by, nothing, prints}
use Rattle.pdw_run.specs.declared.status.Status.{Status}
use Rattle.pdw_run.specs.declared.status.Status.TheVariants as status
use Rattle.pdw_run.specs.Run.{EndsBy, EndsRefused, Steps}

followed_by-assoc : (first second third : Trace) → followed_by (followed_by first second) third ≡ followed_by first (followed_by second third)
followed_by-assoc first second third = ap prints (append_assoc first.text second.text third.text)

pub followed_by-nothing : (trace : Trace) → followed_by trace nothing ≡ trace
followed_by-nothing trace = ap prints (append-nil trace.text)

-- each statement of a script that is written whole is so
pub one_written : (statements : List Statement) (place : ℕ) (statement : Statement) → place < length statements → statement ≡ get_or statements place statement
    → list_all statement_written statements ≡ true → statement_written statement ≡ true
one_written statements place statement within item all = by (statement_written statement) refl
  where
    by : (b : Bool) → statement_written statement ≡ b → b ≡ true
    by true is = refl
    by false is = absurd (true≢false (sym all ∙ list_all_at statement_written statements place statement within (ap statement_written (sym item) ∙ is)))

-- what is left of the statements at a place of the loop
module _ (statements : List Statement) (place : ℕ) (statement : Statement) (within : place < length statements) (item : statement ≡ get_or statements place statement) where
  -- the text of one statement, put behind what was written before, is written by the statements so far
  pub Writes-more : (held : Held) (first state next : Plain) (all : List Statement) (done trace : Trace)
      → ((end : End) (rest : Trace) → Writes held (place + 1) state (drop place statements) end rest → Writes held 1 first all end (followed_by done rest))
      → Gives held state statement trace next
      → (end : End) (rest : Trace) → Writes held (place + 1 + 1) next (drop (place + 1) statements) end rest → Writes held 1 first all end (followed_by (followed_by done trace) rest)
  Writes-more held first state next all done trace before gives end rest after =
      subst (Writes held 1 first all end) (sym (followed_by-assoc done trace rest))
      (before end (followed_by trace rest) (subst (λ left. Writes held (place + 1) state left end (followed_by trace rest)) (sym (drop-one_more statements place statement within item))
      (inr (trace, rest, next, gives, after, refl))))

  -- the end at one statement is the end of them all
  pub Writes-end : (held : Held) (first state : Plain) (all : List Statement) (done out : Trace) (end : End)
      → ((end : End) (rest : Trace) → Writes held (place + 1) state (drop place statements) end rest → Writes held 1 first all end (followed_by done rest))
      → EndsIn held (place + 1) state statement end out → Writes held 1 first all end (followed_by done out)
  Writes-end held first state all done out end before ends =
      before end out (subst (λ left. Writes held (place + 1) state left end out) (sym (drop-one_more statements place statement within item)) (inl ends))

-- a step that does not go on ends the script
pub Steps-ended : (held : Held) (k : ℕ) (state : Plain) (statement : Statement) (next : Plain) (before after : List ℕ → ℕ) (old new : Option (List ℕ)) (now : Status)
    → (now ≡ status.Done → ⊥) → Steps held k state statement next before after old new now → EndsBy now before after (EndsIn held k state statement) old new
Steps-ended held k state statement next before after old new status.Done other steps = absurd (other refl)
Steps-ended held k state statement next before after old new status.Refused other steps = steps
Steps-ended held k state statement next before after old new status.BadWords other steps = steps
Steps-ended held k state statement next before after old new status.ReadFault other steps = steps
Steps-ended held k state statement next before after old new status.WriteFault other steps = steps
Steps-ended held k state statement next before after old new status.Memory other steps = steps

-- statements that are not begun for want of memory write nothing
pub Writes-stopped : (held : Held) (k : ℕ) (state : Plain) (statements : List Statement) → Writes held k state statements Stopped nothing
Writes-stopped held k state [] = refl
Writes-stopped held k state (statement ∷ statements) = inl refl

-- the line of a refusal, where it ends what is written
pub EndsBy-refused : (now : Status) (old new : Option (List ℕ)) (earlier later : ℕ) (line : List ℕ) (writes : End → Trace → Type 0) (before after : List ℕ → ℕ)
    → EndsRefused now old new earlier later line → ((end : End) (out : Trace) → EndsLine end line out → writes end out) → EndsBy now before after writes old new
EndsBy-refused status.Done old new earlier later line writes before after ends lawful = absurd ends
EndsBy-refused status.Refused old new earlier later line writes before after ends lawful = (Refused, prints line, refl, lawful Refused (prints line) refl, ends.0)
EndsBy-refused status.BadWords old new earlier later line writes before after ends lawful = absurd ends
EndsBy-refused status.ReadFault old new earlier later line writes before after ends lawful = absurd ends
EndsBy-refused status.WriteFault old new earlier later line writes before after ends lawful = (Cut, cut_at ends.0 (prints line), refl, lawful Cut (cut_at ends.0 (prints line)) (ends.0, refl), ends.1)
EndsBy-refused status.Memory old new earlier later line writes before after ends lawful = absurd ends

-- every name has some content, where it is told and where it is not
pub some_content : (told : Option (List ℕ)) → (content : List ℕ) × IsContent told content
some_content None = ([], tt)
some_content (Some content) = (content, refl)

-- the line that refuses a statement ends the script
pub Steps-refused : (held : Held) (k : ℕ) (state : Plain) (statement : Statement) (next : Plain) (before after : List ℕ → ℕ) (old new : Option (List ℕ)) (earlier later : ℕ) (line : List ℕ) (now : Status)
    → Refuses held k state statement line → EndsRefused now old new earlier later line → Steps held k state statement next before after old new now
Steps-refused held k state statement next before after old new earlier later line status.Done refuses ends = absurd ends
Steps-refused held k state statement next before after old new earlier later line status.Refused refuses ends =
    (Refused, prints line, refl, (line, refuses, refl), ends.0)
Steps-refused held k state statement next before after old new earlier later line status.BadWords refuses ends = absurd ends
Steps-refused held k state statement next before after old new earlier later line status.ReadFault refuses ends = absurd ends
Steps-refused held k state statement next before after old new earlier later line status.WriteFault refuses ends =
    (Cut, cut_at ends.0 (prints line), refl, (prints line, ends.0, inr (line, refuses, refl), refl), ends.1)
Steps-refused held k state statement next before after old new earlier later line status.Memory refuses ends = absurd ends

-- or there is not the memory to make the line, and then nothing is written
pub Steps-refused_by : (held : Held) (k : ℕ) (state : Plain) (statement : Statement) (next : Plain) (before after : List ℕ → ℕ) (old new : Option (List ℕ)) (earlier later : ℕ) (line : List ℕ) (now : Status)
    {T E : Type 0} (made : Result T E) (bytes : T → List ℕ) → Refuses held k state statement line → IfOk made (λ text. bytes text ≡ line) → IfOk made (λ text. EndsRefused now old new earlier later (bytes text))
    → OnErr made ((now ≡ status.Memory) × (new ≡ old) × (later ≡ earlier)) → Steps held k state statement next before after old new now
Steps-refused_by held k state statement next before after old new earlier later line now (Ok text) bytes refuses is ends memory =
    Steps-refused held k state statement next before after old new earlier later line now refuses (subst (EndsRefused now old new earlier later) is ends)
Steps-refused_by held k state statement next before after old new earlier later line now (Err e) bytes refuses is ends (none, same, count) =
    subst (Steps held k state statement next before after old new) (sym none) (Stopped, nothing, refl, refl, subst (λ (o : Option (List ℕ)). Adds old o []) (sym same) (adds_none old))
