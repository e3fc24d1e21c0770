-- What a statement does in the session, as the script tells it.
use Rattle.std.proofs.Common.{◌≡◌, ℕ, List, Option, Some, Result, Ok, Err, IfErr, IfOk, refl, sym, subst, inl, inr}
use Rattle.std.specs.Result.{IsErrAnd, MatchResult}
use Rattle.pdw_syntax.specs.declared.statement.Statement.{Statement}
use Rattle.pdw_engine.specs.Executes.{Gives as Answered, IsGiven, StopsWork}
use Rattle.pdw_engine.specs.Plain.{Plain}
use Rattle.pdw_engine.specs.Prepared.{Prepares, StopsFirst, wanted}
use Rattle.pdw_answer.specs.declared.answer.Answer.{Answer}
use Rattle.pdw_engine.specs.declared.stop.Stop.{Stop as EngineStop}
use Rattle.pdw_engine.specs.declared.stop.Stop.TheVariants as engine
use Rattle.pdw_walk.specs.Statements.{judgement}
use Rattle.pdw_walk.specs.declared.fault.JudgeFault.{JudgeFault}
use Rattle.pdw_form.specs.declared.judged.Judged.{Judged}
use Rattle.pdw_form.specs.declared.judged.Judged.TheVariants as judged
use Rattle.pdw_run.specs.Output.{Gives, Held, IsTold}
use Rattle.pdw_run.specs.Stops.{Stops, StopsFile, stop_of}
use Rattle.pdw_show.specs.Answer.{shown_answer}
use Rattle.pdw_run.specs.Trace.{prints}
use Rattle.pdw_run.specs.declared.stop.Stop.{Stop}
use Rattle.pdw_run.specs.declared.stop.Stop.TheVariants.{Refused, TooLong, Unread, Memory}

-- an answer is passed on, and an error is passed on in other words
module _ {T E D : Type 0} (turned : E → D → Type 0) where
  abbrev Passes : Result T E → Result T D → Type 0
  Passes told now = MatchResult told (λ y. now ≡ Ok y) (λ e. IsErrAnd now (turned e))

  pub ok-passed : (told : Result T E) (now : Result T D) (P : T → Type 0) → Passes told now → IfOk told P → IfOk now P
  ok-passed (Ok y) now P same holds = subst (λ (r : Result T D). IfOk r P) (sym same) holds
  ok-passed (Err e) (Ok x) P none holds = absurd none
  ok-passed (Err e) (Err d) P turns holds = tt

  pub err-passed : (told : Result T E) (now : Result T D) (P : E → Type 0) (Q : D → Type 0) → ((e : E) (d : D) → P e → turned e d → Q d) → Passes told now → IfErr told P → IfErr now Q
  err-passed (Ok y) now P Q other same holds = subst (λ (r : Result T D). IfErr r Q) (sym same) tt
  err-passed (Err e) (Ok x) P Q other none holds = absurd none
  err-passed (Err e) (Err d) P Q other turns holds = other e d holds turns

same_work : (right : Result Judged JudgeFault) (a b : Judged) → right ≡ Ok a → right ≡ Ok b → a ≡ b
same_work right a b first second = cc

module _ (held : Held) (old : Plain) (statement : Statement) where
  -- a statement that is not prepared
  pub Stops-first : (counts : List ℕ → ℕ) (stop : EngineStop) → StopsFirst old.tables statement stop → Stops held counts counts old statement (stop_of stop)
  Stops-first counts (engine.Refused fault) first = (λ k. inl (fault, first, refl), refl)
  Stops-first counts engine.Memory first = refl

  module _ (work : Judged) (prepares : Prepares old.tables statement work) where
    -- a statement whose file is not used
    pub Stops-file : (before after : List ℕ → ℕ) (stop : Stop) → StopsFile held before after (wanted work) stop → Stops held before after old statement stop
    Stops-file before after (Refused fault) stops = absurd stops
    Stops-file before after TooLong (file, wants, (content, told, long), same) =
        (λ k. inr (work, prepares, record { file = file; wants = wants; content = content; told = told; fault = inl (long, refl) }), same)
    Stops-file before after Unread (file, wants, rose) = (file, (work, prepares, wants), rose)
    Stops-file before after Memory same = same

    -- the answer of a statement, printed
    pub Gives-answered : (file : Option (List ℕ)) (answer : Answer) (new : Plain) → IsTold held (wanted work) file → Answered old statement file answer new → Gives held old statement (prints (shown_answer answer)) new
    Gives-answered file answer new told answered =
        let one = same_work (judgement old.tables statement) work answered.work prepares.right (answered.prepares).right in
        record { file = file; answer = answer; answered = answered; told = subst (λ w. IsTold held (wanted w) file) one told; printed = refl }

  -- a statement that is not done with the file that it wants
  pub Stops-work : (counts : List ℕ → ℕ) (work : Judged) (file : Option (List ℕ)) (stop : EngineStop) → Prepares old.tables statement work → IsGiven work file → IsTold held (wanted work) file
      → StopsWork old work file stop → Stops held counts counts old statement (stop_of stop)
  Stops-work counts (judged.Load name wants) (Some content) (engine.Refused fault) prepares given told refused = (
    λ k. inr (judged.Load name wants, prepares, record { file = wants; wants = refl; content = content; told = told; fault = inr (given, fault, refused, refl) }),
    refl,
  )
  Stops-work counts work file engine.Memory prepares given told stops = refl
  Stops-work counts _ _ (engine.Refused fault) prepares given told refused = absurd refused
