-- What reading a script tells of the texts of the grammar, whatever their parentheses.
use Rattle.std.proofs.Common.{◌≡◌, ℕ, zero, suc, ◌+◌, ◌≤◌, List, [], ◌∷◌, ◌++◌, Some, None, is_none, refl, sym, ◌∙◌, ap, subst, append_assoc, append-nil, arith}
use Rattle.pdw_lex.specs.declared.sign.Sign.TheVariants.{ParenOpen, Semicolon}
use Rattle.pdw_lex.specs.declared.token.Lexeme.{Lexeme}
use Rattle.pdw_lex.specs.declared.token.Lexeme.TheVariants.{Sign}
use Rattle.pdw_syntax.specs.Parentheses.{Parentheses}
use Rattle.pdw_syntax.specs.Lexemes.{is_sign}
use Rattle.pdw_syntax.specs.Queries.{select}
use Rattle.pdw_syntax.specs.Statements.{statement}
use Rattle.pdw_syntax.specs.Texts.{parentheses, script, IsText}
use Rattle.pdw_syntax.specs.declared.query.Select.{Select}
use Rattle.pdw_syntax.specs.declared.statement.Statement.{Statement}
use Rattle.pdw_reading.specs.Levels.{nested}
use Rattle.pdw_reading.specs.Reading.{Outcome, read, stopped, next, and_then, take}
use Rattle.pdw_reading.specs.ReadStatements.{script as read_script, next_statement, statement as statement_read}
use Rattle.pdw_reading.specs.ReadExprs.{Nested}
use Rattle.pdw_reading.specs.declared.parse_error.Stop.TheVariants.{Memory, Syntax, TooDeep}
use Rattle.pdw_reading.proofs.Law.{Lawful, Within, Begins, Tells, TellsRead, TellsSyntax, TellsTooDeep, Above, open_from}
use Rattle.pdw_reading.proofs.Depths.{within_first, within_rest}
use Rattle.pdw_reading.specs.Depth.{open_past}
use Rattle.pdw_reading.proofs.ClosureMany.{many_ends}
use Rattle.pdw_reading.proofs.LevelLaws.{level_law}
use Rattle.pdw_reading.proofs.QueryLaws.{select_law}
use Rattle.pdw_reading.proofs.Rules.{then_map, either_map, many_map}
use Rattle.pdw_reading.proofs.StatementLaws.{next_statement_law, script_law as script_law_at}

-- ---- texts of a level are texts of the levels above it

statement_wider : (g g' : Parentheses) → ((w : List Lexeme) (s : Select) → select g w s → select g' w s)
    → (w : List Lexeme) (x : Statement) → statement g w x → statement g' w x
unfolding statement
statement_wider g g' into =
    either_map (λ v y t. t) (either_map (λ v y t. t) (either_map (λ v y t. t) (either_map (λ v y t. t) (either_map (λ v y t. t) (either_map (λ v y t. t) (either_map (then_map into (λ y v z t. t))
    (either_map (either_map (then_map (then_map (λ v y t. t) (λ u. into)) (λ y v z t. t)) (then_map (then_map (λ v y t. t) (λ u. into)) (λ y v z t. t)))
    (either_map (then_map (then_map (λ v y t. t) (λ u. into)) (λ y v z t. t))
    (then_map (λ v y t. t) (λ u. then_map (λ v y t. t) (λ u'. then_map (λ v y t. t) (λ file. then_map (λ v y t. t) (λ u''. then_map into (λ y v z t. t))))))))))))))

script_wider : (k : ℕ) (w : List Lexeme) (ss : List Statement) → script (parentheses k) w ss → script (parentheses (suc k)) w ss
script_wider k = many_map (then_map (statement_wider (parentheses k) (parentheses (suc k)) (select_law (level_law k)).wider) (λ x w y t. t))

script_widest : (j k : ℕ) (w : List Lexeme) (ss : List Statement) → script (parentheses k) w ss → script (parentheses (j + k)) w ss
script_widest zero k w ss t = let none : k ≡ 0 + k = omega arith in subst (λ m. script (parentheses m) w ss) none t
script_widest (suc j) k w ss t = let one : suc (j + k) ≡ suc j + k = omega arith in
    subst (λ m. script (parentheses m) w ss) one (script_wider (j + k) w ss (script_widest j k w ss t))

-- ---- the readings of a level

pub script_law : (n : ℕ) → Lawful (suc (suc n)) (script (parentheses (suc (suc n)))) (script (parentheses (suc (suc (suc n))))) (read_script (nested (suc (suc n)))) (read_script (nested (suc (suc (suc n))))) is_none
script_law n = script_law_at (level_law (suc (suc n)))

-- more levels read the same
above_read : (n : ℕ) (ts : List Lexeme) (ss : List Statement) (rest : List Lexeme) → read_script (nested (suc (suc n))) ts ≡ read ss rest
    → (j : ℕ) → read_script (nested (suc (suc (j + n)))) ts ≡ read ss rest
above_read n ts ss rest reads zero = let none : n ≡ 0 + n = omega arith in subst (λ m. read_script (nested (suc (suc m))) ts ≡ read ss rest) none reads
above_read n ts ss rest reads (suc j) = let one : suc (j + n) ≡ suc j + n = omega arith in
    subst (λ m. read_script (nested (suc (suc m))) ts ≡ read ss rest) one
    (subst (λ o. Above o (read_script (nested (suc (suc (suc (j + n))))) ts)) (above_read n ts ss rest reads j) ((script_law (j + n)).above ts))

-- more levels stop at the same place
above_syntax : (n : ℕ) (ts rest : List Lexeme) → read_script (nested (suc (suc n))) ts ≡ stopped Syntax rest
    → (j : ℕ) → read_script (nested (suc (suc (j + n)))) ts ≡ stopped Syntax rest
above_syntax n ts rest stops zero = let none : n ≡ 0 + n = omega arith in subst (λ m. read_script (nested (suc (suc m))) ts ≡ stopped Syntax rest) none stops
above_syntax n ts rest stops (suc j) = let one : suc (j + n) ≡ suc j + n = omega arith in
    subst (λ m. read_script (nested (suc (suc m))) ts ≡ stopped Syntax rest) one
    (subst (λ o. Above o (read_script (nested (suc (suc (suc (j + n))))) ts)) (above_syntax n ts rest stops j) ((script_law (j + n)).above ts))

-- a text is read whole with enough levels
reads_text : (ts : List Lexeme) (ss : List Statement) (t : IsText ts ss) (n : ℕ) → read_script (nested (suc (suc (t.levels + n)))) ts ≡ read ss []
reads_text ts ss t n =
    let enough : suc (suc n) + t.levels ≡ suc (suc (t.levels + n)) = omega arith in
    ap (λ us. read_script (nested (suc (suc (t.levels + n)))) us) (sym (append-nil ts))
    ∙ (script_law (t.levels + n)).again ts ss [] (subst (λ m. script (parentheses m) ts ss) enough (script_widest (suc (suc n)) t.levels ts ss t.spells)) refl

-- ---- what the outcomes tell

-- some text of the grammar begins so
pub record BeginsText (front : List Lexeme) : Type 0 where
  pub more : List Lexeme
  pub means : List Statement
  pub text : IsText (front ++ more) means

-- the front opens no more than the limit and can go on, but not by the next lexeme, nor can it end where none comes
pub record FaultsAt (limit : ℕ) (ts front rest : List Lexeme) : Type 0 where
  pub whole : ts ≡ front ++ rest
  pub within : Within limit 0 front
  pub begins : BeginsText front
  pub no_more : (l : Lexeme) (us : List Lexeme) → rest ≡ l ∷ us → BeginsText (front ++ l ∷ []) → ⊥
  pub no_text : (ss : List Statement) → IsText ts ss → ⊥

-- the front opens all that the limit allows and can go on by the parenthesis that comes next
pub record IsTooDeepAt (limit : ℕ) (ts front rest : List Lexeme) : Type 0 where
  pub whole : ts ≡ front ++ rest
  pub within : Within limit 0 front
  pub opens : next rest ≡ Some (Sign ParenOpen)
  pub begins : BeginsText (front ++ Sign ParenOpen ∷ [])
  pub deep : open_from 0 front ≡ limit

-- a list of lexemes is a text of one list of statements at most
pub one_meaning : (ts : List Lexeme) (ss ss' : List Statement) → IsText ts ss → IsText ts ss' → ss ≡ ss'
one_meaning ts ss ss' t t' =
    let same : t.levels + t'.levels ≡ t'.levels + t.levels = omega arith in
    let reads = reads_text ts ss t t'.levels in
    let reads' = subst (λ m. read_script (nested (suc (suc m))) ts ≡ read ss' []) (sym same) (reads_text ts ss' t' t.levels) in
    cc

-- lexemes at which some reading stops with Syntax are no text, whatever the levels
never_stops : (n : ℕ) (ts rest : List Lexeme) (ss : List Statement) → read_script (nested (suc (suc n))) ts ≡ stopped Syntax rest → IsText ts ss → ⊥
never_stops n ts rest ss stops t =
    let reads = reads_text ts ss t n in
    let faults = above_syntax n ts rest stops t.levels in
    cc

-- what the law tells of an outcome that is known
tells_at : (n : ℕ) (ts : List Lexeme) (o : Outcome (List Statement)) → read_script (nested (suc (suc n))) ts ≡ o
    → Tells (suc (suc n)) (script (parentheses (suc (suc n)))) (script (parentheses (suc (suc (suc n))))) (read_script (nested (suc (suc n)))) ts o
tells_at n ts o is =
    subst (λ p. Tells (suc (suc n)) (script (parentheses (suc (suc n)))) (script (parentheses (suc (suc (suc n))))) (read_script (nested (suc (suc n)))) ts p) is ((script_law n).tells ts)

begins_text : (n : ℕ) (w : List Lexeme) → Begins (script (parentheses n)) w → BeginsText w
begins_text n w b = record { more = b.more; means = b.means; text = record { levels = n; spells = b.spells } }

within_limit : (n : ℕ) (w : List Lexeme) → ((d : ℕ) → Within (d + n) d w) → Within n 0 w
within_limit n w within = let none : 0 + n ≡ n = omega arith in subst (λ m. Within m 0 w) none (within 0)

-- where a reading with so many levels stops with Syntax: it is the first fault of the lexemes, whatever the levels
pub syntax_place : (n : ℕ) (ts rest : List Lexeme) → read_script (nested (suc (suc n))) ts ≡ stopped Syntax rest
    → (front : List Lexeme) × FaultsAt (suc (suc n)) ts front rest
syntax_place n ts rest stops = (
  told.front,
  record {
    whole = told.whole;
    within = within_limit (suc (suc n)) told.front told.within;
    begins = begins_text (suc (suc (suc n))) told.front told.begins;
    no_more = no_more;
    no_text = λ ss. never_stops n ts rest ss stops;
  },
)
  where
    told : TellsSyntax (suc (suc n)) (script (parentheses (suc (suc (suc n))))) (read_script (nested (suc (suc n)))) ts rest
    told = tells_at n ts (stopped Syntax rest) stops

    no_more : (l : Lexeme) (us : List Lexeme) → rest ≡ l ∷ us → BeginsText (told.front ++ l ∷ []) → ⊥
    no_more l us is b =
        never_stops n (told.front ++ l ∷ b.more) (l ∷ b.more) b.means (told.alike (l ∷ b.more) (ap next is))
        (subst (λ w. IsText w b.means) (append_assoc told.front (l ∷ []) b.more) b.text)

-- where a reading with so many levels finds a parenthesis that is one too many
pub too_deep_place : (n : ℕ) (ts rest : List Lexeme) → read_script (nested (suc (suc n))) ts ≡ stopped TooDeep rest
    → (front : List Lexeme) × IsTooDeepAt (suc (suc n)) ts front rest
too_deep_place n ts rest stops = (
  told.front,
  record {
    whole = told.whole;
    within = within_limit (suc (suc n)) told.front told.within;
    opens = told.opens;
    begins = begins_text (suc (suc (suc n))) (told.front ++ Sign ParenOpen ∷ []) told.begins;
    deep = let none : 0 + suc (suc n) ≡ suc (suc n) = omega arith in told.deep 0 ∙ none;
  },
)
  where
    told : TellsTooDeep (suc (suc n)) (script (parentheses (suc (suc (suc n))))) ts rest
    told = tells_at n ts (stopped TooDeep rest) stops

-- memory is wanted by no reading of lists
pub never_memory : (n : ℕ) (ts rest : List Lexeme) → read_script (nested (suc (suc n))) ts ≡ stopped Memory rest → ⊥
never_memory n ts rest stops = tells_at n ts (stopped Memory rest) stops

-- no further statement comes at the end alone
only_at_end : (k : Nested) (ts rest : List Lexeme) → next_statement k ts ≡ read None rest → ts ≡ []
unfolding next_statement
only_at_end k [] rest reads = refl
only_at_end k (l ∷ ls) rest reads = stated (statement_read k (l ∷ ls)) reads
  where
    closed_by : (x : Statement) (o : Outcome (Unit {0})) → and_then o (λ u us. read (Some x) us) ≡ read None rest → l ∷ ls ≡ []
    closed_by x (read u us) e = cc
    closed_by x (stopped why us) e = cc

    stated : (o : Outcome Statement) → and_then o (λ x us. and_then (take (is_sign Semicolon) us) (λ u us'. read (Some x) us')) ≡ read None rest → l ∷ ls ≡ []
    stated (read x us) e = closed_by x (take (is_sign Semicolon) us) e
    stated (stopped why us) e = cc

-- a script is read to its end
reads_to_end : (n : ℕ) (ts : List Lexeme) (ss : List Statement) (rest : List Lexeme) → read_script (nested (suc (suc n))) ts ≡ read ss rest → rest ≡ []
unfolding read_script
reads_to_end n ts ss rest reads =
    only_at_end (nested (suc (suc n))) rest rest
    (many_ends (next_statement_law (level_law (suc (suc n)))) ts ss rest reads)

-- the lexemes are a text that opens no more than the limit, and all of them are read
pub record IsRead (limit : ℕ) (ts : List Lexeme) (ss : List Statement) (rest : List Lexeme) : Type 0 where
  pub text : IsText ts ss
  pub within : Within limit 0 ts
  pub to_end : rest ≡ []

-- what a reading with so many levels reads
pub read_text : (n : ℕ) (ts : List Lexeme) (ss : List Statement) (rest : List Lexeme) → read_script (nested (suc (suc n))) ts ≡ read ss rest
    → IsRead (suc (suc n)) ts ss rest
read_text n ts ss rest reads = record {
  text = record { levels = suc (suc n); spells = subst (λ w. script (parentheses (suc (suc n))) w ss) whole told.spells };
  within = subst (λ w. Within (suc (suc n)) 0 w) whole (within_limit (suc (suc n)) told.front ((script_law n).balanced told.front ss told.spells).within);
  to_end = to_end;
}
  where
    told : TellsRead (script (parentheses (suc (suc n)))) (read_script (nested (suc (suc n)))) ts ss rest
    told = tells_at n ts (read ss rest) reads

    to_end : rest ≡ []
    to_end = reads_to_end n ts ss rest reads

    whole : told.front ≡ ts
    whole = sym (told.whole ∙ (ap (λ us. told.front ++ us) to_end ∙ append-nil told.front))

-- a text where no more parentheses are open is read
pub reads_within : (n : ℕ) (ts : List Lexeme) (ss : List Statement) → IsText ts ss → Within (suc (suc n)) 0 ts → read_script (nested (suc (suc n))) ts ≡ read ss []
reads_within n ts ss t within = outcome (read_script (nested (suc (suc n))) ts) refl
  where
    passes : (front rest : List Lexeme) → next rest ≡ Some (Sign ParenOpen) → open_from 0 front ≡ suc (suc n) → Within (suc (suc n)) 0 (front ++ rest) → ⊥
    passes front [] opens deep all = cc
    passes front (l ∷ us) opens deep all =
        let same : l ≡ Sign ParenOpen = cc in
        let last : Within (suc (suc n)) (open_past (open_from 0 front) l) us = (within_rest (suc (suc n)) 0 front (l ∷ us) all).1 in
        let first : open_past (open_from 0 front) l ≤ suc (suc n) = within_first (suc (suc n)) (open_past (open_from 0 front) l) us last in
        let past : suc (suc n) + 1 ≤ suc (suc n) = subst (λ d. d + 1 ≤ suc (suc n)) deep (subst (λ k. open_past (open_from 0 front) k ≤ suc (suc n)) same first) in
        omega arith

    outcome : (o : Outcome (List Statement)) → read_script (nested (suc (suc n))) ts ≡ o → o ≡ read ss []
    outcome (read ss' rest) is =
        let told = read_text n ts ss' rest is in
        let same : ss' ≡ ss = one_meaning ts ss' ss told.text t in
        let at_end : rest ≡ [] = told.to_end in
        cc
    outcome (stopped Syntax rest) is = absurd (never_stops n ts rest ss is t)
    outcome (stopped TooDeep rest) is =
        let place = too_deep_place n ts rest is in
        absurd (passes place.0 rest place.1.opens place.1.deep (subst (λ w. Within (suc (suc n)) 0 w) place.1.whole within))
    outcome (stopped Memory rest) is = absurd (never_memory n ts rest is)
