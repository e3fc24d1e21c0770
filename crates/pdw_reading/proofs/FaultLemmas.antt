-- Places of faults, and how many parentheses are open there.
use Rattle.std.proofs.Common.{◌≡◌, ℕ, zero, suc, ◌+◌, ◌-◌, ◌≤◌, ◌<◌, List, [], ◌∷◌, ◌++◌, length, take, drop, fold, Some, None, slice_get, refl, sym, ◌∙◌, ap, subst, ◌⊎◌, inl, inr, arith, length-append, append_assoc}
use Rattle.std.proofs.Math.Seq.{take-append_seam}
use Rattle.std.proofs.lemmas.List.{take-append-le, take-take, take-append-drop, length-map}
use Rattle.std.proofs.lemmas.Option.{slice_get_within}
use Rattle.pdw_lex.specs.declared.sign.Sign.TheVariants.{ParenOpen}
use Rattle.pdw_lex.specs.declared.token.Lexeme.{Lexeme}
use Rattle.pdw_lex.specs.declared.token.Lexeme.TheVariants.{Sign}
use Rattle.pdw_lex.specs.declared.token.Token.{Token}
use Rattle.pdw_syntax.specs.Texts.{IsText}
use Rattle.pdw_syntax.specs.declared.statement.Statement.{Statement}
use Rattle.pdw_reading.specs.Depth.{IsShallow, open_after, open_past}
use Rattle.pdw_reading.specs.Fault.{Begins, IsSyntaxFault, IsDepthFault, IsFault, StandsAt, begins_at}
use Rattle.pdw_reading.specs.Levels.{nested}
use Rattle.pdw_reading.specs.ReadStatements.{script}
use Rattle.pdw_reading.specs.Reading.{read, stopped}
use Rattle.pdw_reading.specs.Spells.{Spells}
use Rattle.pdw_reading.specs.Tokens.{lexemes}
use Rattle.pdw_reading.specs.declared.parse_error.ParseError.{ParseError}
use Rattle.pdw_reading.specs.declared.parse_error.ParseError.TheVariants as fault
use Rattle.pdw_reading.specs.declared.parse_error.Stop.TheVariants.{Syntax, TooDeep}
use Rattle.pdw_reading.specs.declared.limit.TheConstants.{MOST_OPEN}
use Rattle.pdw_reading.proofs.Law.{Within, open_from}
use Rattle.pdw_reading.proofs.PlaceLaws.{BeginsText, FaultsAt, IsTooDeepAt, read_text, syntax_place, too_deep_place}

-- ---- how many are open

opened : (d : ℕ) (w : List Lexeme) → open_from d w ≡ fold open_past d w
opened d [] = refl
opened d (l ∷ w) = opened (open_past d l) w

within_take : (most d : ℕ) (w : List Lexeme) → Within most d w → (place : ℕ) → open_from d (take place w) ≤ most
within_take most d [] all zero = all
within_take most d [] all (suc p) = all
within_take most d (l ∷ w) all zero = all.0
within_take most d (l ∷ w) all (suc p) = within_take most (open_past d l) w all.1 p

-- a front that opens no more than the limit is shallow to its end
shallow : (most : ℕ) (front rest : List Lexeme) → Within most 0 front → IsShallow most (front ++ rest) (length front)
shallow most front rest all place before =
    rw (take-append-le place front rest before) (rw (← opened 0 (take place front)) (within_take most 0 front all place))

-- one lexeme more is taken
taken_next : (d : ℕ) (w : List Lexeme) (place : ℕ) (l : Lexeme) → slice_get w place ≡ Some l
    → fold open_past d (take (suc place) w) ≡ open_past (fold open_past d (take place w)) l
taken_next d [] place l is = cc
taken_next d (k ∷ w) zero l is = let same : k ≡ l = cc in ap (open_past d) same
taken_next d (k ∷ w) (suc p) l is = taken_next (open_past d k) w p l is

-- past the parenthesis of a fault of depth one too many is open
pub too_many : (text : List Lexeme) (place : ℕ) → IsDepthFault text place → open_after (take (place + 1) text) ≡ MOST_OPEN + 1
too_many text place f =
    let one : place + 1 ≡ suc place = omega arith in
    ap (λ p. open_after (take p text)) one ∙ taken_next 0 text place (Sign ParenOpen) f.opens ∙ ap (λ n. n + 1) f.full

pub passes : (text : List Lexeme) (place before : ℕ) → IsDepthFault text place → IsShallow MOST_OPEN text before → place < before → ⊥
passes text place before f shallow below =
    let most : open_after (take (place + 1) text) ≤ MOST_OPEN = shallow (place + 1) (omega arith) in
    let past : MOST_OPEN + 1 ≤ MOST_OPEN = subst (λ n. n ≤ MOST_OPEN) (too_many text place f) most in
    omega arith

-- ---- what begins a text

begins_front : (u v : List Lexeme) → Begins (u ++ v) → Begins u
begins_front u v b = record { more = v ++ b.more; statements = b.statements; means = subst (λ w. IsText w b.statements) (append_assoc u v b.more) b.means }

begins_earlier : (text : List Lexeme) (p q : ℕ) → p ≤ q → Begins (take q text) → Begins (take p text)
begins_earlier text p q below b =
    subst Begins (take-take p q text below) (begins_front (take p (take q text)) (drop p (take q text)) (subst Begins (sym (take-append-drop p (take q text))) b))

begins : (front : List Lexeme) → BeginsText front → Begins front
begins front b = record { more = b.more; statements = b.means; means = b.text }

-- ---- the outcomes of reading

-- the place of what is left
place_of : (front rest : List Lexeme) → length (front ++ rest) - length rest ≡ length front
place_of front rest = omega (arith, length-append front rest)

pub spells : (ts : List Lexeme) (ss : List Statement) (rest : List Lexeme) → script (nested 32) ts ≡ read ss rest → Spells ts ss
spells ts ss rest reads =
    let told = read_text 30 ts ss rest reads in
    record { means = told.text; shallow = λ place before. rw (← opened 0 (take place ts)) (within_take MOST_OPEN 0 ts told.within place) }

take_more : (front us : List Lexeme) (l : Lexeme) → take (length front + 1) (front ++ l ∷ us) ≡ front ++ l ∷ []
take_more [] us l = refl
take_more (k ∷ front) us l = let one : length (k ∷ front) + 1 ≡ suc (length front + 1) = omega arith in
    ap (λ n. take n (k ∷ (front ++ l ∷ us))) one ∙ ap (λ w. k ∷ w) (take_more front us l)

get_next : (front us : List Lexeme) (l : Lexeme) → slice_get (front ++ l ∷ us) (length front) ≡ Some l
get_next [] us l = refl
get_next (k ∷ front) us l = get_next front us l

-- a fault after the front
syntax_after : (front rest : List Lexeme) → FaultsAt MOST_OPEN (front ++ rest) front rest → IsSyntaxFault (front ++ rest) (length front)
syntax_after front rest f = record {
  within = omega (arith, length-append front rest);
  before = rw (take-append_seam front rest) (begins front f.begins);
  here = here rest f;
  whole = f.no_text;
  shallow = shallow MOST_OPEN front rest f.within;
}
  where
    here : (us : List Lexeme) → FaultsAt MOST_OPEN (front ++ us) front us → length front < length (front ++ us) → Begins (take (length front + 1) (front ++ us)) → ⊥
    here [] g below b = let none : length (front ++ []) ≡ length front + 0 = length-append front [] in let no : ⊥ = omega arith in no
    here (l ∷ us) g below b =
        let c = subst Begins (take_more front us l) b in
        g.no_more l us refl (record { more = c.more; means = c.statements; text = c.means })

depth_after : (front rest : List Lexeme) → IsTooDeepAt MOST_OPEN (front ++ rest) front rest → IsDepthFault (front ++ rest) (length front)
depth_after front [] f = let no : None ≡ Some (Sign ParenOpen) = f.opens in cc
depth_after front (l ∷ us) f =
    let same : l ≡ Sign ParenOpen = let is : Some l ≡ Some (Sign ParenOpen) = f.opens in cc in
    record {
      opens = get_next front us l ∙ ap (λ k. Some k) same;
      possible = rw (take_more front us l) (rw same (begins (front ++ Sign ParenOpen ∷ []) f.begins));
      full = ap open_after (take-append_seam front (l ∷ us)) ∙ sym (opened 0 front) ∙ f.deep;
      shallow = shallow MOST_OPEN front (l ∷ us) f.within;
    }

-- what is left is left of the lexemes
pub record IsLeft (IsAt : List Lexeme → ℕ → Type 0) (ts rest : List Lexeme) : Type 0 where
  pub fits : length rest ≤ length ts
  pub fault : IsAt ts (length ts - length rest)

left_after : (IsAt : List Lexeme → ℕ → Type 0) (ts front rest : List Lexeme) → ts ≡ front ++ rest → IsAt (front ++ rest) (length front) → IsLeft IsAt ts rest
left_after IsAt ts front rest whole at =
    subst (λ w. IsLeft IsAt w rest) (sym whole) (record { fits = omega (arith, length-append front rest); fault = subst (IsAt (front ++ rest)) (sym (place_of front rest)) at })

syntax_left : (ts rest : List Lexeme) → script (nested 32) ts ≡ stopped Syntax rest → IsLeft IsSyntaxFault ts rest
syntax_left ts rest stops =
    let told = syntax_place 30 ts rest stops in
    left_after IsSyntaxFault ts told.0 rest told.1.whole (syntax_after told.0 rest (subst (λ w. FaultsAt MOST_OPEN w told.0 rest) told.1.whole told.1))

depth_left : (ts rest : List Lexeme) → script (nested 32) ts ≡ stopped TooDeep rest → IsLeft IsDepthFault ts rest
depth_left ts rest stops =
    let told = too_deep_place 30 ts rest stops in
    left_after IsDepthFault ts told.0 rest told.1.whole (depth_after told.0 rest (subst (λ w. IsTooDeepAt MOST_OPEN w told.0 rest) told.1.whole told.1))

-- ---- the same for tokens

tokens_left : (tokens : List Token) → length (lexemes tokens) ≡ length tokens
tokens_left tokens = length-map tokens (λ t. t.lexeme)

stands : (IsAt : List Lexeme → ℕ → Type 0) (tokens : List Token) (rest : List Lexeme) (end at : ℕ) → IsLeft IsAt (lexemes tokens) rest
    → at ≡ begins_at (slice_get tokens (length tokens - length rest)) end → StandsAt IsAt tokens end at
stands IsAt tokens rest end at left bytes = record {
  place = length tokens - length rest;
  fault = subst (λ n. IsAt (lexemes tokens) (n - length rest)) (tokens_left tokens) left.fault;
  bytes = bytes;
}

pub syntax_fits : (tokens : List Token) (rest : List Lexeme) → script (nested 32) (lexemes tokens) ≡ stopped Syntax rest → length rest ≤ length tokens
syntax_fits tokens rest stops = subst (λ n. length rest ≤ n) (tokens_left tokens) (syntax_left (lexemes tokens) rest stops).fits

pub syntax_stands : (tokens : List Token) (rest : List Lexeme) (end at : ℕ) → script (nested 32) (lexemes tokens) ≡ stopped Syntax rest
    → at ≡ begins_at (slice_get tokens (length tokens - length rest)) end → StandsAt IsSyntaxFault tokens end at
syntax_stands tokens rest end at stops = stands IsSyntaxFault tokens rest end at (syntax_left (lexemes tokens) rest stops)

pub depth_fits : (tokens : List Token) (rest : List Lexeme) → script (nested 32) (lexemes tokens) ≡ stopped TooDeep rest → length rest ≤ length tokens
depth_fits tokens rest stops = subst (λ n. length rest ≤ n) (tokens_left tokens) (depth_left (lexemes tokens) rest stops).fits

pub depth_stands : (tokens : List Token) (rest : List Lexeme) (end at : ℕ) → script (nested 32) (lexemes tokens) ≡ stopped TooDeep rest
    → at ≡ begins_at (slice_get tokens (length tokens - length rest)) end → StandsAt IsDepthFault tokens end at
depth_stands tokens rest end at stops = stands IsDepthFault tokens rest end at (depth_left (lexemes tokens) rest stops)

-- ---- one fault at most

order : (p q : ℕ) → (p ≡ q) ⊎ ((p < q) ⊎ (q < p))
order p q = grind arith

syntax_earlier : (text : List Lexeme) (p q : ℕ) → IsSyntaxFault text p → IsSyntaxFault text q → p < q → ⊥
syntax_earlier text p q f g below =
    let in_text : q ≤ length text = g.within in
    f.here (omega arith) (begins_earlier text (p + 1) q (omega arith) g.before)

syntax_first : (text : List Lexeme) (p q : ℕ) → IsSyntaxFault text p → IsSyntaxFault text q → p ≡ q
syntax_first text p q f g = by_order (order p q)
  where
    by_order : (p ≡ q) ⊎ ((p < q) ⊎ (q < p)) → p ≡ q
    by_order (inl same) = same
    by_order (inr (inl below)) = absurd (syntax_earlier text p q f g below)
    by_order (inr (inr above)) = absurd (syntax_earlier text q p g f above)

depth_first : (text : List Lexeme) (p q : ℕ) → IsDepthFault text p → IsDepthFault text q → p ≡ q
depth_first text p q f g = by_order (order p q)
  where
    by_order : (p ≡ q) ⊎ ((p < q) ⊎ (q < p)) → p ≡ q
    by_order (inl same) = same
    by_order (inr (inl below)) = absurd (passes text p q f g.shallow below)
    by_order (inr (inr above)) = absurd (passes text q p g f.shallow above)

-- no fault of depth stands beside one of syntax
never_both : (text : List Lexeme) (p q : ℕ) → IsSyntaxFault text p → IsDepthFault text q → ⊥
never_both text p q f g = by_order (order p q)
  where
    in_text : q < length text
    in_text = slice_get_within text q (Sign ParenOpen) g.opens

    not_after : p ≤ q → ⊥
    not_after below = f.here (omega (arith, in_text)) (begins_earlier text (p + 1) (q + 1) (omega arith) g.possible)

    by_order : (p ≡ q) ⊎ ((p < q) ⊎ (q < p)) → ⊥
    by_order (inl same) = not_after (omega arith)
    by_order (inr (inl below)) = not_after (omega arith)
    by_order (inr (inr above)) = passes text q p g f.shallow above

same_bytes : {IsAt : List Lexeme → ℕ → Type 0} (tokens : List Token) (end at other : ℕ) (f : StandsAt IsAt tokens end at) (g : StandsAt IsAt tokens end other)
    → f.place ≡ g.place → at ≡ other
same_bytes tokens end at other f g same = f.bytes ∙ ap (λ p. begins_at (slice_get tokens p) end) same ∙ sym g.bytes

pub one_fault : (tokens : List Token) (end : ℕ) (e f : ParseError) → IsFault tokens end e → IsFault tokens end f → (e ≡ fault.Memory → ⊥) → (f ≡ fault.Memory → ⊥) → e ≡ f
one_fault tokens end (fault.Syntax at) (fault.Syntax other) f g not not' =
    ap (λ n. fault.Syntax n) (same_bytes tokens end at other f g (syntax_first (lexemes tokens) f.place g.place f.fault g.fault))
one_fault tokens end (fault.Syntax at) (fault.TooDeep other) f g not not' = absurd (never_both (lexemes tokens) f.place g.place f.fault g.fault)
one_fault tokens end (fault.Syntax at) fault.Memory f g not not' = absurd (not' refl)
one_fault tokens end (fault.TooDeep at) (fault.Syntax other) f g not not' = absurd (never_both (lexemes tokens) g.place f.place g.fault f.fault)
one_fault tokens end (fault.TooDeep at) (fault.TooDeep other) f g not not' =
    ap (λ n. fault.TooDeep n) (same_bytes tokens end at other f g (depth_first (lexemes tokens) f.place g.place f.fault g.fault))
one_fault tokens end (fault.TooDeep at) fault.Memory f g not not' = absurd (not' refl)
one_fault tokens end fault.Memory f g h not not' = absurd (not refl)

-- what spells statements has no fault
pub no_fault : (tokens : List Token) (end : ℕ) (statements : List Statement) (e : ParseError) → Spells (lexemes tokens) statements → IsFault tokens end e → e ≡ fault.Memory
no_fault tokens end statements (fault.Syntax at) s f = absurd (f.fault.whole statements s.means)
no_fault tokens end statements (fault.TooDeep at) s f =
    absurd (passes (lexemes tokens) f.place (length (lexemes tokens)) f.fault s.shallow (slice_get_within (lexemes tokens) f.place (Sign ParenOpen) f.fault.opens))
no_fault tokens end statements fault.Memory s f = refl
