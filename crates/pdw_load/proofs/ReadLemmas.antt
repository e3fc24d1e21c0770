-- Single reads of a text, one after the other, give its records.
use Rattle.std.proofs.Common.{◌≡◌, ◌==◌, ◌&&◌, ◌<◌, ◌≤◌, ◌+◌, ◌-◌, ◌∷◌, [], ℕ, zero, suc, Bool, true, false, List, length, Option, Some, None, if◌then◌else◌, refl, ap, ◌∙◌, arith, add-one}
use Rattle.std.proofs.lemmas.Bool.{false≢true}
use Rattle.std.specs.Option.{unwrap_or}
use Rattle.csv.specs.Machine.{Read, after_end, carriage_return, ends_at_end, ends_with, field_after, fields_after, in_field, is_byte, is_end, line_feed, next_record, start_field, start_record, step}
use Rattle.csv.specs.Reading.{ReadRecord, Reached, default_config, records_from, records_next, source_of}
use Rattle.csv.specs.declared.parser.Action.{Action}
use Rattle.csv.specs.declared.parser.Action.TheVariants as act
use Rattle.csv.specs.declared.parser.Config.{Config}
use Rattle.csv.specs.declared.parser.State.{State}
use Rattle.csv.specs.declared.parser.State.TheVariants as st
use Rattle.csv.specs.declared.parser.Terminator.{Terminator}
use Rattle.csv.specs.declared.parser.Terminator.TheVariants as term
use Rattle.csv.specs.declared.reader.Reader.{Reader}
use Rattle.csv.proofs.ReadFacts.{rows-end, rows-more}
use Rattle.pdw_load.specs.Records.{Fields}

-- a step that ends a record leaves the machine between records
abbrev Rests : State × Action → Type 0
Rests after = is_end after.1 ≡ true → ends_at_end after.0 ≡ false

goes-on : {X : Type 0} → false ≡ true → X
goes-on e = absurd (false≢true e)

either : (b : Bool) (x y : State × Action) → Rests x → Rests y → Rests (if b then x else y)
either true x y on_x on_y = on_x
either false x y on_x on_y = on_y

line-rests : (c : ℕ) (cr : Bool) → ends_at_end (if cr then st.AfterCr else st.StartRecord) ≡ false
line-rests c true = refl
line-rests c false = refl

end-rests : (t : Terminator) (c : ℕ) → ends_at_end (after_end t c) ≡ false
end-rests term.CRLF c = line-rests c (c == carriage_return)
end-rests (term.Any t) c = refl

in_field-rests : (cfg : Config) (c : ℕ) → Rests (in_field cfg c)
in_field-rests cfg c =
    either (c == cfg.delimiter) (st.StartField, act.EndField) (if ends_with cfg.terminator c then (after_end cfg.terminator c, act.EndRecord) else (st.InField, act.Copy)) goes-on
    (either (ends_with cfg.terminator c) (after_end cfg.terminator c, act.EndRecord) (st.InField, act.Copy) (λ e. end-rests cfg.terminator c) goes-on)

start_field-rests : (cfg : Config) (c : ℕ) → Rests (start_field cfg c)
start_field-rests cfg c = either (cfg.quoting && (c == cfg.quote)) (st.InQuoted, act.Skip) (in_field cfg c) goes-on (in_field-rests cfg c)

start_record-rests : (cfg : Config) (c : ℕ) → Rests (start_record cfg c)
start_record-rests cfg c =
    either (ends_with cfg.terminator c) (st.StartRecord, act.Skip) (if is_byte cfg.comment c then (st.InComment, act.Skip) else start_field cfg c) goes-on
    (either (is_byte cfg.comment c) (st.InComment, act.Skip) (start_field cfg c) goes-on (start_field-rests cfg c))

step-rests : (cfg : Config) (s : State) (c : ℕ) → Rests (step cfg s c)
step-rests cfg st.StartRecord c = start_record-rests cfg c
step-rests cfg st.StartField c = start_field-rests cfg c
step-rests cfg st.InField c = in_field-rests cfg c
step-rests cfg st.InQuoted c =
    either (cfg.quoting && (c == cfg.quote)) (st.AfterQuote, act.Skip) (if cfg.quoting && is_byte cfg.escape c then (st.InEscape, act.Skip) else (st.InQuoted, act.Copy)) goes-on
    (either (cfg.quoting && is_byte cfg.escape c) (st.InEscape, act.Skip) (st.InQuoted, act.Copy) goes-on goes-on)
step-rests cfg st.InEscape c = goes-on
step-rests cfg st.AfterQuote c = either (cfg.quoting && cfg.double_quote && (c == cfg.quote)) (st.InQuoted, act.Copy) (in_field cfg c) goes-on (in_field-rests cfg c)
step-rests cfg st.InComment c = either (c == line_feed) (st.StartRecord, act.Skip) (st.InComment, act.Skip) goes-on goes-on
step-rests cfg st.AfterCr c = either (c == line_feed) (st.StartRecord, act.Skip) (start_record cfg c) goes-on (start_record-rests cfg c)

-- what a read leaves: a machine between records, and fewer bytes than there were, if there was one
abbrev Leaves : Read → ℕ → Type 0
Leaves p size = (ends_at_end p.1 ≡ false) × (length p.2 ≤ size - 1)

same-read : (p q : Read) → Some p ≡ Some q → p ≡ q
same-read p q e = ap (λ o. unwrap_or o p) e

at-end : (fields : Fields) (p : Read) (b : Bool) → (if b then Some (fields, st.StartRecord, []) else None) ≡ Some p → Leaves p 0
at-end fields p true e = rw (← same-read _ p e) (refl, omega arith)
at-end fields p false e = cc e

at-byte : (cfg : Config) (s : State) (fields : Fields) (field : List ℕ) (c : ℕ) (rest : List ℕ) (p : Read) (b : Bool) (more : Option Read) → is_end (step cfg s c).1 ≡ b
    → (more ≡ Some p → Leaves p (length rest)) → (if b then Some (fields, (step cfg s c).0, rest) else more) ≡ Some p → Leaves p (length rest + 1)
at-byte cfg s fields field c rest p true more ends later e = rw (← same-read _ p e) (step-rests cfg s c ends, omega arith)
at-byte cfg s fields field c rest p false more ends later e = let (between, fewer) = later e in (between, omega arith)

read-leaves : (cfg : Config) (s : State) (fields : Fields) (field : List ℕ) (xs : List ℕ) (p : Read) → next_record cfg s fields field xs ≡ Some p → Leaves p (length xs)
unfolding next_record
read-leaves cfg s fields field [] p e = at-end _ p (ends_at_end s) e
read-leaves cfg s fields field (c ∷ rest) p e =
    let (between, fewer) = at-byte cfg s _ field c rest p (is_end (step cfg s c).1) _ refl
    (read-leaves cfg (step cfg s c).0 (fields_after (step cfg s c).1 fields field) (field_after (step cfg s c).1 c field) rest p) e in
    (between, omega arith)

-- a read that begins between records takes a byte
read-less : (cfg : Config) (s : State) (xs : List ℕ) (p : Read) → ends_at_end s ≡ false → next_record cfg s [] [] xs ≡ Some p → (ends_at_end p.1 ≡ false) × (length p.2 < length xs)
unfolding next_record
read-less cfg s [] p between e = cc (rw between at e)
read-less cfg s (c ∷ rest) p between e =
    let (after, fewer) = read-leaves cfg s [] [] (c ∷ rest) p e in
    (after, omega arith)

-- the records of a text do not depend on the count that bounds them, if it is more than the bytes
next-same : (cfg : Config) (n m : ℕ) (s : State) (xs : List ℕ) (o : Option Read) → ends_at_end s ≡ false → next_record cfg s [] [] xs ≡ o → length xs < n + 1 → length xs < m + 1
    → ((s : State) (xs : List ℕ) → ends_at_end s ≡ false → length xs < n → length xs < m → records_from cfg n s xs ≡ records_from cfg m s xs)
    → records_next (records_from cfg n) o ≡ records_next (records_from cfg m) o
next-same cfg n m s xs None between e in_n in_m rest = refl
next-same cfg n m s xs (Some p) between e in_n in_m rest =
    let (after, fewer) = read-less cfg s xs p between e in
    ap (λ recs. p.0 ∷ recs) (rest p.1 p.2 after (omega arith) (omega arith))

enough : (cfg : Config) (n m : ℕ) (s : State) (xs : List ℕ) → ends_at_end s ≡ false → length xs < n → length xs < m → records_from cfg n s xs ≡ records_from cfg m s xs
unfolding records_from
enough cfg zero m s xs between in_n in_m = absurd (omega arith)
enough cfg (suc n) zero s xs between in_n in_m = absurd (omega arith)
enough cfg (suc n) (suc m) s xs between in_n in_m = next-same cfg n m s xs (next_record cfg s [] [] xs) between refl (omega arith) (omega arith) (λ s xs. enough cfg n m s xs)

-- the records that are left, from a state and the bytes that are left
abbrev pub records_left : State → List ℕ → List Fields
records_left s xs = records_from default_config (length xs + 1) s xs

next-of : (cfg : Config) (s : State) (xs : List ℕ) → records_from cfg (length xs + 1) s xs ≡ records_next (records_from cfg (length xs)) (next_record cfg s [] [] xs)
unfolding records_from
next-of cfg s xs = ap (λ n. records_from cfg n s xs) (add-one (length xs))

left-more : (cfg : Config) (s : State) (xs : List ℕ) (p : Read) → ends_at_end s ≡ false → next_record cfg s [] [] xs ≡ Some p
    → records_from cfg (length xs + 1) s xs ≡ p.0 ∷ records_from cfg (length p.2 + 1) p.1 p.2
left-more cfg s xs p between e =
    let (after, fewer) = read-less cfg s xs p between e in
    next-of cfg s xs ∙ ap (records_next (records_from cfg (length xs))) e ∙ ap (λ recs. p.0 ∷ recs) (enough cfg (length xs) (length p.2 + 1) p.1 p.2 after (omega arith) (omega arith))

left-none : (cfg : Config) (s : State) (xs : List ℕ) → next_record cfg s [] [] xs ≡ None → records_from cfg (length xs + 1) s xs ≡ []
left-none cfg s xs e = next-of cfg s xs ∙ ap (records_next (records_from cfg (length xs))) e

one-read : (cfg : Config) (s s2 : State) (xs ys : List ℕ) (fields : List (List ℕ)) → Reached cfg s xs (fields ∷ []) s2 ys → next_record cfg s [] [] xs ≡ Some (fields, s2, ys)
unfolding Reached
one-read cfg s s2 xs ys fields h = rw (h.2, ← h.3.0, ← h.3.1) h.1

-- a read that found a record took the first of those that were left
pub read-more : {R : Type 0} (rem : R → Option (List ℕ)) (a b : Reader R) (fields : Fields) (y : List ℕ) → a.config ≡ default_config → source_of rem a ≡ Some y → ends_at_end a.state ≡ false
    → ReadRecord rem a b true fields
    → (z : List ℕ) × (source_of rem b ≡ Some z) × (records_left a.state y ≡ fields ∷ records_left b.state z) × (ends_at_end b.state ≡ false) × (length z < length y)
unfolding Reached
read-more rem a b fields y config source between read =
    let (z, left, reached) = rows-more rem a b fields default_config a.state y y [] config source (refl, refl) read in
    let next = one-read default_config a.state b.state y z fields reached in
    let (after, fewer) = read-less default_config a.state y (fields, b.state, z) between next in
    (z, left, left-more default_config a.state y (fields, b.state, z) between next, after, fewer)

-- a read that found none ended the text
pub read-none : {R : Type 0} (rem : R → Option (List ℕ)) (a b : Reader R) (fields : Fields) (y : List ℕ) → a.config ≡ default_config → source_of rem a ≡ Some y → ReadRecord rem a b false fields
    → records_left a.state y ≡ []
read-none rem a b fields y config source read = left-none default_config a.state y (rows-end rem a b fields default_config y config source read)

-- how many bytes are left, where they are known
abbrev pub size_left : Option (List ℕ) → ℕ
size_left None = 0
size_left (Some bytes) = length bytes
