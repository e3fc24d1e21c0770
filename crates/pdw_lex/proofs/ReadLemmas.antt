-- A script that is read up to a place.
use Rattle.std.proofs.Common.{◌≡◌, ℕ, ◌+◌, ◌-◌, ◌≤◌, List, [], ◌∷◌, ◌++◌, Option, length, take, drop, refl, ap, sym, ◌∙◌, subst, append_assoc, zero-add, arith, length-append, length-take, length-drop}
use Rattle.std.proofs.Math.Seq.{take-length}
use Rattle.std.proofs.lemmas.List.{append-nil, drop-drop, take-append-drop}
use Rattle.std.specs.Str.{IsUtf8}
use Rattle.pdw_lex.specs.Fault.{FaultsAfter, FaultsAt, IsFault}
use Rattle.pdw_lex.specs.Lexes.{ArePieces, Lexes, Piece, joined, token_at, tokens_of}
use Rattle.pdw_lex.specs.Piece.{BeginsPiece, IsPiece}
use Rattle.pdw_lex.specs.declared.lex_error.LexError.{LexError}
use Rattle.pdw_lex.specs.declared.lex_error.LexError.TheVariants.{NotUtf8, BadChar, OpenText, BigNumber, LongText, Memory}
use Rattle.pdw_lex.specs.declared.token.Lexeme.{Lexeme}
use Rattle.pdw_lex.specs.declared.token.Token.{Token}
use Rattle.pdw_lex.proofs.Utf8Lemmas.{past_front}

-- the bytes before this place are pieces, and these are the tokens among them
pub record ReadTo (bytes : List ℕ) (at : ℕ) (tokens : List Token) : Type 0 where
  pub pieces : List Piece
  pub spelled : bytes ≡ joined pieces ++ drop at bytes
  pub are : ArePieces pieces (drop at bytes)
  pub place : at ≡ length (joined pieces)
  pub within : at ≤ length bytes
  pub utf8 : IsUtf8 (drop at bytes)
  pub tokens_are : tokens ≡ tokens_of 0 pieces

pub read_none : (bytes : List ℕ) → IsUtf8 bytes → ReadTo bytes 0 []
read_none bytes utf8 = record { pieces = []; spelled = refl; are = tt; place = refl; within = omega arith; utf8 = utf8; tokens_are = refl }

joined_push : (ps : List Piece) (p : Piece) → joined (ps ++ (p ∷ [])) ≡ joined ps ++ p.spelling
joined_push [] p = append-nil p.spelling
joined_push (q ∷ qs) p = ap (λ xs. q.spelling ++ xs) (joined_push qs p) ∙ sym (append_assoc q.spelling (joined qs) p.spelling)

are_push : (ps : List Piece) (p : Piece) (rest : List ℕ) → ArePieces ps (p.spelling ++ rest) → IsPiece p.said p.spelling rest → ArePieces (ps ++ (p ∷ [])) rest
are_push [] p rest are piece = (piece, tt)
are_push (q ∷ qs) p rest are piece =
    let follows : joined (qs ++ (p ∷ [])) ++ rest ≡ joined qs ++ (p.spelling ++ rest) = ap (λ xs. xs ++ rest) (joined_push qs p) ∙ append_assoc (joined qs) p.spelling rest in
    (rw follows are.0, are_push qs p rest are.1 piece)

tokens_push : (at : ℕ) (ps : List Piece) (p : Piece) (from to : ℕ) → from ≡ at + length (joined ps) → to ≡ from + length p.spelling
    → tokens_of at (ps ++ (p ∷ [])) ≡ tokens_of at ps ++ token_at from to p.said
tokens_push at [] p from to e f =
    let from_is : from ≡ at = omega arith in
    let to_is : at + length p.spelling ≡ to = omega arith in
    append-nil _ ∙ ap (λ n. token_at at n p.said) to_is ∙ ap (λ n. token_at n to p.said) (sym from_is)
tokens_push at (q ∷ qs) p from to e f =
    let long = length-append q.spelling (joined qs) in
    let further : from ≡ (at + length q.spelling) + length (joined qs) = omega arith in
    ap (λ ts. token_at at (at + length q.spelling) q.said ++ ts) (tokens_push (at + length q.spelling) qs p from to further f)
    ∙ sym (append_assoc (token_at at (at + length q.spelling) q.said) (tokens_of (at + length q.spelling) qs) (token_at from to p.said))

-- one piece more
pub read_more : (bytes : List ℕ) (at n to : ℕ) (tokens : List Token) (said : Option Lexeme) → ReadTo bytes at tokens → BeginsPiece (drop at bytes) said n → to ≡ at + n
    → ReadTo bytes to (tokens ++ token_at at to said)
read_more bytes at n to tokens said read begins e =
    let p : Piece = record { spelling = take n (drop at bytes); said = said } in
    let seam : take n (drop at bytes) ++ drop n (drop at bytes) ≡ drop at bytes = take-append-drop n (drop at bytes) in
    let rest_is : drop n (drop at bytes) ≡ drop to bytes = drop-drop n at bytes ∙ ap (λ k. drop k bytes) (sym e) in
    let cut : drop at bytes ≡ take n (drop at bytes) ++ drop to bytes = sym seam ∙ ap (λ xs. take n (drop at bytes) ++ xs) rest_is in
    let long : length (take n (drop at bytes)) ≡ n = omega (arith, length-take n (drop at bytes), begins.within) in
    let joined_is = joined_push read.pieces p in
    let place : length (joined (read.pieces ++ (p ∷ []))) ≡ length (joined read.pieces) + length (take n (drop at bytes)) = ap length joined_is ∙ length-append (joined read.pieces) (take n (drop at bytes)) in
    let all : IsPiece said (take n (drop at bytes)) (drop to bytes) = subst (λ (xs : List ℕ). IsPiece said (take n (drop at bytes)) xs) rest_is begins.piece in
    let before : ArePieces read.pieces (take n (drop at bytes) ++ drop to bytes) = subst (λ (xs : List ℕ). ArePieces read.pieces xs) cut read.are in
    record {
      pieces = read.pieces ++ (p ∷ []);
      spelled = read.spelled ∙ ap (λ xs. joined read.pieces ++ xs) cut ∙ sym (append_assoc (joined read.pieces) (take n (drop at bytes)) (drop to bytes)) ∙ ap (λ xs. xs ++ drop to bytes) (sym joined_is);
      are = are_push read.pieces p (drop to bytes) before all;
      place = omega (arith, read.place);
      within = omega (arith, begins.within, length-drop at bytes, read.within);
      utf8 = subst IsUtf8 rest_is (past_front (drop at bytes) said n begins read.utf8);
      tokens_are = ap (λ ts. ts ++ token_at at to said) read.tokens_are ∙ sym (tokens_push 0 read.pieces p at to (read.place ∙ sym (zero-add _)) (e ∙ ap (λ k. at + k) (sym long)));
    }

pub read_all : (bytes : List ℕ) (at : ℕ) (tokens : List Token) → ReadTo bytes at tokens → length bytes ≤ at → drop at bytes ≡ [] → Lexes 0 bytes tokens
read_all bytes at tokens read end left =
    record { pieces = read.pieces; spelled = read.spelled ∙ ap (λ xs. joined read.pieces ++ xs) left ∙ append-nil _; are = subst (λ (xs : List ℕ). ArePieces read.pieces xs) left read.are; tokens_are = read.tokens_are }

after : (e : LexError) (bytes : List ℕ) (at : ℕ) (tokens : List Token) → IsUtf8 bytes → ReadTo bytes at tokens → FaultsAt e at (drop at bytes) → FaultsAfter e bytes
after e bytes at tokens utf8 read fault =
    record { utf8 = utf8; pieces = read.pieces; rest = drop at bytes; spelled = read.spelled; before = read.are; fault = subst (λ (k : ℕ). FaultsAt e k (drop at bytes)) read.place fault }

-- the fault at this place is the first
pub first_fault : (e : LexError) (bytes : List ℕ) (at : ℕ) (tokens : List Token) → IsUtf8 bytes → ReadTo bytes at tokens → FaultsAt e at (drop at bytes) → IsFault bytes e
first_fault (NotUtf8 place) bytes at tokens utf8 read fault = absurd fault
first_fault (BadChar place) bytes at tokens utf8 read fault = after (BadChar place) bytes at tokens utf8 read fault
first_fault (OpenText place) bytes at tokens utf8 read fault = after (OpenText place) bytes at tokens utf8 read fault
first_fault (BigNumber place) bytes at tokens utf8 read fault = after (BigNumber place) bytes at tokens utf8 read fault
first_fault (LongText place) bytes at tokens utf8 read fault = after (LongText place) bytes at tokens utf8 read fault
first_fault Memory bytes at tokens utf8 read fault = tt

-- what is left from a place on, as a range
pub rest_whole : (bytes : List ℕ) (at : ℕ) → take (length bytes - at) (drop at bytes) ≡ drop at bytes
rest_whole bytes at = rw (← length-drop at bytes) (take-length (drop at bytes))
