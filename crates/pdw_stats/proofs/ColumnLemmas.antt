-- Columns of the rows of some parts.
use Rattle.std.proofs.Common.{◌≡◌, ℕ, ◌+◌, ◌<◌, ◌≤◌, List, [], ◌∷◌, ◌++◌, length, take, drop, get_or, sym, ap, ◌∙◌, arith, sum_by, take-append-drop}
use Rattle.std.specs.List.{enumerate_from, flat_map}
use Rattle.std.proofs.lemmas.List.{map-append}
use Rattle.std.proofs.lemmas.List.Sums.{sum_by-append, sum_by-cons}
use Rattle.std.proofs.lemmas.Grind.{flat_map-append}
use Rattle.pdw_base.proofs.Steps.{drop-one_more}
use Rattle.pdw_catalog.specs.Table.{Row, value_at}
use Rattle.pdw_stats.specs.Measured.{bytes_of, column_at}

abbrev pub all_rows : List (List Row) → List Row
all_rows parts = flat_map (λ part. part) parts

pub bytes-append : (place : ℕ) (rows others : List Row)
    → sum_by bytes_of (column_at place (rows ++ others)) ≡ sum_by bytes_of (column_at place rows) + sum_by bytes_of (column_at place others)
bytes-append place rows others = ap (sum_by bytes_of) (map-append (value_at place) rows others) ∙ sum_by-append bytes_of (column_at place rows) (column_at place others)

-- the rows before a part, its own, and those behind it
pub all_rows-around : (parts : List (List Row)) (i : ℕ) (part : List Row) → i < length parts → part ≡ get_or parts i part
    → all_rows parts ≡ all_rows (take i parts) ++ (part ++ all_rows (drop (i + 1) parts))
all_rows-around parts i part within item =
    ap all_rows (sym (take-append-drop i parts))
    ∙ flat_map-append (λ p. p) (take i parts) (drop i parts)
    ∙ ap (λ rest. all_rows (take i parts) ++ all_rows rest) (drop-one_more parts i part within item)

-- a part takes no more bytes than all rows leave to it
pub bytes-part : (place i : ℕ) (parts : List (List Row)) (part : List Row) → i < length parts → part ≡ get_or parts i part
    → sum_by bytes_of (column_at place (all_rows (take i parts))) + sum_by bytes_of (column_at place part) ≤ sum_by bytes_of (column_at place (all_rows parts))
bytes-part place i parts part within item =
    let around = ap (λ rows. sum_by bytes_of (column_at place rows)) (all_rows-around parts i part within item) in
    let first = bytes-append place (all_rows (take i parts)) (part ++ all_rows (drop (i + 1) parts)) in
    let second = bytes-append place part (all_rows (drop (i + 1) parts)) in
    omega arith

-- and a row no more than all rows of the part
pub bytes-row : (place i : ℕ) (rows : List Row) (row : Row) → i < length rows → row ≡ get_or rows i row
    → sum_by bytes_of (column_at place (take i rows)) + bytes_of (value_at place row) ≤ sum_by bytes_of (column_at place rows)
bytes-row place i rows row within item =
    let around = ap (λ xs. sum_by bytes_of (column_at place xs)) (sym (take-append-drop i rows) ∙ ap (λ rest. take i rows ++ rest) (drop-one_more rows i row within item)) in
    let first = bytes-append place (take i rows) (row ∷ drop (i + 1) rows) in
    let second = sum_by-cons bytes_of (value_at place row) (column_at place (drop (i + 1) rows)) in
    omega arith

pub enumerate_from-push : {X : Type 0} (n : ℕ) (xs : List X) (x : X) → enumerate_from n (xs ++ x ∷ []) ≡ enumerate_from n xs ++ (n + length xs, x) ∷ []
enumerate_from-push n [] x = let e : n ≡ n + 0 = omega arith in ap (λ k. (k, x) ∷ []) e
enumerate_from-push n (y ∷ xs) x =
    let e : n + 1 + length xs ≡ n + length (y ∷ xs) = omega arith in
    ap (λ rest. (n, y) ∷ rest) (enumerate_from-push (n + 1) xs x ∙ ap (λ k. enumerate_from (n + 1) xs ++ (k, x) ∷ []) e)
