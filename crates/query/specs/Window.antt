-- Public: the window: what demand 3 says of it, and the same row by row, as an engine writes.
use Rattle.std.specs.Prelude.{ℕ, zero, suc, ◌+◌, ◌*◌, ◌/◌, min, Bool, false, true, List, [], ◌∷◌, ◌++◌, length, take, drop, leb, ltb}
use Rattle.relation.specs.Order.{Row, pick}
use Rattle.relation.specs.Rows.{flat}

-- the window's words, the number of rows written, and whether more rows exist than fit
pub record Progress : Type 0 where
  pub words : List ℕ
  pub count : ℕ
  pub full : Bool

-- how many of c rows of n words fit in l words: at most l divided by n, rounded down; the empty row takes no words and always fits. A join's window is whole rows,
-- and takes as many of them as it is rows long (proofs/Window.antt, `fit-whole`)
unfoldable pub fit : ℕ → ℕ → ℕ → ℕ
fit zero l c = c
fit (suc n) l c = min (l / suc n) c

-- "A small window receives the first rows that fit, and full is said exactly when more exist"; words behind the rows stay
unfoldable pub windowed : List ℕ → ℕ → List Row → Progress
unfolding fit flat
windowed w n rows =
    let m = fit n (length w) (length rows) in
    record { words = flat (take m rows) ++ drop (m * n) w; count = m; full = ltb m (length rows) }

-- ---- row by row

-- w with xs from place i on
abbrev pub pasted : List ℕ → ℕ → List ℕ → List ℕ
pasted w i xs = take i w ++ (xs ++ drop (i + length xs) w)

-- nothing written yet
abbrev pub begin : List ℕ → Progress
begin w = record { words = w; count = 0; full = false }

-- one row of n words more: written behind the others, or full
unfoldable pub emit : ℕ → Progress → Row → Progress
emit n s row =
    pick s.full s
    (pick (leb ((s.count + 1) * n) (length s.words))
    (record { words = pasted s.words (s.count * n) row; count = s.count + 1; full = false })
    (record { words = s.words; count = s.count; full = true }))

-- one after another
unfoldable pub emits : ℕ → Progress → List Row → Progress
unfolding emit
emits n s [] = s
emits n s (r ∷ rs) = emits n (emit n s r) rs
