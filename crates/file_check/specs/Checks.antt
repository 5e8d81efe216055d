-- Internal: what the steps of the check answer.
use Rattle.std.specs.Prelude.{ℕ, ◌≤◌, ◌<◌, ◌≡◌, Bool, true, false, ◌&&◌, List, [], map, length, drop, get_or, eqb, Option, Some, None}
use Rattle.relation.specs.Rows.{same}
use Rattle.relation.specs.Order.{Row}
use Rattle.table_file.specs.File.{File, kind_byte, graded, head, rows_here, field_ok, rows_read, kinds_read, head_ok}
use Rattle.file_check.specs.declared.Checked.{Checked}

-- how many rows the field of rows at the front holds, if it is one
unfoldable pub field_rows : ℕ → List ℕ → Option ℕ
field_rows a bs = elim (field_ok a bs) [ true ↦ Some (length (rows_here a bs)) | false ↦ None ]

-- the number of rows that were read
abbrev pub counted : Option (List Row) → Option ℕ
counted None = None
counted (Some rows) = Some (length rows)

-- bytes of kinds: each is 0 or 1, and some is 1
unfoldable pub kinds_ok : List ℕ → Bool
kinds_ok bs = same bs (map kind_byte (map (λ b. eqb b 1) bs)) && graded (map (λ b. eqb b 1) bs)

-- the length of the head, if there is one
unfoldable pub head_len : List ℕ → Option ℕ
head_len bs = elim (head_ok (get_or bs 3 0) (kinds_read (get_or bs 3 0) bs) bs) [ true ↦ Some (length (head (get_or bs 3 0) (kinds_read (get_or bs 3 0) bs))) | false ↦ None ]

-- the rows that were read, none if nothing was
abbrev pub given : Option (List Row) → List Row
given None = []
given (Some rows) = rows

abbrev pub rows_from : List ℕ → ℕ → ℕ → Option (List Row)
rows_from bytes at a = rows_read (length bytes) a (drop at bytes)

-- n rows of that arity were read from `at` on
pub record HasRows (bytes : List ℕ) (at a n : ℕ) : Type 0 where
  pub some : 0 < a
  pub few : a ≤ 8
  pub inside : at ≤ length bytes
  pub rows : counted (rows_from bytes at a) ≡ Some n

-- what a check of a whole file answers: arity, where the rows begin, how many there are
abbrev pub checked : Option File → Option Checked
checked None = None
checked (Some t) = Some (record { arity = t.arity; body = length (head t.arity t.kinds); rows = length t.rows })
