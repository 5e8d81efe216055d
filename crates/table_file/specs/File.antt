-- Public: table files: the bytes of a table, and the table that bytes are.
use Rattle.std.specs.Prelude.{ℕ, zero, suc, ◌*◌, ◌/◌, ◌-◌, ◌<◌, ◌≤◌, ◌≡◌, Bool, true, false, ◌&&◌, ◌||◌, not, List, [], ◌∷◌, ◌++◌, map, length, take, drop, get_or, replicate, eqb, Option, Some, None}
use Rattle.relation.specs.Tests.{every}
use Rattle.relation.specs.Order.{Row, before}
use Rattle.relation.specs.Lists.{◌∈◌}
use Rattle.relation.specs.Rows.{Asc, Width, cut, flat, same}
use Rattle.column_trie.specs.Limits.{max_arity}
use Rattle.column_trie.specs.Table.{arity_ok}
use Rattle.table_file.specs.Bytes.{bytes_of, number, encode, decode, begins}

-- ---- the bytes of a table

-- "a one-byte tag and a two-byte length, high byte first"
abbrev pub field : ℕ → List ℕ → List ℕ
field tag value = tag ∷ (bytes_of 2 (length value) ++ value)

-- "one byte a column (0 plain, 1 grade), straight after tag 1 and written only if some column is a grade"
abbrev pub kind_byte : Bool → ℕ
kind_byte false = 0
kind_byte true = 1

unfoldable pub graded : List Bool → Bool
graded [] = false
graded (k ∷ ks) = k || graded ks

unfoldable pub kinds_field : List Bool → List ℕ
kinds_field ks = elim (graded ks) [ true ↦ field 4 (map kind_byte ks) | false ↦ [] ]

-- "tag 1: one byte of arity, always first", and the kinds
unfoldable pub head : ℕ → List Bool → List ℕ
head a ks = field 1 (a ∷ []) ++ kinds_field ks

-- "as many whole rows as fit in 65,535 bytes"
unfoldable pub per_field : ℕ → ℕ
per_field a = 65535 / (8 * a)

-- "tag 2: whole rows, words high byte first"
unfoldable pub rows_field : List Row → List ℕ
rows_field rows = field 2 (encode (flat rows))

-- "each such field but the last holds as many, none is empty": m rows to a field (there are no more fields than rows)
unfoldable pub rows_fields : ℕ → ℕ → List Row → List ℕ
rows_fields zero m rows = []
rows_fields (suc n) m [] = []
rows_fields (suc n) m (r ∷ rs) = rows_field (take m (r ∷ rs)) ++ rows_fields n m (drop m (r ∷ rs))

-- "tag 3, length 0, ends the file"
unfoldable pub end : List ℕ
end = field 3 []

unfoldable pub file_of : ℕ → List Bool → List Row → List ℕ
file_of a ks rows = head a ks ++ (rows_fields (length rows) (per_field a) rows ++ end)

-- ---- the table that bytes are

pub record File : Type 0 where
  pub arity : ℕ
  pub kinds : List Bool
  pub rows : List Row

-- the rows of a field of rows at the front, by its length
unfoldable pub rows_here : ℕ → List ℕ → List Row
rows_here a bs = let n = number 2 (drop 1 bs) / (8 * a) in cut n a (decode (n * a) (drop 3 bs))

-- what is left behind that field
abbrev pub behind : ℕ → List ℕ → List ℕ
behind a bs = drop (length (rows_field (rows_here a bs))) bs

abbrev pub not_empty : List Row → Bool
not_empty [] = false
not_empty (r ∷ rs) = true

-- that field is there, not empty, and full or the last
unfoldable pub field_ok : ℕ → List ℕ → Bool
field_ok a bs =
    begins (rows_field (rows_here a bs)) bs &&
    (not_empty (rows_here a bs) && (eqb (length (rows_here a bs)) (per_field a) || same (behind a bs) end))

abbrev pub after : List Row → Option (List Row) → Option (List Row)
after rs None = None
after rs (Some qs) = Some (rs ++ qs)

-- the rows of the fields up to the end
unfoldable pub rows_read : ℕ → ℕ → List ℕ → Option (List Row)
rows_read zero a bs = None
rows_read (suc n) a bs =
    elim (same bs end) [
      | true ↦ Some []
      | false ↦ elim (field_ok a bs) [ true ↦ after (rows_here a bs) (rows_read n a (behind a bs)) | false ↦ None ]
    ]

-- the kinds, if the bytes begin with a head of that arity
unfoldable pub kinds_read : ℕ → List ℕ → List Bool
kinds_read a bs = elim (eqb (get_or bs 4 0) 4) [ true ↦ map (λ b. eqb b 1) (take a (drop 7 bs)) | false ↦ replicate a false ]

-- "rows ascend strictly"
unfoldable pub ascending : List Row → Bool
ascending rows = every (length rows - 1) (λ i. before (get_or rows i []) (get_or rows (suc i) []))

abbrev pub if_ascending : ℕ → List Bool → Option (List Row) → Option File
if_ascending a ks None = None
if_ascending a ks (Some rows) = elim (ascending rows) [ true ↦ Some (record { arity = a; kinds = ks; rows = rows }) | false ↦ None ]

-- the head is there, and tag 4 only if some column is a grade
unfoldable pub head_ok : ℕ → List Bool → List ℕ → Bool
head_ok a ks bs = arity_ok a && (eqb (length ks) a && ((graded ks || not (eqb (get_or bs 4 0) 4)) && begins (head a ks) bs))

-- with a head of this arity and these kinds
unfoldable pub parse_as : ℕ → List Bool → List ℕ → Option File
parse_as a ks bs = elim (head_ok a ks bs) [ true ↦ if_ascending a ks (rows_read (length bs) a (drop (length (head a ks)) bs)) | false ↦ None ]

unfoldable pub parse : List ℕ → Option File
parse bs = parse_as (get_or bs 3 0) (kinds_read (get_or bs 3 0) bs) bs

-- a table that a file can hold
pub record Table (a : ℕ) (ks : List Bool) (rows : List Row) : Type 0 where
  pub some : 0 < a
  pub few : a ≤ max_arity
  pub kinds : length ks ≡ a
  pub width : Width a rows
  pub words : (r : Row) → r ∈ rows → (w : ℕ) → w ∈ r → w < 18446744073709551616
  pub asc : Asc rows
