-- Small files, computed.
use mathlib.Core.Path.{◌≡◌, refl}
use mathlib.Core.Bool.{true, false}
use mathlib.Core.List.{[], ◌∷◌}
use Rattle.std.specs.Prelude.{Some, None}
use Rattle.relation.specs.Tests.{every}
use Rattle.relation.specs.Order.{before}
use Rattle.relation.specs.Rows.{cut, flat, same}
use Rattle.table_file.specs.Bytes.{bytes_of, number, encode, decode, begins}
use Rattle.table_file.specs.File.{graded, kinds_field, head, per_field, rows_field, rows_fields, end, file_of, rows_here, field_ok, rows_read, kinds_read, ascending, head_ok, parse_as, parse}

-- one row of two columns, the first a grade: arity, kinds, the row, the end
pub one_row : file_of 2 (true ∷ false ∷ []) ((1 ∷ 258 ∷ []) ∷ []) ≡ 1 ∷ 0 ∷ 1 ∷ 2 ∷ 4 ∷ 0 ∷ 2 ∷ 1 ∷ 0 ∷ 2 ∷ 0 ∷ 16 ∷ 0 ∷ 0 ∷ 0 ∷ 0 ∷ 0 ∷ 0 ∷ 0 ∷ 1 ∷ 0 ∷ 0 ∷ 0 ∷ 0 ∷ 0 ∷ 0 ∷ 1 ∷ 2 ∷ 3 ∷ 0 ∷ 0 ∷ []
unfolding file_of head kinds_field graded rows_fields per_field rows_field flat encode bytes_of end
one_row = refl

-- no rows, and then the same with a byte behind the end, with kinds that are all plain, and without its end
pub no_rows : parse (1 ∷ 0 ∷ 1 ∷ 1 ∷ 3 ∷ 0 ∷ 0 ∷ []) ≡ Some (record { arity = 1; kinds = false ∷ []; rows = [] })
unfolding parse parse_as head_ok head kinds_field graded kinds_read rows_read same end begins bytes_of ascending every
no_rows = refl

pub byte_behind : parse (1 ∷ 0 ∷ 1 ∷ 1 ∷ 3 ∷ 0 ∷ 0 ∷ 0 ∷ []) ≡ None
unfolding parse parse_as head_ok head kinds_field graded kinds_read rows_read same end begins bytes_of field_ok rows_here rows_field number decode cut flat encode
byte_behind = refl

pub all_plain : parse (1 ∷ 0 ∷ 1 ∷ 1 ∷ 4 ∷ 0 ∷ 1 ∷ 0 ∷ 3 ∷ 0 ∷ 0 ∷ []) ≡ None
unfolding parse parse_as head_ok head kinds_field graded kinds_read begins bytes_of
all_plain = refl

pub no_end : parse (1 ∷ 0 ∷ 1 ∷ 1 ∷ []) ≡ None
unfolding parse parse_as head_ok head kinds_field graded kinds_read rows_read same end begins bytes_of field_ok rows_here rows_field number decode cut flat encode
no_end = refl

-- the file of one row, read; then a field of rows that is empty, a length low byte first, and rows that fall
pub one_row_read : parse (1 ∷ 0 ∷ 1 ∷ 2 ∷ 4 ∷ 0 ∷ 2 ∷ 1 ∷ 0 ∷ 2 ∷ 0 ∷ 16 ∷ 0 ∷ 0 ∷ 0 ∷ 0 ∷ 0 ∷ 0 ∷ 0 ∷ 1 ∷ 0 ∷ 0 ∷ 0 ∷ 0 ∷ 0 ∷ 0 ∷ 1 ∷ 2 ∷ 3 ∷ 0 ∷ 0 ∷ []) ≡ Some (record { arity = 2; kinds = true ∷ false ∷ []; rows = (1 ∷ 258 ∷ []) ∷ [] })
unfolding parse parse_as head_ok head kinds_field graded kinds_read rows_read same end begins bytes_of field_ok rows_here rows_field per_field number decode cut flat encode ascending every before
one_row_read = refl

pub empty_field : parse (1 ∷ 0 ∷ 1 ∷ 1 ∷ 2 ∷ 0 ∷ 0 ∷ 3 ∷ 0 ∷ 0 ∷ []) ≡ None
unfolding parse parse_as head_ok head kinds_field graded kinds_read rows_read same end begins bytes_of field_ok rows_here rows_field per_field number decode cut flat encode ascending every before
empty_field = refl

pub length_low_byte_first : parse (1 ∷ 0 ∷ 1 ∷ 1 ∷ 2 ∷ 8 ∷ 0 ∷ 0 ∷ 0 ∷ 0 ∷ 0 ∷ 0 ∷ 0 ∷ 0 ∷ 1 ∷ 3 ∷ 0 ∷ 0 ∷ []) ≡ None
unfolding parse parse_as head_ok head kinds_field graded kinds_read rows_read same end begins bytes_of field_ok rows_here rows_field per_field number decode cut flat encode ascending every before
length_low_byte_first = refl

pub rows_fall : parse (1 ∷ 0 ∷ 1 ∷ 1 ∷ 2 ∷ 0 ∷ 16 ∷ 0 ∷ 0 ∷ 0 ∷ 0 ∷ 0 ∷ 0 ∷ 0 ∷ 2 ∷ 0 ∷ 0 ∷ 0 ∷ 0 ∷ 0 ∷ 0 ∷ 0 ∷ 1 ∷ 3 ∷ 0 ∷ 0 ∷ []) ≡ None
unfolding parse parse_as head_ok head kinds_field graded kinds_read rows_read same end begins bytes_of field_ok rows_here rows_field per_field number decode cut flat encode ascending every before
rows_fall = refl
