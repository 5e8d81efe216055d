-- `file_write::put_head` meets its contract: arity, and kinds where some column is a grade.
use Prim.Native.Nat.{ℕ, ◌+◌, ◌≤◌}
use mathlib.Core.Path.{◌≡◌, sym, ap, ◌∙◌}
use mathlib.Core.List.{List, map}
use mathlib.Core.Bool.{true}
use native.Mathlib.Omega.{arith}
use lib.ListN.{length, set, length-set}
use borrow.Author.Tests.{not-true, not-false}
use Rattle.column_trie.specs.Pool.{lay}
use Rattle.column_trie.proofs.Pool.{lay_length}
use Rattle.table_file.specs.File.{kind_byte, graded}
use Rattle.file_write.proofs.Heads.{head_some, graded_long, plain_laid, graded_laid}
use mathlib.Core.Bool.{not}
use Rattle.file_write.proofs.put_head.Goals as goal
use Rattle.file_write.proofs.put_head.Goals.{After-put_tag, After-put_tag-2, Else-not-some_grade}

-- what is laid makes no list longer
as_long : {new : List ℕ} (old : List ℕ) (at : ℕ) (bytes : List ℕ) → new ≡ lay old at bytes → length new ≡ length old
as_long old at bytes e = ap length e ∙ lay_length old at bytes

tagged : (k : After-put_tag) → length k.put_tag.new.bytes ≡ length k.args.bytes.now
tagged k = as_long k.args.bytes.now 0 _ k.put_tag.ensures

-- some column is a grade
some : (k : Else-not-some_grade) → graded k.args.kinds.now ≡ true
some k = sym k.some_grade.ensures ∙ not-false _ (ap not k.if-not-some_grade.false)

room : (k : Else-not-some_grade) → 7 + (length k.args.kinds.now) ≤ length k.args.bytes.now
room k =
    omega (arith, k.requires.1, graded_long k.args.kinds.now (some k))

-- no byte more or less: with the arity, and with the second tag
headed : (k : Else-not-some_grade) → length (set k.put_tag.new.bytes 3 (length k.args.kinds.now)) ≡ length k.args.bytes.now
headed k = length-set k.put_tag.new.bytes 3 (length k.args.kinds.now) ∙ as_long k.args.bytes.now 0 _ k.put_tag.ensures

tagged2 : (k : After-put_tag-2) → length k.put_tag-2.new.bytes ≡ length k.args.bytes.now
tagged2 k =
    as_long (set k.put_tag.new.bytes 3 (length k.args.kinds.now)) 4 _ k.put_tag-2.ensures ∙ length-set k.put_tag.new.bytes 3 (length k.args.kinds.now) ∙ as_long k.args.bytes.now 0 _ k.put_tag.ensures

pub put_tag-requires : goal.put_tag-requires
put_tag-requires c = (omega (arith, head_some c.args.kinds.now, c.requires.1), omega arith)

pub bounds-bytes-3 : goal.bounds-bytes-3
bounds-bytes-3 c = omega (arith, head_some c.args.kinds.now, c.requires.1, tagged (goal.at.bounds-bytes-3 c).After-put_tag)

pub returns-then-not-some_grade : goal.returns-then-not-some_grade
returns-then-not-some_grade c =
    plain_laid c.args.kinds.now c.args.bytes.now (rw c.byte.ensures at c.put_tag.ensures) (sym c.some_grade.ensures ∙ not-true _ (ap not c.if-not-some_grade.true))

pub put_tag-requires-2 : goal.put_tag-requires-2
put_tag-requires-2 c = (omega (arith, room (goal.at.put_tag-requires-2 c).Else-not-some_grade, headed (goal.at.put_tag-requires-2 c).Else-not-some_grade), omega (arith, c.requires.0))

pub put_kinds-requires : goal.put_kinds-requires
put_kinds-requires c = omega (arith, room (goal.at.put_kinds-requires c).Else-not-some_grade, tagged2 (goal.at.put_kinds-requires c).After-put_tag-2)

pub shape_of-bytes : goal.shape_of-bytes
shape_of-bytes c = ap length c.put_kinds.ensures ∙ lay_length c.put_tag-2.new.bytes 7 (map kind_byte c.args.kinds.now) ∙ tagged2 (goal.at.shape_of-bytes c).After-put_tag-2

pub returns : goal.returns
returns c =
    graded_laid c.args.kinds.now c.args.bytes.now (rw c.byte.ensures at c.put_tag.ensures) (some (goal.at.returns c).Else-not-some_grade) (rw c.byte-2.ensures at c.put_tag-2.ensures) c.put_kinds.ensures
