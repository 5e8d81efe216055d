-- `file_write::file_len` meets its contract; nothing in it comes near a word's limit.
use Prim.Native.Nat.{◌*◌, ◌≤◌}
use mathlib.Core.Path.{◌≡◌, ap, ◌∙◌}
use native.Mathlib.Omega.{arith}
use native.Mathlib.Nat.{div-le_self, mul-le-mul}
use lib.ListN.{length}
use borrow.Author.Rules.{rules}
use Rattle.std.specs.Int.{div_ceil}
use Rattle.file_write.specs.Write.{kinds_of}
use Rattle.file_write.specs.Head.{head_of, kinds_head}
use Rattle.file_write.proofs.Heads.{head_short, kinds_long, head_is}
use Rattle.file_write.proofs.file_len.Goals as goal
use Rattle.file_write.proofs.file_len.Goals.{After-div_ceil-fields, Start}

fields : (k : After-div_ceil-fields) → k.div_ceil-fields.result ≤ 65537
fields k = let n = k.args.t.tuple_count in omega (arith, k.requires.2, k.div_ceil-fields.ensures, div-le_self n k.per_field-full.result)

words : (s : Start) → s.args.t.tuple_count * s.args.t.arity ≤ 65536 * 8
words s = mul-le-mul s.requires.2 s.requires.1

headed : (s : Start) → (length (kinds_head (kinds_of s.args.t)) ≤ 15) × (kinds_head (kinds_of s.args.t) ≡ head_of s.args.t)
headed s =
    let t = s.args.t in
    let long : length t.grade ≡ 8 = search rules in
    (omega (arith, head_short (kinds_of t), kinds_long t s.requires.1 long, s.requires.1), head_is t s.requires.1 long)

pub overflow_mul-result : goal.overflow_mul-result
overflow_mul-result c = omega (arith, fields (goal.at.overflow_mul-result c).After-div_ceil-fields)

pub overflow_mul-result-2 : goal.overflow_mul-result-2
overflow_mul-result-2 c = omega (arith, words (goal.at.overflow_mul-result-2 c).Start)

pub overflow_mul-result-3 : goal.overflow_mul-result-3
overflow_mul-result-3 c = omega (arith, words (goal.at.overflow_mul-result-3 c).Start)

pub overflow_add-result : goal.overflow_add-result
overflow_add-result c = omega (arith, words (goal.at.overflow_add-result c).Start, fields (goal.at.overflow_add-result c).After-div_ceil-fields)

pub overflow_add-result-2 : goal.overflow_add-result-2
overflow_add-result-2 c = omega (arith, words (goal.at.overflow_add-result-2 c).Start, fields (goal.at.overflow_add-result-2 c).After-div_ceil-fields, c.head_len-head.ensures, (headed (goal.at.overflow_add-result-2 c).Start).0)

pub overflow_add-result-3 : goal.overflow_add-result-3
overflow_add-result-3 c = omega (arith, words (goal.at.overflow_add-result-3 c).Start, fields (goal.at.overflow_add-result-3 c).After-div_ceil-fields, c.head_len-head.ensures, (headed (goal.at.overflow_add-result-3 c).Start).0)

pub returns : goal.returns
returns c = omega (arith, c.head_len-head.ensures, ap length (headed (goal.at.returns c).Start).1, c.div_ceil-fields.ensures ∙ ap (div_ceil c.args.t.tuple_count) c.per_field-full.ensures.0)
