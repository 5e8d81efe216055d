-- The goals of `permuted_kinds` that the check leaves.
use Prim.Native.Nat.{ℕ}
use mathlib.Core.Path.{◌≡◌, refl, ap, ◌∙◌}
use mathlib.Core.Bool.{Bool, false}
use mathlib.Core.List.{List}
use native.Mathlib.Omega.{arith}
use lib.ListN.{length, get_or, set}
use Rattle.column_trie.specs.Limits.{max_arity}
use Rattle.from_sorted.specs.Answer.{kept_kinds}
use Rattle.column_trie_permute.specs.Permute.{kinds_permuted}
use Rattle.column_trie_permute.proofs.Columns.{kinds_next}
use borrow.Author.Rules.{rules}
use Rattle.column_trie_permute.proofs.permuted_kinds.Goals as goal
use Rattle.column_trie_permute.proofs.permuted_kinds.Goals.{Start}

long : (s : Start) → length s.args.columns ≡ max_arity
long s = search rules

pub loop-d-init : goal.loop-d-init
loop-d-init c = refl

pub offset_bounds-columns-d : goal.offset_bounds-columns-d
offset_bounds-columns-d c = omega (arith, c.loop-d-test.true, c.requires.0)

pub bounds-columns-d : goal.bounds-columns-d
bounds-columns-d c = omega (arith, c.loop-d-test.true, c.requires.0)

pub bounds-grade-from : goal.bounds-grade-from
bounds-grade-from c = omega (arith, c.requires.1 c.loop-d.d c.loop-d-test.true, c.requires.0)

pub bounds-kinds-d : goal.bounds-kinds-d
bounds-kinds-d c = omega (arith, c.loop-d-test.true, c.requires.0)

pub loop-d-preserved : goal.loop-d-preserved
loop-d-preserved c =
    let l = c.loop-d in
    let g = c.args.table.grade in
    ap (λ (k : List Bool). set k l.d (get_or g (get_or c.args.columns l.d 0) false)) l.invariant ∙ kinds_next c.args.table.arity g c.args.columns l.d c.requires.0 (long (goal.at.loop-d-preserved c).Start) c.loop-d-test.true

pub returns : goal.returns
returns c =
    let l = c.loop-d in
    let e : l.d ≡ c.args.table.arity = omega (arith, l.auto.d-end, c.loop-d-test.false) in
    l.invariant ∙ ap (λ (n : ℕ). kept_kinds n (kinds_permuted c.args.table c.args.columns)) e
