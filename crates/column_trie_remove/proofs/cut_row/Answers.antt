-- The goals of `cut_row` that the check leaves.
use Prim.Native.Nat.{ℕ, suc}
use mathlib.Core.Bool.{Bool}
use mathlib.Core.Path.{◌≡◌, sym, ap, ◌∙◌}
use Rattle.std.specs.Prelude.{Some}
use mathlib.Core.Logic.{inl, inr}
use native.Mathlib.Omega.{arith}
use lib.ListN.{length, get_or}
use Rattle.relation.specs.Order.{Row}
use Rattle.relation.proofs.Insert.{rank_of}
use Rattle.relation.specs.Layers.{Layer}
use Rattle.column_trie.specs.Table.{rows_in}
use Rattle.column_trie.proofs.Layers.{Whole}
use Rattle.column_trie_remove.specs.Remove.{without}
use Rattle.column_trie_remove.specs.Shrink.{Forked}
use Rattle.column_trie_remove.proofs.Enters.{ready, shrinking_some, shrinking_none}
use Rattle.column_trie_remove.proofs.Cuts.{Shrinking, counted, placed, shrinks_here, cut_sound, cut_whole, cut_long, inside_out, shrinking_step, cut_words, cut_header}
use borrow.Author.Rules.{rules}
use Rattle.column_trie_remove.proofs.cut_row.Goals as goal
use Rattle.column_trie_remove.proofs.cut_row.Goals.{Joined-known, Start, in-Some, in-None, in-Some-known, in-None-known}

whole : (s : Start) → Whole s.args.t
whole s = record { data_long = search rules; interval_long = search rules }

-- where the key stands is settled once the arms meet
settled :
    (c : Joined-known) → Whole c.args.t → (tuple : Row) → Forked c.args.pool.now c.args.t tuple c.args.fork →
    Shrinking c.args.pool.now c.args.t (without tuple (rows_in c.args.pool.now c.args.t)) tuple c.loop-d.pool c.loop-d.out c.loop-d.d c.loop-d.i c.match-known.at.0 c.match-known.at.1 ×
    (c.match-known.at.0 ≡ rank_of (without tuple (rows_in c.args.pool.now c.args.t)) tuple (suc c.loop-d.d))
settled c o tuple f =
    placed (ready o f) (c.loop-d.invariant tuple f) c.loop-d-test.true c.match-known.at.0 c.match-known.at.1
    (elim c.match-known.branch [
      | in-Some-known w ↦ inr (w.in-Some-known.is ∙ ap Some (sym (ap (λ (z : ℕ × Bool). z.0) w.at-is)), ap (λ (z : ℕ × Bool). z.1) w.at-is)
      | in-None-known w ↦ inl (w.in-None-known.is, ap (λ (z : ℕ × Bool). z.1) w.at-is, ap (λ (z : ℕ × Bool). z.0) w.at-is ∙ w.begins.ensures ∙ ap (λ (l : Layer). get_or l.intervals c.loop-d.i (length l.keys)) w.layer.ensures)
    ])

pub loop-d-init : goal.loop-d-init
loop-d-init c =
    λ tuple f.
    let o = whole (goal.at.loop-d-init c).Start in
    elim c.match-fork.branch [ in-Some w ↦ rw w.depth-is (shrinking_some o f w.in-Some.is) | in-None w ↦ rw w.depth-is (shrinking_none o f w.in-None.is) ]

pub invariant_of-layer : goal.invariant_of-layer
invariant_of-layer c =
    let y = ready (whole (goal.at.invariant_of-layer c).Start) c.requires.1 in
    let g = c.loop-d.invariant c.requires.0 c.requires.1 in
    record { sound = cut_sound y g; whole = cut_whole y g }

pub layer-requires : goal.layer-requires
layer-requires c =
    let y = ready (whole (goal.at.layer-requires c).Start) c.requires.1 in
    inside_out y (c.loop-d.invariant c.requires.0 c.requires.1) c.loop-d-test.true

pub cut_layer-out-requires : goal.cut_layer-out-requires
cut_layer-out-requires c =
    let q = settled (goal.at.cut_layer-out-requires c).Joined-known (whole (goal.at.cut_layer-out-requires c).Start) c.requires.0 c.requires.1 in
    shrinks_here (ready (whole (goal.at.cut_layer-out-requires c).Start) c.requires.1) q.0 c.loop-d-test.true q.1

pub loop-d-preserved : goal.loop-d-preserved
loop-d-preserved c = λ tuple f.
    let q = settled (goal.at.loop-d-preserved c).Joined-known (whole (goal.at.loop-d-preserved c).Start) tuple f in
    shrinking_step (ready (whole (goal.at.loop-d-preserved c).Start) f) q.0 c.loop-d-test.true q.1 c.cut_layer-out.ensures

pub overflow_sub-out : goal.overflow_sub-out
overflow_sub-out c = let y = ready (whole (goal.at.overflow_sub-out c).Start) c.requires.1 in omega (arith, y.held.counted, counted y)

pub shape_of-pool : goal.shape_of-pool
shape_of-pool c = cut_long (ready (whole (goal.at.shape_of-pool c).Start) c.requires.1) (c.loop-d.invariant c.requires.0 c.requires.1)

pub returns : goal.returns
returns c = λ tuple f.
    let y = ready (whole (goal.at.returns c).Start) f in
    let g = c.loop-d.invariant tuple f in
    record { words = cut_words y g c.loop-d-test.false; header = cut_header y g c.loop-d-test.false }
