-- The goals of `add_row` that the check leaves.
use Prim.Native.Nat.{ℕ, suc}
use mathlib.Core.Bool.{Bool}
use mathlib.Core.Path.{◌≡◌, sym, ap, ◌∙◌}
use Rattle.std.specs.Prelude.{Some}
use mathlib.Core.Logic.{inl, inr}
use native.Mathlib.Omega.{arith}
use lib.ListN.{length, get_or}
use Rattle.relation.proofs.Insert.{rank_of}
use Rattle.relation.specs.Layers.{Layer}
use Rattle.column_trie.specs.Table.{rows_in}
use Rattle.column_trie.proofs.Layers.{Whole}
use Rattle.column_trie_insert.proofs.Enters.{ready, growing_top, growing_path}
use Rattle.column_trie_insert.proofs.Rows.{Ready, Growing, placed, room_here, grown_sound, grown_whole, grown_long, inside_out, growing_step, grown_words, grown_header}
use borrow.Author.Rules.{rules}
use Rattle.column_trie_insert.proofs.add_row.Goals as goal
use Rattle.column_trie_insert.proofs.add_row.Goals.{Joined-known, Start, in-Some, in-None, then-t-eq0, else-t-eq0}

whole : (s : Start) → Whole s.args.t
whole s = record { data_long = search rules; interval_long = search rules }

can : (s : Start) → Ready s.args.pool.now s.args.t (rows_in s.args.pool.now s.args.t) s.args.tuple.now
can s = ready (whole s) s.requires

-- where the key goes is settled once the arms meet
settled :
    (c : Joined-known) →
    Ready c.args.pool.now c.args.t (rows_in c.args.pool.now c.args.t) c.args.tuple.now →
    Growing c.args.pool.now c.args.t (rows_in c.args.pool.now c.args.t) c.args.tuple.now c.loop-d.pool c.loop-d.out c.loop-d.d c.loop-d.i c.match-known.at.0 c.match-known.at.1 ×
    (c.match-known.at.0 ≡ rank_of (rows_in c.args.pool.now c.args.t) c.args.tuple.now (suc c.loop-d.d))
settled c r =
    placed r c.loop-d.invariant c.loop-d-test.true c.match-known.at.0 c.match-known.at.1
    (elim c.match-known.branch [ in-Some w ↦ inr (w.in-Some.is ∙ ap Some (sym (ap (λ (z : ℕ × Bool). z.0) w.at-is)), ap (λ (z : ℕ × Bool). z.1) w.at-is) | in-None w ↦ inl (w.in-None.is, ap (λ (z : ℕ × Bool). z.1) w.at-is, ap (λ (z : ℕ × Bool). z.0) w.at-is ∙ w.begins.ensures ∙ ap (λ (l : Layer). get_or l.intervals c.loop-d.i (length l.keys)) w.layer.ensures) ])

pub loop-d-init : goal.loop-d-init
loop-d-init c =
    let o = whole (goal.at.loop-d-init c).Start in
    elim c.if-t-eq0.branch [ then-t-eq0 w ↦ rw w.known-is (growing_top o c.requires w.if-t-eq0.true) | else-t-eq0 w ↦ rw w.known-is (growing_path o c.requires w.if-t-eq0.false) ]

pub invariant_of-layer : goal.invariant_of-layer
invariant_of-layer c =
    let y = can (goal.at.invariant_of-layer c).Start in
    record { sound = grown_sound y c.loop-d.invariant; whole = grown_whole y c.loop-d.invariant }

pub layer-requires : goal.layer-requires
layer-requires c = inside_out (can (goal.at.layer-requires c).Start) c.loop-d.invariant c.loop-d-test.true

pub bounds-tuple-d : goal.bounds-tuple-d
bounds-tuple-d c = omega (arith, c.requires.long)

pub add_layer-out-requires : goal.add_layer-out-requires
add_layer-out-requires c = let q = settled (goal.at.add_layer-out-requires c).Joined-known (can (goal.at.add_layer-out-requires c).Start) in room_here (can (goal.at.add_layer-out-requires c).Start) q.0 c.loop-d-test.true q.1

pub loop-d-preserved : goal.loop-d-preserved
loop-d-preserved c = let q = settled (goal.at.loop-d-preserved c).Joined-known (can (goal.at.loop-d-preserved c).Start) in growing_step (can (goal.at.loop-d-preserved c).Start) q.0 c.loop-d-test.true q.1 c.add_layer-out.ensures

pub shape_of-pool : goal.shape_of-pool
shape_of-pool c = grown_long (can (goal.at.shape_of-pool c).Start) c.loop-d.invariant

pub returns : goal.returns
returns c = record { words = grown_words (can (goal.at.returns c).Start) c.loop-d.invariant c.loop-d-test.false; header = grown_header (can (goal.at.returns c).Start) c.loop-d.invariant c.loop-d-test.false }
