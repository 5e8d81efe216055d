-- The goals of `layers_linked` that the check leaves.
use lib.ListN.{length}
use Rattle.column_trie.proofs.Header.{InPool, header_told}
use Rattle.relation.specs.Undamaged.{linked}
use Rattle.column_trie.specs.Table.{Whole}
use Rattle.sound_table.proofs.Linking.{linking_start, linking_next, linking_not, linking_done}
use mathlib.Core.Path.{sym, ap, ◌∙◌}
use Rattle.sound_table.proofs.Sound.layers_linked.Goals as goal
use Rattle.sound_table.proofs.Sound.layers_linked.Goals.{Start, else-self-eq0, then-self-eq0}

-- what the function requires, and what its parameter's type says
told : (s : Start) → InPool (length s.args.self.now.pool.now) s.args.self.now.table.now
told s = header_told (length s.args.self.now.pool.now) s.args.self.now.table.now s.args.self.now.sound

whole : (s : Start) → Whole s.args.self.now.table.now
whole s = s.args.self.now.whole

pub loop-d-init : goal.loop-d-init
loop-d-init c =
    elim c.if-self-eq0.branch [ then-self-eq0 w ↦ linking_start c.args.self.now.pool.now (whole (goal.at.loop-d-init c).Start) (told (goal.at.loop-d-init c).Start) c.if-self-eq0.above (λ e. w.above-is) (λ n. absurd (n w.if-self-eq0.true)) | else-self-eq0 w ↦ linking_start c.args.self.now.pool.now (whole (goal.at.loop-d-init c).Start) (told (goal.at.loop-d-init c).Start) c.if-self-eq0.above (λ e. absurd (w.if-self-eq0.false e)) (λ n. w.above-is) ]

pub returns-then-not-linked : goal.returns-then-not-linked
returns-then-not-linked c = linking_not c.args.self.now.pool.now (whole (goal.at.returns-then-not-linked c).Start) (told (goal.at.returns-then-not-linked c).Start) c.loop-d.invariant c.loop-d-test.true (ap (linked c.loop-d.above) (sym c.layer.ensures) ∙ sym c.linked.ensures ∙ c.if-not-linked.true)

pub loop-d-preserved : goal.loop-d-preserved
loop-d-preserved c = linking_next c.args.self.now.pool.now (whole (goal.at.loop-d-preserved c).Start) (told (goal.at.loop-d-preserved c).Start) c.loop-d.invariant c.loop-d-test.true (ap (linked c.loop-d.above) (sym c.layer.ensures) ∙ sym c.linked.ensures ∙ c.if-not-linked.false)

pub returns : goal.returns
returns c = linking_done c.args.self.now.pool.now (whole (goal.at.returns c).Start) (told (goal.at.returns c).Start) c.loop-d.invariant c.loop-d-test.false
