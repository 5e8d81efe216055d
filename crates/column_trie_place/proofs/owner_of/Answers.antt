-- `column_trie_place::owner_of` meets its contract: the layer's intervals are halved, and each way out is the definition's (Owners.antt).
use mathlib.Core.Path.{◌≡◌, sym, ap, ◌∙◌}
use Rattle.seek.specs.declared.Probed.{Probed}
use Rattle.sound_table.specs.Layers.{seen}
use Rattle.column_trie_place.specs.Checks.{count_up_to}
use Rattle.column_trie_place.proofs.Owners.{owner_none, starts, owner_out, owner_past, owner_in}
use Rattle.column_trie_place.proofs.owner_of.Goals as goal
use Rattle.column_trie_place.proofs.owner_of.Goals.{After-halve-counted}

-- the code's count is the definition's
counts : (q : After-halve-counted) → q.halve-counted.result.offset ≡ count_up_to q.args.i q.args.layer.now.intervals.now
counts q = ap (λ (x : Probed). x.offset) q.halve-counted.ensures

pub returns-then-counted-eq0 : goal.returns-then-counted-eq0
returns-then-counted-eq0 c =
    owner_none (seen c.args.layer.now) c.args.i (counts (goal.at.returns-then-counted-eq0 c).After-halve-counted) c.if-counted-eq0.true

pub returns-in_err-g : goal.returns-in_err-g
returns-in_err-g c =
    c.from_residual.ensures ∙
    owner_out (seen c.args.layer.now) c.args.i (counts (goal.at.returns-in_err-g c).After-halve-counted) c.if-counted-eq0.false (sym c.in_err-g.was ∙ c.group_of.ensures)

pub returns-then-g-i : goal.returns-then-g-i
returns-then-g-i c =
    owner_past (seen c.args.layer.now) c.args.i (counts (goal.at.returns-then-g-i c).After-halve-counted) c.if-counted-eq0.false (sym c.in_ok-g.was ∙ c.group_of.ensures) c.if-g-i.true

pub overflow_sub-result : goal.overflow_sub-result
overflow_sub-result c =
    starts (seen c.args.layer.now) c.args.i (counts (goal.at.overflow_sub-result c).After-halve-counted) c.if-counted-eq0.false (sym c.in_ok-g.was ∙ c.group_of.ensures)

pub returns : goal.returns
returns c =
    owner_in (seen c.args.layer.now) c.args.i (counts (goal.at.returns c).After-halve-counted) c.if-counted-eq0.false (sym c.in_ok-g.was ∙ c.group_of.ensures) c.if-g-i.false
