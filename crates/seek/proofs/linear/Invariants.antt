-- `seek::linear` meets its contract. The loop's invariant: the rule on the keys from i on comes to the answer.
use mathlib.Core.Path.{◌≡◌}
use lib.ListN.{drop}
use Rattle.seek.specs.Seek.{scans}
use Rattle.seek.proofs.linear.Given as goal

abbrev pub invariant-loop-i : goal.invariant-loop-i
invariant-loop-i l = scans (drop l.i l.run) l.target l.i ≡ scans l.run l.target 0
