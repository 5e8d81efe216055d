-- `holder` meets its contract: no atom passed holds v (First.antt).
use Prim.Native.Nat.{ℕ, ◌<◌}
use Rattle.join_query.specs.Query.{atom_at}
use Rattle.plain_atoms.proofs.First.{In}
use Rattle.plain_atoms.proofs.holder.Given as goal

abbrev pub invariant-loop-i : goal.invariant-loop-i
invariant-loop-i l = (j : ℕ) → j < l.i → In (atom_at l.query j) l.v → ⊥
