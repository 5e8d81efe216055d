-- `last_row` meets its contract: the last row is read from the window, or the one that the call goes on after, or none.
use Prim.Native.Nat.{ℕ, zero, suc, ◌*◌, ◌-◌}
use native.Mathlib.Omega.{arith}
use mathlib.Core.Path.{◌≡◌, refl, ap, ◌∙◌}
use mathlib.Core.List.{List}
use lib.ListN.{take, drop}
use Rattle.std.specs.Prelude.{Option}
use Rattle.rows_after.specs.After.{padded}
use Rattle.last_row.specs.Last.{last_read}
use Rattle.last_row.proofs.last_row.Goals as goal

read_last : (w : List ℕ) (n rows : ℕ) (after : Option (List ℕ)) → (rows ≡ 0 → ⊥) → padded (take n (drop ((rows - 1) * n) w)) ≡ padded (last_read w n rows after)
unfolding last_read
read_last w n zero after f = absurd (f refl)
read_last w n (suc j) after f = let p : suc j - 1 ≡ j = omega arith in ap (λ (k : ℕ). padded (take n (drop (k * n) w))) p

pub returns-then-rows-ne0 : goal.returns-then-rows-ne0
returns-then-rows-ne0 c = let a = c.args in c.row_at.ensures ∙ read_last a.window.now a.n a.rows a.after c.if-rows-ne0.true

pub returns-in-Some : goal.returns-in-Some
unfolding last_read
returns-in-Some c = rw (c.if-rows-ne0.false, c.in-Some.is) c.row_at-in-Some.ensures

pub returns-in-None : goal.returns-in-None
unfolding last_read
returns-in-None c = rw (c.if-rows-ne0.false, c.in-None.is) refl
