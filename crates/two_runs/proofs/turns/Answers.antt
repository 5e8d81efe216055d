-- `two_runs::turns` meets its contract: each way out is a case of which run has the present key.
use native.Mathlib.Omega.{arith}
use Rattle.two_runs.proofs.Two.{led_alone, led_other, led_same, led_same_other, led_less, led_more}
use Rattle.two_runs.proofs.turns.Goals as goal

pub returns-then-y-r : goal.returns-then-y-r
returns-then-y-r c = led_alone c.requires c.if-y-r.true

pub returns-then-x-r : goal.returns-then-x-r
returns-then-x-r c = led_other c.requires c.if-x-r.true

pub returns-then-r-eq0 : goal.returns-then-r-eq0
returns-then-r-eq0 c = led_same c.requires c.if-x-r.false c.if-y-r.false c.if-pool-x.true (omega (arith, c.if-r-eq0.true))

pub returns-then-pool-x : goal.returns-then-pool-x
returns-then-pool-x c = led_same_other c.requires c.if-x-r.false c.if-y-r.false c.if-pool-x.true (omega (arith, c.if-r-eq0.false, c.requires.side))

pub returns-then-pool-x-2 : goal.returns-then-pool-x-2
returns-then-pool-x-2 c = led_less c.requires c.if-x-r.false c.if-y-r.false c.if-pool-x-2.true

pub returns : goal.returns
returns c = led_more c.requires c.if-x-r.false c.if-y-r.false (omega (arith, c.if-pool-x-2.false, c.if-pool-x.false))
