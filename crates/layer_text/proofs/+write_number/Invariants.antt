-- The measure of `write_number`: the number.
use Rattle.layer_text.proofs.+write_number.Given as goal

abbrev pub decreases-write_number : goal.decreases-write_number
decreases-write_number l = l.n
