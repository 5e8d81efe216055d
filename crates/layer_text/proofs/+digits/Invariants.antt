-- The measure of `digits`: the number.
use Rattle.layer_text.proofs.+digits.Given as goal

abbrev pub decreases-digits : goal.decreases-digits
decreases-digits l = l.n
