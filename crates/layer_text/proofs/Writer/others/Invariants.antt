-- `layer_text::Writer::others` meets its contract: each turn writes one number more behind its comma.
use Prim.Native.Nat.{◌+◌, ◌*◌, ◌≤◌}
use lib.ListN.{take}
use Rattle.layer_text.specs.Text.{others}
use Rattle.layer_text.specs.Wrote.{Wrote}
use Rattle.layer_text.proofs.Writer.others.Given as goal

abbrev pub invariant-loop-word : goal.invariant-loop-word
invariant-loop-word l =
    Wrote l.initial.self (record { text = l.self.text; end = l.end }) (others (take l.word-index l.words)) × (l.end ≤ l.initial.self.end + 22 * l.word-index)
