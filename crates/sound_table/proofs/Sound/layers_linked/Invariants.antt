-- `sound_table::Sound::layers_linked` meets its contract: what is left of the chain comes to the test (Linking.antt), layer by layer.
use Rattle.sound_table.proofs.Linking.{Linking}
use Rattle.sound_table.proofs.Sound.layers_linked.Given as goal

abbrev pub invariant-loop-d : goal.invariant-loop-d
invariant-loop-d l = Linking l.self.pool.now l.self.table.now l.above l.d
