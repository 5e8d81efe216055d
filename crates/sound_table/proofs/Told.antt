-- An undamaged table as a value: what its type says of pool and header, by its parts.
use Rattle.column_trie.specs.Table.{Undamaged}
use Rattle.column_trie.proofs.Damage.{undamaged_told}
use Rattle.sound_table.specs.declared.Intact.{Intact}

pub intact : (t : Intact) → Undamaged t.sound.pool.now t.sound.table.now
intact t = undamaged_told t.sound.pool.now t.sound.table.now t.undamaged
