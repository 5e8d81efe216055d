-- Public: a layer as the code holds it, and as the contracts speak of it.
use Rattle.relation.specs.Layers as relation
use Rattle.sound_table.specs.declared.Layer.{Layer}

-- a layer's two lists, as one layer of a relation
abbrev pub seen : Layer → relation.Layer
seen l = record { keys = l.keys.now; intervals = l.intervals.now }
