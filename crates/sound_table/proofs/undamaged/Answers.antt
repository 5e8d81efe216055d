-- `sound_table::undamaged` meets its contract: each way out is the test's (Ways.antt).
use Prim.Native.Nat.{◌-◌}
use mathlib.Core.Path.{sym, ◌∙◌}
use mathlib.Core.Bool.{◌||◌}
use lib.Dec.{eqb}
use Rattle.relation.specs.Undamaged.{chain}
use Rattle.relation.proofs.Tests.{not_both, gate_shut, gate_open}
use Rattle.column_trie.specs.Table.{Whole, layers_in, data_len_at}
use Rattle.sound_table.proofs.Ways.{bad_header, bad_past, by_layers}
use borrow.Author.Rules.{rules}
use Rattle.sound_table.proofs.undamaged.Goals as goal
use Rattle.sound_table.proofs.undamaged.Goals.{Start, then-header_sound, else-header_sound, then-past_arity, else-past_arity}

whole : (s : Start) → Whole s.args.t
whole s = record { data_long = search rules; interval_long = search rules }

pub returns-then-t : goal.returns-then-t
returns-then-t c =
    let t = c.args.t in
    let ls = layers_in c.args.pool.now t in
    elim c.if-past_arity.branch [
      | then-past_arity w ↦ elim c.if-header_sound.branch [
        | then-header_sound v ↦
            by_layers c.args.pool.now t (sym c.header_sound.ensures ∙ v.if-header_sound.true) (whole (goal.at.returns-then-t c).Start) (sym v.past_arity.ensures ∙ sym v.value-is ∙ w.if-past_arity.true) c.layers_linked.result
            (gate_open (eqb t.tuple_count (data_len_at t (t.arity - 1))) (chain 0 ls || chain 1 ls) c.layers_linked.result (sym w.value-is ∙ c.if-t.true) c.layers_linked.ensures)
        | else-header_sound v ↦ not_both c.if-header_sound.value w.if-past_arity.true (v.value-is ∙ v.if-header_sound.false)
      ]
      | else-past_arity w ↦ not_both c.if-past_arity.value c.if-t.true (w.value-is ∙ w.if-past_arity.false)
    ]

pub returns-else-t : goal.returns-else-t
returns-else-t c =
    let t = c.args.t in
    let ls = layers_in c.args.pool.now t in
    elim c.if-past_arity.branch [
      | then-past_arity w ↦ elim c.if-header_sound.branch [
        | then-header_sound v ↦
            by_layers c.args.pool.now t (sym c.header_sound.ensures ∙ v.if-header_sound.true) (whole (goal.at.returns-else-t c).Start) (sym v.past_arity.ensures ∙ sym v.value-is ∙ w.if-past_arity.true) c.if-past_arity.value
            (c.if-t.false ∙ gate_shut (eqb t.tuple_count (data_len_at t (t.arity - 1))) (chain 0 ls || chain 1 ls) (sym w.value-is ∙ c.if-t.false))
        | else-header_sound v ↦ not_both c.if-header_sound.value w.if-past_arity.true (v.value-is ∙ v.if-header_sound.false)
      ]
      | else-past_arity w ↦ elim c.if-header_sound.branch [
        | then-header_sound v ↦ c.if-t.false ∙ bad_past c.args.pool.now t (sym c.header_sound.ensures ∙ v.if-header_sound.true) (sym v.past_arity.ensures ∙ sym v.value-is ∙ w.if-past_arity.false)
        | else-header_sound v ↦ c.if-t.false ∙ bad_header c.args.pool.now t (sym c.header_sound.ensures ∙ v.if-header_sound.false)
      ]
    ]
