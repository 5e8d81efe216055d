-- The goal of `seek_first` that the check leaves: two counts of probes can't wrap when they are added.
use mathlib.Core.Path.{ap}
use native.Mathlib.Omega.{arith}
use Rattle.column_trie_iter.specs.declared.SeekAnswer.{SeekAnswer}
use Rattle.overlay_iter.proofs.Probes.{probes_few}
use Rattle.overlay_iter.proofs.seek_first.Goals as goal

pub overflow_add-result : goal.overflow_add-result
overflow_add-result c =
    let l = c.args.laid.now in
    let i = c.args.iter in
    omega (arith, ap (λ (x : SeekAnswer). x.probes) c.seek-s.ensures, ap (λ (x : SeekAnswer). x.probes) c.seek-m.ensures, probes_few l.school_pool.now l.school.now i.school c.args.strategy c.args.target (omega (arith, c.well_formed)), probes_few l.maker_pool.now l.maker.now i.maker c.args.strategy c.args.target (omega (arith, c.well_formed)))
