-- The goal of `Laid::check` that the check leaves: an undamaged table's arity is that of a list.
use mathlib.Core.Path.{ap}
use mathlib.Core.Bool.{not}
use Rattle.relation.proofs.Tests.{passed}
use Rattle.column_trie.proofs.Damage.{undamaged_told}
use Rattle.overlay_checks.proofs.Laid.check.Goals as goal

pub same_shape-requires : goal.same_shape-requires
same_shape-requires c =
    let l = c.args.self.now in
    (undamaged_told l.school_pool.now l.school.now (passed c.undamaged.ensures (ap not c.if-not-undamaged.false))).arity.1
