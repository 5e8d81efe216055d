-- The goals of `Formed::tables_ok` that the check leaves.
use Prim.Native.Nat.{◌<◌}
use native.Mathlib.Omega.{arith}
use mathlib.Core.Path.{sym, ap, ◌∙◌}
use mathlib.Core.Bool.{not}
use lib.ListN.{length-take}
use lib.Seq.{get_or-take}
use Rattle.relation.proofs.Tests.{every_none, every_more, every_fails, passed, failed}
use Rattle.column_trie.specs.Table.{no_table, undamaged}
use Rattle.join_query.specs.Query.{sound_at}
use Rattle.join_query.specs.Facts.{Named}
use Rattle.join_query.proofs.Lists.{named_told, sound_named, sound_unnamed}
use Rattle.join_checks.proofs.Formed.tables_ok.Goals as goal
use Rattle.join_checks.proofs.Formed.tables_ok.Goals.{Start, In-loop-i, After-undamaged, else-is_named-via-then-is_named+else-not-undamaged, else-is_named-via-else-is_named}

told : (s : Start) → let f = s.args.self.now in Named f.ts.now.count f.q.now
told s = let f = s.args.self.now in named_told f.ts.now.count f.q.now f.named

inside : (c : In-loop-i) → c.loop-i.i < c.args.self.now.ts.now.count
inside c = let ts = c.args.self.now.ts.now in omega (arith, c.loop-i-test.true, length-take ts.count ts.tables)

pub shared_ref_as_front-t-items : goal.shared_ref_as_front-t-items
shared_ref_as_front-t-items c = (told (goal.at.shared_ref_as_front-t-items c).Start).bounded

pub loop-i-init : goal.loop-i-init
loop-i-init c = every_none _

pub offset_bounds-t-items-i : goal.offset_bounds-t-items-i
offset_bounds-t-items-i c = omega (arith, inside c, (told (goal.at.offset_bounds-t-items-i c).Start).bounded)

pub returns-then-not-undamaged : goal.returns-then-not-undamaged
returns-then-not-undamaged c =
    let a = c.args in
    let f = a.self.now in
    let i = c.loop-i.i in
    let h = inside (goal.at.returns-then-not-undamaged c).In-loop-i in
    let e = c.undamaged.ensures ∙ ap (undamaged a.pool.now) (get_or-take f.ts.now.count f.ts.now.tables i no_table h) in
    sym (every_fails (sound_at a.pool.now f.ts.now f.q.now) f.ts.now.count i h (sound_named a.pool.now f.ts.now f.q.now i (sym c.is_named.ensures ∙ c.if-is_named.true) ∙ failed e (ap not c.if-not-undamaged.true)))

pub loop-i-preserved : goal.loop-i-preserved
loop-i-preserved c =
    let a = c.args in
    let f = a.self.now in
    let i = c.loop-i.i in
    let h = inside (goal.at.loop-i-preserved c).In-loop-i in
    let t = ap (undamaged a.pool.now) (get_or-take f.ts.now.count f.ts.now.tables i no_table h) in
    let e = sym c.is_named.ensures in
    every_more (sound_at a.pool.now f.ts.now f.q.now) i c.loop-i.invariant (elim c.else-is_named.branch [
      | else-is_named-via-then-is_named+else-not-undamaged w ↦ sound_named a.pool.now f.ts.now f.q.now i (e ∙ w.if-is_named.true) ∙ passed (w.undamaged.ensures ∙ t) (ap not w.if-not-undamaged.false)
      | else-is_named-via-else-is_named w ↦ sound_unnamed a.pool.now f.ts.now f.q.now i (e ∙ w.if-is_named.false)
    ])
