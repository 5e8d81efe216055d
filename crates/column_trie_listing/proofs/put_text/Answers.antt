-- The goals of `put_text` that the check leaves.
use Prim.Native.Nat.{ℕ, ◌+◌, ◌<◌}
use mathlib.Core.Path.{◌≡◌, sym, ap, ◌∙◌}
use mathlib.Core.List.{◌++◌}
use native.Mathlib.Omega.{arith}
use native.Mathlib.Numerals.{add-one}
use lib.ListN.{length, take}
use lib.Seq.{take_all}
use Rattle.relation.specs.Layers.{Layer}
use Rattle.column_trie.specs.Table.{layers_in, layer_in}
use Rattle.column_trie.proofs.Header.{InPool}
use Rattle.column_trie.proofs.Layers.{Whole, layers_length, layers_at}
use Rattle.sound_table.proofs.Told.{intact}
use Rattle.column_trie.proofs.Stored.{in_pool}
use Rattle.layer_text.specs.Text.{layer_text, text}
use Rattle.layer_text.proofs.Texts.{no_text, text_more, wrote_none, lent_back, wrote_more, wrote_as}
use borrow.Author.Rules.{rules}
use Rattle.column_trie_listing.proofs.put_text.Goals as goal
use Rattle.column_trie_listing.proofs.put_text.Goals.{Start}

whole : (s : Start) → Whole s.args.table.now.sound.table.now
whole s = s.args.table.now.sound.whole

sound : (s : Start) → InPool (length s.args.table.now.sound.pool.now) s.args.table.now.sound.table.now
sound s = in_pool (intact s.args.table.now)

many : (s : Start) → length (layers_in s.args.table.now.sound.pool.now s.args.table.now.sound.table.now) ≡ s.args.table.now.sound.table.now.arity
many s = layers_length s.args.table.now.sound.pool.now s.args.table.now.sound.table.now (whole s) (sound s).few

-- one layer more of the text
more : (s : Start) (d : ℕ) → d < s.args.table.now.sound.table.now.arity → text (take (d + 1) (layers_in s.args.table.now.sound.pool.now s.args.table.now.sound.table.now)) ≡ text (take d (layers_in s.args.table.now.sound.pool.now s.args.table.now.sound.table.now)) ++ layer_text d (layer_in s.args.table.now.sound.pool.now s.args.table.now.sound.table.now d)
more s d h =
    let ls = layers_in s.args.table.now.sound.pool.now s.args.table.now.sound.table.now in
    ap (λ (n : ℕ). text (take n ls)) (add-one d) ∙ text_more ls d (omega (arith, many s)) ∙ ap (λ (l : Layer). text (take d ls) ++ layer_text d l) (layers_at s.args.table.now.sound.pool.now s.args.table.now.sound.table.now (whole s) (sound s).few d h)

pub loop-d-init : goal.loop-d-init
loop-d-init c = (omega arith, wrote_as (sym no_text) (wrote_none _), omega arith)

pub put_depth-requires : goal.put_depth-requires
put_depth-requires c =
    (c.loop-d-test.true, omega (arith, sound (goal.at.put_depth-requires c).Start, c.loop-d.invariant.2, c.loop-d-test.true))

pub loop-d-preserved : goal.loop-d-preserved
loop-d-preserved c =
    let w = wrote_more c.loop-d.invariant.1 c.put_depth.ensures.0 in
    (omega arith, wrote_as (sym (more (goal.at.loop-d-preserved c).Start c.loop-d.d c.loop-d-test.true)) w, omega (arith, c.loop-d.invariant.2, c.put_depth.ensures.1))

pub returns : goal.returns
returns c =
    let w = c.loop-d.invariant.1 in
    let ls = layers_in c.args.table.now.sound.pool.now c.args.table.now.sound.table.now in
    lent_back (search (rules, w.same)) (wrote_as (ap text (take_all c.loop-d.d ls (omega (arith, many (goal.at.returns c).Start, c.loop-d-test.false)))) w)
