-- `file_write::put_file` meets its contract: head, fields and end, one behind the other.
use Prim.Native.Nat.{ℕ, ◌+◌, ◌≤◌}
use mathlib.Core.List.{List}
use mathlib.Core.Path.{◌≡◌, ap, ◌∙◌, subst}
use native.Mathlib.Omega.{arith}
use lib.ListN.{length}
use Rattle.column_trie.specs.Table.{Undamaged}
use Rattle.column_trie.proofs.Damage.{undamaged_told, undamaged_header}
use Rattle.column_trie.proofs.Pool.{lay_length}
use borrow.Author.Rules.{rules}
use Rattle.column_trie.specs.Limits.{max_arity}
use Rattle.file_rows.specs.Rows.{fields_in, Laid}
use Rattle.file_write.specs.Write.{kinds_of, file_in}
use Rattle.file_write.specs.Head.{head_of, kinds_head}
use Rattle.file_write.proofs.Heads.{kinds_long, head_is}
use Rattle.file_write.proofs.Files.{file_parts, file_laid}
use Rattle.file_write.proofs.put_file.Goals as goal
use Rattle.file_write.proofs.put_file.Goals.{After-put_head-body, Start}

sound : (s : Start) → Undamaged s.args.pool.now s.args.t
sound s = undamaged_told s.args.pool.now s.args.t s.requires.0

parts : (s : Start) → length (file_in s.args.pool.now s.args.t) ≡ length (head_of s.args.t) + length (fields_in s.args.pool.now s.args.t) + 3
parts s = file_parts s.args.pool.now s.args.t

-- the head by the kinds alone is the table's
head_here : (s : Start) → (length (kinds_of s.args.t) ≤ max_arity) × (kinds_head (kinds_of s.args.t) ≡ head_of s.args.t)
head_here s =
    let t = s.args.t in
    let few = (sound s).arity.1 in
    let long : length t.grade ≡ 8 = search rules in
    (omega (arith, kinds_long t few long, few), head_is t few long)

module _ (k : After-put_head-body) where
  laid : Laid k.args.bytes.now 0 (head_of k.args.t) k.put_head-body.new.bytes k.put_head-body.result
  laid =
      let few = (undamaged_told k.args.pool.now k.args.t k.requires.0).arity.1 in
      let long : length k.args.t.grade ≡ 8 = search rules in
      subst (λ (h : List ℕ). Laid k.args.bytes.now 0 h k.put_head-body.new.bytes k.put_head-body.result) (head_is k.args.t few long) k.put_head-body.ensures

  headed : length k.put_head-body.new.bytes ≡ length k.args.bytes.now
  headed = ap length laid.is ∙ lay_length k.args.bytes.now 0 (head_of k.args.t)

pub shared_ref_as_front-kinds : goal.shared_ref_as_front-kinds
shared_ref_as_front-kinds c = (sound (goal.at.shared_ref_as_front-kinds c).Start).arity.1

pub put_head-body-requires : goal.put_head-body-requires
put_head-body-requires c = let h = head_here (goal.at.put_head-body-requires c).Start in (h.0, omega (arith, c.requires.1, ap length h.1, parts (goal.at.put_head-body-requires c).Start))

pub invariant_of-rows-clause-sound : goal.invariant_of-rows-clause-sound
invariant_of-rows-clause-sound c = undamaged_header c.args.pool.now c.args.t c.requires.0

pub put_fields-end-requires : goal.put_fields-end-requires
put_fields-end-requires c = let s = (goal.at.put_fields-end-requires c).Start in omega (arith, c.requires.1, parts s, (laid (goal.at.put_fields-end-requires c).After-put_head-body).ends, headed (goal.at.put_fields-end-requires c).After-put_head-body)

pub put_tag-requires : goal.put_tag-requires
put_tag-requires c =
    let s = (goal.at.put_tag-requires c).Start in
    let f = c.put_fields-end in
    (omega (arith, c.requires.1, parts s, (laid (goal.at.put_tag-requires c).After-put_head-body).ends, headed (goal.at.put_tag-requires c).After-put_head-body, f.ensures.ends, ap length f.ensures.is, lay_length c.put_head-body.new.bytes c.put_head-body.result (fields_in s.args.pool.now s.args.t)), omega arith)

pub returns : goal.returns
returns c = file_laid c.args.pool.now c.args.t (laid (goal.at.returns c).After-put_head-body) c.put_fields-end.ensures (rw c.byte.ensures at c.put_tag.ensures)
