-- `file_check::head_len` meets its contract.
use Prim.Native.Nat.{ℕ, ◌+◌, ◌-◌, ◌≤◌}
use mathlib.Core.Path.{◌≡◌, sym, ap, ◌∙◌}
use mathlib.Core.Bool.{true}
use native.Mathlib.Omega.{arith}
use mathlib.Core.List.{List}
use lib.ListN.{length, take, drop, get_or, get_or-eq_default}
use lib.Dec.{ltb, leb}
use borrow.Author.Tests.{leb-true}
use Rattle.std.specs.Prelude.{Some}
use Rattle.std.proofs.lemmas.List.{take_rest}
use Rattle.relation.proofs.Tests.{and_right}
use Rattle.column_trie.specs.Table.{arity_ok}
use Rattle.file_check.specs.Checks.{kinds_ok}
use Rattle.table_file.specs.Bytes.{number}
use Rattle.file_check.proofs.Same.{is_first, not_first}
use Rattle.file_check.proofs.Heads.{no_short, no_first, no_arity, plain_head, graded_head, no_long, no_size, no_kinds}
use Rattle.file_check.proofs.head_len.Goals as goal
use Rattle.file_check.proofs.head_len.Goals.{Else-not-arity_ok, then-bytes-lt4-via-then-bytes-lt4, then-bytes-lt4-via-else-bytes-lt4+then-ne, then-bytes-lt5-via-then-bytes-lt5, then-bytes-lt5-via-else-bytes-lt5+then-bytes-byte, then-bytes-arity-via-then-bytes-arity, then-bytes-arity-via-else-bytes-arity+then-read_len-arity}

-- the parts that the code reads
len_read : {n : ℕ} (bytes : List ℕ) → n ≡ number 2 (take (length bytes - 5) (drop 5 bytes)) → n ≡ number 2 (drop 5 bytes)
len_read bytes e = e ∙ ap (number 2) (take_rest bytes 5)

kinds_at : (bytes : List ℕ) (n : ℕ) → kinds_ok (take (7 + n - 7) (drop 7 bytes)) ≡ kinds_ok (take n (drop 7 bytes))
kinds_at bytes n = ap (λ (k : ℕ). kinds_ok (take k (drop 7 bytes))) (let e : 7 + n - 7 ≡ n = omega arith in e)

-- past its check the arity is good, and at most 8
module _ (c : Else-not-arity_ok) where
  good : arity_ok (get_or c.args.bytes.now 3 0) ≡ true
  good = ap arity_ok (sym c.from-arity.ensures) ∙ sym c.arity_ok.ensures ∙ c.if-not-arity_ok.false

  few : get_or c.args.bytes.now 3 0 ≤ 8
  few = let a = get_or c.args.bytes.now 3 0 in leb-true a 8 (and_right (ltb 0 a) (leb a 8) good)

pub returns-then-bytes-lt4 : goal.returns-then-bytes-lt4
returns-then-bytes-lt4 c =
    elim c.then-bytes-lt4.branch [
      | then-bytes-lt4-via-then-bytes-lt4 w ↦ sym (no_short c.args.bytes.now (λ i. omega (arith, c.type_inv.bytes i)) w.if-bytes-lt4.true)
      | then-bytes-lt4-via-else-bytes-lt4+then-ne w ↦ sym (no_first c.args.bytes.now (λ i. omega (arith, c.type_inv.bytes i)) (not_first (take 3 c.args.bytes.now) w.ne.ensures w.byte.ensures w.if-ne.true))
    ]

pub returns-then-not-arity_ok : goal.returns-then-not-arity_ok
returns-then-not-arity_ok c = sym (no_arity c.args.bytes.now (λ i. omega (arith, c.type_inv.bytes i)) (ap arity_ok (sym c.from-arity.ensures) ∙ sym c.arity_ok.ensures ∙ c.if-not-arity_ok.true))

pub returns-then-bytes-lt5 : goal.returns-then-bytes-lt5
returns-then-bytes-lt5 c =
    let four : get_or c.args.bytes.now 4 0 ≡ 4 → ⊥ =
    λ e. elim c.then-bytes-lt5.branch [
      | then-bytes-lt5-via-then-bytes-lt5 w ↦ omega (arith, w.if-bytes-lt5.true, get_or-eq_default c.args.bytes.now 0 {n = 4} (omega (arith, w.if-bytes-lt5.true)))
      | then-bytes-lt5-via-else-bytes-lt5+then-bytes-byte w ↦ w.if-bytes-byte.true (e ∙ sym w.byte-else-bytes-lt5.ensures)
    ] in
    sym (plain_head c.args.bytes.now (λ i. omega (arith, c.type_inv.bytes i)) (omega arith) (is_first (take 3 c.args.bytes.now) c.ne.ensures c.byte.ensures c.if-ne.false) (good (goal.at.returns-then-bytes-lt5 c).Else-not-arity_ok) four)

pub returns-then-bytes-arity : goal.returns-then-bytes-arity
returns-then-bytes-arity c =
    let f = few (goal.at.returns-then-bytes-arity c).Else-not-arity_ok in
    elim c.then-bytes-arity.branch [
      | then-bytes-arity-via-then-bytes-arity w ↦ sym (no_long c.args.bytes.now (λ i. omega (arith, c.type_inv.bytes i)) (c.if-bytes-byte.false ∙ c.byte-else-bytes-lt5.ensures) f (omega (arith, w.if-bytes-arity.true, c.from-arity.ensures)))
      | then-bytes-arity-via-else-bytes-arity+then-read_len-arity w ↦ sym (no_size c.args.bytes.now (λ i. omega (arith, c.type_inv.bytes i)) (c.if-bytes-byte.false ∙ c.byte-else-bytes-lt5.ensures) f (λ e. w.if-read_len-arity.true (len_read c.args.bytes.now w.read_len.ensures ∙ e ∙ sym c.from-arity.ensures)))
    ]

pub returns-then-kinds_ok : goal.returns-then-kinds_ok
returns-then-kinds_ok c =
    let ok = ap (λ (a : ℕ). kinds_ok (take a (drop 7 c.args.bytes.now))) (sym c.from-arity.ensures) ∙ sym (c.kinds_ok.ensures ∙ kinds_at c.args.bytes.now c.from-arity.result) ∙ c.if-kinds_ok.true in
    ap (λ (a : ℕ). Some (7 + a)) c.from-arity.ensures ∙
    sym (graded_head c.args.bytes.now (λ i. omega (arith, c.type_inv.bytes i)) (c.if-bytes-byte.false ∙ c.byte-else-bytes-lt5.ensures) (is_first (take 3 c.args.bytes.now) c.ne.ensures c.byte.ensures c.if-ne.false) (good (goal.at.returns-then-kinds_ok c).Else-not-arity_ok) (omega (arith, c.from-arity.ensures)) (sym (len_read c.args.bytes.now c.read_len.ensures) ∙ c.if-read_len-arity.false ∙ c.from-arity.ensures) ok)

pub returns-else-kinds_ok : goal.returns-else-kinds_ok
returns-else-kinds_ok c =
    let bad = ap (λ (a : ℕ). kinds_ok (take a (drop 7 c.args.bytes.now))) (sym c.from-arity.ensures) ∙ sym (c.kinds_ok.ensures ∙ kinds_at c.args.bytes.now c.from-arity.result) ∙ c.if-kinds_ok.false in
    sym (no_kinds c.args.bytes.now (λ i. omega (arith, c.type_inv.bytes i)) (c.if-bytes-byte.false ∙ c.byte-else-bytes-lt5.ensures) (few (goal.at.returns-else-kinds_ok c).Else-not-arity_ok) bad)
