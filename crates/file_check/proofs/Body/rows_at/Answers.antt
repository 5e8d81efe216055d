-- `file_check::rows_at` meets its contract.
use Prim.Native.Nat.{ℕ, ◌-◌, ◌+◌}
use mathlib.Core.Path.{◌≡◌, sym, ap, ◌∙◌, subst}
use mathlib.Core.List.{List}
use mathlib.Core.Logic.{inl, inr}
use native.Mathlib.Omega.{arith}
use lib.ListN.{length, take, drop}
use borrow.Author.Tests.{eq-eqb}
use Rattle.std.proofs.lemmas.List.{take_rest}
use Rattle.relation.proofs.Tests.{not_both}
use Rattle.table_file.specs.Bytes.{number, Bytes}
use Rattle.table_file.proofs.Numbers.{bytes_drop}
use Rattle.file_check.specs.Checks.{field_rows}
use Rattle.file_check.proofs.Same.{ends_at}
use Rattle.file_check.proofs.Checks.{at_short, at_tag, at_empty, at_part, at_long, at_some, at_none}
use Rattle.file_check.proofs.Body.rows_at.Goals as goal
use Rattle.file_check.proofs.Body.rows_at.Goals.{then-field-lt3-via-then-field-lt3, then-field-lt3-via-else-field-lt3+then-field-byte, then-len-eq0-via-then-len-eq0, then-len-eq0-via-else-len-eq0+then-len-size-ne0, then-len-eq0-via-else-len-eq0+else-len-size-ne0+then-field-len, then-full, else-full}

-- the field as the code has it: what is left from p on
module _ (bytes : List ℕ) (p : ℕ) where
  abbrev field : List ℕ
  field = take (length bytes - p) (drop p bytes)

  here : (a : ℕ) → field_rows a (take (length bytes - p) (drop p bytes)) ≡ field_rows a (drop p bytes)
  here a = ap (field_rows a) (take_rest bytes p)

  each : Bytes bytes → Bytes (take (length bytes - p) (drop p bytes))
  each b = subst Bytes (sym (take_rest bytes p)) (bytes_drop p bytes b)

  said : {n : ℕ} → n ≡ number 2 (take (length field - 1) (drop 1 field)) → n ≡ number 2 (drop 1 field)
  said e = e ∙ ap (number 2) (take_rest field 1)

pub returns-then-field-lt3 : goal.returns-then-field-lt3
returns-then-field-lt3 c =
    let s = c.args.self.now in
    let f = field s.bytes.now c.args.p in
    let b = each s.bytes.now c.args.p s.each in
    elim c.then-field-lt3.branch [
      | then-field-lt3-via-then-field-lt3 w ↦ sym (at_short s.arity s.some f b w.if-field-lt3.true) ∙ here s.bytes.now c.args.p s.arity
      | then-field-lt3-via-else-field-lt3+then-field-byte w ↦ sym (at_tag s.arity s.some f b (λ e. w.if-field-byte.true (e ∙ sym w.byte.ensures))) ∙ here s.bytes.now c.args.p s.arity
    ]

pub returns-then-len-eq0 : goal.returns-then-len-eq0
returns-then-len-eq0 c =
    let s = c.args.self.now in
    let f = field s.bytes.now c.args.p in
    let b = each s.bytes.now c.args.p s.each in
    let n = c.read_len-len.result in
    let e = said s.bytes.now c.args.p c.read_len-len.ensures in
    elim c.then-len-eq0.branch [
      | then-len-eq0-via-then-len-eq0 w ↦ sym (at_empty s.arity s.some f b n e w.if-len-eq0.true) ∙ here s.bytes.now c.args.p s.arity
      | then-len-eq0-via-else-len-eq0+then-len-size-ne0 w ↦ sym (at_part s.arity s.some f b n e w.if-len-size-ne0.true) ∙ here s.bytes.now c.args.p s.arity
      | then-len-eq0-via-else-len-eq0+else-len-size-ne0+then-field-len w ↦ sym (at_long s.arity s.some f b n e w.if-field-len.true) ∙ here s.bytes.now c.args.p s.arity
    ]

pub returns-then-ends : goal.returns-then-ends
returns-then-ends c =
    let s = c.args.self.now in
    let f = field s.bytes.now c.args.p in
    let n = c.read_len-len.result in
    sym (at_some s.arity s.some f (each s.bytes.now c.args.p s.each) n (said s.bytes.now c.args.p c.read_len-len.ensures) (omega (arith, c.byte.ensures, c.if-field-byte.false)) (omega arith) (omega arith) (omega arith) (omega arith)
    (elim c.if-full.branch [
      | then-full w ↦ inl (omega (arith, w.if-full.true, c.per_field.ensures.0))
      | else-full w ↦ inr (ends_at f (3 + n) w.ends.ensures ∙ sym w.value-is ∙ c.if-ends.true)
    ])) ∙ here s.bytes.now c.args.p s.arity

pub returns-else-ends : goal.returns-else-ends
returns-else-ends c =
    let s = c.args.self.now in
    let f = field s.bytes.now c.args.p in
    let n = c.read_len-len.result in
    elim c.if-full.branch [
      | then-full w ↦ not_both c.if-full.value (w.value-is ∙ eq-eqb _ _ w.if-full.true) c.if-ends.false
      | else-full w ↦
          sym (at_none s.arity s.some f (each s.bytes.now c.args.p s.each) n (said s.bytes.now c.args.p c.read_len-len.ensures) (λ e. w.if-full.false (omega (arith, e, c.per_field.ensures.0))) (ends_at f (3 + n) w.ends.ensures ∙ sym w.value-is ∙ c.if-ends.false))
          ∙ here s.bytes.now c.args.p s.arity
    ]
