-- Of each exported call of this crate, any two outcomes that its contract allows on the same arguments are equal: what it answers, and every word lent to it to write.
-- `Post` is what the call's own `ensures` promises, of its arguments, its answer and its arguments as they are when it returns: no contract, no theorem.
use mathlib.Core.Path.{sym, ap, ◌∙◌}
use mathlib.Core.List.{List}
use Prim.Native.Nat.{ℕ}
use contract.Lifetimes.{Lfts}
use Rattle.one_outcome.specs.Outcomes.{OneAnswer, OneOutcome}
use Rattle.build_laws.proofs.Determined as builds
use Rattle.file_laws.proofs.Determined as files
use Rattle.column_trie_permute.proofs.Outcomes as rebuilds
use Rattle.insert_laws.proofs.Laws as inserts
use Rattle.removal_laws.proofs.Laws as removals
use Rattle.column_trie_listing.proofs.Lists as lists
use Rattle.file_write.proofs.Files as writes
use Rattle.ducatbriar_tables.proofs.ducatbriar_partition_point.Reads as partition_point_reads
use Rattle.ducatbriar_tables.proofs.ducatbriar_word_of.Reads as word_of_reads
use Rattle.ducatbriar_tables.proofs.ducatbriar_grade_of.Reads as grade_of_reads
use Rattle.ducatbriar_tables.proofs.ducatbriar_empty.Reads as empty_reads
use Rattle.ducatbriar_tables.proofs.ducatbriar_undamaged.Reads as undamaged_reads
use Rattle.ducatbriar_tables.proofs.ducatbriar_build.Reads as build_reads
use Rattle.ducatbriar_tables.proofs.ducatbriar_permute.Reads as permute_reads
use Rattle.ducatbriar_tables.proofs.ducatbriar_read.Reads as read_reads
use Rattle.ducatbriar_tables.proofs.ducatbriar_write.Reads as write_reads
use Rattle.ducatbriar_tables.proofs.ducatbriar_insert.Reads as insert_reads
use Rattle.ducatbriar_tables.proofs.ducatbriar_remove.Reads as remove_reads
use Rattle.ducatbriar_tables.proofs.ducatbriar_list.Reads as list_reads

pub partition_point : (κs : Lfts 1) → OneAnswer (partition_point_reads.Post κs)
partition_point κs args r₁ r₂ e₁ e₂ p q = p ∙ sym q

pub word_of : (κs : Lfts 0) → OneAnswer (word_of_reads.Post κs)
word_of κs args r₁ r₂ e₁ e₂ p q = p ∙ sym q

pub grade_of : (κs : Lfts 0) → OneAnswer (grade_of_reads.Post κs)
grade_of κs args r₁ r₂ e₁ e₂ p q = p ∙ sym q

pub empty : (κs : Lfts 0) → OneAnswer (empty_reads.Post κs)
empty κs args r₁ r₂ e₁ e₂ p q = p ∙ sym q

pub is_undamaged : (κs : Lfts 1) → OneAnswer (undamaged_reads.Post κs)
is_undamaged κs args r₁ r₂ e₁ e₂ p q = p ∙ sym q

-- the rows and the pool
pub build : (κs : Lfts 2) → OneOutcome {W = List ℕ × List ℕ} (build_reads.Post κs) (λ e. (e.0.now, e.1.0.now))
build κs args r₁ r₂ e₁ e₂ p q =
    let d = builds.determined args.0.now args.1.0.now args.1.1.0 args.1.1.1.0 args.1.1.1.1.0 args.1.1.1.1.1.0.grade (record { answer = r₁; rows = e₁.0.now; pool = e₁.1.0.now }) (record { answer = r₂; rows = e₂.0.now; pool = e₂.1.0.now }) p q in
    (ap (λ (o : builds.Outcome). o.answer) d, ap (λ (o : builds.Outcome). (o.rows, o.pool)) d)

-- the second pool
pub permute : (κs : Lfts 2) → OneOutcome (permute_reads.Post κs) (λ e. e.1.1.1.0.now)
permute κs args r₁ r₂ e₁ e₂ p q = rebuilds.determined p q

-- the pool
pub read : (κs : Lfts 2) → OneOutcome {W = List ℕ} (read_reads.Post κs) (λ e. e.1.0.now)
read κs args r₁ r₂ e₁ e₂ p q =
    let d = files.determined args.0.now args.1.0.now args.1.1.0 args.1.1.1.0 (record { answer = r₁; pool = e₁.1.0.now }) (record { answer = r₂; pool = e₂.1.0.now }) p q in
    (ap (λ (o : files.Outcome). o.answer) d, ap (λ (o : files.Outcome). o.pool) d)

-- the bytes
pub write : (κs : Lfts 2) → OneOutcome (write_reads.Post κs) (λ e. e.1.1.0.now)
write κs args r₁ r₂ e₁ e₂ p q = writes.determined p q

-- the pool
pub insert : (κs : Lfts 2) → OneOutcome (insert_reads.Post κs) (λ e. e.0.now)
insert κs args r₁ r₂ e₁ e₂ p q = inserts.determined p q

-- the pool
pub remove : (κs : Lfts 2) → OneOutcome (remove_reads.Post κs) (λ e. e.0.now)
remove κs args r₁ r₂ e₁ e₂ p q = removals.determined p q

-- the bytes
pub list : (κs : Lfts 2) → OneOutcome (list_reads.Post κs) (λ e. e.1.1.0.now)
list κs args r₁ r₂ e₁ e₂ p q = lists.determined p q
