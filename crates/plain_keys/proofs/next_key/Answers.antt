-- `next_key` meets its contract: what each table gives, and the lesser of both, is what the atom's rows give (Owners.antt).
use Prim.Native.Nat.{ℕ, ◌≤◌, ◌<◌}
use native.Mathlib.Omega.{arith}
use native.Mathlib.Decide.{dec_lt}
use mathlib.Core.Path.{◌≡◌, sym, ap, ◌∙◌}
use mathlib.Core.Bool.{true, false, false≢true}
use mathlib.Core.List.{List, []}
use Rattle.std.specs.Prelude.{Some, is_some}
use lib.ListN.{length, get_or, take, length-map}
use borrow.Author.Tests.{le-ltb, not-true, not-false}
use Rattle.relation.specs.Order.{Row}
use Rattle.relation.specs.Runs.{from}
use Rattle.relation.specs.Layers.{keys_under}
use Rattle.query.specs.Meet.{has}
use Rattle.column_trie.specs.Limits.{max_arity}
use Rattle.column_trie.specs.Table.{rows_in}
use Rattle.join_query.specs.Query.{table_at, rows_at}
use Rattle.join_query.proofs.Accepted.{rows_plain}
use Rattle.plain_keys.specs.Keys.{words, bound, head_of}
use Rattle.plain_keys.proofs.Heads.{lesser, lesser_second, lesser_some, lesser_none, none_lesser}
use Rattle.plain_keys.proofs.Owners.{first_heads, school_owns, maker_owns, school_found}
use borrow.Author.Rules.{rules}
use Rattle.plain_keys.proofs.next_key.Goals as goal
use Rattle.plain_keys.proofs.next_key.Goals.{After-next_in-m, Start, then-not-a-via-then-not-a, then-not-a-via-else-not-a+then-owns, then-len-gt0+then-is_some, then-len-gt0+else-is_some, else-len-gt0, in_default-via-in-Some+in_default, in_default-via-in_default}

short : (s : Start) → s.args.len ≤ length (words s.args.a s.args.row)
short s =
    let w : length s.args.a.variables ≡ max_arity = search rules in
    omega (arith, s.requires.short, s.requires.sound.arity, length-map s.args.a.variables (λ (x : ℕ). get_or s.args.row x 0))

-- ---- both

-- the row's words for the atom's variables
abbrev given : After-next_in-m → Row
given s = words s.args.a s.args.row

-- where the search starts
abbrev sought : After-next_in-m → ℕ
sought s = bound s.args.past (get_or (given s) s.args.len 0)

abbrev school : After-next_in-m → List Row
school s = rows_in s.args.pool.now (table_at s.args.tables.now s.args.a.table)

abbrev rows : After-next_in-m → List Row
rows s = rows_at s.args.pool.now s.args.tables.now s.args.a

laid : (e : After-next_in-m) → e.args.a.laid_over ≡ true
laid e = not-false e.args.a.laid_over e.if-not-a.false

other : (e : After-next_in-m) → 0 < e.args.len → (is_some e.next_in-s.result ≡ false) × (has (keys_under [] (school e)) (get_or (given e) 0 0) ≡ false)
other e h =
    elim e.if-len-gt0.branch [
      | then-len-gt0+then-is_some x ↦ absurd (false≢true (sym e.if-owns.false ∙ x.value-is ∙ x.if-is_some.true))
      | then-len-gt0+else-is_some x ↦ (sym x.is_some.ensures ∙ x.if-is_some.false, sym x.owns.ensures ∙ sym x.value-is ∙ e.if-owns.false)
      | else-len-gt0 x ↦ absurd (omega (arith, x.if-len-gt0.false, h))
    ]

abbrev Joint : After-next_in-m → Type 0
Joint c = lesser c.next_in-s.result c.next_in-m.result ≡ head_of (from (sought c) (keys_under (take c.args.len (given c)) (rows c)))

both_at : (c : After-next_in-m) → c.args.len ≤ length (given c) → Dec (0 < c.args.len) → Joint c
both_at c l (yes h) =
    let o = other c h in
    lesser_second c.next_in-s.result c.next_in-m.result o.0 ∙ c.next_in-m.ensures ∙ ap (λ (k : List ℕ). head_of (from (sought c) k)) (maker_owns c.requires (laid c) (given c) h l o.1)
both_at c l (no n) =
    let z : c.args.len ≡ 0 = omega arith in
    first_heads c.requires (laid c) (sought c)
    (c.next_in-s.ensures ∙ ap (λ (k : ℕ). head_of (from (sought c) (keys_under (take k (given c)) (school c)))) z)
    (c.next_in-m.ensures ∙ ap (λ (k : ℕ). head_of (from (sought c) (keys_under (take k (given c)) (rows_in c.args.pool.now (table_at c.args.tables.now c.args.a.maker))))) z)
    ∙ ap (λ (k : ℕ). head_of (from (sought c) (keys_under (take k (given c)) (rows c)))) (sym z)

both : (c : After-next_in-m) → c.args.len ≤ length (given c) → Joint c
both c l = both_at c l (dec_lt 0 c.args.len)

-- ---- the school's table alone

pub returns-then-not-a : goal.returns-then-not-a
returns-then-not-a c =
    let a = c.args in
    let g = words a.a a.row in
    let s = bound a.past (get_or g a.len 0) in
    let l = short (goal.at.returns-then-not-a c).Start in
    c.next_in-s.ensures
    ∙ ap (λ (k : List ℕ). head_of (from s k))
    (elim c.then-not-a.branch [
      | then-not-a-via-then-not-a w ↦ ap (keys_under (take a.len g)) (sym (rows_plain a.pool.now a.tables.now a.a (not-true a.a.laid_over w.if-not-a.true)))
      | then-not-a-via-else-not-a+then-owns w ↦
          let o = not-false a.a.laid_over w.if-not-a.false in
          elim w.if-len-gt0.branch [
            | then-len-gt0+then-is_some x ↦ school_owns c.requires o g x.if-len-gt0.true l (school_found c.requires o g x.if-len-gt0.true l s c.next_in-s.ensures (sym x.is_some.ensures ∙ x.if-is_some.true))
            | then-len-gt0+else-is_some x ↦ school_owns c.requires o g x.if-len-gt0.true l (sym x.owns.ensures ∙ sym x.value-is ∙ w.if-owns.true)
            | else-len-gt0 x ↦ absurd (false≢true (sym (le-ltb 0 a.len x.if-len-gt0.false) ∙ sym x.value-is ∙ w.if-owns.true))
          ]
    ])

-- what the two tables give
pub returns-in-Some-Some : goal.returns-in-Some-Some
returns-in-Some-Some c =
    let p = goal.at.returns-in-Some-Some c in
    ap (λ (k : ℕ). Some k) c.min.ensures ∙ lesser_some c.in-Some-Some.is-0 c.in-Some-Some.is-1 ∙ both p.After-next_in-m (short p.Start)

pub returns-in_default : goal.returns-in_default
returns-in_default c =
    let p = goal.at.returns-in_default c in
    c.or.ensures
    ∙ elim c.in_default.branch [
      | in_default-via-in-Some+in_default w ↦ lesser_none c.next_in-s.result w.in_default.is-1
      | in_default-via-in_default w ↦ none_lesser c.next_in-m.result w.in_default.is-0
    ]
    ∙ both p.After-next_in-m (short p.Start)
