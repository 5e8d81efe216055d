-- The kinds of a file, column by column as they are read.
use Prim.Native.Nat.{ℕ, ◌+◌, ◌-◌, ◌≤◌, ◌<◌}
use mathlib.Core.Path.{◌≡◌, sym, ap, ◌∙◌}
use mathlib.Core.Bool.{Bool, false}
use mathlib.Core.List.{List, ◌++◌}
use native.Mathlib.Omega.{arith}
use lib.ListN.{length, take, drop, get_or, set, replicate, length-map, length-drop, length-replicate, replicate-append-replicate, get_or-map}
use lib.Dec.{eqb}
use lib.Seq.{get_or-drop, get_or-take, length-take-le, take_all}
use Rattle.column_trie.specs.Limits.{max_arity}
use Rattle.from_sorted.specs.Answer.{kept_kinds}
use Rattle.from_sorted.proofs.Taken.{kept_next}
use Rattle.table_file.specs.File.{kinds_read}
use Rattle.table_file.proofs.Laws.{kinds_graded, kinds_plain}

-- none there, so all plain
pub kept_none : (a : ℕ) (bs : List ℕ) → a ≤ max_arity → (get_or bs 4 0 ≡ 4 → ⊥) → replicate max_arity false ≡ kept_kinds a (kinds_read a bs)
kept_none a bs h n =
    sym
    (ap (kept_kinds a) (kinds_plain a bs n)
    ∙ ap (λ (l : List Bool). l ++ replicate (max_arity - a) false) (take_all a (replicate a false) (omega (arith, length-replicate a false)))
    ∙ replicate-append-replicate a (max_arity - a) false
    ∙ ap (λ (m : ℕ). replicate m false) (let q : a + (max_arity - a) ≡ max_arity = omega arith in q))

-- one more
pub kept_more : (a : ℕ) (bs : List ℕ) (d : ℕ) → a ≤ max_arity → get_or bs 4 0 ≡ 4 → 7 + a ≤ length bs → d < a → set (kept_kinds d (kinds_read a bs)) d (eqb (get_or bs (7 + d) 0) 1) ≡ kept_kinds (d + 1) (kinds_read a bs)
kept_more a bs d h t l b =
    let g = kinds_read a bs in
    let cs = take a (drop 7 bs) in
    let n : length cs ≡ a = length-take-le a (drop 7 bs) (omega (arith, length-drop 7 bs)) in
    let w : length g ≡ a = ap length (kinds_graded a bs t) ∙ length-map cs (λ c. eqb c 1) ∙ n in
    let e : eqb (get_or bs (7 + d) 0) 1 ≡ get_or g d false =
    sym (ap (λ (l : List Bool). get_or l d false) (kinds_graded a bs t) ∙ get_or-map (λ c. eqb c 1) cs d 0 ∙ ap (λ (c : ℕ). eqb c 1) (get_or-take a (drop 7 bs) d 0 b ∙ get_or-drop 7 bs d 0)) in
    ap (set (kept_kinds d g) d) e ∙ kept_next d g (omega arith) (omega arith)
