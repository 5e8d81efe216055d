-- Rows read from a listing: their words in eight, the order in which two of them come, and whether the one at a place is good.
use Prim.Native.Nat.{ℕ, zero, suc, ◌+◌, ◌*◌, ◌-◌, ◌≤◌, ◌<◌}
use native.Mathlib.Omega.{arith}
use native.Mathlib.Nat.{suc-mul, mul-le-mul_right}
use native.Mathlib.Numerals.{add-one}
use mathlib.Core.Path.{◌≡◌, refl, sym, ap, ◌∙◌}
use mathlib.Core.Bool.{Bool, true, false, ◌&&◌}
use mathlib.Core.List.{List, [], ◌∷◌}
use lib.ListN.{length, get_or, take, drop, replicate, length-drop, get_or-append}
use lib.Seq.{drop-cons, take_at, length-take-le}
use lib.Dec.{ltb, eqb}
use borrow.Author.Tests.{eq-eqb, ne_eqb, le-ltb}
use Rattle.relation.specs.Order.{Row, pick, before}
use Rattle.relation.specs.Lists.{◌∈◌, hd, tl}
use Rattle.relation.specs.Rows.{cut, same}
use Rattle.relation.proofs.Tests.{and_true, and_false_left, gate_open}
use Rattle.relation.proofs.Words.{cut_at}
use Rattle.query.specs.Checks.{some}
use Rattle.query.specs.Meaning.{part}
use Rattle.join_query.specs.Query.{max_variables}
use Rattle.listing_verdict.specs.Checked.{eight}
use Rattle.listing_verdict.specs.Verdict.{in_sequence, good}

-- ---- eight words

pub eight_front : (w : Row) → take (length w) (eight w) ≡ w
eight_front w = take_at w (replicate (max_variables - length w) 0) (length w) refl

pub part_eight : (xs : List ℕ) (w : Row) → ((x : ℕ) → x ∈ xs → x < length w) → part xs (eight w) ≡ part xs w
part_eight [] w f = refl
part_eight (x ∷ xs) w f =
    let e : get_or (eight w) x 0 ≡ get_or w x 0 = get_or-append w (replicate (max_variables - length w) 0) 0 x (f x (hd refl)) in
    let t : part xs (eight w) ≡ part xs w = part_eight xs w (λ y m. f y (tl m)) in
    cc

-- ---- the order of two rows

module _ (order : List ℕ) (a b : Row) where
  abbrev from : ℕ → Bool
  from d = before (part (drop d order) a) (part (drop d order) b)

  -- v is the variable at place d of the order
  module _ (d v : ℕ) (h : d < length order) (p : get_or order d 0 ≡ v) where
    abbrev x : ℕ
    x = get_or a v 0

    abbrev y : ℕ
    y = get_or b v 0

    step : before (part (drop d order) a) (part (drop d order) b) ≡ pick (ltb x y) true (pick (eqb x y) (before (part (drop (suc d) order) a) (part (drop (suc d) order) b)) false)
    unfolding before
    step = ap (λ (l : List ℕ). before (part l a) (part l b)) (drop-cons order d 0 h ∙ ap (λ (z : ℕ). z ∷ drop (suc d) order) p)

    pub same_word : get_or a v 0 ≡ get_or b v 0 → before (part (drop d order) a) (part (drop d order) b) ≡ before (part (drop (d + 1) order) a) (part (drop (d + 1) order) b)
    same_word e =
        step
        ∙ ap (λ (t : Bool). pick t true (pick (eqb x y) (from (suc d)) false)) (le-ltb x y (omega (arith, e)))
        ∙ ap (λ (t : Bool). pick t (from (suc d)) false) (eq-eqb x y e)
        ∙ ap from (sym (add-one d))

    pub other_word : (get_or a v 0 ≡ get_or b v 0 → ⊥) → before (part (drop d order) a) (part (drop d order) b) ≡ ltb (get_or a v 0) (get_or b v 0)
    other_word n = step ∙ ap (λ (t : Bool). pick (ltb x y) true (pick t (from (suc d)) false)) (ne_eqb x y n) ∙ go (ltb x y)
      where
        go : (t : Bool) → pick t true false ≡ t
        go true = refl
        go false = refl

  pub no_word : (d : ℕ) → drop d order ≡ [] → before (part (drop d order) a) (part (drop d order) b) ≡ false
  unfolding before
  no_word d e = ap (λ (l : List ℕ). before (part l a) (part l b)) e

-- ---- a good row

module _ (order : List ℕ) (all : List Row) (n : ℕ) (ws : List ℕ) where
  abbrev row_at : ℕ → Row
  row_at i = take n (drop (i * n) ws)

  good_split : (m i : ℕ) → i < m → good order all (cut m n ws) i ≡ (some (same (row_at i)) all && in_sequence order (cut m n ws) i)
  unfolding good
  good_split m i h = ap (λ (r : Row). some (same r) all && in_sequence order (cut m n ws) i) (cut_at m n ws i h)

  sequence_later : (m i : ℕ) → suc i < m → in_sequence order (cut m n ws) (suc i) ≡ before (part order (row_at i)) (part order (row_at (suc i)))
  unfolding in_sequence
  sequence_later m i h =
      ap (λ (r : Row). before (part order r) (part order (get_or (cut m n ws) (suc i) []))) (cut_at m n ws i (omega arith))
      ∙ ap (λ (r : Row). before (part order (row_at i)) (part order r)) (cut_at m n ws (suc i) h)

  sequence_any : (m k i : ℕ) → i < m → i < k → in_sequence order (cut m n ws) i ≡ in_sequence order (cut k n ws) i
  unfolding in_sequence
  sequence_any m k zero h l = refl
  sequence_any m k (suc i) h l = sequence_later m i h ∙ sym (sequence_later k i l)

  -- it looks at the rows up to its own alone
  pub good_any : (m k i : ℕ) → i < m → i < k → good order all (cut m n ws) i ≡ good order all (cut k n ws) i
  good_any m k i h l =
      good_split m i h
      ∙ ap (λ (b : Bool). some (same (row_at i)) all && b) (sequence_any m k i h l)
      ∙ sym (good_split k i l)

  -- row i as it is read
  module _ (i : ℕ) (row : Row) (e : row ≡ eight (take n (drop (i * n) ws))) (h : i * n + n ≤ length ws) where
    wide : (j : ℕ) → j * n + n ≤ length ws → length (row_at j) ≡ n
    wide j l = length-take-le n (drop (j * n) ws) (omega (arith, length-drop (j * n) ws))

    front : take n row ≡ row_at i
    front = ap (take n) e ∙ ap (λ (k : ℕ). take k (eight (row_at i))) (sym (wide i h)) ∙ eight_front (row_at i)

    last : i < i + 1
    last = omega arith

    pub good_none : some (same (take n row)) all ≡ false → false ≡ good order all (cut (i + 1) n ws) i
    good_none a =
        sym (good_split (i + 1) i last ∙ and_false_left (some (same (row_at i)) all) (in_sequence order (cut (i + 1) n ws) i) (sym (ap (λ (r : Row). some (same r) all) front) ∙ a))

    pub good_start : some (same (take n row)) all ≡ true → i ≡ 0 → true ≡ good order all (cut (i + 1) n ws) i
    unfolding in_sequence
    good_start a z =
        sym (good_split (i + 1) i last ∙ and_true (some (same (row_at i)) all) (in_sequence order (cut (i + 1) n ws) i) (sym (ap (λ (r : Row). some (same r) all) front) ∙ a) (ap (in_sequence order (cut (i + 1) n ws)) z))

    pub good_behind : some (same (take n row)) all ≡ true → (i ≡ 0 → ⊥) → (prior : Row) → prior ≡ eight (take n (drop ((i - 1) * n) ws)) → (i - 1) * n + n ≤ length ws → ((x : ℕ) → x ∈ order → x < n) → (b : Bool) → b ≡ before (part order prior) (part order row) → b ≡ good order all (cut (i + 1) n ws) i
    good_behind a f prior d k g b t =
        let s : i ≡ suc (i - 1) = omega (arith, f) in
        let seq : in_sequence order (cut (i + 1) n ws) i ≡ before (part order (row_at (i - 1))) (part order (row_at i)) =
        ap (in_sequence order (cut (i + 1) n ws)) s ∙ sequence_later (i + 1) (i - 1) (omega (arith, f)) ∙ ap (λ (j : ℕ). before (part order (row_at (i - 1))) (part order (row_at j))) (sym s) in
        let left : part order prior ≡ part order (row_at (i - 1)) = ap (part order) d ∙ part_eight order (row_at (i - 1)) (λ x m. omega (arith, g x m, wide (i - 1) k)) in
        let right : part order row ≡ part order (row_at i) = ap (part order) e ∙ part_eight order (row_at i) (λ x m. omega (arith, g x m, wide i h)) in
        gate_open (some (same (row_at i)) all) (in_sequence order (cut (i + 1) n ws) i) b (sym (ap (λ (r : Row). some (same r) all) front) ∙ a)
        (t ∙ ap (λ (r : Row). before r (part order row)) left ∙ ap (before (part order (row_at (i - 1)))) right ∙ sym seq)
        ∙ sym (good_split (i + 1) i last)

-- rows inside a listing
pub row_inside : (i rows n len : ℕ) → i < rows → rows * n ≤ len → i * n + n ≤ len
row_inside i rows n len h k = omega (arith, suc-mul i n, mul-le-mul_right {m = suc i} {n = rows} n h)

pub row_prior : (i n len : ℕ) → (i ≡ 0 → ⊥) → i * n + n ≤ len → (i - 1) * n + n ≤ len
row_prior zero n len f h = absurd (f refl)
row_prior (suc i) n len f h = omega (arith, suc-mul i n, ap (λ (k : ℕ). k * n) (let z : suc i - 1 ≡ i = omega arith in z))
