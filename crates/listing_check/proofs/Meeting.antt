-- The walk along the complete listing beside the recorded one: row by row, one list behind another, and what it comes to. And the words of a row compared.
use Prim.Native.Nat.{ℕ, zero, suc, ◌+◌, ◌*◌, ◌-◌, ◌/◌, ◌≤◌, ◌<◌}
use native.Mathlib.Omega.{arith}
use native.Mathlib.Nat.{mul-zero, div-mul-le_self}
use native.Mathlib.Numerals.{add-one}
use mathlib.Core.Path.{◌≡◌, refl, sym, ap, ◌∙◌}
use mathlib.Core.Bool.{Bool, true, false, false≢true, ◌&&◌}
use mathlib.Core.List.{List, [], ◌∷◌, ◌++◌}
use lib.ListN.{length, get_or, set, take, drop, replicate, length-set, length-drop}
use lib.Seq.{length-take-le, take-set-lt, set-append_left, take_at, drop-cons}
use lib.ListN.{drop_of_length-le}
use lib.Dec.{ltb}
use borrow.Author.Tests.{ltb-true, ltb-false, lt-ltb, le-ltb, not-true, not-false}
use Rattle.std.specs.Prelude.{Some, is_some, unwrap_or, nat_eq, not}
use Rattle.std.specs.Cmp.Lexicographic.{pointwise}
use Rattle.std.specs.Bool.{Decides}
use Rattle.std.proofs.lemmas.Bool.Decides.{Decides-eqb}
use Rattle.std.proofs.lemmas.Slice.Eq.{slice_eq-Decides}
use Rattle.relation.specs.Order.{Row, pick}
use Rattle.relation.specs.Rows.{cut, same}
use Rattle.relation.proofs.Sorting.{same→eq}
use Rattle.relation.proofs.Tests.{true_T}
use Rattle.relation.proofs.Words.{cut_at}
use Rattle.join_query.specs.Query.{max_variables}
use Rattle.listing_verdict.specs.Checked.{eight, no_row, says}
use Rattle.listing_verdict.specs.Verdict.{accepted, missing, how_many}
use Rattle.listing_verdict.specs.declared.Checked.{Checked}
use Rattle.listing_verdict.proofs.Differs.{differs, same_not, eq_same}
use Rattle.listing_check.specs.Walk.{agreed, meet, meets, Padded}
use Rattle.listing_check.specs.declared.Reached.{Reached}

-- ---- words

-- what the comparison of two slices says
compares : (xs ys : Row) → Decides (pointwise nat_eq xs ys) (xs ≡ ys)
compares xs ys = slice_eq-Decides Decides-eqb xs ys (pointwise nat_eq xs ys) refl

pub words_same : (xs ys : Row) → not (pointwise nat_eq xs ys) ≡ false → same xs ys ≡ true
words_same xs ys e = eq_same ((compares xs ys).0 (not-false (pointwise nat_eq xs ys) e))

pub words_differ : (xs ys : Row) → not (pointwise nat_eq xs ys) ≡ true → same xs ys ≡ false
words_differ xs ys e = same_not (λ p. absurd (false≢true (sym (not-true (pointwise nat_eq xs ys) e) ∙ (compares xs ys).1 p)))

-- a word below n given to a padded row leaves it padded
pub padded_set : (n : ℕ) (row : Row) (v x : ℕ) → v < n → n ≤ length row → Padded n row → Padded n (set row v x)
padded_set n row v x h l e =
    let w = take n row in
    let t : length w ≡ n = length-take-le n row l in
    ap (λ (r : Row). set r v x) e
    ∙ set-append_left w (replicate (max_variables - length w) 0) v x (omega (arith, t))
    ∙ ap (λ (k : ℕ). set w v x ++ replicate (max_variables - k) 0) (sym (length-set w v x))
    ∙ ap eight (sym (take-set-lt n row v x h))

pub padded_none : (n : ℕ) → n ≤ max_variables → Padded n no_row
padded_none n h = go n max_variables h ∙ ap (λ (k : ℕ). take n no_row ++ replicate (max_variables - k) 0) (sym (length-take-le n no_row h))
  where
    go : (n m : ℕ) → n ≤ m → ◌≡◌ {A = Row} (replicate m 0) (take n (replicate m 0) ++ replicate (m - n) 0)
    go zero m h = ap (λ (k : ℕ). replicate {A = ℕ} k 0) (let e : m ≡ m - 0 = omega arith in e)
    go (suc n) zero h = absurd (omega arith)
    go (suc n) (suc m) h = ap (λ (l : List ℕ). 0 ∷ l) (go n m (omega arith) ∙ ap (λ (k : ℕ). take n (replicate m 0) ++ replicate k 0) (let e : m - n ≡ suc m - suc n = omega arith in e))

-- ---- how many rows

pub many_none : (n len count : ℕ) → n ≡ 0 → count ≡ how_many n len count
unfolding how_many
many_none n len count e = ap (λ (k : ℕ). how_many k len count) (sym e)

pub many_some : (n len count : ℕ) → (n ≡ 0 → ⊥) → len / n ≡ how_many n len count
unfolding how_many
many_some zero len count f = absurd (f refl)
many_some (suc n) len count f = refl

pub many_inside : (n len count : ℕ) → how_many n len count * n ≤ len
unfolding how_many
many_inside zero len count = omega (arith, mul-zero count)
many_inside (suc n) len count = div-mul-le_self len (suc n)

-- ---- one row

module _ (rows : List Row) (at : ℕ) (r : Row) where
  abbrev lacking : Reached
  lacking = record { at = at; missing = Some (eight r) }

  pub meet_past : length rows ≤ at → meet rows (agreed at) r ≡ record { at = at; missing = Some (eight r) }
  unfolding meet
  meet_past h = ap (λ (b : Bool). pick (b && same (get_or rows at []) r) (agreed (at + 1)) lacking) (le-ltb at (length rows) h)

  pub meet_other : same (get_or rows at []) r ≡ false → meet rows (agreed at) r ≡ record { at = at; missing = Some (eight r) }
  unfolding meet
  meet_other e = ap (λ (b : Bool). pick (ltb at (length rows) && b) (agreed (at + 1)) lacking) e ∙ go (ltb at (length rows))
    where
      go : (b : Bool) → pick (b && false) (agreed (at + 1)) lacking ≡ lacking
      go true = refl
      go false = refl

  pub meet_next : at < length rows → same (get_or rows at []) r ≡ true → meet rows (agreed at) r ≡ agreed (at + 1)
  unfolding meet
  meet_next h e =
      ap (λ (b : Bool). pick (ltb at (length rows) && b) (agreed (at + 1)) lacking) e
      ∙ ap (λ (b : Bool). pick (b && true) (agreed (at + 1)) lacking) (lt-ltb at (length rows) h)

-- the row read at a place of the listing
pub read_row : (ws : List ℕ) (n rows at : ℕ) {next : Row} → at < rows → rows * n ≤ length ws → at * n + n ≤ length ws → next ≡ eight (take n (drop (at * n) ws)) → take n next ≡ get_or (cut rows n ws) at []
read_row ws n rows at h l k e =
    let w = take n (drop (at * n) ws) in
    ap (take n) e ∙ take_at w (replicate (max_variables - length w) 0) n (length-take-le n (drop (at * n) ws) (omega (arith, length-drop (at * n) ws))) ∙ sym (cut_at rows n ws at h)

-- ---- one list behind another

pub meets_append : (rows : List Row) (s : Reached) (xs ys : List Row) → meets rows s (xs ++ ys) ≡ meets rows (meets rows s xs) ys
unfolding meets
meets_append rows s [] ys = refl
meets_append rows s (x ∷ xs) ys = meets_append rows (meet rows s x) xs ys

pub meets_lacking : (rows : List Row) (s : Reached) (xs : List Row) → is_some s.missing ≡ true → meets rows s xs ≡ s
unfolding meets meet
meets_lacking rows s [] e = refl
meets_lacking rows s (x ∷ xs) e =
    let t : meet rows s x ≡ s = ap (λ (b : Bool). pick b s (pick (ltb s.at (length rows) && same (get_or rows s.at []) x) (agreed (s.at + 1)) (record { at = s.at; missing = Some (eight x) }))) e in
    ap (λ (u : Reached). meets rows u xs) t ∙ meets_lacking rows s xs e

-- ---- what it comes to

-- the verdict of a walk that has come to its end
unfoldable pub ended : Reached → Checked
ended s = record { number = 0; verdict = pick (is_some s.missing) 3 1; row = 0; missing = unwrap_or s.missing no_row }

-- the k rows listed from a place on are the first k of all
abbrev Same : List Row → ℕ → List Row → ℕ → Type 0
Same rows at all k = (j : ℕ) → j < k → (at + j < length rows) × (j < length all) × (get_or rows (at + j) [] ≡ get_or all j [])

same_more : (rows : List Row) (at : ℕ) (r : Row) (all : List Row) (k : ℕ) → at < length rows → same (get_or rows at []) r ≡ true → Same rows (at + 1) all k → Same rows at (r ∷ all) (suc k)
same_more rows at r all k h e f zero l =
    (omega arith, omega arith, ap (λ (i : ℕ). get_or rows i []) (let z : at + 0 ≡ at = omega arith in z) ∙ same→eq (get_or rows at []) r (true_T (same (get_or rows at []) r) e))
same_more rows at r all k h e f (suc j) l =
    let i = f j (omega arith) in
    (omega (arith, i.0), omega (arith, i.1), ap (λ (m : ℕ). get_or rows m []) (let z : at + suc j ≡ at + 1 + j = omega arith in z) ∙ i.2)

-- either the walk agrees to its end, or the row that it names is the first that differs
data Came (rows : List Row) (at : ℕ) (all : List Row) : Type 0 where
  whole : meets rows (agreed at) all ≡ agreed (at + length all) → differs (drop at rows) all ≡ accepted → Same rows at all (length all) → Came rows at all
  short : (k : ℕ) (r : Row) → meets rows (agreed at) all ≡ record { at = at + k; missing = Some (eight r) } → differs (drop at rows) all ≡ missing r → Same rows at all k → Came rows at all

came : (rows : List Row) (at : ℕ) (all : List Row) → Came rows at all
unfolding meets differs
came rows at [] = whole (ap agreed (let e : at ≡ at + 0 = omega arith in e)) refl (λ j h. absurd (omega arith))
came rows at (r ∷ all) = go (ltb at (length rows)) refl (same (get_or rows at []) r) refl (came rows (at + 1) all)
  where
    -- it stops at this row
    stop : meet rows (agreed at) r ≡ record { at = at; missing = Some (eight r) } → differs (drop at rows) (r ∷ all) ≡ missing r → Came rows at (r ∷ all)
    stop e d =
        short 0 r
        (ap (λ (s : Reached). meets rows s all) e
        ∙ meets_lacking rows (record { at = at; missing = Some (eight r) }) all refl
        ∙ ap {B = Reached} (λ (k : ℕ). record { at = k; missing = Some (eight r) }) (let z : at ≡ at + 0 = omega arith in z))
        d
        (λ j h. absurd (omega arith))

    past : length rows ≤ at → Came rows at (r ∷ all)
    past h = stop (meet_past rows at r h) (ap (λ (l : List Row). differs l (r ∷ all)) (drop_of_length-le rows {i = at} h))

    split : at < length rows → drop at rows ≡ get_or rows at [] ∷ drop (at + 1) rows
    split h = drop-cons rows at [] h ∙ ap (λ (k : ℕ). get_or rows at [] ∷ drop k rows) (sym (add-one at))

    by_row : at < length rows → {b : Bool} → same (get_or rows at []) r ≡ b → differs (drop at rows) (r ∷ all) ≡ pick b (differs (drop (at + 1) rows) all) (missing r)
    by_row h e = ap (λ (l : List Row). differs l (r ∷ all)) (split h) ∙ ap (λ (b : Bool). pick b (differs (drop (at + 1) rows) all) (missing r)) e

    next : at < length rows → (b : Bool) → same (get_or rows at []) r ≡ b → Came rows (at + 1) all → Came rows at (r ∷ all)
    next h false e c = stop (meet_other rows at r e) (by_row h e)
    next h true e (whole m d f) =
        whole
        (ap (λ (s : Reached). meets rows s all) (meet_next rows at r h e) ∙ m ∙ ap agreed (let z : at + 1 + length all ≡ at + suc (length all) = omega arith in z))
        (by_row h e ∙ d)
        (same_more rows at r all (length all) h e f)
    next h true e (short k q m d f) =
        short (suc k) q
        (ap (λ (s : Reached). meets rows s all) (meet_next rows at r h e) ∙ m ∙ ap {B = Reached} (λ (i : ℕ). record { at = i; missing = Some (eight q) }) (let z : at + 1 + k ≡ at + suc k = omega arith in z))
        (by_row h e ∙ d)
        (same_more rows at r all k h e f)

    go : (b : Bool) → ltb at (length rows) ≡ b → (d : Bool) → same (get_or rows at []) r ≡ d → Came rows (at + 1) all → Came rows at (r ∷ all)
    go true e d f c = next (ltb-true at (length rows) e) d f c
    go false e d f c = past (ltb-false at (length rows) e)

pub meets_ended : (rows all : List Row) → ended (meets rows (agreed 0) all) ≡ says (differs rows all)
unfolding ended says
meets_ended rows all = go (came rows 0 all)
  where
    go : Came rows 0 all → ended (meets rows (agreed 0) all) ≡ says (differs rows all)
    go (whole m d f) = ap ended m ∙ ap says (sym d)
    go (short k r m d f) = ap ended m ∙ ap says (sym d)

-- the rows passed are the first of all
pub meets_same : (rows all : List Row) {s : Reached} → s ≡ meets rows (agreed 0) all → (k : ℕ) → k < s.at → (k < length rows) × (k < length all) × (get_or rows k [] ≡ get_or all k [])
meets_same rows all {s} e k h = go (came rows 0 all)
  where
    first : {i : ℕ} → Same rows 0 all i → s.at ≡ 0 + i → (k < length rows) × (k < length all) × (get_or rows k [] ≡ get_or all k [])
    first f d =
        let t = f k (omega arith) in
        (omega (arith, t.0), t.1, ap (λ (i : ℕ). get_or rows i []) (let z : k ≡ 0 + k = omega arith in z) ∙ t.2)

    go : Came rows 0 all → (k < length rows) × (k < length all) × (get_or rows k [] ≡ get_or all k [])
    go (whole m d f) = first f (ap (λ (u : Reached). u.at) (e ∙ m))
    go (short i r m d f) = first f (ap (λ (u : Reached). u.at) (e ∙ m))

-- a walk that lacks nothing has nothing in its third field
pub meets_agreed : (rows : List Row) (at : ℕ) (all : List Row) {s : Reached} → s ≡ meets rows (agreed at) all → is_some s.missing ≡ false → s ≡ agreed s.at
meets_agreed rows at all {s} e n = go (came rows at all)
  where
    go : Came rows at all → s ≡ agreed s.at
    go (whole m d f) = let t : s ≡ agreed (at + length all) = e ∙ m in t ∙ ap (λ (u : Reached). agreed u.at) (sym t)
    go (short k r m d f) = let t : is_some s.missing ≡ true = ap (λ (u : Reached). is_some u.missing) (e ∙ m) in let z : true ≡ false = sym t ∙ n in let y : ◌≡◌ {A = ℕ} 0 1 = cc in absurd (omega arith)
