-- Rows emitted one by one leave what the window must hold, and what an engine may rely on while it emits.
-- Idea: behind d rows there is room for so many more; two pastes, one behind the other, are one.
use Prim.Native.Nat.{ℕ, zero, suc, ◌+◌, ◌*◌, ◌-◌, ◌<◌, ◌≤◌, ◌/◌, min}
use native.Mathlib.Omega.{arith}
use native.Mathlib.Nat.{add-mul, add-zero, one-mul, zero-mul, mul-zero, suc-mul, mul-div_cancel, le-div_iff_mul-le, div-lt_iff_lt-mul}
use mathlib.Core.Path.{◌≡◌, refl, sym, subst, ap, ◌∙◌}
use mathlib.Core.Bool.{Bool, true, false}
use mathlib.Core.List.{List, [], ◌∷◌, ◌++◌, append_assoc, append-nil}
use lib.ListN.{length, take, drop, length-append, length-take, length-drop, take-append-drop, drop_of_length-le}
use lib.Seq.{paste, take_at, drop-drop, drop-append-add}
use lib.Dec.{leb, ltb, leb-suc-suc}
use borrow.Author.Tests.{leb-true, leb-false, le-leb, lt-leb, lt-ltb, ltb-true}
use Rattle.relation.specs.Order.{Row, pick}
use Rattle.relation.specs.Lists.{hd, tl}
use Rattle.relation.specs.Rows.{Width, flat}
use Rattle.relation.specs.Exactly.{Exactly}
use Rattle.query.specs.Window.{Progress, fit, windowed, pasted, begin, emit, emits}

-- ---- one row

-- the two ways it goes while the window is not full
pub emit_room : (n : ℕ) (w : List ℕ) (c : ℕ) (row : Row) → (c + 1) * n ≤ length w → emit n (record { words = w; count = c; full = false }) row ≡ record { words = pasted w (c * n) row; count = c + 1; full = false }
unfolding emit
emit_room n w c row h =
    ap (λ (b : Bool). pick b (record { words = pasted w (c * n) row; count = c + 1; full = false }) (record { words = w; count = c; full = true })) (le-leb ((c + 1) * n) (length w) h)

pub emit_out : (n : ℕ) (w : List ℕ) (c : ℕ) (row : Row) → length w < (c + 1) * n → emit n (record { words = w; count = c; full = false }) row ≡ record { words = w; count = c; full = true }
unfolding emit
emit_out n w c row h =
    ap (λ (b : Bool). pick b (record { words = pasted w (c * n) row; count = c + 1; full = false }) (record { words = w; count = c; full = true })) (lt-leb ((c + 1) * n) (length w) h)

-- what holds of a full window, of one with a row more and of one that is full now holds after one row
emit_cases : (P : Progress → Type 0) (n : ℕ) (s : Progress) (row : Row) → (s.full ≡ true → P s) → ((s.count + 1) * n ≤ length s.words → P (record { words = pasted s.words (s.count * n) row; count = s.count + 1; full = false })) → P (record { words = s.words; count = s.count; full = true }) → P (emit n s row)
unfolding emit
emit_cases P n s row f g h = go s.full (leb ((s.count + 1) * n) (length s.words)) refl refl
  where
    go : (a b : Bool) → s.full ≡ a → leb ((s.count + 1) * n) (length s.words) ≡ b → P (pick a s (pick b (record { words = pasted s.words (s.count * n) row; count = s.count + 1; full = false }) (record { words = s.words; count = s.count; full = true })))
    go true b e q = f e
    go false true e q = g (leb-true ((s.count + 1) * n) (length s.words) q)
    go false false e q = h

emit_full : (n : ℕ) (s : Progress) (row : Row) → s.full ≡ true → emit n s row ≡ s
unfolding emit
emit_full n s row e =
    ap
    (λ (b : Bool).
    pick b s
    (pick (leb ((s.count + 1) * n) (length s.words))
    (record { words = pasted s.words (s.count * n) row; count = s.count + 1; full = false })
    (record { words = s.words; count = s.count; full = true })))
    e

length_pasted : (w : List ℕ) (i : ℕ) (xs : List ℕ) → i + length xs ≤ length w → length (pasted w i xs) ≡ length w
length_pasted w i xs h = simp (length-append, length-take, length-drop) (omega arith)

one_more : (c n : ℕ) → (c + 1) * n ≡ c * n + n
one_more c n = add-mul c 1 n ∙ ap (λ (x : ℕ). c * n + x) (one-mul n)

emit_length : (n : ℕ) (s : Progress) (row : Row) → length row ≡ n → length (emit n s row).words ≡ length s.words
emit_length n s row e =
    emit_cases (λ (t : Progress). length t.words ≡ length s.words) n s row
    (λ f. refl)
    (λ t. length_pasted s.words (s.count * n) row (omega (arith, one_more s.count n)))
    refl

emit_fits : (n : ℕ) (s : Progress) (row : Row) → s.count * n ≤ length s.words → (emit n s row).count * n ≤ length s.words
emit_fits n s row h = emit_cases (λ (t : Progress). t.count * n ≤ length s.words) n s row (λ f. h) (λ t. t) h

-- a copying loop's last state, `paste` of the library, is the row's
pub paste_row : (w : List ℕ) (i n : ℕ) (row : Row) → n ≤ length row → paste w i row n ≡ pasted w i (take n row)
paste_row w i n row h =
    let e : length (take n row) ≡ n = omega (arith, length-take n row) in
    rw (e, append_assoc (take i w) (take n row) (drop (i + n) w)) refl

-- ---- many rows

pub emits_append : (n : ℕ) (s : Progress) (xs ys : List Row) → emits n s (xs ++ ys) ≡ emits n (emits n s xs) ys
unfolding emits
emits_append n s [] ys = refl
emits_append n s (r ∷ xs) ys = emits_append n (emit n s r) xs ys

-- once full, nothing changes
pub emits_full : (n : ℕ) (s : Progress) (rows : List Row) → s.full ≡ true → emits n s rows ≡ s
unfolding emits
emits_full n s [] e = refl
emits_full n s (r ∷ rs) e = ap (λ (t : Progress). emits n t rs) (emit_full n s r e) ∙ emits_full n s rs e

-- the window keeps its length, and the rows written lie in it
pub emits_length : (n : ℕ) (rows : List Row) (s : Progress) → Width n rows → length (emits n s rows).words ≡ length s.words
unfolding emits
emits_length n [] s f = refl
emits_length n (r ∷ rs) s f = emits_length n rs (emit n s r) (λ x m. f x (tl m)) ∙ emit_length n s r (f r (hd refl))

pub emits_fits : (n : ℕ) (rows : List Row) (s : Progress) → Width n rows → s.count * n ≤ length s.words → (emits n s rows).count * n ≤ length s.words
unfolding emits
emits_fits n [] s f h = h
emits_fits n (r ∷ rs) s f h =
    let e = emit_length n s r (f r (hd refl)) in
    omega (arith, emits_fits n rs (emit n s r) (λ x m. f x (tl m)) (omega (arith, emit_fits n s r h)))

-- ---- the two ways to say the window agree

pasted_twice : (w : List ℕ) (i : ℕ) (xs ys : List ℕ) → i ≤ length w → pasted (pasted w i xs) (i + length xs) ys ≡ pasted w i (xs ++ ys)
pasted_twice w i xs ys h =
    let m : length (take i w ++ xs) ≡ i + length xs = omega (arith, length-append (take i w) xs, length-take i w) in
    let a : take i w ++ (xs ++ drop (i + length xs) w) ≡ (take i w ++ xs) ++ drop (i + length xs) w = sym (append_assoc (take i w) xs (drop (i + length xs) w)) in
    let t : take (i + length xs) ((take i w ++ xs) ++ drop (i + length xs) w) ≡ take i w ++ xs = take_at (take i w ++ xs) (drop (i + length xs) w) (i + length xs) m in
    let u : drop (i + length xs + length ys) ((take i w ++ xs) ++ drop (i + length xs) w) ≡ drop (length ys) (drop (i + length xs) w) =
    subst (λ (x : ℕ). drop (x + length ys) ((take i w ++ xs) ++ drop (i + length xs) w) ≡ drop (length ys) (drop (i + length xs) w)) m (drop-append-add (take i w ++ xs) (drop (i + length xs) w) (length ys)) in
    let v : drop (length ys) (drop (i + length xs) w) ≡ drop (i + length xs + length ys) w = drop-drop (length ys) (i + length xs) w in
    let z : i + length xs + length ys ≡ i + length (xs ++ ys) = omega (arith, length-append xs ys) in
    rw (a, t, u, v, z) (simp append_assoc)

pasted_none : (w : List ℕ) (i : ℕ) → w ≡ pasted w i []
pasted_none w i = sym (rw (add-zero i) (take-append-drop i w))

progress : {w w' : List ℕ} {c c' : ℕ} {f f' : Bool} → w ≡ w' → c ≡ c' → f ≡ f' → ◌≡◌ {A = Progress} (record { words = w; count = c; full = f }) (record { words = w'; count = c'; full = f' })
progress p q r i = record { words = p i; count = q i; full = r i }

-- how many of c more rows fit behind d rows
more : ℕ → ℕ → ℕ → ℕ → ℕ
more zero l d c = c
more (suc n) l d c = min (l / suc n - d) c

more_none : (n l d : ℕ) → more n l d 0 ≡ 0
unfolding more
more_none zero l d = refl
more_none (suc n) l d = omega arith

more_fits : (n l d c : ℕ) → (d + 1) * n ≤ l → more n l d (suc c) ≡ suc (more n l (d + 1) c)
unfolding more
more_fits zero l d c h = refl
more_fits (suc n) l d c h =
    let p : 0 < suc n = omega arith in
    let g : d + 1 ≤ l / suc n = (le-div_iff_mul-le p).1 h in
    omega arith

more_full : (n l d c : ℕ) → l < (d + 1) * n → more n l d (suc c) ≡ 0
unfolding more
more_full zero l d c h = absurd (omega (arith, mul-zero (d + 1)))
more_full (suc n) l d c h =
    let p : 0 < suc n = omega arith in
    let g : l / suc n < d + 1 = (div-lt_iff_lt-mul p).1 h in
    omega arith

more_fit : (n l c : ℕ) → more n l 0 c ≡ fit n l c
unfolding more fit
more_fit zero l c = refl
more_fit (suc n) l c = omega arith

after : List ℕ → ℕ → ℕ → List Row → Progress
after w n d rows =
    let m = more n (length w) d (length rows) in
    record { words = pasted w (d * n) (flat (take m rows)); count = d + m; full = ltb m (length rows) }

emits_after : (n : ℕ) (rows : List Row) (w : List ℕ) (d : ℕ) → Width n rows → d * n ≤ length w → emits n (record { words = w; count = d; full = false }) rows ≡ after w n d rows
unfolding emits after flat
emits_after n [] w d wide h = rw (more_none n (length w) d) (progress (pasted_none w (d * n)) (omega arith) refl)
emits_after n (r ∷ rs) w d wide h = go (emits_after n rs (pasted w (d * n) r) (d + 1) (λ s m. wide s (tl m))) (leb ((d + 1) * n) (length w)) refl
  where
    e : length r ≡ n
    e = wide r (hd refl)

    go : ((d + 1) * n ≤ length (pasted w (d * n) r) → emits n (record { words = pasted w (d * n) r; count = d + 1; full = false }) rs ≡ after (pasted w (d * n) r) n (d + 1) rs) → (b : Bool) → leb ((d + 1) * n) (length w) ≡ b → emits n (emit n (record { words = w; count = d; full = false }) r) rs ≡ after w n d (r ∷ rs)
    go ih true q =
        let t : (d + 1) * n ≤ length w = leb-true ((d + 1) * n) (length w) q in
        let u : (d + 1) * n ≡ d * n + length r = omega (arith, one_more d n, e) in
        let l : length (pasted w (d * n) r) ≡ length w = length_pasted w (d * n) r (omega arith) in
        let f : more n (length w) d (suc (length rs)) ≡ suc (more n (length w) (d + 1) (length rs)) = more_fits n (length w) d (length rs) t in
        ap (λ (s : Progress). emits n s rs) (emit_room n w d r t) ∙
        ih (omega arith) ∙
        rw (l, f, u) (progress (pasted_twice w (d * n) r (flat (take (more n (length w) (d + 1) (length rs)) rs)) h) (omega arith) (sym (leb-suc-suc (suc (more n (length w) (d + 1) (length rs))) (length rs))))
    go ih false q =
        let o : length w < (d + 1) * n = leb-false ((d + 1) * n) (length w) q in
        let f : more n (length w) d (suc (length rs)) ≡ 0 = more_full n (length w) d (length rs) o in
        ap (λ (s : Progress). emits n s rs) (emit_out n w d r o) ∙
        emits_full n (record { words = w; count = d; full = true }) rs refl ∙
        rw f (progress (pasted_none w (d * n)) (omega arith) (sym (lt-ltb 0 (suc (length rs)) (omega arith))))

length_flat : (n : ℕ) (rows : List Row) (m : ℕ) → Width n rows → m ≤ length rows → length (flat (take m rows)) ≡ m * n
unfolding flat
length_flat n rows zero wide h = sym (zero-mul n)
length_flat n [] (suc m) wide h = absurd (omega arith)
length_flat n (r ∷ rs) (suc m) wide h =
    let ih = length_flat n rs m (λ s i. wide s (tl i)) (omega arith) in
    omega (arith, length-append r (flat (take m rs)), wide r (hd refl), suc-mul m n)

fit_le : (n l c : ℕ) → fit n l c ≤ c
unfolding fit
fit_le zero l c = omega arith
fit_le (suc n) l c = omega arith

-- the rows of a listing, emitted into a window, leave what `windowed` says
pub emits_windowed : (w : List ℕ) (n : ℕ) (rows : List Row) → Width n rows → emits n (begin w) rows ≡ windowed w n rows
unfolding windowed after
emits_windowed w n rows wide =
    let m = fit n (length w) (length rows) in
    let e : more n (length w) 0 (length rows) ≡ m = more_fit n (length w) (length rows) in
    let z : 0 * n ≡ 0 = zero-mul n in
    let k : 0 + length (flat (take m rows)) ≡ m * n = omega (arith, length_flat n rows m wide (fit_le n (length w) (length rows))) in
    emits_after n rows w 0 wide (omega arith) ∙
    rw (e, z) (progress (ap (λ (k : ℕ). flat (take m rows) ++ drop k w) k) (omega arith) refl)

-- ---- what the window says of itself

-- full is said exactly when more rows exist than fit; with n = 0 never
pub full_exactly : (w : List ℕ) (n : ℕ) (rows : List Row) → ((windowed w n rows).full ≡ true → length w < length rows * n) × (length w < length rows * n → (windowed w n rows).full ≡ true)
unfolding windowed fit
full_exactly w zero rows = (λ e. absurd (omega (arith, ltb-true (length rows) (length rows) e)), λ h. absurd (omega (arith, mul-zero (length rows))))
full_exactly w (suc n) rows = (
  λ e. let h : length w / suc n < length rows = omega (arith, ltb-true (min (length w / suc n) (length rows)) (length rows) e) in (div-lt_iff_lt-mul p).0 h,
  λ h. let g : length w / suc n < length rows = (div-lt_iff_lt-mul p).1 h in lt-ltb (min (length w / suc n) (length rows)) (length rows) (omega arith),
)
  where
    p : 0 < suc n
    p = omega arith

-- the rows written then: the window's length divided by n, rounded down
pub full_count : (w : List ℕ) (n : ℕ) (rows : List Row) → (windowed w (suc n) rows).full ≡ true → (windowed w (suc n) rows).count ≡ length w / suc n
unfolding windowed fit
full_count w n rows e = omega (arith, ltb-true (min (length w / suc n) (length rows)) (length rows) e)

-- ---- a window of whole rows: room for m of them, of n words, and nothing left over

-- m rows fit, or all
pub fit_whole : (n m c : ℕ) → 0 < n → fit n (m * n) c ≡ min m c
unfolding fit
fit_whole zero m c p = absurd (omega arith)
fit_whole (suc n) m c p = ap (λ (x : ℕ). min x c) (mul-div_cancel m p)

-- more exist than fit exactly when more than m exist
pub more_whole : (n m c : ℕ) → 0 < n → Exactly (m * n < c * n) (m < c)
more_whole n m c p =
    let e : m * n / n ≡ m = mul-div_cancel m p in
    (λ h. subst (λ (x : ℕ). x < c) e ((div-lt_iff_lt-mul p).1 h), λ h. (div-lt_iff_lt-mul p).0 (subst (λ (x : ℕ). x < c) (sym e) h))

-- behind m rows nothing is left of what the window held
pub filled_whole : (w : List ℕ) (n m : ℕ) (xs : List ℕ) → length w ≡ m * n → xs ++ drop (m * n) w ≡ xs
filled_whole w n m xs e = ap (λ (l : List ℕ). xs ++ l) (drop_of_length-le w (let h : length w ≤ m * n = omega arith in h)) ∙ append-nil xs
