-- The pair walks as the trie iterator over the rows that count: each call gives the same answer and leads to a pair that stands for the same state.
use Prim.Native.Nat.{ℕ, suc, ◌≤◌, ◌<◌}
use native.Mathlib.Decide.{dec_lt}
use native.Mathlib.Omega.{arith}
use mathlib.Core.Path.{◌≡◌, refl, sym, subst, ap, ap₂, ◌∙◌}
use mathlib.Core.Logic.{inl, inr, ⊎_elim}
use mathlib.Core.Bool.{Bool, true, false, not, ◌&&◌, ◌||◌, false≢true}
use mathlib.Core.List.{List, [], ◌∷◌, ◌++◌}
use lib.ListN.{length, length-append}
use lib.Dec.{ltb, eqb}
use borrow.Author.Tests.{ltb-true, lt-ltb, le-ltb, eq-eqb, eqb-true, eqb-false}
use Rattle.relation.specs.Order.{Row, pick}
use Rattle.relation.specs.Lists.{◌∈◌, hd, tl, not_in_nil, nonempty, Ascends}
use Rattle.relation.specs.Rows.{Width, as_set}
use Rattle.relation.specs.Runs.{from}
use Rattle.relation.specs.Layers.{prefixes, under, keys_under}
use Rattle.relation.proofs.Runs.{in_from, from_in, from_ascends, from_least, head_least}
use Rattle.relation.proofs.Tests.{and_left, and_false_right}
use Rattle.query.proofs.Beyond.{keys_ascend}
use Rattle.trie_iterator.specs.TrieIterator.{State, root, level, levels, left, onto, path, tail, go_next, go_seek, stands, opens, go_down, rises, go_up, Call, Key, Next, AtEnd, Open, Up, Seek, Answer, says, shown, answer, after, answers}
use Rattle.overlay.specs.Merge.{merge}
use Rattle.overlay.specs.Laid.{owns, others, laid}
use Rattle.overlay_walk.specs.Pair.{Pair, pair, Kind, kind, deep, firsts, schools, makers, walker, walks, left_in, pass, go_pass, pass_in, pair_next, pair_seek, on, owner_of, opens_by, open_by, pair_opens, pair_open, pair_up, rises_by, pair_answer, pair_after, pair_answers, stands_at, Above, one, more, StandsFor, at_top, at_first, in_school, in_maker}
use Rattle.overlay.proofs.Merge.{in_merge, merge_from, merge_left, merge_right}
use Rattle.overlay.proofs.Laid.{owns_row, row_owns, laid_in, laid_width, key_first, first_key, laid_firsts, laid_school, laid_maker}
use Rattle.overlay.proofs.Cutting.{from_zero, from_later, from_earlier, from_past}

-- a run none of whose keys is below k passes k
pass_from : (k : ℕ) (ys : List ℕ) → Ascends ◌<◌ ys → ((x : ℕ) → x ∈ ys → k ≤ x) → pass k ys ≡ from (suc k) ys
unfolding from
pass_from k [] s f = refl
pass_from k (y ∷ ys) s f = go (eqb y k) refl
  where
    go : (b : Bool) → eqb y k ≡ b → pick b ys (y ∷ ys) ≡ from (suc k) (y ∷ ys)
    go true e = let z : y ≡ k = eqb-true y k e in sym (ap (λ (n : ℕ). from (suc n) (y ∷ ys)) (sym z) ∙ from_past s)
    go false e =
        let g : y ≡ k → ⊥ = eqb-false y k e in
        let l : suc k ≤ y = lift g (f y (hd refl)) in
        sym (ap (λ (b : Bool). pick b (from (suc k) ys) (y ∷ ys)) (le-ltb y (suc k) l))
      where
        lift : (y ≡ k → ⊥) → k ≤ y → suc k ≤ y
        lift n h = omega arith

-- ---- no rows, no keys

pub keys_nil : keys_under [] [] ≡ []
unfolding keys_under prefixes under as_set
keys_nil = refl

pub left_at : (rows : List Row) (t : ℕ) → left (stands_at rows t) ≡ from t (keys_under [] rows)
unfolding from
left_at [] t = sym (ap (from t) keys_nil)
left_at (q ∷ qs) t = refl

some_rows : (rows : List Row) (t : ℕ) {k : ℕ} {ks : List ℕ} → from t (keys_under [] rows) ≡ k ∷ ks → nonempty rows ≡ true
unfolding from
some_rows [] t {k} {ks} e = let z : [] ≡ k ∷ ks = sym (ap (from t) keys_nil) ∙ e in let n : ◌≡◌ {A = ℕ} 0 1 = cc in absurd (omega arith)
some_rows (q ∷ qs) t e = refl

some_in : {rows : List Row} {q : Row} → q ∈ rows → nonempty rows ≡ true
some_in (hd e) = refl
some_in (tl i) = refl

-- of two tables one of which has rows, one stands at depth 1
pub none_none : laid [] [] ≡ []
unfolding laid others as_set
none_none = refl

pub walks_first : (s m : List Row) (t : ℕ) → nonempty (laid s m) ≡ true → walks (pair (stands_at s t) (stands_at m t)) ≡ firsts
walks_first [] [] t e = absurd (false≢true (ap nonempty (sym none_none) ∙ e))
walks_first [] (r ∷ m) t e = refl
walks_first (q ∷ s) [] t e = refl
walks_first (q ∷ s) (r ∷ m) t e = refl

-- ---- the levels above

pub above_left : {b c u p : State} → Above b c u p → left u ≡ left p
above_left one = refl
above_left (more r) = refl

above_levels : {b c u p : State} → levels b ≡ levels c → Above b c u p → levels u ≡ levels p
above_levels e one = ap suc e
above_levels e (more r) = ap suc (above_levels e r)

above_deep : {b u p : State} {js : List ℕ} {r : State} → Above b (level js r) u p → kind p ≡ deep
above_deep one = refl
above_deep (more one) = refl
above_deep (more (more r)) = refl

onto_headed : (k : ℕ) (q : Row) (ks : List ℕ) → (r : Row) × (onto (k ∷ q) ks ≡ k ∷ r)
onto_headed k q [] = (q, refl)
onto_headed k q (x ∷ ks) = (q ++ (x ∷ []), refl)

above_path : {b c u p : State} {k : ℕ} → path b ≡ k ∷ [] → path c ≡ k ∷ [] → Above b c u p → (q : Row) × (path u ≡ k ∷ q) × (path p ≡ k ∷ q)
above_path {k = k} e f (one {ks}) = let h = onto_headed k [] ks in (h.0, ap (λ (z : Row). onto z ks) e ∙ h.1, ap (λ (z : Row). onto z ks) f ∙ h.1)
above_path {k = k} e f (more {ks} r) = let g = above_path e f r in let h = onto_headed k g.0 ks in (h.0, ap (λ (z : Row). onto z ks) g.1 ∙ h.1, ap (λ (z : Row). onto z ks) g.2 ∙ h.1)

pub path_short : (u : State) → length (path u) ≤ levels u
path_short root = omega arith
path_short (level ks above) = go ks (path_short above)
  where
    go : (ks : List ℕ) → length (path above) ≤ levels above → length (onto (path above) ks) ≤ suc (levels above)
    go [] h = omega arith
    go (k ∷ ks) h = omega (arith, length-append (path above) (k ∷ []))

above_level : {b c u p : State} → Above b c u p → (rows rows' : List Row) → stands rows u ≡ stands rows' p
above_level one r r' = refl
above_level (more a) r r' = refl

-- ---- one table's iterator, on the key k at depth 1

path_level : (k : ℕ) (zs : List ℕ) → on k zs ≡ true → path (level zs root) ≡ k ∷ []
path_level k [] e = absurd (false≢true e)
path_level k (x ∷ zs) e = ap (λ (y : ℕ). y ∷ []) (eqb-true x k e)

some_level : (k : ℕ) (zs : List ℕ) → on k zs ≡ true → nonempty zs ≡ true
some_level k [] e = e
some_level k (x ∷ zs) e = refl

pub at_level : (rows : List Row) (t k : ℕ) → on k (from t (keys_under [] rows)) ≡ true → stands_at rows t ≡ level (from t (keys_under [] rows)) root
unfolding from
at_level [] t k e = absurd (false≢true (ap (λ (zs : List ℕ). on k (from t zs)) (sym keys_nil) ∙ e))
at_level (q ∷ qs) t k e = refl

shallow : (rows : List Row) (t : ℕ) → walker (kind (stands_at rows t)) deep ≡ makers
shallow [] t = refl
shallow (q ∷ qs) t = refl

pub up_at : (rows : List Row) (t : ℕ) → go_up (stands_at rows t) ≡ root
up_at [] t = refl
up_at (q ∷ qs) t = refl

and_nonempty : (b c : Bool) → c ≡ true → (b && c) ≡ b
and_nonempty true c e = e
and_nonempty false c e = refl

module _ (a : ℕ) (rows : List Row) (k : ℕ) (zs : List ℕ) (e : on k zs ≡ true) where
  pub opens_level : opens a rows (level zs root) ≡ ltb 1 a
  opens_level = and_nonempty (ltb 1 a) (nonempty zs) (some_level k zs e)

  down_level : go_down a rows (level zs root) ≡ pick (ltb 1 a) (level (keys_under (k ∷ []) rows) (level zs root)) (level zs root)
  down_level = ap₂ {C = State} (λ (b : Bool) (p : Row). pick b (level (keys_under p rows) (level zs root)) (level zs root)) opens_level (path_level k zs e)

-- which tables have rows
empty_laid : (s m : List Row) → nonempty (laid s m) ≡ false → (s ≡ []) × (m ≡ [])
empty_laid [] [] e = (refl, refl)
empty_laid [] (r ∷ m) e = absurd (false≢true (sym e ∙ some_in (laid_in [] (r ∷ m) {q = r} (inr (hd refl, λ x i f. not_in_nil i)))))
empty_laid (q ∷ s) m e = absurd (false≢true (sym e ∙ some_in (laid_in (q ∷ s) m {q = q} (inl (hd refl)))))

pub some_laid : (s m : List Row) → nonempty (laid s m) ≡ (nonempty s || nonempty m)
some_laid [] [] = ap nonempty none_none
some_laid [] (r ∷ m) = some_in (laid_in [] (r ∷ m) {q = r} (inr (hd refl, λ x i f. not_in_nil i)))
some_laid (q ∷ s) m = some_in (laid_in (q ∷ s) m {q = q} (inl (hd refl)))

module _ {a : ℕ} {s m : List Row} (v : Width a s) (w : Width a m) (h : 0 < a) where
  abbrev Ks : List ℕ
  Ks = keys_under [] s

  abbrev Km : List ℕ
  Km = keys_under [] m

  abbrev K : List ℕ
  K = keys_under [] (laid s m)

  pub up_s : Ascends ◌<◌ Ks
  up_s = keys_ascend [] v h

  pub up_m : Ascends ◌<◌ Km
  up_m = keys_ascend [] w h

  up_k : Ascends ◌<◌ K
  up_k = keys_ascend [] (laid_width v w) h

  -- both cut at t: the rows that count, cut at t
  pub both_at : (t : ℕ) → merge (from t Ks) (from t Km) ≡ from t K
  both_at t = merge_from t up_s up_m ∙ ap (from t) (sym (laid_firsts v w h))

  pub lefts_at : (t : ℕ) → merge (left (stands_at s t)) (left (stands_at m t)) ≡ from t K
  lefts_at t = ap₂ {C = List ℕ} merge (left_at s t) (left_at m t) ∙ both_at t

  owned_key : (k : ℕ) → owns s k ≡ true → k ∈ Ks
  owned_key k o = let r = owns_row s k o in subst (λ (x : ℕ). x ∈ Ks) r.2 (first_key v w v h r.1)

  key_owned : {k : ℕ} → k ∈ Ks → owns s k ≡ true
  key_owned {k} i = let r = key_first v w v h i in subst (λ (x : ℕ). owns s x ≡ true) r.2 (row_owns r.1)

  on_head : (k : ℕ) (ys : List ℕ) → Ascends ◌<◌ ys → ((x : ℕ) → x ∈ ys → k ≤ x) → k ∈ ys → on k ys ≡ true
  on_head k [] up f i = absurd (not_in_nil i)
  on_head k (y ∷ ys) up f i = let l = head_least up k i in let g = f y (hd refl) in let e : y ≡ k = omega arith in eq-eqb y k e

  on_in : (k : ℕ) (ys : List ℕ) → on k ys ≡ true → k ∈ ys
  on_in k [] e = absurd (false≢true e)
  on_in k (y ∷ ys) e = hd (sym (eqb-true y k e))

  -- ---- at depth 1, on a key

  module _ (t k : ℕ) {ks : List ℕ} (e : from t K ≡ k ∷ ks) where
    -- the present key is not above any that is left
    pub least_s : (x : ℕ) → x ∈ from t Ks → k ≤ x
    least_s x i = head_least (subst (Ascends ◌<◌) e (from_ascends t up_k)) x (subst (λ (zs : List ℕ). x ∈ zs) (both_at t ∙ e) (merge_left (from t Km) i))

    pub least_m : (x : ℕ) → x ∈ from t Km → k ≤ x
    least_m x i = head_least (subst (Ascends ◌<◌) e (from_ascends t up_k)) x (subst (λ (zs : List ℕ). x ∈ zs) (both_at t ∙ e) (merge_right (from t Ks) i))

    pub present : t ≤ k
    present = from_least t up_k (subst (λ (zs : List ℕ). k ∈ zs) (sym e) (hd refl))

    -- the school's stands on the present key exactly where it has it
    pub on_owns : on k (left (stands_at s t)) ≡ owns s k
    on_owns = rw (left_at s t) (go (owns s k) refl)
      where
        go : (b : Bool) → owns s k ≡ b → on k (from t Ks) ≡ b
        go true o = on_head k (from t Ks) (from_ascends t up_s) least_s (from_in t Ks present (owned_key k o))
        go false o = not_on (on k (from t Ks)) refl
          where
            not_on : (b : Bool) → on k (from t Ks) ≡ b → b ≡ false
            not_on true q = absurd (false≢true (sym o ∙ key_owned (in_from t Ks (on_in k (from t Ks) q))))
            not_on false q = refl

    -- a present key that the school lacks is the maker's
    maker_key : owns s k ≡ false → k ∈ from t Km
    maker_key o =
        ⊎_elim
        (λ (i : k ∈ from t Ks). absurd (false≢true (sym o ∙ key_owned (in_from t Ks i))))
        (λ (i : k ∈ from t Km). i)
        (in_merge (from t Ks) (from t Km) (subst (λ (zs : List ℕ). k ∈ zs) (sym (both_at t ∙ e)) (hd refl)))

    pub on_maker : owns s k ≡ false → on k (from t Km) ≡ true
    on_maker o = on_head k (from t Km) (from_ascends t up_m) least_m (maker_key o)

    pub on_school : owns s k ≡ true → on k (from t Ks) ≡ true
    on_school o = ap (on k) (sym (left_at s t)) ∙ (on_owns ∙ o)

    pub rest_is : ks ≡ from (suc k) K
    rest_is = sym (sym (from_later up_k (le_suc present)) ∙ (ap (from (suc k)) e ∙ from_past (subst (Ascends ◌<◌) e (from_ascends t up_k))))
      where
        le_suc : {x y : ℕ} → x ≤ y → x ≤ suc y
        le_suc l = omega arith

    -- each passes it
    pub passes : (rows : List Row) → Ascends ◌<◌ (keys_under [] rows) → ((x : ℕ) → x ∈ from t (keys_under [] rows) → k ≤ x) → go_pass k (stands_at rows t) ≡ stands_at rows (suc k)
    passes [] up f = refl
    passes (q ∷ qs) up f =
        let l : t ≤ suc k = omega (arith, present) in
        ap (λ (zs : List ℕ). level zs root) (pass_from k (from t (keys_under [] (q ∷ qs))) (from_ascends t up) f ∙ from_later up l)

  -- ---- next

  pub next_first : (t : ℕ) → nonempty (laid s m) ≡ true → StandsFor a s m (go_next (level (from t K) root)) (pair_next (pair (stands_at s t) (stands_at m t)))
  next_first t e = rw (walks_first s m t e) (rw (lefts_at t) (go (from t K) refl))
    where
      go : (zs : List ℕ) → from t K ≡ zs → StandsFor a s m (level (tail zs) root) (pass_in zs (pair (stands_at s t) (stands_at m t)))
      go [] q = subst (λ (zs : List ℕ). StandsFor a s m (level zs root) (pair (stands_at s t) (stands_at m t))) q (at_first t e)
      go (k ∷ ks) q =
          subst (λ (zs : List ℕ). StandsFor a s m (level zs root) (pair (go_pass k (stands_at s t)) (go_pass k (stands_at m t)))) (sym (rest_is t k q))
          (rw (passes t k q s up_s (least_s t k q), passes t k q m up_m (least_m t k q)) (at_first (suc k) e))

  -- ---- seek

  seeks_later : (rows : List Row) → Ascends ◌<◌ (keys_under [] rows) → {t u : ℕ} → t ≤ u → go_seek u (stands_at rows t) ≡ stands_at rows u
  seeks_later [] up l = refl
  seeks_later (q ∷ qs) up l = ap (λ (zs : List ℕ). level zs root) (from_later up l)

  seeks_earlier : (rows : List Row) → Ascends ◌<◌ (keys_under [] rows) → {t u : ℕ} → u ≤ t → go_seek u (stands_at rows t) ≡ stands_at rows t
  seeks_earlier [] up l = refl
  seeks_earlier (q ∷ qs) up l = ap (λ (zs : List ℕ). level zs root) (from_earlier up l)

  pub seek_first : (u t : ℕ) → nonempty (laid s m) ≡ true → StandsFor a s m (go_seek u (level (from t K) root)) (pair_seek u (pair (stands_at s t) (stands_at m t)))
  seek_first u t e = rw (walks_first s m t e) (go (dec_lt u t))
    where
      go : Dec (u < t) → StandsFor a s m (level (from u (from t K)) root) (pair (go_seek u (stands_at s t)) (go_seek u (stands_at m t)))
      go (yes l) =
          let b : u ≤ t = omega arith in
          rw (from_earlier up_k b, seeks_earlier s up_s b, seeks_earlier m up_m b) (at_first t e)
      go (no l) =
          let b : t ≤ u = omega arith in
          rw (from_later up_k b, seeks_later s up_s b, seeks_later m up_m b) (at_first u e)

  -- ---- up

  pub up_first : (t : ℕ) → nonempty (laid s m) ≡ true → StandsFor a s m root (pair_up (pair (stands_at s t) (stands_at m t)))
  up_first t e = rw (walks_first s m t e) (rw (up_at s t, up_at m t) at_top)

  -- ---- open

  positive : ltb 0 a ≡ true
  positive = lt-ltb 0 a h

  down_root : (rows : List Row) → go_down a rows root ≡ stands_at rows 0
  down_root [] = ap (λ (b : Bool). pick (b && false) (level (keys_under [] []) root) root) positive
  down_root (q ∷ qs) = ap (λ (b : Bool). pick (b && true) (level (keys_under [] (q ∷ qs)) root) root) positive ∙ ap (λ (zs : List ℕ). level zs root) (sym (from_zero (keys_under [] (q ∷ qs))))

  pub open_top : StandsFor a s m (go_down a (laid s m) root) (pair (go_down a s root) (go_down a m root))
  open_top = go (nonempty (laid s m)) refl
    where
      go : (b : Bool) → nonempty (laid s m) ≡ b → StandsFor a s m (go_down a (laid s m) root) (pair (go_down a s root) (go_down a m root))
      go true e =
          rw (down_root s, down_root m)
          (subst (λ (u : State). StandsFor a s m u (pair (stands_at s 0) (stands_at m 0)))
          (sym (ap₂ {C = State} (λ (b c : Bool). pick (b && c) (level K root) root) positive e ∙ ap (λ (zs : List ℕ). level zs root) (sym (from_zero K))))
          (at_first 0 e))
      go false e =
          let z = empty_laid s m e in
          rw (down_root s, down_root m)
          (subst (λ (u : State). StandsFor a s m u (pair (stands_at s 0) (stands_at m 0)))
          (sym (ap (λ (c : Bool). pick (ltb 0 a && c) (level K root) root) e ∙ ap (λ (b : Bool). pick b (level K root) root) (and_false_right (ltb 0 a) false refl)))
          (subst (λ (x : List Row). StandsFor a s m root (pair (stands_at x 0) (stands_at m 0))) (sym z.0)
          (subst (λ (x : List Row). StandsFor a s m root (pair root (stands_at x 0))) (sym z.1) at_top)))

  pub opens_top : opens a (laid s m) root ≡ (opens a s root || opens a m root)
  opens_top = ap (λ (b : Bool). b && nonempty (laid s m)) positive ∙ (some_laid s m ∙ sym (ap (λ (b : Bool). (b && nonempty s) || (b && nonempty m)) positive))

  -- at depth 1: the key's owner
  module _ (t k : ℕ) {ks : List ℕ} (e : from t K ≡ k ∷ ks) where
    pub on_laid : on k (from t K) ≡ true
    on_laid = ap (on k) e ∙ eq-eqb k k refl

    laid_nonempty : nonempty (laid s m) ≡ true
    laid_nonempty = some_rows (laid s m) t e

    pub down_school : owns s k ≡ true → StandsFor a s m (go_down a (laid s m) (level (from t K) root)) (pair (go_down a s (stands_at s t)) (stands_at m t))
    down_school o =
        let c = at_level s t k (on_school t k e o) in
        subst (λ (p : State). StandsFor a s m (go_down a (laid s m) (level (from t K) root)) (pair p (stands_at m t)))
        (sym (ap (go_down a s) c ∙ (down_level a s k (from t Ks) (on_school t k e o) ∙ ap (λ (x : State). pick (ltb 1 a) (level (keys_under (k ∷ []) s) x) x) (sym c))))
        (subst (λ (u : State). StandsFor a s m u (pair (pick (ltb 1 a) (level (keys_under (k ∷ []) s) (stands_at s t)) (stands_at s t)) (stands_at m t)))
        (sym (down_level a (laid s m) k (from t K) on_laid))
        (go (ltb 1 a) refl))
      where
        go : (b : Bool) → ltb 1 a ≡ b → StandsFor a s m (pick b (level (keys_under (k ∷ []) (laid s m)) (level (from t K) root)) (level (from t K) root)) (pair (pick b (level (keys_under (k ∷ []) s) (stands_at s t)) (stands_at s t)) (stands_at m t))
        go true q = rw (laid_school v w k [] (ltb-true 1 a q) o) (in_school t k e o one)
        go false q = at_first t laid_nonempty

    pub down_maker : owns s k ≡ false → StandsFor a s m (go_down a (laid s m) (level (from t K) root)) (pair (stands_at s t) (go_down a m (stands_at m t)))
    down_maker o =
        let c = at_level m t k (on_maker t k e o) in
        subst (λ (p : State). StandsFor a s m (go_down a (laid s m) (level (from t K) root)) (pair (stands_at s t) p))
        (sym (ap (go_down a m) c ∙ (down_level a m k (from t Km) (on_maker t k e o) ∙ ap (λ (x : State). pick (ltb 1 a) (level (keys_under (k ∷ []) m) x) x) (sym c))))
        (subst (λ (u : State). StandsFor a s m u (pair (stands_at s t) (pick (ltb 1 a) (level (keys_under (k ∷ []) m) (stands_at m t)) (stands_at m t))))
        (sym (down_level a (laid s m) k (from t K) on_laid))
        (go (ltb 1 a) refl))
      where
        go : (b : Bool) → ltb 1 a ≡ b → StandsFor a s m (pick b (level (keys_under (k ∷ []) (laid s m)) (level (from t K) root)) (level (from t K) root)) (pair (stands_at s t) (pick b (level (keys_under (k ∷ []) m) (stands_at m t)) (stands_at m t)))
        go true q = rw (laid_maker v w k [] (ltb-true 1 a q) o) (in_maker t k e o one)
        go false q = at_first t laid_nonempty

  open_first : (t : ℕ) → nonempty (laid s m) ≡ true → StandsFor a s m (go_down a (laid s m) (level (from t K) root)) (pair_open a s m (pair (stands_at s t) (stands_at m t)))
  open_first t e = rw (walks_first s m t e) (rw (lefts_at t) (go (from t K) refl))
    where
      go : (zs : List ℕ) → from t K ≡ zs → StandsFor a s m (go_down a (laid s m) (level (from t K) root)) (open_by a s m (owner_of zs (pair (stands_at s t) (stands_at m t))) (pair (stands_at s t) (stands_at m t)))
      go [] q =
          subst (λ (u : State). StandsFor a s m u (pair (stands_at s t) (stands_at m t)))
          (sym (ap (λ (zs : List ℕ). pick (ltb 1 a && nonempty zs) (level (keys_under (onto [] zs) (laid s m)) (level (from t K) root)) (level (from t K) root)) q ∙ ap (λ (b : Bool). pick b (level (keys_under [] (laid s m)) (level (from t K) root)) (level (from t K) root)) (and_false_right (ltb 1 a) false refl)))
          (at_first t e)
      go (k ∷ ks) q = rw (on_owns t k q) (by (owns s k) refl)
        where
          by : (b : Bool) → owns s k ≡ b → StandsFor a s m (go_down a (laid s m) (level (from t K) root)) (open_by a s m (pick b schools makers) (pair (stands_at s t) (stands_at m t)))
          by true o = down_school t k q o
          by false o = down_maker t k q o

  opens_first : (t : ℕ) → nonempty (laid s m) ≡ true → pair_opens a s m (pair (stands_at s t) (stands_at m t)) ≡ opens a (laid s m) (level (from t K) root)
  opens_first t e = rw (walks_first s m t e) (rw (lefts_at t) (go (from t K) refl))
    where
      go : (zs : List ℕ) → from t K ≡ zs → opens_by a s m (owner_of zs (pair (stands_at s t) (stands_at m t))) (pair (stands_at s t) (stands_at m t)) ≡ opens a (laid s m) (level zs root)
      go [] q = sym (and_false_right (ltb 1 a) false refl)
      go (k ∷ ks) q = rw (on_owns t k q) (by (owns s k) refl ∙ sym (and_nonempty (ltb 1 a) true refl))
        where
          by : (b : Bool) → owns s k ≡ b → opens_by a s m (pick b schools makers) (pair (stands_at s t) (stands_at m t)) ≡ ltb 1 a
          by true o = ap (opens a s) (at_level s t k (on_school t k q o)) ∙ opens_level a s k (from t Ks) (on_school t k q o)
          by false o = ap (opens a m) (at_level m t k (on_maker t k q o)) ∙ opens_level a m k (from t Km) (on_maker t k q o)

  -- ---- below a key: the owner walks

  module _ (t k : ℕ) {ks : List ℕ} (e : from t K ≡ k ∷ ks) where
    path_laid : path (level (from t K) root) ≡ k ∷ []
    path_laid = path_level k (from t K) (on_laid t k e)

    module _ (o : owns s k ≡ true) {u p : State} (r : Above (level (from t K) root) (stands_at s t) u p) where
      pub c_school : stands_at s t ≡ level (from t Ks) root
      c_school = at_level s t k (on_school t k e o)

      pub walks_school : walks (pair p (stands_at m t)) ≡ schools
      walks_school = ap (λ (x : Kind). walker x (kind (stands_at m t))) (above_deep (subst (λ (c : State). Above (level (from t K) root) c u p) c_school r))

      levels_school : levels u ≡ levels p
      levels_school = above_levels (sym (ap levels c_school)) r

      paths_school : (q : Row) × (path u ≡ k ∷ q) × (path p ≡ k ∷ q)
      paths_school = above_path path_laid (ap path c_school ∙ path_level k (from t Ks) (on_school t k e o)) r

      pub opens_school : opens a s p ≡ opens a (laid s m) u
      opens_school = ap₂ {C = Bool} (λ (n : ℕ) (b : Bool). ltb n a && b) (sym levels_school) (sym (above_level r (laid s m) s))

      open_school : StandsFor a s m (go_down a (laid s m) u) (pair (go_down a s p) (stands_at m t))
      open_school =
          subst (λ (b : Bool). StandsFor a s m (go_down a (laid s m) u) (pair (pick b (level (keys_under (path p) s) p) p) (stands_at m t))) (sym opens_school) (go (opens a (laid s m) u) refl)
        where
          go : (b : Bool) → opens a (laid s m) u ≡ b → StandsFor a s m (pick b (level (keys_under (path u) (laid s m)) u) u) (pair (pick b (level (keys_under (path p) s) p) p) (stands_at m t))
          go true b =
              let w' = paths_school in
              let l : suc (length w'.0) < a = omega (arith, ltb-true (levels u) a (and_left (ltb (levels u) a) (stands (laid s m) u) b), path_short u, ap length w'.1) in
              let f : keys_under (path u) (laid s m) ≡ keys_under (path p) s = ap (λ (z : Row). keys_under z (laid s m)) w'.1 ∙ (laid_school v w k w'.0 l o ∙ ap (λ (z : Row). keys_under z s) (sym w'.2)) in
              subst (λ (zs : List ℕ). StandsFor a s m (level zs u) (pair (level (keys_under (path p) s) p) (stands_at m t))) (sym f) (in_school t k e o (more r))
          go false b = in_school t k e o r

    module _ (o : owns s k ≡ false) {u p : State} (r : Above (level (from t K) root) (stands_at m t) u p) where
      pub c_maker : stands_at m t ≡ level (from t Km) root
      c_maker = at_level m t k (on_maker t k e o)

      pub walks_maker : walks (pair (stands_at s t) p) ≡ makers
      walks_maker = ap (walker (kind (stands_at s t))) (above_deep (subst (λ (c : State). Above (level (from t K) root) c u p) c_maker r)) ∙ shallow s t

      levels_maker : levels u ≡ levels p
      levels_maker = above_levels (sym (ap levels c_maker)) r

      paths_maker : (q : Row) × (path u ≡ k ∷ q) × (path p ≡ k ∷ q)
      paths_maker = above_path path_laid (ap path c_maker ∙ path_level k (from t Km) (on_maker t k e o)) r

      pub opens_maker : opens a m p ≡ opens a (laid s m) u
      opens_maker = ap₂ {C = Bool} (λ (n : ℕ) (b : Bool). ltb n a && b) (sym levels_maker) (sym (above_level r (laid s m) m))

      open_maker : StandsFor a s m (go_down a (laid s m) u) (pair (stands_at s t) (go_down a m p))
      open_maker =
          subst (λ (b : Bool). StandsFor a s m (go_down a (laid s m) u) (pair (stands_at s t) (pick b (level (keys_under (path p) m) p) p))) (sym opens_maker) (go (opens a (laid s m) u) refl)
        where
          go : (b : Bool) → opens a (laid s m) u ≡ b → StandsFor a s m (pick b (level (keys_under (path u) (laid s m)) u) u) (pair (stands_at s t) (pick b (level (keys_under (path p) m) p) p))
          go true b =
              let w' = paths_maker in
              let l : suc (length w'.0) < a = omega (arith, ltb-true (levels u) a (and_left (ltb (levels u) a) (stands (laid s m) u) b), path_short u, ap length w'.1) in
              let f : keys_under (path u) (laid s m) ≡ keys_under (path p) m = ap (λ (z : Row). keys_under z (laid s m)) w'.1 ∙ (laid_maker v w k w'.0 l o ∙ ap (λ (z : Row). keys_under z m) (sym w'.2)) in
              subst (λ (zs : List ℕ). StandsFor a s m (level zs u) (pair (stands_at s t) (level (keys_under (path p) m) p))) (sym f) (in_maker t k e o (more r))
          go false b = in_maker t k e o r

  -- next and seek change the last level alone
  pub above_next : {b c u p : State} → Above b c u p → Above b c (go_next u) (go_next p)
  above_next one = one
  above_next (more r) = more r

  pub above_seek : {b c u p : State} (x : ℕ) → Above b c u p → Above b c (go_seek x u) (go_seek x p)
  above_seek x one = one
  above_seek x (more r) = more r

  pub above_rises : {b c u p : State} → Above b c u p → rises u ≡ true
  above_rises one = refl
  above_rises (more r) = refl

  -- up from below the key: to the first level, or to one above
  up_school : (t k : ℕ) {ks : List ℕ} (e : from t (keys_under [] (laid s m)) ≡ k ∷ ks) → owns s k ≡ true → {u p : State} → Above (level (from t (keys_under [] (laid s m))) root) (stands_at s t) u p → StandsFor a s m (go_up u) (pair (go_up p) (stands_at m t))
  up_school t k e o one = at_first t (laid_nonempty t k e)
  up_school t k e o (more r) = in_school t k e o r

  up_maker : (t k : ℕ) {ks : List ℕ} (e : from t (keys_under [] (laid s m)) ≡ k ∷ ks) → owns s k ≡ false → {u p : State} → Above (level (from t (keys_under [] (laid s m))) root) (stands_at m t) u p → StandsFor a s m (go_up u) (pair (stands_at s t) (go_up p))
  up_maker t k e o one = at_first t (laid_nonempty t k e)
  up_maker t k e o (more r) = in_maker t k e o r

  -- ---- any call

  pub same_left : {u : State} {p : Pair} → StandsFor a s m u p → left_in p ≡ left u
  same_left at_top = refl
  same_left (at_first t e) = rw (walks_first s m t e) (lefts_at t)
  same_left (in_school t k e o r) = rw (walks_school t k e o r) (sym (above_left r))
  same_left (in_maker t k e o r) = rw (walks_maker t k e o r) (sym (above_left r))

  pub same_place : {u : State} {p : Pair} → StandsFor a s m u p → (c : Call) → StandsFor a s m (after a (laid s m) u c) (pair_after a s m p c)
  same_place d Key = d
  same_place d AtEnd = d
  same_place at_top Next = at_top
  same_place (at_first t e) Next = next_first t e
  same_place (in_school t k e o r) Next = rw (walks_school t k e o r) (in_school t k e o (above_next r))
  same_place (in_maker t k e o r) Next = rw (walks_maker t k e o r) (in_maker t k e o (above_next r))
  same_place at_top Open = open_top
  same_place (at_first t e) Open = open_first t e
  same_place (in_school t k e o r) Open = rw (walks_school t k e o r) (open_school t k e o r)
  same_place (in_maker t k e o r) Open = rw (walks_maker t k e o r) (open_maker t k e o r)
  same_place at_top Up = at_top
  same_place (at_first t e) Up = up_first t e
  same_place (in_school t k e o r) Up = rw (walks_school t k e o r) (up_school t k e o r)
  same_place (in_maker t k e o r) Up = rw (walks_maker t k e o r) (up_maker t k e o r)
  same_place at_top (Seek x n) = at_top
  same_place (at_first t e) (Seek x n) = seek_first n t e
  same_place (in_school t k e o r) (Seek x n) = rw (walks_school t k e o r) (in_school t k e o (above_seek n r))
  same_place (in_maker t k e o r) (Seek x n) = rw (walks_maker t k e o r) (in_maker t k e o (above_seek n r))

  same_opens : {u : State} {p : Pair} → StandsFor a s m u p → pair_opens a s m p ≡ opens a (laid s m) u
  same_opens at_top = sym opens_top
  same_opens (at_first t e) = opens_first t e
  same_opens (in_school t k e o r) = rw (walks_school t k e o r) (opens_school t k e o r)
  same_opens (in_maker t k e o r) = rw (walks_maker t k e o r) (opens_maker t k e o r)

  same_rises : {u : State} {p : Pair} → StandsFor a s m u p → rises_by (walks p) ≡ rises u
  same_rises at_top = refl
  same_rises (at_first t e) = ap rises_by (walks_first s m t e)
  same_rises (in_school t k e o r) = ap rises_by (walks_school t k e o r) ∙ sym (above_rises r)
  same_rises (in_maker t k e o r) = ap rises_by (walks_maker t k e o r) ∙ sym (above_rises r)

  pub same_answer : {u : State} {p : Pair} → StandsFor a s m u p → (c : Call) → pair_answer a s m p c ≡ answer a (laid s m) u c
  same_answer d Key = ap shown (same_left d)
  same_answer d Next = ap shown (same_left (same_place d Next))
  same_answer d AtEnd = ap (λ (zs : List ℕ). says (not (nonempty zs))) (same_left d)
  same_answer d Open = ap says (same_opens d)
  same_answer d Up = ap says (same_rises d)
  same_answer d (Seek x n) = ap (λ (zs : List ℕ). says (nonempty zs)) (same_left (same_place d (Seek x n)))

  -- ---- any sequence of calls, from any state

  pub the_pair_walks_as_the_trie_iterator_over_the_rows_that_count : {u : State} {p : Pair} → StandsFor a s m u p → (cs : List Call) → pair_answers a s m p cs ≡ answers a (laid s m) u cs
  unfolding pair_answers answers
  the_pair_walks_as_the_trie_iterator_over_the_rows_that_count d [] = refl
  the_pair_walks_as_the_trie_iterator_over_the_rows_that_count {u = u} d (c ∷ cs) = ap₂ {C = List Answer} (λ x xs. x ∷ xs) (same_answer d c) (the_pair_walks_as_the_trie_iterator_over_the_rows_that_count {u = after a (laid s m) u c} (same_place d c) cs)
