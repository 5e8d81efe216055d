-- The descent with a bound finds the rows after the given one, and nothing else.
-- Idea: the rows of a key have that key as the variable's word. So where it is below the given row's word none of them comes after, where it is above all do, and where
-- it is that word the variables left decide; and from the given row's word on, the common keys are those that are not below it.
use Prim.Native.Nat.{ℕ, ◌≤◌, ◌<◌}
use native.Mathlib.Omega.{arith}
use mathlib.Core.Path.{◌≡◌, refl, sym, ap, ap₂, ◌∙◌}
use mathlib.Core.Logic.{⊎_elim}
use mathlib.Core.Bool.{Bool, true, false, false≢true}
use mathlib.Core.List.Memᴰ
use mathlib.Core.List.{List, [], ◌∷◌, ◌++◌, map, flat_map}
use lib.ListN.{length, get_or, set, length-set}
use lib.Seq.{get_or-set_same, get_or-set_other, get_or-take}
use lib.Dec.{eqb, ltb}
use borrow.Author.Tests.{eqb-true, eqb-false, ltb-true}
use Rattle.relation.specs.Order.{Row, pick, before, ◌≺◌, word≺, rest≺}
use Rattle.relation.specs.Lists.{◌∈◌, hd, tl, not_in_nil, in_cons, Ascends}
use Rattle.relation.specs.Layers.{keys_under}
use Rattle.relation.specs.Runs.{from}
use Rattle.relation.proofs.Tests.{true_T}
use Rattle.relation.proofs.Order.{before→≺}
use Rattle.relation.proofs.Lists.{ascends_head}
use Rattle.relation.proofs.Runs.{in_from, from_least}
use Rattle.query.specs.Meaning.{Atom, part, Passes}
use Rattle.query.specs.Meet.{meet}
use Rattle.query.specs.Solve.{headed, bind, runs, extend, listing}
use Rattle.query.specs.Descend.{Joinable}
use Rattle.query.proofs.Meet.{meet_ascends}
use Rattle.query.proofs.Beyond.{keys_ascend, in_flat_map}
use Rattle.query.proofs.Solved.{joinable_bind}
use Rattle.query.proofs.Listed.{joinable, extend_root}
use Rattle.rows_after.specs.After.{after_row}
use Rattle.rows_after.specs.Bounded.{extend_after}
use Rattle.rows_after.proofs.After.{before_true, before_false, after_all, after_none, after_flat_map}

-- ---- lists made key by key

module _ {A : Type 0} where
  flat_map_same : (f g : ℕ → List A) (ks : List ℕ) → ((k : ℕ) → k ∈ ks → f k ≡ g k) → flat_map f ks ≡ flat_map g ks
  unfolding flat_map
  flat_map_same f g [] h = refl
  flat_map_same f g (k ∷ ks) h = ap₂ (λ (a b : List A). a ++ b) (h k (hd refl)) (flat_map_same f g ks (λ j m. h j (tl m)))

  -- keys without rows may be passed over
  flat_map_from : (f : ℕ → List A) (x : ℕ) (ks : List ℕ) → ((k : ℕ) → k < x → f k ≡ []) → flat_map f ks ≡ flat_map f (from x ks)
  unfolding flat_map from
  flat_map_from f x [] h = refl
  flat_map_from f x (k ∷ ks) h = go (flat_map_from f x ks h) (ltb k x) refl
    where
      go : flat_map f ks ≡ flat_map f (from x ks) → (b : Bool) → ltb k x ≡ b → f k ++ flat_map f ks ≡ flat_map f (pick b (from x ks) (k ∷ ks))
      go ih true q = ap (λ (l : List A). l ++ flat_map f ks) (h k (ltb-true k x q)) ∙ ih
      go ih false q = refl

-- ---- the common keys ascend

runs_ascend : (v : ℕ) (l : List Atom) → ((a : Atom) → a ∈ l → headed v a.vars ≡ true → Ascends ◌<◌ (keys_under [] a.rows)) → (r : List ℕ) → r ∈ runs v l → Ascends ◌<◌ r
unfolding runs
runs_ascend v [] f r m = absurd (not_in_nil m)
runs_ascend v (a ∷ l) f r m = go (runs_ascend v l (λ b i. f b (tl i)) r) (headed v a.vars) refl m
  where
    go : (r ∈ runs v l → Ascends ◌<◌ r) → (b : Bool) → headed v a.vars ≡ b → r ∈ pick b (keys_under [] a.rows ∷ runs v l) (runs v l) → Ascends ◌<◌ r
    go ih true e m = ⊎_elim (λ (d : r ≡ keys_under [] a.rows). rw d (f a (hd refl) e)) ih (in_cons m)
    go ih false e m = ih m

headed_some : (v : ℕ) (xs : List ℕ) → headed v xs ≡ true → 0 < length xs
unfolding headed
headed_some v [] e = absurd (false≢true e)
headed_some v (x ∷ xs) e = omega arith

pub common_ascend : (v : ℕ) (vs : List ℕ) (atoms : List Atom) → Joinable (v ∷ vs) atoms → Ascends ◌<◌ (meet (runs v atoms))
common_ascend v vs atoms c = meet_ascends (runs v atoms) (runs_ascend v atoms (λ a i h. keys_ascend [] (c.partway a i).wide (headed_some v a.vars h)))

-- ---- a word once given stays

pub extend_keeps : (n : ℕ) (vs : List ℕ) (atoms : List Atom) (row : Row) (x : ℕ) → x < n → (x ∈ vs → ⊥) → (r : Row) → r ∈ extend n vs atoms row → get_or r x 0 ≡ get_or row x 0
unfolding extend
extend_keeps n [] atoms row x h f r m = ap (λ (s : Row). get_or s x 0) (Memᴰ.eq_of_singleton m) ∙ get_or-take n row x 0 h
extend_keeps n (v ∷ vs) atoms row x h f r m =
    let t = in_flat_map (λ (k : ℕ). extend n vs (map (bind v k) atoms) (set row v k)) (meet (runs v atoms)) m in
    extend_keeps n vs (map (bind v t.0) atoms) (set row v t.0) x h (λ i. f (tl i)) r t.2 ∙ get_or-set_other row v x t.0 0 (λ e. f (hd e))

-- ---- the rows of one key, all with k as v's word, beside the given row's word x

module _ (v : ℕ) (vs : List ℕ) (given : Row) (k : ℕ) (rows : List Row) (w : (r : Row) → r ∈ rows → get_or r v 0 ≡ k) where
  -- no row whose word is below the given one's comes after it
  less : {p q : Row} {x y : ℕ} → y < x → (x ∷ p) ≺ (y ∷ q) → ⊥
  less h (word≺ g) = omega arith
  less h (rest≺ e g) = omega arith

  key_below : k < get_or given v 0 → after_row (v ∷ vs) given rows ≡ []
  key_below h = after_none (v ∷ vs) given rows (λ r m. less (omega (arith, w r m)))

  key_above : get_or given v 0 < k → after_row (v ∷ vs) given rows ≡ rows
  key_above h = after_all (v ∷ vs) given rows (λ r m. word≺ (omega (arith, w r m)))

tail≺ : {x y : ℕ} {p q : Row} → x ≡ y → (x ∷ p) ≺ (y ∷ q) → p ≺ q
tail≺ e (word≺ g) = absurd (omega arith)
tail≺ e (rest≺ d g) = g

before_same : {x y : ℕ} (p q : Row) → x ≡ y → before (x ∷ p) (y ∷ q) ≡ before p q
before_same {x} {y} p q e = go (before p q) refl
  where
    go : (b : Bool) → before p q ≡ b → before (x ∷ p) (y ∷ q) ≡ b
    go true t = before_true (rest≺ e (before→≺ p q (true_T (before p q) t)))
    go false t = before_false (λ h. false≢true (sym t ∙ before_true (tail≺ e h)))

key_same : (v : ℕ) (vs : List ℕ) (given : Row) (k : ℕ) (rows : List Row) → ((r : Row) → r ∈ rows → get_or r v 0 ≡ k) → k ≡ get_or given v 0 → after_row (v ∷ vs) given rows ≡ after_row vs given rows
unfolding after_row
key_same v vs given k [] w e = refl
key_same v vs given k (r ∷ rows) w e =
    ap₂ (λ (b : Bool) (l : List Row). pick b (r ∷ l) l)
    (before_same (part vs given) (part vs r) (sym e ∙ sym (w r (hd refl))))
    (key_same v vs given k rows (λ q m. w q (tl m)) e)

-- ---- the theorem, at any depth: the rows after the given one, as read in the variables that are left

pub bounded : (n : ℕ) (vs : List ℕ) (atoms : List Atom) (row given : Row) → Joinable vs atoms → ((x : ℕ) → x ∈ vs → x < n) → n ≤ length row → extend_after n vs atoms row given ≡ after_row vs given (extend n vs atoms row)
unfolding extend_after extend after_row before
bounded n [] atoms row given c b h = refl
bounded n (v ∷ vs) atoms row given c b h =
    sym (after_flat_map (v ∷ vs) given rest keys
    ∙ flat_map_from (λ (k : ℕ). after_row (v ∷ vs) given (rest k)) x keys (λ k l. key_below v vs given k (rest k) (word k) l)
    ∙ flat_map_same (λ (k : ℕ). after_row (v ∷ vs) given (rest k)) (λ (k : ℕ). pick (eqb k x) (on k) (rest k)) (from x keys)
    (λ k m.
    go k (from_least x (common_ascend v vs atoms c) m)
    (bounded n vs (map (bind v k) atoms) (set row v k) given (joinable_bind v vs atoms c (in_from x keys m)) (λ y i. b y (tl i)) (rw (length-set row v k) h)) (eqb k x) refl))
  where
    x : ℕ
    x = get_or given v 0

    keys : List ℕ
    keys = meet (runs v atoms)

    rest : ℕ → List Row
    rest k = extend n vs (map (bind v k) atoms) (set row v k)

    on : ℕ → List Row
    on k = extend_after n vs (map (bind v k) atoms) (set row v k) given

    word : (k : ℕ) (r : Row) → r ∈ rest k → get_or r v 0 ≡ k
    word k r m =
        extend_keeps n vs (map (bind v k) atoms) (set row v k) v (b v (hd refl)) (λ i. ascends_head c.single v i refl) r m
        ∙ get_or-set_same row v k 0 (omega (arith, b v (hd refl)))

    go : (k : ℕ) → x ≤ k → on k ≡ after_row vs given (rest k) → (t : Bool) → eqb k x ≡ t → after_row (v ∷ vs) given (rest k) ≡ pick t (on k) (rest k)
    go k l ih true e = key_same v vs given k (rest k) (word k) (eqb-true k x e) ∙ sym ih
    go k l ih false e = let n : k ≡ x → ⊥ = eqb-false k x e in key_above v vs given k (rest k) (word k) (omega (arith, n))

-- of a whole query, from any row of n words or more: the rows of the listing that come after the given one
pub bounded_listing : {n : ℕ} {order : List ℕ} {atoms : List Atom} → Passes n order atoms → (row given : Row) → n ≤ length row → extend_after n order atoms row given ≡ after_row order given (listing n order atoms)
bounded_listing {n} {order} {atoms} q row given h =
    bounded n order atoms row given (joinable q) q.permutation.below h ∙ ap (after_row order given) (extend_root q row h)
