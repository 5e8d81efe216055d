-- The recursive descent with a bound: its end, its root, and the loop over the keys of one variable, also by the words given to each atom, as an engine's cursors have
-- them. crates/query has the same of the descent without one (proofs/Descend.antt, proofs/Engine.antt).
-- Idea: as there the loop's invariant says that to emit the rows of the keys left, from where the window stands, ends where the whole depth ends.
use Prim.Native.Nat.{ℕ, ◌*◌, ◌≤◌, ◌<◌}
use mathlib.Core.Path.{◌≡◌, refl, sym, subst, ap, ◌∙◌}
use mathlib.Core.Bool.{Bool, true, false}
use mathlib.Core.List.{List, [], ◌∷◌, map, flat_map}
use lib.ListN.{length, get_or, set, length-set}
use lib.Dec.{eqb}
use borrow.Author.Tests.{eq-eqb, ne_eqb}
use Rattle.relation.specs.Order.{Row, pick}
use Rattle.relation.specs.Lists.{◌∈◌, hd, tl, not_in_nil}
use Rattle.relation.specs.Rows.{Width}
use Rattle.relation.specs.Layers.{keys_under}
use Rattle.relation.specs.Runs.{from}
use Rattle.relation.proofs.Runs.{in_from}
use Rattle.query.specs.Meaning.{Atom, Table, Passes}
use Rattle.query.specs.Meet.{meet}
use Rattle.query.specs.Solve.{bind, runs, extend, listing}
use Rattle.query.specs.Window.{Progress, begin, emits, windowed}
use Rattle.query.specs.Descend.{standings, nobody, holders, Joinable, Descends}
use Rattle.query.proofs.Solved.{joinable_bind}
use Rattle.query.proofs.Beyond.{in_flat_map}
use Rattle.query.proofs.Listed.{listing_listing, extend_wide}
use Rattle.query.proofs.Window.{emits_append, emits_full, emits_length, emits_fits, emits_windowed}
use Rattle.query.proofs.Under.{Gains, standings_none, standings_bind, standings_runs}
use Rattle.rows_after.specs.After.{after_row}
use Rattle.rows_after.specs.Bounded.{extend_after, DescendsAfter}
use Rattle.rows_after.proofs.After.{in_after}
use Rattle.rows_after.proofs.Bounded.{bounded_listing}

-- no variable left: the given row itself, and nothing is written
pub leaf_after : (n : ℕ) (atoms : List Atom) (row given : Row) (s : Progress) → DescendsAfter n [] atoms row given s s
unfolding extend_after emits
leaf_after n atoms row given s = record { exit = refl }

-- at the root: the window of the rows after the given one
pub root_after : {n : ℕ} {order : List ℕ} {atoms : List Atom} → Passes n order atoms → (row given : Row) (w : List ℕ) → n ≤ length row → {t : Progress} → DescendsAfter n order atoms row given (begin w) t → t ≡ windowed w n (after_row order given (listing n order atoms))
root_after {n} {order} {atoms} q row given w h d =
    let rows = listing n order atoms in
    d.exit ∙ ap (emits n (begin w)) (bounded_listing q row given h) ∙ emits_windowed w n (after_row order given rows) (λ r m. (listing_listing q).wide r (in_after order given rows m).0)

-- every row is n words
pub after_wide : (n : ℕ) (vs : List ℕ) (atoms : List Atom) (row given : Row) → n ≤ length row → Width n (extend_after n vs atoms row given)
unfolding extend_after
after_wide n [] atoms row given h r m = absurd (not_in_nil m)
after_wide n (v ∷ vs) atoms row given h r m =
    let f : ℕ → List Row = λ k. pick (eqb k (get_or given v 0)) (extend_after n vs (map (bind v k) atoms) (set row v k) given) (extend n vs (map (bind v k) atoms) (set row v k)) in
    let t = in_flat_map f (from (get_or given v 0) (meet (runs v atoms))) m in
    let l : n ≤ length (set row v t.0) = rw (length-set row v t.0) h in
    go t.0 (after_wide n vs (map (bind v t.0) atoms) (set row v t.0) given l r) (extend_wide n vs (map (bind v t.0) atoms) (set row v t.0) l r) (eqb t.0 (get_or given v 0)) t.2
  where
    go : (k : ℕ) → (r ∈ extend_after n vs (map (bind v k) atoms) (set row v k) given → length r ≡ n) → (r ∈ extend n vs (map (bind v k) atoms) (set row v k) → length r ≡ n) → (b : Bool) → r ∈ pick b (extend_after n vs (map (bind v k) atoms) (set row v k) given) (extend n vs (map (bind v k) atoms) (set row v k)) → length r ≡ n
    go k f g true m = f m
    go k f g false m = g m

-- the window keeps its length, and the rows written lie in it
pub after_fits : {n : ℕ} {vs : List ℕ} {atoms : List Atom} {row given : Row} {s t : Progress} → DescendsAfter n vs atoms row given s t → n ≤ length row → s.count * n ≤ length s.words → (length t.words ≡ length s.words) × (t.count * n ≤ length s.words)
after_fits {n} {vs} {atoms} {row} {given} {s} d h f =
    let w = after_wide n vs atoms row given h in (
      ap (λ (p : Progress). length p.words) d.exit ∙ emits_length n (extend_after n vs atoms row given) s w,
      subst (λ (p : Progress). p.count * n ≤ length s.words) (sym d.exit) (emits_fits n (extend_after n vs atoms row given) s w f),
    )

module _ (n v : ℕ) (vs : List ℕ) (atoms : List Atom) (row given : Row) (s₀ : Progress) where
  -- the rows of the key k: after the given row's words where it is the given row's word, else all
  abbrev rows_of : ℕ → List Row
  rows_of k = pick (eqb k (get_or given v 0)) (extend_after n vs (map (bind v k) atoms) (set row v k) given) (extend n vs (map (bind v k) atoms) (set row v k))

  -- the loop's invariant: the keys `left` are not yet passed, and the window stands at s
  pub record ToGoAfter (left : List ℕ) (s : Progress) : Type 0 where
    pub ends : emits n s (flat_map rows_of left) ≡ emits n s₀ (extend_after n (v ∷ vs) atoms row given)
    pub among : (k : ℕ) → k ∈ left → k ∈ meet (runs v atoms)

  -- the given row's word is sought
  pub after_start : ToGoAfter (from (get_or given v 0) (meet (runs v atoms))) s₀
  unfolding extend_after
  after_start = record { ends = refl; among = λ k m. in_from (get_or given v 0) (meet (runs v atoms)) m }

  -- a search keeps the keys left
  pub after_still : {left now : List ℕ} {s : Progress} → left ≡ now → ToGoAfter left s → ToGoAfter now s
  after_still {s = s} e i = subst (λ (l : List ℕ). ToGoAfter l s) e i

  -- the first of them is done
  key_done : {k : ℕ} {left : List ℕ} {s t : Progress} → ToGoAfter (k ∷ left) s → t ≡ emits n s (rows_of k) → ToGoAfter left t
  unfolding flat_map
  key_done {k} {left} {s} i e = record {
    ends = ap (λ (x : Progress). emits n x (flat_map rows_of left)) e ∙ sym (emits_append n s (rows_of k) (flat_map rows_of left)) ∙ i.ends;
    among = λ j m. i.among j (tl m);
  }

  -- it is the given row's word: the call with the bound is made
  pub after_on : {k : ℕ} {left : List ℕ} {s t : Progress} → ToGoAfter (k ∷ left) s → k ≡ get_or given v 0 → DescendsAfter n vs (map (bind v k) atoms) (set row v k) given s t → ToGoAfter left t
  after_on {k} {left} {s} i e d =
      key_done i
      (d.exit
      ∙ ap (λ (b : Bool). emits n s (pick b (extend_after n vs (map (bind v k) atoms) (set row v k) given) (extend n vs (map (bind v k) atoms) (set row v k)))) (sym (eq-eqb k (get_or given v 0) e)))

  -- it is another: the call without
  pub after_past : {k : ℕ} {left : List ℕ} {s t : Progress} → ToGoAfter (k ∷ left) s → (k ≡ get_or given v 0 → ⊥) → Descends n vs (map (bind v k) atoms) (set row v k) s t → ToGoAfter left t
  after_past {k} {left} {s} i f d =
      key_done i
      (d.exit
      ∙ ap (λ (b : Bool). emits n s (pick b (extend_after n vs (map (bind v k) atoms) (set row v k) given) (extend n vs (map (bind v k) atoms) (set row v k)))) (sym (ne_eqb k (get_or given v 0) f)))

  -- none is left: so ends the depth
  pub after_end : {s : Progress} → ToGoAfter [] s → DescendsAfter n (v ∷ vs) atoms row given s₀ s
  unfolding flat_map emits
  after_end i = record { exit = i.ends }

  -- and where the window is full
  pub after_full : {left : List ℕ} {s : Progress} → ToGoAfter left s → s.full ≡ true → DescendsAfter n (v ∷ vs) atoms row given s₀ s
  after_full {left} {s} i e = record { exit = sym (emits_full n s (flat_map rows_of left) e) ∙ i.ends }

  -- the first key left is common, so for its call the atoms are joinable
  pub after_joinable : {k : ℕ} {left : List ℕ} {s : Progress} → Joinable (v ∷ vs) atoms → ToGoAfter (k ∷ left) s → Joinable vs (map (bind v k) atoms)
  after_joinable {k} c i = joinable_bind v vs atoms c (i.among k (hd refl))

-- ---- by the words given to each atom: f i are those of atom i's first variables

module _ (n v : ℕ) (vs : List ℕ) (f : ℕ → Row) (atoms : List Atom) (t : (a : Atom) → a ∈ atoms → Table a) (row given : Row) (s₀ : Progress) where
  pub engine_after_start : ToGoAfter n v vs (standings f atoms) row given s₀ (from (get_or given v 0) (meet (map (λ (i : ℕ). keys_under (f i) (get_or atoms i nobody).rows) (holders v (standings f atoms))))) s₀
  engine_after_start =
      after_still n v vs (standings f atoms) row given s₀
      (ap (λ (rs : List (List ℕ)). from (get_or given v 0) (meet rs)) (standings_runs v f atoms t))
      (after_start n v vs (standings f atoms) row given s₀)

  -- the key k is next, and g i are the words of atom i with it
  module _ {k : ℕ} {left : List ℕ} {s : Progress} (i : ToGoAfter n v vs (standings f atoms) row given s₀ (k ∷ left) s) (g : ℕ → Row) (h : (i : ℕ) → i < length atoms → Gains v k (f i) (get_or atoms i nobody) (g i)) where
    bound : standings g atoms ≡ map (bind v k) (standings f atoms)
    bound = sym (standings_bind v k f g atoms (λ a m. (t a m).ascending) h)

    pub engine_after_joinable : Joinable (v ∷ vs) (standings f atoms) → Joinable vs (standings g atoms)
    engine_after_joinable c = subst (Joinable vs) (sym bound) (after_joinable n v vs (standings f atoms) row given s₀ c i)

    pub engine_on : k ≡ get_or given v 0 → {u : Progress} → DescendsAfter n vs (standings g atoms) (set row v k) given s u → ToGoAfter n v vs (standings f atoms) row given s₀ left u
    engine_on e {u} d = after_on n v vs (standings f atoms) row given s₀ i e (subst (λ (l : List Atom). DescendsAfter n vs l (set row v k) given s u) bound d)

    pub engine_past : (k ≡ get_or given v 0 → ⊥) → {u : Progress} → Descends n vs (standings g atoms) (set row v k) s u → ToGoAfter n v vs (standings f atoms) row given s₀ left u
    engine_past e {u} d = after_past n v vs (standings f atoms) row given s₀ i e (subst (λ (l : List Atom). Descends n vs l (set row v k) s u) bound d)

-- the root: no words are given
pub engine_after_root : {n : ℕ} {order : List ℕ} {atoms : List Atom} (q : Passes n order atoms) (f : ℕ → Row) → ((i : ℕ) → i < length atoms → f i ≡ []) → (row given : Row) (w : List ℕ) → n ≤ length row → {t : Progress} → DescendsAfter n order (standings f atoms) row given (begin w) t → t ≡ windowed w n (after_row order given (listing n order atoms))
engine_after_root {n} {order} {atoms} q f h row given w l {t} d =
    root_after q row given w l (subst (λ (m : List Atom). DescendsAfter n order m row given (begin w) t) (standings_none f atoms (λ a m. (q.tables a m).ascending) h) d)
