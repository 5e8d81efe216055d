-- The recursive descent: its end, its root, and the loop over the keys of one variable.
-- Idea: the loop's invariant says that to emit the rows of the keys left, from where the window stands, ends where the whole depth ends; a key's call
-- takes the first of them away.
use Prim.Native.Nat.{ℕ, ◌*◌, ◌≤◌}
use mathlib.Core.Path.{◌≡◌, refl, sym, subst, ap, ◌∙◌}
use mathlib.Core.Bool.{true}
use mathlib.Core.List.{List, [], ◌∷◌, map, flat_map}
use lib.ListN.{length, take, set}
use Rattle.relation.specs.Order.{Row}
use Rattle.relation.specs.Lists.{◌∈◌, hd, tl}
use Rattle.query.specs.Meaning.{Atom, Passes}
use Rattle.query.specs.Meet.{meet}
use Rattle.query.specs.Solve.{bind, runs, extend, listing}
use Rattle.query.specs.Window.{Progress, begin, emit, emits, windowed}
use Rattle.query.specs.Descend.{Joinable, Descends}
use Rattle.query.proofs.Solved.{joinable_bind}
use Rattle.query.proofs.Listed.{extend_root, extend_wide, listing_listing}
use Rattle.query.proofs.Window.{emits_append, emits_full, emits_length, emits_fits, emits_windowed}

-- no variable left: one row
pub leaf : (n : ℕ) (atoms : List Atom) (row : Row) (s : Progress) → Descends n [] atoms row s (emit n s (take n row))
unfolding emits extend
leaf n atoms row s = record { exit = refl }

-- at the root: the window of the listing
pub root : {n : ℕ} {order : List ℕ} {atoms : List Atom} → Passes n order atoms → (row : Row) (w : List ℕ) → n ≤ length row → {t : Progress} → Descends n order atoms row (begin w) t → t ≡ windowed w n (listing n order atoms)
root {n} {order} {atoms} q row w h d =
    d.exit ∙ ap (emits n (begin w)) (extend_root q row h) ∙ emits_windowed w n (listing n order atoms) (listing_listing q).wide

-- the window keeps its length, and the rows written lie in it
pub descends_fits : {n : ℕ} {vs : List ℕ} {atoms : List Atom} {row : Row} {s t : Progress} → Descends n vs atoms row s t → n ≤ length row → s.count * n ≤ length s.words → (length t.words ≡ length s.words) × (t.count * n ≤ length s.words)
descends_fits {n} {vs} {atoms} {row} {s} d h f =
    let w = extend_wide n vs atoms row h in (
      ap (λ (p : Progress). length p.words) d.exit ∙ emits_length n (extend n vs atoms row) s w,
      subst (λ (p : Progress). p.count * n ≤ length s.words) (sym d.exit) (emits_fits n (extend n vs atoms row) s w f),
    )

module _ (n v : ℕ) (vs : List ℕ) (atoms : List Atom) (row : Row) (s₀ : Progress) where
  -- the rows of the key k
  abbrev rows_at : ℕ → List Row
  rows_at k = extend n vs (map (bind v k) atoms) (set row v k)

  -- the loop's invariant: the keys `left` are not yet passed, and the window stands at s
  pub record ToGo (left : List ℕ) (s : Progress) : Type 0 where
    pub ends : emits n s (flat_map rows_at left) ≡ emits n s₀ (extend n (v ∷ vs) atoms row)
    pub among : (k : ℕ) → k ∈ left → k ∈ meet (runs v atoms)

  pub to_go_start : ToGo (meet (runs v atoms)) s₀
  unfolding extend
  to_go_start = record { ends = refl; among = λ k m. m }

  -- a search keeps the keys left
  pub to_go_same : {left now : List ℕ} {s : Progress} → left ≡ now → ToGo left s → ToGo now s
  to_go_same {s = s} e i = subst (λ (l : List ℕ). ToGo l s) e i

  -- the call for the first of them is made
  pub to_go_key : {k : ℕ} {left : List ℕ} {s t : Progress} → ToGo (k ∷ left) s → Descends n vs (map (bind v k) atoms) (set row v k) s t → ToGo left t
  unfolding flat_map
  to_go_key {k} {left} {s} i d = record {
    ends =
        ap (λ (x : Progress). emits n x (flat_map rows_at left)) d.exit ∙
        sym (emits_append n s (rows_at k) (flat_map rows_at left)) ∙
        i.ends;
    among = λ j m. i.among j (tl m);
  }

  -- none is left: so ends the depth
  pub to_go_none : {s : Progress} → ToGo [] s → Descends n (v ∷ vs) atoms row s₀ s
  unfolding flat_map emits
  to_go_none i = record { exit = i.ends }

  -- and where the window is full
  pub to_go_full : {left : List ℕ} {s : Progress} → ToGo left s → s.full ≡ true → Descends n (v ∷ vs) atoms row s₀ s
  to_go_full {left} {s} i e = record { exit = sym (emits_full n s (flat_map rows_at left) e) ∙ i.ends }

  -- the first key left is common, so for its call the atoms are joinable
  pub to_go_joinable : {k : ℕ} {left : List ℕ} {s : Progress} → Joinable (v ∷ vs) atoms → ToGo (k ∷ left) s → Joinable vs (map (bind v k) atoms)
  to_go_joinable {k} c i = joinable_bind v vs atoms c (i.among k (hd refl))
