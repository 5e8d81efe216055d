-- A window from one row to the next: it stays the same words, and while it has room it can take one row more.
use Prim.Native.Nat.{ℕ, ◌*◌, ◌≤◌, ◌<◌}
use native.Mathlib.Omega.{arith}
use native.Mathlib.Nat.{le-mul_of_pos_right}
use mathlib.Core.Path.{◌≡◌, refl, subst, ap, ap₂, ◌∙◌}
use mathlib.Core.Bool.{false}
use mathlib.Core.List.{List}
use lib.ListN.{take}
use Rattle.query.specs.Window.{Progress, emit}
use Rattle.join_window.specs.Window.{written, progress, Open, Kept, Begun}
use Rattle.join_window.specs.declared.Window.{Window}

pub begun_open : {n : ℕ} {w : Window} → Begun n w → Open n w
begun_open b = record { rows_of = b.rows_of; few = omega (arith, b.none); going = b.going }

module _ {n : ℕ} {w : Window} (o : Open n w) where
  pub open_own : Open w.n w
  open_own = record { rows_of = refl; few = o.few; going = o.going }

  pub open_progress : progress w ≡ written w.words.now w.rows false
  open_progress = ap (written w.words.now w.rows) o.going

  -- a row written, by the number of words that the caller knows
  pub emitted_as : (row : List ℕ) {s : Progress} → s ≡ emit w.n (progress w) (take w.n row) → s ≡ emit n (progress w) (take n row)
  emitted_as row e = e ∙ ap (λ (m : ℕ). emit m (progress w) (take m row)) o.rows_of

  pub emitted_on : (row : List ℕ) {s : Progress} → s ≡ emit w.n (progress w) (take w.n row) → s ≡ emit n (written w.words.now w.rows false) (take n row)
  emitted_on row e = emitted_as row e ∙ ap (λ (s : Progress). emit n s (take n row)) open_progress

  -- rows of one word or more that lie in the window are few
  pub still_open : {w' : Window} → Kept w w' → 0 < n → w'.full ≡ false → Open n w'
  still_open {w'} k h e =
      let few : w'.rows ≤ w'.rows * w'.n = le-mul_of_pos_right w'.rows (let p : 0 < w'.n = omega (arith, k.rows_of, o.rows_of) in p) in
      record { rows_of = k.rows_of ∙ o.rows_of; few = omega (arith, few, w'.inside); going = e }

pub kept_none : {w : Window} → Kept w w
kept_none = record { same = refl; rows_of = refl }

pub kept_on : {w w₁ w₂ : Window} → Kept w w₁ → Kept w₁ w₂ → Kept w w₂
kept_on a b = record { same = b.same ∙ a.same; rows_of = b.rows_of ∙ a.rows_of }

pub begun_progress : {n : ℕ} {w : Window} → Begun n w → progress w ≡ written w.words.now 0 false
begun_progress {w = w} b = ap₂ (written w.words.now) b.none b.going

-- what is said of the window from which it began is said of the words that were lent
pub begun_in : {n : ℕ} {w : Window} {words : List ℕ} (p : List ℕ → ℕ → Type 0) → Begun n w → w.words.now ≡ words → p w.words.now w.rows → p words 0
begun_in {w = w} p b e x = subst (λ (l : List ℕ). p l 0) e (subst (p w.words.now) b.none x)

-- the words that a window leaves to whoever lent them
pub lent_back : (w : Window) {words : List ℕ} {s : Progress} → words ≡ w.words.now → progress w ≡ s → written words w.rows w.full ≡ s
lent_back w b e = ap (λ (x : List ℕ). written x w.rows w.full) b ∙ e
