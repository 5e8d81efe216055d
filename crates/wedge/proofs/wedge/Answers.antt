-- `wedge::wedge` meets its contract: the words from the place on are one further, and the place has the new one.
use Rattle.std.proofs.Common.{◌≡◌, ◌∙◌, ◌<◌, ◌-◌, ◌+◌, ◌∷◌, ◌++◌, [], List, ℕ, refl, ap, ap₂, sym, arith, set, take, drop, length, length-drop, append-nil}
use Rattle.std.proofs.lemmas.List.{take-take, drop_all, length-take-le}
use Rattle.std.proofs.lemmas.Slice.{between_is}
use Rattle.std.specs.List.{insert, copy_within}
use borrow.Rule.Slice.PartMut.{put_mid}
use Rattle.wedge.specs.Shift.{listed}
use Rattle.wedge.proofs.wedge.Goals as goal

-- a list's words, one up, and a word to the front
shifted : (w k : ℕ) (xs : List ℕ) → length xs ≡ k + 1 → set (copy_within xs 0 k 1) 0 w ≡ w ∷ take k xs
shifted w k [] e = absurd (omega arith)
shifted w k (x ∷ xs) e =
    let n : k - 0 ≡ k = omega arith in
    ap₂ (λ (m : ℕ) (l : List ℕ). w ∷ (take m (x ∷ xs) ++ l)) n (drop_all (1 + (k - 0)) (x ∷ xs) (omega arith))
    ∙ ap (λ (l : List ℕ). w ∷ l) (append-nil (take k (x ∷ xs)))

module _ (at w : ℕ) (xs ys : List ℕ) (h : at < length xs) (k : ℕ) (e : k ≡ length xs - at) (q : ys ≡ w ∷ take (k - 1) (take k (drop at xs))) where
  wedged : put_mid at k xs ys ≡ insert (listed xs) at w
  wedged =
      ap₂ (λ (l r : List ℕ). take at xs ++ (l ++ r)) (q ∙ ap (λ (l : List ℕ). w ∷ l) part) (drop_all k (drop at xs) (omega (arith, length-drop at xs)))
      ∙ ap (λ (l : List ℕ). take at xs ++ l) (append-nil (w ∷ drop at (listed xs)))
      ∙ ap (λ (l : List ℕ). l ++ w ∷ drop at (listed xs)) (sym (take-take at (length xs - 1) xs (omega arith)))
    where
      part : take (k - 1) (take k (drop at xs)) ≡ drop at (listed xs)
      part =
          let n : k - 1 ≡ length xs - 1 - at = omega arith in
          take-take (k - 1) k (drop at xs) (omega arith) ∙ ap (λ (m : ℕ). take m (drop at xs)) n ∙ between_is xs at (length xs - 1)

pub returns : goal.returns
returns c =
    let a = c.args in
    let k = length a.words.now - a.at in
    let rest = take k (drop a.at a.words.now) in
    let long : length rest ≡ k = length-take-le k (drop a.at a.words.now) (omega (arith, length-drop a.at a.words.now)) in
    wedged a.at a.word a.words.now (set c.copy_within.new.self 0 a.word) c.requires k refl
    (ap (λ (l : List ℕ). set l 0 a.word) c.copy_within.ensures.after ∙ shifted a.word (length rest - 1) rest (omega (arith, long)) ∙ ap (λ (m : ℕ). a.word ∷ take (m - 1) rest) long)
