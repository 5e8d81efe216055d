-- `wedge::close` meets its contract: the words behind the place are one before, and the last one stands where it stood too.
use Rattle.std.proofs.Common.{◌≡◌, ◌∙◌, ◌<◌, ◌-◌, ◌+◌, ◌++◌, List, ℕ, suc, ap, ap₂, sym, arith, add-one, take, drop, length, length-drop, append_assoc, append-nil}
use Rattle.std.proofs.lemmas.List.{take_all, drop_all, take_rest, drop-drop}
use Rattle.std.specs.List.{remove, copy_within}
use borrow.Rule.Slice.PartMut.{put_mid}
use Rattle.wedge.proofs.close.Goals as goal

closed : (at : ℕ) (xs ys : List ℕ) → at < length xs → ys ≡ copy_within (drop at xs) 1 (length (drop at xs)) 0 → put_mid at (length xs - at) xs ys ≡ remove xs at ++ drop (length xs - 1) xs
closed at xs ys h q =
    let rest = drop at xs in
    let n = length rest - 1 in
    let first : take n (drop 1 rest) ≡ drop 1 rest = take_all n (drop 1 rest) (omega (arith, length-drop 1 rest)) in
    let z : 0 + n ≡ n = omega arith in
    let e : at + n ≡ length xs - 1 = omega (arith, length-drop at xs) in
    ap (λ (l : List ℕ). take at xs ++ (l ++ drop (length xs - at) rest)) (q ∙ ap₂ (λ (l : List ℕ) (m : ℕ). l ++ drop m rest) first z)
    ∙ ap (λ (l : List ℕ). take at xs ++ ((drop 1 rest ++ drop n rest) ++ l)) (drop_all (length xs - at) rest (omega (arith, length-drop at xs)))
    ∙ ap (λ (l : List ℕ). take at xs ++ l) (append-nil (drop 1 rest ++ drop n rest) ∙ ap₂ (λ (l m : List ℕ). l ++ m) (drop-drop 1 at xs ∙ ap (λ (m : ℕ). drop m xs) (add-one at)) (drop-drop n at xs ∙ ap (λ (m : ℕ). drop m xs) e))
    ∙ sym (append_assoc (take at xs) (drop (suc at) xs) (drop (length xs - 1) xs))

pub returns : goal.returns
returns c =
    let a = c.args in
    closed a.at a.words.now c.copy_within.new.self c.requires (c.copy_within.ensures.after ∙ ap (λ (l : List ℕ). copy_within l 1 (length l) 0) (take_rest a.words.now a.at))
