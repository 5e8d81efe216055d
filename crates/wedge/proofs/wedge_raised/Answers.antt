-- `wedge::wedge_raised` meets its contract: the words behind the new one are raised (Lists.antt).
use Rattle.std.proofs.Common.{◌≡◌, ◌∙◌, ◌≤◌, ◌-◌, ◌+◌, ◌∷◌, ◌++◌, [], List, ℕ, ap, sym, arith, map, suc, take, drop, length, length-drop, append_assoc, append-nil}
use Rattle.std.proofs.lemmas.List.{length-take-le, length_push}
use Rattle.std.specs.List.{insert}
use borrow.Rule.Slice.PartMut.{put_mid}
use Rattle.wedge.specs.Shift.{listed}
use Rattle.wedge.proofs.Lists.{length_wedged, middle_lifted, gap}
use Rattle.wedge.proofs.wedge_raised.Goals as goal

raised : (at w : ℕ) (xs : List ℕ) (k : ℕ) → at ≤ length xs → k ≡ length xs - at → put_mid (at + 1) k (insert xs at w) (map suc (take k (drop (at + 1) (insert xs at w)))) ≡ gap at w suc xs
raised at w xs k h e =
    let p = take at xs ++ w ∷ [] in
    let q = drop at xs in
    let whole : insert xs at w ≡ p ++ (q ++ []) = sym (append_assoc (take at xs) (w ∷ []) q) ∙ ap (λ (l : List ℕ). p ++ l) (sym (append-nil q)) in
    ap (λ (l : List ℕ). put_mid (at + 1) k l (map suc (take k (drop (at + 1) l)))) whole
    ∙ middle_lifted suc p q [] (at + 1) k (omega (arith, length_push (take at xs) w, length-take-le at xs h)) (length-drop at xs ∙ sym e)
    ∙ ap (λ (l : List ℕ). p ++ l) (append-nil (map suc q))
    ∙ append_assoc (take at xs) (w ∷ []) (map suc q)

pub returns : goal.returns
returns c =
    let a = c.args in
    let xs = listed a.words.now in
    let n = c.wedge.new.words in
    let long : length xs ≡ length a.words.now - 1 = length-take-le (length a.words.now - 1) a.words.now (omega arith) in
    ap (put_mid (a.at + 1) (length n - (a.at + 1)) n) c.raise.ensures
    ∙ ap (λ (l : List ℕ). put_mid (a.at + 1) (length n - (a.at + 1)) l (map suc (take (length n - (a.at + 1)) (drop (a.at + 1) l)))) c.wedge.ensures
    ∙ raised a.at a.word xs (length n - (a.at + 1)) (omega (arith, c.requires)) (omega (arith, ap length c.wedge.ensures, length_wedged a.at a.word xs))
