-- `wedge::close_lowered` meets its contract: the words behind the one that goes are lowered (Lists.antt).
use Rattle.std.proofs.Common.{◌≡◌, ◌∙◌, ◌<◌, ◌-◌, ◌+◌, ◌++◌, List, ℕ, ap, ap₂, sym, arith, map, suc, take, drop, length, get_or, length-drop, append_assoc}
use Rattle.std.proofs.lemmas.List.{length-take-le, get_or-take, get_or-drop, get_or_append_left, get_or-append_right}
use borrow.Rule.Slice.PartMut.{put_mid}
use Rattle.wedge.specs.Shift.{lessened}
use Rattle.wedge.proofs.Lists.{middle_lifted}
use Rattle.wedge.proofs.close_lowered.Goals as goal
use Rattle.wedge.proofs.close_lowered.Goals.{After-close}

-- the words as `close` leaves them
module _ (at : ℕ) (xs : List ℕ) (h : at < length xs) where
  abbrev last : List ℕ
  last = drop (length xs - 1) xs

  abbrev closed : List ℕ
  closed = take at xs ++ (drop (suc at) xs ++ last)

  front : length (take at xs) ≡ at
  front = length-take-le at xs (omega arith)

  behind : length (drop (suc at) xs) ≡ length xs - 1 - at
  behind = length-drop (suc at) xs ∙ (let e : length xs - suc at ≡ length xs - 1 - at = omega arith in e)

  word : (j : ℕ) → j < length xs - 1 - at → get_or (take (length xs - 1 - at) (drop at closed)) j 0 ≡ get_or xs (suc at + j) 0
  word j b =
      get_or-take (length xs - 1 - at) (drop at closed) j 0 b
      ∙ get_or-drop at closed j 0
      ∙ get_or-append_right (take at xs) (drop (suc at) xs ++ last) at (at + j) 0 front (omega arith)
      ∙ (let e : at + j - at ≡ j = omega arith in ap (λ (i : ℕ). get_or (drop (suc at) xs ++ last) i 0) e)
      ∙ get_or_append_left (drop (suc at) xs) last 0 j (omega (arith, behind))
      ∙ get_or-drop (suc at) xs j 0

  lowered : put_mid at (length xs - 1 - at) closed (map lessened (take (length xs - 1 - at) (drop at closed))) ≡ (take at xs ++ map lessened (drop (suc at) xs)) ++ last
  lowered = middle_lifted lessened (take at xs) (drop (suc at) xs) last at (length xs - 1 - at) front behind ∙ sym (append_assoc (take at xs) (map lessened (drop (suc at) xs)) last)

is_closed : (c : After-close) → c.close.new.words ≡ closed c.args.at c.args.words.now c.requires.0
is_closed c = c.close.ensures ∙ append_assoc (take c.args.at c.args.words.now) (drop (suc c.args.at) c.args.words.now) (drop (length c.args.words.now - 1) c.args.words.now)

-- the words that are lent
middle : (c : After-close) → take (length c.close.new.words - 1 - c.args.at) (drop c.args.at c.close.new.words) ≡ take (length c.args.words.now - 1 - c.args.at) (drop c.args.at (closed c.args.at c.args.words.now c.requires.0))
middle c = ap₂ (λ (n : ℕ) (l : List ℕ). take (n - 1 - c.args.at) (drop c.args.at l)) c.close.auto.words (is_closed c)

pub lower-requires : goal.lower-requires
lower-requires c = λ j a b.
    let s = (goal.at.lower-requires c).After-close in
    let xs = c.args.words.now in
    let n : j < length xs - 1 - c.args.at = omega (arith, ap length (middle s), length-take-le (length xs - 1 - c.args.at) (drop c.args.at (closed c.args.at xs c.requires.0))) in
    let e : suc c.args.at + j < length xs = omega arith in
    omega (arith, ap (λ (l : List ℕ). get_or l j 0) (middle s), word c.args.at xs c.requires.0 j n, c.requires.1 (suc c.args.at + j) (omega arith) e)

pub returns : goal.returns
returns c =
    let s = (goal.at.returns c).After-close in
    let a = c.args in
    ap (put_mid a.at (length c.close.new.words - 1 - a.at) c.close.new.words) (c.lower.ensures ∙ ap (map lessened) (middle s))
    ∙ ap₂ (λ (n : ℕ) (l : List ℕ). put_mid a.at (n - 1 - a.at) l (map lessened (take (length a.words.now - 1 - a.at) (drop a.at (closed a.at a.words.now c.requires.0))))) c.close.auto.words (is_closed s)
    ∙ lowered a.at a.words.now c.requires.0
