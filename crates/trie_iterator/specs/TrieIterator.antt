-- Of theorems: the trie iterator of Veldhuizen 2014 (arXiv 1210.0481), section 3, over a relation: rows of a words, ascending. The rows seen as a trie have at
-- each depth the keys that go on from the keys above. The paper does not say what its operations do outside their preconditions; document 01 does,
-- and the second sentence at each operation has it.
use Rattle.std.specs.Prelude.{ℕ, suc, Bool, true, false, not, ◌&&◌, List, [], ◌∷◌, ◌++◌, ltb}
use Rattle.relation.specs.Lists.{nonempty}
use Rattle.relation.specs.Order.{Row, pick}
use Rattle.relation.specs.Runs.{from}
use Rattle.relation.specs.Layers.{keys_under}
use Rattle.seek.specs.declared.SeekStrategy.{SeekStrategy}

-- Where the iterator stands: at the root, or among siblings, with those that are not yet passed, the present one first; above them the place that
-- was opened.
pub data State : Type 0 where
  root : State
  level : List ℕ → State → State

-- how far below the root
abbrev pub levels : State → ℕ
levels root = 0
levels (level ks above) = suc (levels above)

-- the siblings not yet passed; the root has none
abbrev pub left : State → List ℕ
left root = []
left (level ks above) = ks

-- a key behind its beginning; no key leaves the beginning
abbrev pub onto : Row → List ℕ → Row
onto p [] = p
onto p (k ∷ ks) = p ++ (k ∷ [])

-- the keys from the root to the present one
abbrev pub path : State → Row
path root = []
path (level ks above) = onto (path above) ks

-- ---- the operations

-- next proceeds to the next key. At the end it stays.
abbrev pub tail : List ℕ → List ℕ
tail [] = []
tail (k ∷ ks) = ks

abbrev pub go_next : State → State
go_next root = root
go_next (level ks above) = level (tail ks) above

-- seek goes to the least key not below the target among those left, or to the end if there is none. The paper wants a target that is not below the
-- present key; at any other it stays.
abbrev pub go_seek : ℕ → State → State
go_seek target root = root
go_seek target (level ks above) = level (from target ks) above

-- there is a key to go down from: the root has children if there are rows
abbrev pub stands : List Row → State → Bool
stands rows root = nonempty rows
stands rows (level ks above) = nonempty ks

-- open proceeds to the first key at the next depth. At full depth, at the end and at the root of no rows it says no and moves nothing.
abbrev pub opens : ℕ → List Row → State → Bool
opens a rows s = ltb (levels s) a && stands rows s

abbrev pub go_down : ℕ → List Row → State → State
go_down a rows s = pick (opens a rows s) (level (keys_under (path s) rows) s) s

-- up returns to the parent key at the previous depth. At the root it says no.
abbrev pub rises : State → Bool
rises root = false
rises (level ks above) = true

abbrev pub go_up : State → State
go_up root = root
go_up (level ks above) = above

-- ---- calls and answers

-- a seek names the strategy that a cursor is to use; the iterator does not look at it
pub data Call : Type 0 where
  Key Next AtEnd Open Up : Call
  Seek : SeekStrategy → ℕ → Call

-- a call that stays among the siblings: it neither opens nor rises
abbrev pub among_siblings : Call → Bool
among_siblings Key = true
among_siblings Next = true
among_siblings AtEnd = true
among_siblings Open = false
among_siblings Up = false
among_siblings (Seek x target) = true

-- a key or none, a yes or a no; `refused` is a cursor's, with its number
pub data Answer : Type 0 where
  shows : ℕ → Answer
  none : Answer
  says : Bool → Answer
  refused : ℕ → Answer

abbrev pub shown : List ℕ → Answer
shown [] = none
shown (k ∷ ks) = shows k

-- key gives the key at the present position, atEnd whether there is none; the root has none. Next gives the key that it comes to, and seek says
-- whether it comes to one.
abbrev pub answer : ℕ → List Row → State → Call → Answer
answer a rows s Key = shown (left s)
answer a rows s Next = shown (left (go_next s))
answer a rows s AtEnd = says (not (nonempty (left s)))
answer a rows s Open = says (opens a rows s)
answer a rows s Up = says (rises s)
answer a rows s (Seek x target) = says (nonempty (left (go_seek target s)))

abbrev pub after : ℕ → List Row → State → Call → State
after a rows s Key = s
after a rows s Next = go_next s
after a rows s AtEnd = s
after a rows s Open = go_down a rows s
after a rows s Up = go_up s
after a rows s (Seek x target) = go_seek target s

-- a sequence of calls: all answers, and where they lead
unfoldable pub answers : ℕ → List Row → State → List Call → List Answer
answers a rows s [] = []
answers a rows s (c ∷ cs) = answer a rows s c ∷ answers a rows (after a rows s c) cs

unfoldable pub follow : ℕ → List Row → State → List Call → State
follow a rows s [] = s
follow a rows s (c ∷ cs) = follow a rows (after a rows s c) cs
