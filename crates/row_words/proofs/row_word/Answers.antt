-- `row_words::row_word` meets its contract: each of the three places is the path's, or 0.
use Prim.Native.Nat.{ℕ, zero, suc, ◌≤◌, ◌<◌}
use mathlib.Core.Path.{◌≡◌, ◌∙◌}
use native.Mathlib.Omega.{arith}
use native.Mathlib.Decide.{dec_lt}
use lib.ListN.{get_or}
use Rattle.permuted_rows.specs.Packed.{place_of}
use Rattle.row_words.proofs.row_word.Goals as goal
use Rattle.row_words.proofs.row_word.Goals.{Start}

pub path_place-x-requires : goal.path_place-x-requires
path_place-x-requires c = (c.requires.few, c.requires.inside)

pub path_place-y-requires : goal.path_place-y-requires
path_place-y-requires c = (c.requires.few, c.requires.inside)

pub path_place-z-requires : goal.path_place-z-requires
path_place-z-requires c = (c.requires.few, c.requires.inside)

-- a place fits 16 bits
small : (s : Start) (k x : ℕ) → (k < s.args.arity → x ≡ get_or s.args.path (get_or s.args.columns k 0) 0) → (s.args.arity ≤ k → x ≡ 0) → x < 65536
small s k x f g = go (dec_lt k s.args.arity)
  where
    go : Dec (k < s.args.arity) → x < 65536
    go (yes h) = omega (arith, f h, s.requires.low (get_or s.args.columns k 0) (s.requires.inside k h))
    go (no n) = omega (arith, g (omega (arith, n)))

pub four-requires : goal.four-requires
four-requires c =
    let p = c.path_place-x in
    let q = c.path_place-y in
    let r = c.path_place-z in
    (c.requires.number, small (goal.at.four-requires c).Start 0 p.result p.ensures.0 p.ensures.1, small (goal.at.four-requires c).Start 1 q.result q.ensures.0 q.ensures.1, small (goal.at.four-requires c).Start 2 r.result r.ensures.0 r.ensures.1)

pub returns : goal.returns
returns c = record { number = c.four.ensures.number; places = λ k h b. place k h b }
  where
    place : (k : ℕ) → k < 3 → k < c.args.arity → place_of k c.four.result ≡ get_or c.args.path (get_or c.args.columns k 0) 0
    place zero h b = c.four.ensures.first ∙ c.path_place-x.ensures.0 b
    place (suc zero) h b = c.four.ensures.second ∙ c.path_place-y.ensures.0 b
    place (suc (suc zero)) h b = c.four.ensures.third ∙ c.path_place-z.ensures.0 b
    place (suc (suc (suc k))) h b = absurd (omega arith)
