-- `owns` meets its contract: a search for the word says whether it is among the first keys (Owners.antt).
use Prim.Native.Nat.{ℕ}
use native.Mathlib.Omega.{arith}
use mathlib.Core.Path.{◌≡◌, sym, ap, ◌∙◌}
use mathlib.Core.List.{[]}
use lib.ListN.{length, get_or}
use Rattle.std.specs.Prelude.{Some, nat_eq}
use Rattle.std.specs.Option.{option_eq}
use borrow.Author.Rules.{rules}
use Rattle.relation.specs.Layers.{keys_under}
use Rattle.query.proofs.Beyond.{keys_ascend}
use Rattle.column_trie.specs.Limits.{max_arity}
use Rattle.column_trie.specs.Table.{rows_in}
use Rattle.join_query.proofs.Accepted.{table_wide}
use Rattle.plain_keys.specs.Keys.{words}
use Rattle.plain_keys.proofs.Found.{words_at}
use Rattle.plain_keys.proofs.Owners.{asked_has}
use Rattle.plain_keys.proofs.owns.Goals as goal
use Rattle.plain_keys.proofs.owns.Goals.{Start}

word_is : (s : Start) → get_or (words s.args.a s.args.row) 0 0 ≡ get_or s.args.row (get_or s.args.a.variables 0 0) 0
word_is s = let w : length s.args.a.variables ≡ max_arity = search rules in words_at s.args.a.variables s.args.row 0 (omega arith)

pub returns : goal.returns
returns c =
    let s = (goal.at.returns c).Start in
    let a = c.args in
    let word = get_or (words a.a a.row) 0 0 in
    c.eq.ensures
    ∙ ap (λ (k : ℕ). option_eq nat_eq c.next_in.result (Some k)) (sym (word_is s))
    ∙ asked_has word (keys_under [] (rows_in a.pool.now a.t)) (keys_ascend [] (table_wide s.requires.0) (omega (arith, s.requires.0.arity))) c.next_in.ensures
