-- The goals of `put_row` that the check leaves.
use Prim.Native.Nat.{ℕ, ◌+◌, ◌*◌, ◌<◌, ◌≤◌}
use mathlib.Core.Path.{◌≡◌, ap, ◌∙◌, subst}
use mathlib.Core.List.{List, []}
use native.Mathlib.Omega.{arith}
use native.Mathlib.Nat.{one-mul}
use lib.ListN.{length, take, get_or}
use lib.Seq.{take_all}
use Rattle.column_trie.specs.Pool.{lay}
use Rattle.column_trie.specs.Table.{rows_in, Undamaged}
use Rattle.column_trie.proofs.Header.{LayerFits, layer_fits}
use Rattle.column_trie.proofs.Layers.{Whole}
use Rattle.column_trie.proofs.Damage.{undamaged_told}
use Rattle.column_trie.proofs.Pool.{lay_length}
use Rattle.column_trie.proofs.Stored.{in_pool}
use Rattle.table_file.specs.Bytes.{bytes_of, encode}
use Rattle.file_rows.specs.Rows.{Laid}
use Rattle.row_path.proofs.Keys.{KeyAt, key_on}
use Rattle.file_rows.proofs.Pieces.{laid_more, no_words, words_long, word_more}
use Rattle.file_rows.proofs.Tables.{row_long}
use Rattle.file_rows.proofs.put_row.Goals as goal
use Rattle.file_rows.proofs.put_row.Goals.{At-loop-d}

whole : (l : At-loop-d) → Whole l.args.rows.now.sound.table.now
whole l = l.args.rows.now.sound.whole

sound : (l : At-loop-d) → Undamaged l.args.rows.now.sound.pool.now l.args.rows.now.sound.table.now
sound l = undamaged_told l.args.rows.now.sound.pool.now l.args.rows.now.sound.table.now l.args.rows.now.undamaged

counted : (l : At-loop-d) → l.args.i < l.args.rows.now.sound.table.now.tuple_count
counted l = omega (arith, l.requires.putting.there)

long : (l : At-loop-d) → length (get_or (rows_in l.args.rows.now.sound.pool.now l.args.rows.now.sound.table.now) l.args.i []) ≡ l.args.rows.now.sound.table.now.arity
long l = row_long (whole l) (sound l) l.args.i (counted l)

fits : (l : At-loop-d) (d : ℕ) → d < l.args.rows.now.sound.table.now.arity → LayerFits (length l.args.rows.now.sound.pool.now) l.args.rows.now.sound.table.now d
fits l d h = layer_fits (in_pool (sound l)) h

-- the room that is asked for is that of the row
room : (l : At-loop-d) → l.args.at + 8 * l.args.rows.now.sound.table.now.arity ≤ length l.args.bytes.now
room l = omega (arith, l.requires.putting.fits, one-mul l.args.rows.now.sound.table.now.arity)

key : (l : At-loop-d) (d : ℕ) → d < l.args.rows.now.sound.table.now.arity → KeyAt l.args.rows.now.sound.pool.now l.args.rows.now.sound.table.now l.args.i d (get_or l.next_path.new.path d 0)
key l d h = key_on (whole l) (sound l) l.next_path.ensures (counted l) d h

kept : (l : At-loop-d) → length l.loop-d.bytes ≡ length l.args.bytes.now
kept l = ap length l.loop-d.invariant ∙ lay_length l.args.bytes.now l.args.at (encode (take l.loop-d.d (get_or (rows_in l.args.rows.now.sound.pool.now l.args.rows.now.sound.table.now) l.args.i [])))

pub next_path-requires : goal.next_path-requires
next_path-requires c = (omega (arith, c.requires.putting.there), c.requires.putting.before)

pub loop-d-init : goal.loop-d-init
loop-d-init c = no_words c.args.bytes.now c.args.at (get_or (rows_in c.args.rows.now.sound.pool.now c.args.rows.now.sound.table.now) c.args.i [])

pub layer_at-requires : goal.layer_at-requires
layer_at-requires c =
    let l = (goal.at.layer_at-requires c).At-loop-d in
    let f = fits l c.loop-d.d (subst (λ (x : ℕ). c.loop-d.d < x) c.requires.all c.loop-d-test.true) in
    (omega (arith, f, c.well_formed), f.small, f.depth)

pub offset_bounds-path-d : goal.offset_bounds-path-d
offset_bounds-path-d c = let l = (goal.at.offset_bounds-path-d c).At-loop-d in omega (arith, (fits l c.loop-d.d (subst (λ (x : ℕ). c.loop-d.d < x) c.requires.all c.loop-d-test.true)).depth)

pub bounds-path-d : goal.bounds-path-d
bounds-path-d c = let l = (goal.at.bounds-path-d c).At-loop-d in omega (arith, (fits l c.loop-d.d (subst (λ (x : ℕ). c.loop-d.d < x) c.requires.all c.loop-d-test.true)).depth)

pub overflow_add-place : goal.overflow_add-place
overflow_add-place c =
    let l = (goal.at.overflow_add-place c).At-loop-d in
    let h = (subst (λ (x : ℕ). c.loop-d.d < x) c.requires.all c.loop-d-test.true) in
    let f = fits l c.loop-d.d h in
    let k = key l c.loop-d.d h in
    omega (arith, f, k.inside, c.layer_at.ensures, c.well_formed)

pub overflow_mul-d : goal.overflow_mul-d
overflow_mul-d c =
    let l = (goal.at.overflow_mul-d c).At-loop-d in
    let h = (subst (λ (x : ℕ). c.loop-d.d < x) c.requires.all c.loop-d-test.true) in
    let f = fits l c.loop-d.d h in
    omega (arith, f.depth)

pub overflow_add-at : goal.overflow_add-at
overflow_add-at c =
    let l = (goal.at.overflow_add-at c).At-loop-d in
    let h = (subst (λ (x : ℕ). c.loop-d.d < x) c.requires.all c.loop-d-test.true) in
    omega (arith, h, room l, c.well_formed)

pub offset_bounds-rows-place : goal.offset_bounds-rows-place
offset_bounds-rows-place c =
    let l = (goal.at.offset_bounds-rows-place c).At-loop-d in
    let h = (subst (λ (x : ℕ). c.loop-d.d < x) c.requires.all c.loop-d-test.true) in
    let f = fits l c.loop-d.d h in
    let k = key l c.loop-d.d h in
    omega (arith, f, k.inside, c.layer_at.ensures, c.well_formed)

pub bounds-rows-place : goal.bounds-rows-place
bounds-rows-place c =
    let l = (goal.at.bounds-rows-place c).At-loop-d in
    let h = (subst (λ (x : ℕ). c.loop-d.d < x) c.requires.all c.loop-d-test.true) in
    let f = fits l c.loop-d.d h in
    let k = key l c.loop-d.d h in
    omega (arith, f, k.inside, c.layer_at.ensures)

pub put_word-requires : goal.put_word-requires
put_word-requires c =
    let l = (goal.at.put_word-requires c).At-loop-d in
    let h = (subst (λ (x : ℕ). c.loop-d.d < x) c.requires.all c.loop-d-test.true) in
    omega (arith, h, room l, kept l)

pub loop-d-preserved : goal.loop-d-preserved
loop-d-preserved c =
    let l = (goal.at.loop-d-preserved c).At-loop-d in
    let d = c.loop-d.d in
    let h = (subst (λ (x : ℕ). c.loop-d.d < x) c.requires.all c.loop-d-test.true) in
    let row = get_or (rows_in c.args.rows.now.sound.pool.now c.args.rows.now.sound.table.now) c.args.i [] in
    let here = get_or c.next_path.new.path d 0 in
    let w : get_or c.args.rows.now.sound.pool.now (c.layer_at.result + here) 0 ≡ get_or row d 0 = ap (λ (n : ℕ). get_or c.args.rows.now.sound.pool.now (n + here) 0) c.layer_at.ensures ∙ (key l d h).word in
    let p : Laid c.args.bytes.now c.args.at (encode (take d row)) c.loop-d.bytes (c.args.at + 8 * d) = record { is = c.loop-d.invariant; ends = omega (arith, words_long row d (omega (arith, long l))) } in
    laid_more p (bytes_of 8 (get_or row d 0)) (c.put_word.ensures ∙ ap (λ (n : ℕ). lay c.loop-d.bytes (c.args.at + 8 * d) (bytes_of 8 n)) w) (word_more row d (omega (arith, long l)))

pub shape_of-bytes : goal.shape_of-bytes
shape_of-bytes c = kept (goal.at.shape_of-bytes c).At-loop-d

pub returns : goal.returns
returns c =
    let row = get_or (rows_in c.args.rows.now.sound.pool.now c.args.rows.now.sound.table.now) c.args.i [] in
    record { laid = c.loop-d.invariant ∙ ap (λ (r : List ℕ). lay c.args.bytes.now c.args.at (encode r)) (take_all c.loop-d.d row (omega (arith, long (goal.at.returns c).At-loop-d, c.loop-d-test.false))); on = c.next_path.ensures }
