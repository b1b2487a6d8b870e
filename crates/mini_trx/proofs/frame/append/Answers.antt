use Rattle.std.proofs.Common.{◌+◌, ◌≤◌, ◌∙◌, ℕ, ◌++◌, refl, List, length, drop, ap, sym, arith}
use Rattle.byteorder.specs.Endian.{big_number}
use Rattle.page_model.specs.Frames.{header_bytes, write}
use Rattle.page_model.proofs.GroupFrameLemmas.{length-frame, count_fits, count_read, frame_more, whole_slice, header_len}
use Rattle.mini_trx.proofs.frame.append.Goals as goal

pub count_of-count-requires : goal.count_of-count-requires
count_of-count-requires c = let e = c.as_slice.ensures.value in let l = ap (λ (xs : List ℕ). length xs) (e ∙ c.requires.frame.1) in omega (arith, l, length-frame c.requires.frame.0)

pub overflow_add-count : goal.overflow_add-count
overflow_add-count c =
    let ws = c.requires.frame.0 in
    let is = c.requires.frame.1 in
    let short = ap (λ (xs : List ℕ). length xs) is in
    let small = count_fits ws (omega (arith, short, c.requires.short)) in
    let read = c.count_of-count.ensures ∙ ap (λ (xs : List ℕ). big_number 2 (drop 4 xs)) (c.as_slice.ensures.value ∙ is) ∙ count_read ws (omega (arith, short, c.requires.short)) in
    omega (arith, small, read)

pub returns-clause-appends : goal.returns-clause-appends
returns-clause-appends c = λ ws is.
    let bytes = c.args.bytes.now in
    let old = c.args.buffer.now.items in
    let w = write c.args.page.0 c.args.at bytes in
    let all = c.extend-2.new.buffer in
    let n = c.count_of-count.result in
    let items = c.extend-2.ensures.items ∙ ap (λ (xs : List ℕ). xs ++ bytes) (c.extend.ensures.items ∙ ap (λ (h : List ℕ). old ++ h) (c.head-head.ensures bytes refl)) in
    let framed = c.seal.ensures ∙ ap (λ (xs : List ℕ). header_bytes (length xs) (n + 1) ++ drop 6 xs) c.as_mut_slice.ensures.value in
    let short = ap (λ (xs : List ℕ). length xs) is in
    let count = c.count_of-count.ensures ∙ ap (λ (xs : List ℕ). big_number 2 (drop 4 xs)) (c.as_slice.ensures.value ∙ is) ∙ count_read ws (omega (arith, short, c.requires.short)) in
    whole_slice c.seal.new.frame all.items (header_bytes (length all.items) (n + 1)) all.len (sym all.ok.0) (let low : 6 ≤ all.len = omega (arith, c.extend-2.ensures.len, c.extend.ensures.len, short, length-frame ws) in low) (header_len (length all.items) (n + 1)) framed
    ∙ frame_more ws w old c.seal.new.frame n is count (framed ∙ ap (λ (xs : List ℕ). header_bytes (length xs) (n + 1) ++ drop 6 xs) items)
