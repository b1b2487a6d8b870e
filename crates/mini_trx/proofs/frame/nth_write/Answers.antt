use Rattle.std.proofs.Common.{◌≡◌, ◌+◌, ◌∙◌, ℕ, ap, arith, rules}
use Rattle.std.proofs.lemmas.List.{take_rest}
use Rattle.page_model.specs.Frames.{writes_in, write, writes_bytes}
use Rattle.mini_trx.specs.PageWrites.{write_of}
use Rattle.std.proofs.Common.{[], get_or, drop}
use Rattle.page_model.proofs.ParseLemmas.{nth_begins, body_of, frame_long}
use Rattle.mini_trx.proofs.frame.nth_write.Goals as goal

pub slice_bounds-rest-count : goal.slice_bounds-rest-count
slice_bounds-rest-count c = frame_long c.args.frame.now c.requires.frame.frame

pub slice_bounds-rest-start : goal.slice_bounds-rest-start
slice_bounds-rest-start c = let long = frame_long c.args.frame.now c.requires.frame.frame in search rules

pub loop-n-init : goal.loop-n-init
loop-n-init c = take_rest c.args.frame.now 6 ∙ body_of c.args.frame.now c.requires.frame.frame

pub first_write-requires : goal.first_write-requires
first_write-requires c =
    let ws = writes_in c.args.frame.now in
    let n = c.loop-n._n in
    (get_or ws n (write 0 0 []), writes_bytes (drop (n + 1) ws), nth_begins ws n (write 0 0 []) c.loop-n.rest.now (let h = c.requires.place in omega arith) c.requires.frame.inside c.loop-n.invariant)

pub loop-n-preserved : goal.loop-n-preserved
loop-n-preserved c =
    let ws = writes_in c.args.frame.now in
    let n = c.loop-n._n in
    (c.first_write.ensures (get_or ws n (write 0 0 [])) (writes_bytes (drop (n + 1) ws)) (nth_begins ws n (write 0 0 []) c.loop-n.rest.now (let h = c.requires.place in omega arith) c.requires.frame.inside c.loop-n.invariant)).1

pub first_write-requires-2 : goal.first_write-requires-2
first_write-requires-2 c =
    let ws = writes_in c.args.frame.now in
    let n = c.loop-n._n in
    (get_or ws n (write 0 0 []), writes_bytes (drop (n + 1) ws), nth_begins ws n (write 0 0 []) c.loop-n.rest.now (let h = c.requires.place in omega arith) c.requires.frame.inside c.loop-n.invariant)

pub returns : goal.returns
returns c =
    let ws = writes_in c.args.frame.now in
    let n = c.loop-n._n in
    let d = write_of c.first_write-2.result.0 in
    let all : n ≡ c.args.i = omega arith in
    (c.first_write-2.ensures (get_or ws n d) (writes_bytes (drop (n + 1) ws)) (nth_begins ws n d c.loop-n.rest.now (let h = c.requires.place in omega arith) c.requires.frame.inside c.loop-n.invariant)).0
    ∙ ap (λ (k : ℕ). get_or ws k d) all
