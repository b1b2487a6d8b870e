use Rattle.std.proofs.Common.{rules}
use Rattle.std.proofs.lemmas.List.{take_rest}
use Rattle.page_model.proofs.ParseLemmas.{frame_long}
use Rattle.mini_trx.proofs.WritesLemmas.{frame_body}
use Rattle.mini_trx.proofs.writes.Writes.of_frame.Goals as goal

pub slice_bounds-result-count : goal.slice_bounds-result-count
slice_bounds-result-count c = frame_long c.args.frame.now c.requires.frame

pub slice_bounds-result-start : goal.slice_bounds-result-start
slice_bounds-result-start c = let long = frame_long c.args.frame.now c.requires.frame in search rules

pub count_of-requires : goal.count_of-requires
count_of-requires c = frame_long c.args.frame.now c.requires.frame

pub invariant_of-result : goal.invariant_of-result
invariant_of-result c =
    let body = frame_body c.args.frame.now c.count_of.result _ c.requires c.count_of.ensures (take_rest c.args.frame.now 6) in
    record { whole = body.1; inside = body.2 }

pub returns : goal.returns
returns c = (frame_body c.args.frame.now c.count_of.result _ c.requires c.count_of.ensures (take_rest c.args.frame.now 6)).0
