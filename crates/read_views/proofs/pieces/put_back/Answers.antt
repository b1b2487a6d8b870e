use Rattle.std.proofs.Common.{◌≡◌, ◌+◌, ◌++◌, List, ◌∷◌, take, drop, get_or, sym, ap, ◌∙◌, arith, add-one, drop-cons}
use Rattle.engine_base.specs.declared.ids.PageNo.{PageNo}
use Rattle.undo_model.specs.Old.{put_old}
use Rattle.undo_records.specs.Records.{body_of}
use Rattle.read_views.specs.Flights.{put_cut, numbers_of}
use Rattle.read_views.proofs.PieceLemmas.{next_put}
use Rattle.read_views.proofs.pieces.put_back.Goals as goal

pub loop-page-preserved : goal.loop-page-preserved
loop-page-preserved c =
    let lob = c.args.lob.0 in
    let body = body_of c.args.rec.now.body in
    let i = c.loop-page.page-index in
    let page : PageNo = get_or c.args.pages.now i (record { 0 = 0 }) in
    let behind : List PageNo = drop (i + 1) c.args.pages.now in
    let split : drop i c.args.pages.now ≡ page ∷ behind =
    drop-cons c.args.pages.now i (record { 0 = 0 }) c.loop-page-test.true
    ∙ ap (λ n. page ∷ drop n c.args.pages.now) (sym (add-one i)) in
    let put = c.put_piece.ensures
    ∙ ap (λ n. take c.loop-page.start c.loop-page.buffer
    ++ (put_old page.0 n body (take c.min-count.result (drop c.loop-page.start c.loop-page.buffer))
    ++ drop c.min-count.result (drop c.loop-page.start c.loop-page.buffer)))
    c.base_of.ensures in
    let whole = c.loop-page.invariant.put
    ∙ ap (λ (l : List PageNo). take c.loop-page.start c.loop-page.buffer
    ++ put_cut body lob c.loop-page.size (numbers_of l)
    (drop c.loop-page.start c.loop-page.buffer)) split in
    let step = next_put body lob c.loop-page.size c.loop-page.start c.min-count.result page.0
    (numbers_of behind) c.loop-page.buffer c.put_piece.new.buffer
    (put_cut body lob 15_680 (numbers_of c.args.pages.now) c.args.buffer.now)
    c.loop-page.invariant.within c.min-count.ensures put whole in
    rw c.from-size-in-loop-page.ensures (record {
      within = step.0;
      small = omega arith;
      put = step.1;
    })
