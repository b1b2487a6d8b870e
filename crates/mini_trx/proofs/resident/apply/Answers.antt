use Rattle.std.proofs.Common.{◌∙◌, ℕ, List, sym, ap₂}
use Rattle.page_model.specs.Pages.{patched, all_written}
use Rattle.mini_trx.specs.PageWrites.{write_of}
use Rattle.mini_trx.specs.WritesLeft.{writes_left}
use Rattle.mini_trx.proofs.PutLemmas.{put_write}
use Rattle.mini_trx.proofs.resident.apply.Goals as goal

pub loop-write-preserved : goal.loop-write-preserved
loop-write-preserved c =
    put_write (writes_left c.loop-write.writes) (writes_left c.next.new.self) (write_of c.in-Some.write) c.loop-write.pages (all_written c.args.group.now.writes c.args.pages.now)
    c.index-pages-write.result c.patch.new.self c.loop-write.invariant c.in-Some.ensures.steps c.loop-write.writes.inside c.index-pages-write.is
    (c.patch.ensures ∙ ap₂ (λ (q : List ℕ) (n : ℕ). patched q n c.in-Some.write.bytes.now) (sym c.index-pages-write.is) c.from.ensures)
