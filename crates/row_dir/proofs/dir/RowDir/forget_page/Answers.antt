use Rattle.std.proofs.Common.{refl, arith}
use Rattle.row_dir.proofs.ForgetLemmas.{low_index}
use Rattle.row_dir.proofs.dir.RowDir.forget_page.Goals as goal

pub returns : goal.returns
returns c =
    let m = c.min-self.ensures in
    let u = c.unwrap_or.ensures in
    record {
      pages = c.shift_remove.ensures.entries;
      rooms = c.shift_remove.ensures.updates.0;
      each_once = c.shift_remove.ensures.unique;
      low = omega (arith, m);
      first = λ before behind f split. let l = low_index c.args.page.0 f before behind c.args.self.now.pages.entries c.get_index_of-index.result c.get_index_of-index.ensures.index split in omega (arith, m, u, l);
      places = refl;
      docs = refl;
    }
