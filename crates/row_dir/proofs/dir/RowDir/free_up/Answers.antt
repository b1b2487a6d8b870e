use Rattle.std.proofs.Common.{refl, arith}
use Rattle.row_dir.proofs.ForgetLemmas.{low_index, present_ok}
use Rattle.row_dir.proofs.dir.RowDir.free_up.Goals as goal

pub returns : goal.returns
returns c =
    let m = c.min-self.ensures in
    let u = c.unwrap_or.ensures in
    record {
      pages = present_ok c.insert.result _ c.insert.ensures.absent c.requires.there c.insert.ensures.entries;
      rooms = (present_ok c.insert.result _ c.insert.ensures.absent c.requires.there c.insert.ensures.updates).0;
      each_once = c.insert.ensures.unique;
      low = omega (arith, m);
      first = λ before behind f split. let l = low_index c.args.page.0 f before behind c.args.self.now.pages.entries c.get_index_of-index.result c.get_index_of-index.ensures.index split in omega (arith, m, u, l);
      places = refl;
      docs = refl;
    }
