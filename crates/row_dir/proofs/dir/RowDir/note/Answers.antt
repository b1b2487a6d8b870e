use Rattle.std.proofs.Common.{nat_eq, refl, ap, ◌∙◌, arith}
use Rattle.std.specs.Map.{keys_of}
use Rattle.indexmap.proofs.CallerLemmas.{insert_entry-new}
use Rattle.row_dir.proofs.RoomLemmas.{ok_then, pushed, keys_pushed}
use Rattle.row_dir.proofs.dir.RowDir.note.Goals as goal

pub returns : goal.returns
returns c =
    let ok = c.insert.ensures.succeeds c.requires.room.places in
    let ok2 = c.insert-2.ensures.succeeds c.requires.room.pages in
    record {
      finds = (ok_then c.insert.result ok c.insert.ensures.updates).0;
      keys = ap keys_of (ok_then c.insert.result ok c.insert.ensures.entries ∙ insert_entry-new nat_eq c.args.self.now.places c.args.doc.0 c.args.place c.requires.absent) ∙ keys_pushed c.args.self.now.places.entries c.args.doc.0 c.args.place;
      once = c.insert.ensures.unique;
      docs = pushed c.push.result _ _ c.args.self.now.docs.items c.args.doc (λ full. let r = c.requires.room.docs in absurd (omega (arith, r, full))) c.push.ensures.full c.push.ensures.items;
      pages = ok_then c.insert-2.result ok2 c.insert-2.ensures.entries;
      rooms = (ok_then c.insert-2.result ok2 c.insert-2.ensures.updates).0;
      each_once = c.insert-2.ensures.unique;
      full = refl;
    }
