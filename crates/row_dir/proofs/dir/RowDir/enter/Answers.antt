use Rattle.std.proofs.Common.{nat_eq, refl, ap, ◌∙◌, arith}
use Rattle.std.specs.Map.{keys_of}
use Rattle.indexmap.proofs.CallerLemmas.{insert_entry-new}
use Rattle.row_dir.proofs.RoomLemmas.{ok_then, pushed, keys_pushed}
use Rattle.row_dir.proofs.LoadLemmas.{one_more}
use Rattle.row_dir.proofs.dir.RowDir.enter.Goals as goal

pub returns : goal.returns
returns c =
    let some = c.requires.room.places in
    let ok = c.insert.ensures.succeeds (omega (arith, some)) in
    record {
      finds = (ok_then c.insert.result ok c.insert.ensures.updates).0;
      keys = ap keys_of (ok_then c.insert.result ok c.insert.ensures.entries ∙ insert_entry-new nat_eq c.args.self.now.places c.args.doc.0 c.args.place c.requires.absent) ∙ keys_pushed c.args.self.now.places.entries c.args.doc.0 c.args.place;
      once = c.insert.ensures.unique;
      docs = pushed c.push.result _ _ c.args.self.now.docs.items c.args.doc (λ full. let r = c.requires.room.docs in absurd (omega (arith, r, full))) c.push.ensures.full c.push.ensures.items;
      room = λ n r. record {
        places = (let a = r.places in let s = c.insert.ensures.spare in omega (arith, a, s));
        docs = (let a = r.docs in let l = one_more c.push.result _ _ c.push.ensures.len in let k = c.push.ensures.capacity in omega (arith, a, l, k));
      };
      pages = refl;
      full = refl;
    }
