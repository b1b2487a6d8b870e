use Rattle.std.proofs.Common.{nat_eq, refl, sym, ap, ◌∙◌, arith}
use Rattle.std.specs.Map.{keys_of}
use Rattle.row_dir.specs.Directory.{numbers}
use Rattle.row_dir.proofs.ForgetLemmas.{docs_swapped}
use Rattle.row_dir.proofs.dir.RowDir.forget.Goals as goal

pub returns-then-i-len : goal.returns-then-i-len
returns-then-i-len c =
    let i = c.in-Some.i in
    record {
      finds = c.swap_remove_full.ensures.updates.0;
      docs = λ same. ap numbers c.swap_remove.ensures.items
          ∙ (docs_swapped (nat_eq c.args.doc.0) c.args.self.now.docs.items c.args.self.now.places.entries i c.swap_remove.result c.in-Some.field-0-2 c.in-Some.ensures.index (let t = c.if-i-len.true in let l = c.len.ensures in omega (arith, t, l)) same
          ∙ sym (ap keys_of c.swap_remove_full.ensures.entries));
      once = c.swap_remove_full.ensures.unique;
      pages = refl;
      full = refl;
    }
