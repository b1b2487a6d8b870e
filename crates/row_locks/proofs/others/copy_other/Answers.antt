use Rattle.std.proofs.Common.{◌≡◌, ◌++◌, [], ◌∷◌, sym, ap, ◌∙◌, true, Bool, cond, nat_eq}
use Rattle.indexmap.proofs.CallerLemmas.{insert_entry-new}
use Rattle.row_locks.specs.Tables.{is_of_another}
use Rattle.row_locks.proofs.others.copy_other.Goals as goal

pub returns-then-ne-clause-copied : goal.returns-then-ne-clause-copied
returns-then-ne-clause-copied c =
    let other : is_of_another c.args.s.0 (c.args.d, c.args.h) ≡ true =
    sym c.ne.ensures ∙ c.if-ne.true in
    (rw c.unwrap.ensures at c.insert.ensures.entries)
    ∙ insert_entry-new nat_eq c.args.into.now c.args.d c.args.h c.requires.fresh
    ∙ ap (λ (b : Bool). c.args.into.now.entries ++ cond b ((c.args.d, c.args.h) ∷ []) [])
    (sym other)
