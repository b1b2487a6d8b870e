use Rattle.std.proofs.Common.{◌≡◌, ◌≤◌, ◌++◌, [], ◌∷◌, filter, take, nat_eq, length, sym, ap, ◌∙◌, arith}
use Rattle.std.specs.Map.{lookup}
use Rattle.indexmap.specs.IndexMap.{index_map_len}
use Rattle.row_locks.specs.Tables.{is_of_another}
use Rattle.row_locks.proofs.TableLemmas.{others_fresh, others_more, others_few_of}
use Rattle.row_locks.proofs.others.copy_others.Goals as goal

pub copy_other-requires-clause-fresh : goal.copy_other-requires-clause-fresh
copy_other-requires-clause-fresh c =
    ap (lookup (nat_eq c.in-Some.d.now)) c.loop-i.invariant.others
    ∙ others_fresh c.args.s.0 c.loop-i.i c.args.holders.now.entries
    (c.in-Some.d.now, c.in-Some.h.now) c.len-i-end.ensures.unique (sym c.in-Some.ensures.entry)

pub copy_other-requires-clause-room : goal.copy_other-requires-clause-room
copy_other-requires-clause-room c =
    let few : length (filter (is_of_another c.args.s.0) (take c.loop-i.i c.args.holders.now.entries))
    ≤ c.loop-i.i = others_few_of c.args.s.0 c.loop-i.i c.args.holders.now.entries in
    let count : index_map_len c.loop-i.into ≡ length (filter (is_of_another c.args.s.0)
    (take c.loop-i.i c.args.holders.now.entries)) = ap length c.loop-i.invariant.others in
    omega (arith, few, count, c.loop-i.invariant.room, c.requires.room, c.loop-i-test.true, c.len-i-end.ensures.len)

pub loop-i-preserved : goal.loop-i-preserved
loop-i-preserved c = record {
  others = c.copy_other.ensures.copied
      ∙ ap (λ x. x ++ filter (is_of_another c.args.s.0) ((c.in-Some.d.now, c.in-Some.h.now) ∷ []))
      c.loop-i.invariant.others
      ∙ sym (others_more c.args.s.0 c.loop-i.i c.args.holders.now.entries
      (c.in-Some.d.now, c.in-Some.h.now) (sym c.in-Some.ensures.entry));
  room = omega (arith, c.loop-i.invariant.room, c.copy_other.ensures.room);
}
